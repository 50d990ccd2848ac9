-- Modules that have the same lists in front of the code section.
use Rattle.std.proofs.Common.{List, refl, ◌∙◌}
use Rattle.w_syntax.specs.Module.{with_contents}
use Rattle.w_syntax.specs.SameBefore.{SameBefore}
use Rattle.w_syntax.specs.declared.module.Data.{Data}
use Rattle.w_syntax.specs.declared.module.Func.{Func}
use Rattle.w_syntax.specs.declared.module.Module.{Module}
use Rattle.w_syntax.specs.declared.module.Section.TheVariants as part

-- a module has its own
pub same_self : (m : Module) → SameBefore m m
same_self m = record {
  types = refl;
  imports = refl;
  functions = refl;
  tables = refl;
  memories = refl;
  tags = refl;
  globals = refl;
  exports = refl;
  start = refl;
  elements = refl;
}

-- what has those of one that has those of another has those of the other
pub same_then : {m n o : Module} → SameBefore m n → SameBefore n o → SameBefore m o
same_then h k = record {
  types = k.types ∙ h.types;
  imports = k.imports ∙ h.imports;
  functions = k.functions ∙ h.functions;
  tables = k.tables ∙ h.tables;
  memories = k.memories ∙ h.memories;
  tags = k.tags ∙ h.tags;
  globals = k.globals ∙ h.globals;
  exports = k.exports ∙ h.exports;
  start = k.start ∙ h.start;
  elements = k.elements ∙ h.elements;
}

-- a code section changes none
pub same_but_codes : (m : Module) (cs : List Func) → SameBefore m (with_contents (part.Codes cs) m)
same_but_codes m cs = record {
  types = refl;
  imports = refl;
  functions = refl;
  tables = refl;
  memories = refl;
  tags = refl;
  globals = refl;
  exports = refl;
  start = refl;
  elements = refl;
}

pub same_after_codes : (m : Module) (cs : List Func) → SameBefore (with_contents (part.Codes cs) m) m
same_after_codes m cs = record {
  types = refl;
  imports = refl;
  functions = refl;
  tables = refl;
  memories = refl;
  tags = refl;
  globals = refl;
  exports = refl;
  start = refl;
  elements = refl;
}

-- nor does a data section
pub same_but_datas : (m : Module) (ds : List Data) → SameBefore m (with_contents (part.Datas ds) m)
same_but_datas m ds = record {
  types = refl;
  imports = refl;
  functions = refl;
  tables = refl;
  memories = refl;
  tags = refl;
  globals = refl;
  exports = refl;
  start = refl;
  elements = refl;
}
