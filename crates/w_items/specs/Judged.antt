-- What the items of a module are judged in.
use Rattle.std.specs.Prelude.{◌≡◌}
use Rattle.w_items.specs.declared.context.ModuleContext.{ModuleContext}
use Rattle.w_syntax.specs.declared.module.Module.{Module}
use Rattle.w_canon.specs.IsClassesOf.{IsClassesOf}
use Rattle.w_rules.specs.declared.spaces.Spaces.{Spaces}
use Rattle.w_rules.specs.Spaces.{context_of, functions_of, tables_of, memories_of, globals_of, tags_of, elements_of}
use Rattle.w_rules.specs.View.{context_in, HasClasses}

-- the context is that of its module, with the classes of its types, which may not be judged yet
pub record IsContextBefore (cx : ModuleContext) : Type 0 where
  pub context : context_in cx.context ≡ context_of cx.candidate.now
  pub classes : IsClassesOf cx.candidate.now.types cx.context.classes.now

-- the same, where each supertype is of its subtypes' kind, as it is where the types are valid
pub record IsContextOf (cx : ModuleContext) : Type 0 where
  pub context : context_in cx.context ≡ context_of cx.candidate.now
  pub classes : HasClasses cx.context

-- the index spaces are those of the module
pub record AreSpacesOf (m : Module) (s : Spaces) : Type 0 where
  pub functions : s.functions.items ≡ functions_of m
  pub tables : s.tables.items ≡ tables_of m
  pub memories : s.memories.items ≡ memories_of m
  pub globals : s.globals.items ≡ globals_of m
  pub tags : s.tags.items ≡ tags_of m
  pub elements : s.elements.items ≡ elements_of m
