-- What the context that checks are run in stands for.
use Rattle.std.specs.Prelude.{List, []}
use Rattle.lists.specs.Rows.{ε}
use Rattle.w_types.specs.declared.types.RecGroup.{RecGroup}
use Rattle.w_canon.specs.declared.entry.Entry.{Entry}
use Rattle.w_canon.specs.IsClassesOf.{IsClassesOf}
use Rattle.w_canon.specs.Supertypes.{KeepsKinds}
use Rattle.w_rules.specs.declared.context.Context as rt
use Rattle.w_rules.specs.Context.{Context}

-- outside of bodies: there are no locals, no results and no labels
abbrev pub context_in : rt.Context → Context
context_in cx = record {
  types = cx.types.now;
  functions = cx.functions.now;
  tables = cx.tables.now;
  memories = cx.memories.now;
  globals = cx.globals.now;
  tags = cx.tags.now;
  elements = cx.elements.now;
  datas = cx.datas;
  declared = cx.declared.now;
  locals = [];
  results = ε;
  labels = [];
}

-- the classes are those of the types, each of whose supertypes is of its subtypes' kind
pub record AreClasses (gs : List RecGroup) (es : List Entry) : Type 0 where
  pub classes : IsClassesOf gs es
  pub keeps : KeepsKinds gs

-- the classes are those of the context's types
abbrev pub HasClasses : rt.Context → Type 0
HasClasses cx = AreClasses cx.types.now cx.classes.now
