-- What runs ask of a module: all that makes it valid but that its imports are, how many memories it has, and that its exports have names of
-- their own (Core, validation, modules). A module that was made of several files is sound, and need not be valid.
use Rattle.std.specs.Prelude.{◌≡◌, Bool, true, false, All}
use Rattle.w_types.specs.Groups.{types_of}
use Rattle.w_syntax.specs.declared.module.Module.{Module}
use Rattle.w_rules.specs.Limits.{IsNarrow}
use Rattle.w_rules.specs.Valid.{Item, TypeItem, ImportItem, TableItem, MemoryItem, TagItem, GlobalItem, ElementItem, DataItem, StartItem, ExportItem, FunctionItem, IsItem, ItemValid, AreLimitsValid, most_pages}

-- the items that runs ask for
abbrev pub is_asked : Item → Bool
is_asked (TypeItem i) = true
is_asked (ImportItem i) = false
is_asked (TableItem i) = true
is_asked MemoryItem = false
is_asked (TagItem i) = true
is_asked (GlobalItem i) = true
is_asked (ElementItem i) = true
is_asked (DataItem i) = true
is_asked StartItem = true
is_asked (ExportItem i) = false
is_asked (FunctionItem i) = true

-- each of these has a derivation, and the limits of each memory are valid
pub record Sound (m : Module) : Type 0 where
  pub items : (x : Item) → is_asked x ≡ true → IsItem m x → ItemValid m x
  pub memories : All (AreLimitsValid most_pages) m.memories

-- no function type has more parameters or results than a file's may have
abbrev pub AreNarrow : Module → Type 0
AreNarrow m = All IsNarrow (types_of m.types)
