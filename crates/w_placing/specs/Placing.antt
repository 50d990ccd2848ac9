-- The result of placing, as the definition of linking has it.
use Rattle.std.specs.Prelude.{◌≡◌, List, [], ◌∷◌, length}
use Rattle.w_syntax.specs.declared.module.Module.{Module}
use Rattle.w_link.specs.Resolved.{Instance}
use Rattle.w_linked.specs.Imports.{Placed as PlacedFile}
use Rattle.w_linked.specs.Linked as linked
use Rattle.w_placing.specs.declared.placing.Placing.{Placing}
use Rattle.w_placing.specs.declared.placing.Placing.TheVariants.{Placed, NoImport}

-- each file with its instance
abbrev pub zipped : List Module → List Instance → List PlacedFile
zipped [] is = []
zipped (m ∷ ms) [] = []
zipped (m ∷ ms) (i ∷ is) = record { source = m; instance = i } ∷ zipped ms is

abbrev pub placing_of : List Module → Placing → linked.Placing
placing_of ms (Placed is) = linked.placed (zipped ms is.items)
placing_of ms (NoImport f j) = linked.no_import f j

-- where all files are placed, there are as many instances as files
abbrev pub HasAll : List Module → Placing → Type 0
HasAll ms (Placed is) = length is.items ≡ length ms
HasAll ms (NoImport f j) = Unit {0}
