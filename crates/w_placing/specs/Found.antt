-- What was found of imports, as the definition of linking has it.
use Rattle.std.specs.Prelude.{ℕ, map}
use Rattle.w_linked.specs.Imports as linked
use Rattle.w_placing.specs.declared.address.Address.{Address}
use Rattle.w_placing.specs.declared.imports.Counted.{Counted}
use Rattle.w_placing.specs.declared.imports.Imported.{Imported}
use Rattle.w_placing.specs.declared.imports.Imported.TheVariants.{All, Missing}
use Rattle.w_placing.specs.Addresses.{stands}

-- an address, where so many functions of the host are named then
abbrev pub counted_as : ℕ → Address → linked.Counted
counted_as k a = record { address = stands a; printers = k }

abbrev pub counted_of : Counted → linked.Counted
counted_of c = counted_as c.printers c.address

abbrev pub imported_of : Imported → linked.Imported
imported_of (All found k) = linked.all (map stands found.items) k
imported_of (Missing j) = linked.missing j
