-- What the search for the imports comes to, read as that of the definitions.
use Rattle.w_reduce.specs.Imports.{Found, All, Missing}
use Rattle.w_inst.specs.declared.printers.Imports.{Imports}
use Rattle.w_inst.specs.declared.printers.Imports.TheVariants as imports

-- what was found
abbrev pub found_of : Imports → Found
found_of (imports.All ps) = All ps.items
found_of (imports.Missing i) = Missing i
