-- Lists of instructions that name data segments.
use Rattle.std.specs.Prelude.{Bool, false, List, [], ◌∷◌, ◌||◌}
use Rattle.w_syntax.specs.declared.instructions.Instr.{Instr}
use Rattle.w_syntax.specs.declared.instructions.Instr.TheVariants as flat
use Rattle.w_syntax.specs.DataUses.{is_of_data}

abbrev pub instr_of_data : Instr → Bool
instr_of_data (flat.Plain o) = is_of_data o
instr_of_data _ = false

unfoldable pub some_of_data : List Instr → Bool
some_of_data [] = false
some_of_data (i ∷ is) = instr_of_data i || some_of_data is
