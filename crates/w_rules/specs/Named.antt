-- The functions that an instruction of a body's list names.
use Rattle.std.specs.Prelude.{ℕ, List, []}
use Rattle.w_syntax.specs.declared.instructions.Instr.{Instr}
use Rattle.w_syntax.specs.declared.instructions.Instr.TheVariants as flat
use Rattle.w_rules.specs.Spaces.{named_by}

abbrev pub named_at : Instr → List ℕ
named_at (flat.Plain o) = named_by o
named_at i = []
