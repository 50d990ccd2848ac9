use Rattle.std.proofs.Common.{refl, inl, inr, arith}
use Rattle.std.proofs.lemmas.Bool.{cases_lt}
use Rattle.w_lines.specs.Instructions.{rows}
use Rattle.w_lines.specs.NameTable.{names_of}
use Rattle.w_lines.proofs.Lookups.{none_past}
use Rattle.w_lines.proofs.names.place_of.Goals as goal

pub returns-clause-none : goal.returns-clause-none
unfolding rows
returns-clause-none c = λ i e. elim (cases_lt i 137) [ inl lt ↦ c.loop-place.invariant i (omega (arith, lt, c.loop-place-test.false)) e | inr ge ↦ none_past (names_of rows) 137 i c.args.name.now refl ge e ]
