use Rattle.std.proofs.Common.{◌≡◌, ◌≤◌, drop}
use Rattle.s_lex.specs.Texts.{value_behind, value, greatest}
use Rattle.s_lex.proofs.words.number_of.Given as goal

abbrev pub invariant-loop-byte : goal.invariant-loop-byte
invariant-loop-byte l = record {
  stands : value_behind l.value (drop l.byte-index l.digits) ≡ value l.digits;
  small : l.value ≤ greatest;
}
