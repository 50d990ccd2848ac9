use Rattle.std.proofs.Common.{◌≡◌, drop}
use Rattle.w_words.specs.Numbers.{value_behind, value}
use Rattle.w_words.proofs.numbers.value_of.Given as goal

abbrev pub invariant-loop-byte : goal.invariant-loop-byte
invariant-loop-byte l = value_behind l.value (drop l.byte-index l.digits) ≡ value l.digits
