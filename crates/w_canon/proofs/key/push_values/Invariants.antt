use Rattle.std.proofs.Common.{◌≡◌, ◌++◌, take}
use Rattle.w_canon.specs.Keys.{value_words}
use Rattle.w_canon.proofs.key.push_values.Given as goal

abbrev pub invariant-loop-value : goal.invariant-loop-value
invariant-loop-value l = l.words.items ≡ l.fn.words.items ++ value_words l.earlier (take l.value-index l.values)
