use Rattle.std.proofs.Common.{◌≡◌, ◌++◌, take}
use Rattle.w_canon.specs.Keys.{supertype_words}
use Rattle.w_canon.proofs.key.push_supertypes.Given as goal

abbrev pub invariant-loop-supertype : goal.invariant-loop-supertype
invariant-loop-supertype l = l.words.items ≡ l.fn.words.items ++ supertype_words l.earlier (take l.supertype-index l.supertypes)
