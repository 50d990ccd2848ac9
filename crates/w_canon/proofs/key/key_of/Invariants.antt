use Rattle.std.proofs.Common.{◌≡◌, take}
use Rattle.std.specs.List.{flat_map}
use Rattle.w_canon.specs.Keys.{subtype_words}
use Rattle.w_canon.proofs.key.key_of.Given as goal

abbrev pub invariant-loop-kind : goal.invariant-loop-kind
invariant-loop-kind l = l.words.items ≡ flat_map (subtype_words l.earlier) (take l.kind-index l.group.types)
