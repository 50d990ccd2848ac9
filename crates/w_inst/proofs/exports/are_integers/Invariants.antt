use Rattle.std.proofs.Common.{◌≡◌, drop}
use Rattle.w_reduce.specs.Start.{are_integers}
use Rattle.w_inst.proofs.exports.are_integers.Given as goal

abbrev pub invariant-loop-kind : goal.invariant-loop-kind
invariant-loop-kind l = are_integers (drop l.kind-index l.types) ≡ are_integers l.types
