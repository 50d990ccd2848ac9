use Rattle.std.proofs.Common.{◌≡◌, ◌+◌, ◌++◌, reverse, length}
use Rattle.w_segment.specs.Parents.{parents}
use Rattle.w_chain.proofs.chain.Chain.join.Given as goal

abbrev pub invariant-loop-left : goal.invariant-loop-left
invariant-loop-left l = reverse l.outward ++ parents l.left ≡ l.fn.segment.value

abbrev pub decreases-loop-left : goal.decreases-loop-left
decreases-loop-left l = length (parents l.left)

abbrev pub invariant-loop : goal.invariant-loop
invariant-loop l = record {
  all : reverse l.outward ++ l.self ≡ l.fn.segment.value ++ l.fn.self;
  long : length l.outward + l.counter ≡ l.end;
}
