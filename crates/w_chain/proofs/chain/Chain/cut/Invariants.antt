use Rattle.std.proofs.Common.{◌≡◌, ◌++◌, reverse, length}
use Rattle.w_chain.proofs.chain.Chain.cut.Given as goal

abbrev pub invariant-loop : goal.invariant-loop
invariant-loop l = record {
  all : reverse l.outward ++ l.self ≡ l.fn.self;
  long : length l.outward ≡ l.counter;
}

abbrev pub invariant-loop-2 : goal.invariant-loop-2
invariant-loop-2 l = record {
  all : reverse l.part ++ l.outward ≡ l.initial.outward;
  long : length l.part ≡ l.counter;
}
