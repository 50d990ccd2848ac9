use Rattle.std.proofs.Common.{◌≡◌, IsTrue, length, drop}
use Rattle.w_canon.specs.Tests.{pairwise_test}
use Rattle.w_canon.specs.Compared.{compared}
use Rattle.w_canon.proofs.classes.Classes.compare_each.Given as goal

-- the pair that was found passes, and the test of what is left is that of all
abbrev pub invariant-loop-index : goal.invariant-loop-index
invariant-loop-index l = record {
  long : length l.ones ≡ length l.others;
  found : IsTrue (compared l.self l.how l.found.one l.found.other);
  same : pairwise_test (compared l.self l.how) (drop l.index l.ones) (drop l.index l.others) ≡ pairwise_test (compared l.self l.how) l.ones l.others;
}
