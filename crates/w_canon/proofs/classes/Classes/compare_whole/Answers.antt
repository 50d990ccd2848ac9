use Rattle.std.proofs.Common.{ap, ◌∙◌, sym}
use Rattle.w_canon.specs.Tests.{pairwise_test}
use Rattle.w_canon.specs.Compared.{compared}
use Rattle.w_canon.proofs.ComparedRows.{row_same, row_alike}
use Rattle.w_canon.proofs.classes.Classes.compare_whole.Goals as goal

pub returns-then-are_same : goal.returns-then-are_same
returns-then-are_same c = λ t.
    ap (pairwise_test (compared c.args.self.now c.args.how) c.args.ones.now) (sym (c.are_same.ensures c.if-are_same.true)) ∙ row_same c.args.self.now c.args.how c.args.ones.now

pub returns-then-compares : goal.returns-then-compares
returns-then-compares c = λ t.
    row_alike c.args.self.now c.args.how c.in-Some.pair (sym c.compares.ensures ∙ c.if-compares.true) (c.are_alike.ensures t)
