use Rattle.std.proofs.Common.{get_or, ap, sym, ◌∙◌}
use Rattle.w_types.specs.declared.types.ValType.{ValType}
use Rattle.w_canon.specs.Compared.{compared}
use Rattle.w_canon.proofs.TestsOfLists.{differ_here, agree_here, all_agree}
use Rattle.w_canon.proofs.classes.Classes.compare_each.Goals as goal

pub returns-then-not-compares_again : goal.returns-then-not-compares_again
returns-then-not-compares_again c =
    differ_here (compared c.args.self.now c.args.how) c.args.ones.now c.args.others.now c.loop-index.index c.loop-index.invariant.long c.loop-index.invariant.same c.index-ones-index.result c.index-others-index.result c.loop-index-test.true
    (ap (λ (t : ValType). compared c.args.self.now c.args.how t (get_or c.args.others.now c.loop-index.index c.index-others-index.result)) (sym c.index-ones-index.is)
    ∙ ap (compared c.args.self.now c.args.how c.index-ones-index.result) (sym c.index-others-index.is) ∙ sym c.compares_again.ensures.decided ∙ c.if-not-compares_again.true)

pub loop-index-preserved : goal.loop-index-preserved
loop-index-preserved c = record {
  long = c.loop-index.invariant.long;
  found = c.compares_again.ensures.found;
  same = agree_here (compared c.args.self.now c.args.how) c.args.ones.now c.args.others.now c.loop-index.index c.loop-index.invariant.long c.loop-index.invariant.same c.index-ones-index.result c.index-others-index.result c.loop-index-test.true
      (ap (λ (t : ValType). compared c.args.self.now c.args.how t (get_or c.args.others.now c.loop-index.index c.index-others-index.result)) (sym c.index-ones-index.is)
      ∙ ap (compared c.args.self.now c.args.how c.index-ones-index.result) (sym c.index-others-index.is) ∙ sym c.compares_again.ensures.decided ∙ c.if-not-compares_again.false);
}

pub returns : goal.returns
returns c =
    all_agree (compared c.args.self.now c.args.how) c.args.ones.now c.args.others.now c.loop-index.index c.loop-index.invariant.long c.loop-index.invariant.same c.loop-index-test.false
