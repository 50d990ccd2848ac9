use Rattle.std.proofs.Common.{◌≡◌, subst}
use Rattle.w_trace.specs.Once.{IsUnsoundAt}
use Rattle.w_trace.proofs.Counting.{onward, refused, whole}
use Rattle.w_trace.proofs.one_use.live_after.Goals as goal

pub returns-then-not-followed-clause-err : goal.returns-then-not-followed-clause-err
returns-then-not-followed-clause-err c = λ l e.
    let here = refused c.args.events.now c.loop-place.place _ c.loop-place.live.items _ _ c.loop-place-test.true c.loop-place.invariant c.if-not-followed.true c.in_ok-followed.ensures in
    let same : c.loop-place.place ≡ l = cc in
    subst (IsUnsoundAt c.args.events.now) same here

pub loop-place-preserved : goal.loop-place-preserved
loop-place-preserved c =
    onward c.args.events.now c.loop-place.place _ c.loop-place.live.items _ _ c.loop-place-test.true c.loop-place.invariant c.if-not-followed.false c.in_ok-followed.ensures

pub returns-clause-ok : goal.returns-clause-ok
returns-clause-ok c = whole c.args.events.now c.loop-place.place c.loop-place.live.items c.loop-place-test.false c.loop-place.invariant
