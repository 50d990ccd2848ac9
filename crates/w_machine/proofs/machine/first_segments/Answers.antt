use Rattle.std.proofs.Common.{◌≡◌, ℕ, ◌-◌, drop, subst, arith}
use Rattle.w_machine.specs.Reached.{AreFirst}
use Rattle.w_machine.proofs.FirstStep.{main_first, one_more_first}
use Rattle.w_machine.proofs.machine.first_segments.Goals as goal

pub loop-left-init : goal.loop-left-init
loop-left-init c = record { few = omega arith; first = main_first c.args.starts.now c.args.main c.in_ok-next.next c.new-waiting.result.items c.new-waiting.ensures.items c.in_ok-next.ensures.ok }

pub loop-left-preserved : goal.loop-left-preserved
loop-left-preserved c =
    let left = c.loop-left.left in
    let few = c.loop-left.invariant.few in
    let some = c.loop-left-test.true in
    record {
      few = omega (arith, few);
      first = one_more_first c.args.starts.now (left - 1) left (omega (arith, some)) few c.loop-left.invariant.first c.in_ok-next-2.ensures.ok c.in_ok-push.ensures.items;
    }

pub returns : goal.returns
returns c =
    let none : c.loop-left.left ≡ 0 = (let e = c.loop-left-test.false in omega (arith, e)) in
    subst (λ (n : ℕ). AreFirst (drop n c.args.starts.now) c.args.main c.loop-left.next c.loop-left.waiting.items) none c.loop-left.invariant.first
