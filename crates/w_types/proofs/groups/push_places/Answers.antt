use Rattle.std.proofs.Common.{◌≡◌, ℕ, ◌-◌, refl, ap, ◌++◌, arith}
use Rattle.w_types.specs.Groups.{places_in}
use Rattle.w_types.proofs.PlacesOfTypes.{next_place, all_places}
use Rattle.w_types.proofs.groups.push_places.Goals as goal

pub loop-position-init : goal.loop-position-init
loop-position-init c = let e : c.args.count - 0 ≡ c.args.count = omega arith in (ap (λ (n : ℕ). c.args.places.now.items ++ places_in c.args.group 0 n) e, refl, refl)

pub loop-position-preserved : goal.loop-position-preserved
loop-position-preserved c = let n = next_place c.args.group c.args.count c.loop-position.position c.loop-position.places.items _ c.loop-position-test.true c.loop-position.invariant.0 in (rw c.in_ok-push.ensures.items n, refl, refl)

pub returns : goal.returns
returns c = all_places c.args.group c.args.count c.loop-position.position c.loop-position.places.items _ c.loop-position-test.false c.loop-position.invariant.0
