use Rattle.std.proofs.Common.{rules, ◌≡◌, sym}
use Rattle.std.specs.Prelude.{IsTrue}
use Rattle.traces.proofs.EventsFollowed.{has_event, has_none}
use Rattle.traces.proofs.comparing.is_at.Goals as goal

pub returns-in-Some : goal.returns-in-Some
returns-in-Some c =
    let told : IsTrue c.eq.result → c.in-Some.other.now ≡ c.args.event = search rules in
    let back : c.in-Some.other.now ≡ c.args.event → IsTrue c.eq.result = search rules in
    has_event c.args.events.now c.args.place c.in-Some.other.now c.args.event (IsTrue c.eq.result) (sym c.in-Some.ensures.lookup.0) c.in-Some.ensures.lookup.1 told back

pub returns-in-None : goal.returns-in-None
returns-in-None c = has_none c.args.events.now c.args.place c.args.event (sym c.in-None.ensures.lookup.0)
