use Rattle.std.proofs.Common.{rules, ◌≡◌, ◌∙◌, true, length, sym, ap, subst, arith}
use Rattle.w_reduce.specs.Run.{Run}
use Rattle.w_trace.specs.declared.event.Event.{Event}
use Rattle.w_machine.specs.Beginning.{Origin, Begins}
use Rattle.traces.specs.declared.comparing.Followed.TheVariants.{All, Apart}
use Rattle.traces.specs.Auditing.{IsAfterAll}
use Rattle.traces.proofs.EventsFollowed.{differ_apart, differ_ends, differ_longer, followed_as, no_differ}
use Rattle.runs.proofs.Runs.{run_after}
use Rattle.traces.proofs.comparing.difference.Goals as goal
use Rattle.traces.proofs.comparing.difference.Goals.{else-trace-taken-via-then-trace-taken+else-eq, else-trace-taken-via-else-trace-taken}

pub returns-in-Apart-clause-line : goal.returns-in-Apart-clause-line
returns-in-Apart-clause-line c = λ p s t begins.
    let x = c.args.trace.now in
    let q = c.follow.new.machine in
    differ_apart p s t c.args.steps x q c.in-Apart.place
    (followed_as p s t c.args.steps x q c.as_slice-events.result.now c.in_ok-count.field-0 (Apart c.in-Apart.place) c.as_slice-events.ensures c.in-Apart.is (c.in_ok-count.ensures.followed p s t begins))

pub returns-then-count-events-clause-line : goal.returns-then-count-events-clause-line
returns-then-count-events-clause-line c = λ p s t begins.
    let x = c.args.trace.now in
    let q = c.follow.new.machine in
    let came = followed_as p s t c.args.steps x q c.as_slice-events.result.now c.in_ok-count.field-0 (All c.in-All.count) c.as_slice-events.ensures c.in-All.is (c.in_ok-count.ensures.followed p s t begins) in
    let after = subst (IsAfterAll q c.args.steps) c.in-All.is c.in_ok-count.ensures.after in
    differ_longer p s t c.args.steps x q after c.in-All.count came (omega (arith, c.if-count-events.true, ap (length {A = Event}) c.as_slice-events.ensures))

pub returns-then-eq-clause-line : goal.returns-then-eq-clause-line
returns-then-eq-clause-line c = λ p s t begins.
    let x = c.args.trace.now in
    let q = c.follow.new.machine in
    let came = followed_as p s t c.args.steps x q c.as_slice-events.result.now c.in_ok-count.field-0 (All c.in-All.count) c.as_slice-events.ensures c.in-All.is (c.in_ok-count.ensures.followed p s t begins) in
    let after = subst (IsAfterAll q c.args.steps) c.in-All.is c.in_ok-count.ensures.after in
    let begun = subst (λ (o : Origin). Begins o p s t) (sym c.in_ok-count.ensures.origin) begins in
    let counts = c.taken.ensures.counts p s t (subst (λ (o : Origin). Begins o p s t) (sym c.ending_of-ending.ensures.origin) begun) in
    let same : x.ending ≡ c.ending_of-ending.result = search rules in
    no_differ p s t c.args.steps x q after c.in-All.count came c.taken.result counts (c.taken.ensures.value ∙ c.ending_of-ending.ensures.taken)
    c.ending_of-ending.result (c.ending_of-ending.ensures.ending p s t begun came.2) (omega (arith, c.if-count-events.false, ap (length {A = Event}) c.as_slice-events.ensures)) c.if-trace-taken.true same

pub returns-else-trace-taken-clause-line : goal.returns-else-trace-taken-clause-line
returns-else-trace-taken-clause-line c = λ p s t begins.
    let x = c.args.trace.now in
    let q = c.follow.new.machine in
    let came = followed_as p s t c.args.steps x q c.as_slice-events.result.now c.in_ok-count.field-0 (All c.in-All.count) c.as_slice-events.ensures c.in-All.is (c.in_ok-count.ensures.followed p s t begins) in
    let after = subst (IsAfterAll q c.args.steps) c.in-All.is c.in_ok-count.ensures.after in
    let begun = subst (λ (o : Origin). Begins o p s t) (sym c.in_ok-count.ensures.origin) begins in
    let counts = c.taken.ensures.counts p s t (subst (λ (o : Origin). Begins o p s t) (sym c.ending_of-ending.ensures.origin) begun) in
    let apart : (x.taken ≡ c.taken.result) × (x.ending ≡ c.ending_of-ending.result) → ⊥ =
    elim c.else-trace-taken.branch [
      | else-trace-taken-via-then-trace-taken+else-eq w ↦ λ h. let yes : w.eq.result ≡ true = search (rules, h.1) in absurd (let no = w.if-eq.false in cc)
      | else-trace-taken-via-else-trace-taken w ↦ λ h. w.if-trace-taken.false h.0
    ] in
    differ_ends p s t c.args.steps x q after c.in-All.count came c.taken.result counts (c.taken.ensures.value ∙ c.ending_of-ending.ensures.taken)
    c.ending_of-ending.result (c.ending_of-ending.ensures.ending p s t begun came.2) (omega (arith, c.if-count-events.false, ap (length {A = Event}) c.as_slice-events.ensures)) apart

pub returns-then-eq-clause-after : goal.returns-then-eq-clause-after
returns-then-eq-clause-after c = λ is p s t begins.
    let x = c.args.trace.now in
    let q = c.follow.new.machine in
    let came = followed_as p s t c.args.steps x q c.as_slice-events.result.now c.in_ok-count.field-0 (All c.in-All.count) c.as_slice-events.ensures c.in-All.is (c.in_ok-count.ensures.followed p s t begins) in
    let after = subst (IsAfterAll q c.args.steps) c.in-All.is c.in_ok-count.ensures.after in
    ap (Run p s t) c.ending_of-ending.ensures.taken ∙ run_after q p s t c.args.steps after came.2.stopped
