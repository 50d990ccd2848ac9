use Rattle.std.proofs.Common.{◌≡◌, ◌+◌, List, [], ◌∷◌, ◌++◌, length, drop, Some, sym, ap, subst, ◌∙◌, arith, length-append}
use Rattle.std.specs.Prelude.{slice_range}
use Rattle.w_trace.specs.declared.event.Event.{Event}
use Rattle.w_trace.specs.declared.line.Line.{Line}
use Rattle.w_trace.specs.declared.line.Line.TheVariants as line
use Rattle.w_trace.specs.Lines.{IsWrongAt}
use Rattle.w_trace.specs.Reading.{line_said}
use Rattle.w_trace.proofs.WrongLines.{Known, none_yet, known_of, one_event, ended_at, wrong_line, wrong_end, wrong_behind}
use Rattle.w_trace.proofs.reading.read_lines.Goals as goal

pub loop-end-init : goal.loop-end-init
loop-end-init c = record { known = none_yet c.args.bytes.now c.new-events.result c.new-events.ensures; within = omega arith; few = omega (arith, ap length c.new-events.ensures) }

pub returns-in_default-line_said-clause-err : goal.returns-in_default-line_said-clause-err
returns-in_default-line_said-clause-err c = λ l e.
    let t = c.args.bytes.now in
    let bs = slice_range t c.loop-end.at c.in-Some.end in
    let more = drop (c.in-Some.end + 1) t in
    let known = known_of t c.loop-end.events (drop c.loop-end.at t) ((bs ++ 10 ∷ []) ++ more) c.in-Some.ensures.parts c.loop-end.invariant.known in
    let is : c.len.result ≡ l = cc in
    subst (IsWrongAt t) (sym c.len.ensures ∙ is) (wrong_line t c.loop-end.events bs more known c.in-Some.ensures.some (sym c.in_default-line_said.ensures))

pub loop-end-preserved : goal.loop-end-preserved
loop-end-preserved c =
    let t = c.args.bytes.now in
    let es = c.loop-end.events in
    let bs = slice_range t c.loop-end.at c.in-Some.end in
    let more = drop (c.in-Some.end + 1) t in
    let known = known_of t es (drop c.loop-end.at t) ((bs ++ 10 ∷ []) ++ more) c.in-Some.ensures.parts c.loop-end.invariant.known in
    let said : line_said bs ≡ Some (line.Event c.in-Event.event) = sym c.in-Some-line_said.ensures ∙ ap (λ (x : Line). Some x) c.in-Event.is in
    let grown : c.push.new.self ≡ c.loop-end.events ++ c.in-Event.event ∷ [] = c.in_ok-push-in-Event.ensures.ok in
    record {
      known = subst (λ (xs : List Event). Known t xs more) (sym grown) (one_event t es bs more c.in-Event.event known c.in-Some.ensures.some said);
      within = omega (arith, c.in-Some.ensures.place.1);
      few = omega (arith, ap length grown, length-append es (c.in-Event.event ∷ []), c.in-Some.ensures.place.0, c.loop-end.invariant.few);
    }

pub returns-then-at-bytes-clause-err : goal.returns-then-at-bytes-clause-err
returns-then-at-bytes-clause-err c = λ l e.
    let t = c.args.bytes.now in
    let es = c.loop-end.events in
    let bs = slice_range t c.loop-end.at c.in-Some.end in
    let known = known_of t es (drop c.loop-end.at t) ((bs ++ 10 ∷ []) ++ drop (c.in-Some.end + 1) t) c.in-Some.ensures.parts c.loop-end.invariant.known in
    let said : line_said bs ≡ Some (line.End c.in-End.taken c.in-End.ending) = sym c.in-Some-line_said.ensures ∙ ap (λ (x : Line). Some x) c.in-End.is in
    let is : c.len-then-at-bytes.result + 1 ≡ l = cc in
    subst (IsWrongAt t) (sym (ap (λ n. n + 1) c.len-then-at-bytes.ensures) ∙ is) (wrong_behind t es bs (c.in-Some.end + 1) c.in-End.taken c.in-End.ending known c.in-Some.ensures.some said c.if-at-bytes.true)

pub returns-in-End-clause-ok : goal.returns-in-End-clause-ok
returns-in-End-clause-ok c =
    let t = c.args.bytes.now in
    let es = c.loop-end.events in
    let bs = slice_range t c.loop-end.at c.in-Some.end in
    let known = known_of t es (drop c.loop-end.at t) ((bs ++ 10 ∷ []) ++ drop (c.in-Some.end + 1) t) c.in-Some.ensures.parts c.loop-end.invariant.known in
    let said : line_said bs ≡ Some (line.End c.in-End.taken c.in-End.ending) = sym c.in-Some-line_said.ensures ∙ ap (λ (x : Line). Some x) c.in-End.is in
    ended_at t es bs (c.in-Some.end + 1) c.in-End.taken c.in-End.ending known c.in-Some.ensures.some said c.if-at-bytes.false

pub returns-clause-err : goal.returns-clause-err
returns-clause-err c = λ l e.
    let t = c.args.bytes.now in
    let is : c.len-2.result ≡ l = cc in
    subst (IsWrongAt t) (sym c.len-2.ensures ∙ is) (wrong_end t c.loop-end.events (drop c.loop-end.at t) c.loop-end.invariant.known c.in_default.ensures.none)
