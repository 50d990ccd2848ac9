-- What a run gives, from what the machine came to.
use Rattle.std.proofs.Common.{◌≡◌, ◌≤◌, ◌+◌, ℕ, Bool, true, false, List, [], ◌∷◌, ◌++◌, flat_map, Option, Some, None, Result, Ok, Err, inr, refl, sym, ap, subst, ◌∙◌, zero-add, append_assoc, arith}
use Rattle.std.specs.Prelude.{IsErrAnd}
use Rattle.w_outside.specs.Outside.{Grew, GrewByFront, IsFront}
use Rattle.w_syntax.specs.declared.module.Module.{Module}
use Rattle.w_types.specs.declared.value.Value.{Value}
use Rattle.w_reduce.specs.Values.{Val, val}
use Rattle.w_reduce.specs.Store.{Store, made, consumed, live}
use Rattle.w_reduce.specs.Terms.{Term}
use Rattle.w_reduce.specs.Program.{Program}
use Rattle.w_reduce.specs.Run.{Outcome, Running, RunState, Run}
use Rattle.w_reduce.specs.Start.{Started, Ready, NoPrinter, NoEntry, Exceeds, StartTraps, Start}
use Rattle.w_stands.specs.Values.{vals}
use Rattle.w_configuration.specs.declared.stop.RunStop.{RunStop}
use Rattle.w_configuration.specs.declared.stop.RunStop.TheVariants as run_stop
use Rattle.w_machine.specs.Beginning.{Origin, Begins}
use Rattle.w_machine.specs.Position.{Position, StopsWith, is_fault, IsNoFault, HasTaken, HasTakenBy, after_run, PrintedBetween, PrintedAtMost, PrintedIf, PrintedBy, RunPrints, RunsOn, Runs}
use Rattle.w_machine.proofs.RunsOfMany.{settled_at, printed_part}
use Rattle.w_machine.specs.Results.{HasResults}
use Rattle.replies.specs.declared.output.Output.{Output}
use Rattle.replies.specs.declared.stop.Stop.{Stop}
use Rattle.replies.specs.declared.stop.Stop.TheVariants.{Refused, WriteFault, OutOfMemory}
use Rattle.replies.specs.Answer.{Reply, TrapReply, counts_line, stats_line, result_line, behind, end_reply, run_reply, StartGives, ProgramGives}
use Rattle.runs.specs.Leaving.{IsBegun, Leaves}
use Rattle.replies.specs.Pieces.{joined}
use Rattle.runs.specs.Running.{IsAfter, IsAfterBy, BeginsRunOf, HasNoRun}
use Rattle.replies.specs.Stop.{Refuses, reply_with, reply_of_refusal}
use Rattle.runs.proofs.Replies.{front_first}

-- ## Runs from the start

abbrev First : Origin → Position
First o = record { origin = o; taken = 0; stop = None }

-- of a whole run from its first reduction on: it is running, or what is told of it; and all that it prints was printed, or where a fault
-- stopped it a first part
abbrev pub HasRunWhole : (ℕ → RunState) → ℕ → Option RunStop → Option (List ℕ) → Option (List ℕ) → Type 0
HasRunWhole run steps None before now = ((run (0 + steps)).outcome ≡ Running) × PrintedBetween (run 0) (run (0 + steps)) before now
HasRunWhole run steps (Some k) before now = StopsWith k (run (0 + steps)).outcome × PrintedBy k (run 0) (run (0 + steps)) before now

module _ (p : Program) (s : Store) (t : Term) (n steps : ℕ) (before now : Option (List ℕ)) where
  as_part : (f : Bool) → HasTakenBy f n steps → RunPrints f (Run p s t) 0 n steps before now → PrintedIf f (Run p s t 0) (Run p s t (0 + steps)) before now
  as_part true taken h = printed_part p s t 0 (0 + n) (0 + steps) before now (omega (arith, taken)) h
  as_part false taken h = h

  as_whole : (k : Option RunStop) → HasTaken n steps k → RunsOn (Run p s t) 0 n steps k before now → HasRunWhole (Run p s t) steps k before now
  as_whole None taken h = h
  as_whole (Some k) taken h = (h.0, as_part (is_fault k) taken h.1)

-- so it is told of a machine that has taken no reduction
pub from_first : (m : Origin) (p : Program) (s : Store) (t : Term) (steps : ℕ) (q new : Position) (k : Option RunStop) (before now : Option (List ℕ)) → q ≡ First m
    → Begins q.origin p s t → Runs q steps k new before now → HasRunWhole (Run p s t) steps k before now
from_first m p s t steps q new k before now first begins runs =
    let h = subst (λ (z : Position). Runs z steps k new before now) first runs in
    as_whole p s t h.0 steps before now k h.1 (h.3 p s t (subst (λ (z : Position). Begins z.origin p s t) first begins))

-- a run that ended keeps that, and took no more reductions than were asked for
pub record IsDone (p : Program) (s : Store) (t : Term) (steps : ℕ) (new : Position) : Type 0 where
  pub stop : new.stop ≡ Some run_stop.Ended
  pub begins : Begins new.origin p s t
  pub within : new.taken ≤ steps

pub first_ended : (m : Origin) (p : Program) (s : Store) (t : Term) (steps : ℕ) (q new : Position) (before now : Option (List ℕ)) → q ≡ First m
    → Begins q.origin p s t → Runs q steps (Some run_stop.Ended) new before now → IsDone p s t steps new
first_ended m p s t steps q new before now first begins runs =
    let h = subst (λ (z : Position). Runs z steps (Some run_stop.Ended) new before now) first runs in
    let there = ap (λ (z : Position). z.taken) h.2 in
    record {
      stop = ap (λ (z : Position). z.stop) h.2;
      begins = subst (λ (n : Origin). Begins n p s t) (ap (λ (z : Position). z.origin) first ∙ sym (ap (λ (z : Position). z.origin) h.2)) begins;
      within = omega (arith, there, h.1);
    }

-- it begins as before
pub first_origin : (m : Origin) (steps : ℕ) (q new : Position) (k : Option RunStop) (before now : Option (List ℕ)) → q ≡ First m → Runs q steps k new before now
    → new.origin ≡ q.origin
first_origin m steps q new k before now first runs =
    let h = subst (λ (z : Position). Runs z steps k new before now) first runs in
    ap (λ (z : Position). z.origin) h.2 ∙ same k h.0 ∙ sym (ap (λ (z : Position). z.origin) first)
  where
    same : (o : Option RunStop) (n : ℕ) → (after_run (First m) n o).origin ≡ m
    same None n = refl
    same (Some x) n = refl

-- it is the run of so many reductions, where no fault stopped it
pub first_after : (m : Origin) (steps : ℕ) (q new : Position) (k : Option RunStop) (before now : Option (List ℕ)) → q ≡ First m → Runs q steps k new before now
    → IsNoFault k → IsAfter new steps
first_after m steps q new k before now first runs none =
    let h = subst (λ (z : Position). Runs z steps k new before now) first runs in
    subst (λ (z : Position). IsAfter z steps) (sym h.2) (after k h.0 h.1 none)
  where
    after : (o : Option RunStop) (n : ℕ) → HasTaken n steps o → IsNoFault o → IsAfter (after_run (First m) n o) steps
    after None n is none = zero-add n ∙ is
    after (Some x) n taken none =
        let le : n ≤ steps = subst (λ (f : Bool). HasTakenBy f n steps) none taken in
        (let e = zero-add n in omega (arith, e, le), none)

pub not_running : (k : RunStop) (o : Outcome) → is_fault k ≡ false → StopsWith k o → o ≡ Running → ⊥
not_running run_stop.Ended o sound stops runs = let e = stops.1 in absurd (cc)
not_running (run_stop.Limit name) o sound stops runs = absurd (cc)
not_running (run_stop.Trapped t) o sound stops runs = absurd (cc)
not_running run_stop.WriteFault o sound stops runs = absurd (cc)
not_running run_stop.OutOfMemory o sound stops runs = absurd (cc)

-- so the run of the reductions that a machine took is that of so many
pub run_after : (q : Position) (p : Program) (s : Store) (t : Term) (steps : ℕ) → IsAfter q steps
    → ((k : RunStop) → q.stop ≡ Some k → StopsWith k (Run p s t q.taken).outcome) → Run p s t q.taken ≡ Run p s t steps
run_after q p s t steps after stops = go q.stop refl after
  where
    go : (o : Option RunStop) → q.stop ≡ o → IsAfterBy o q.taken steps → Run p s t q.taken ≡ Run p s t steps
    go None e is = ap (Run p s t) is
    go (Some k) e is = sym (settled_at p s t q.taken steps is.0 (not_running k _ is.1 (stops k e)))

-- the line of its counts
pub counts_are : (r : RunState) (a b c d : ℕ) → r.taken ≡ a → made r.store ≡ b → consumed r.store ≡ c → live r.store ≡ d → counts_line a b c d ≡ stats_line r
counts_are r a b c d ea eb ec ed = rw (← ea, ← eb, ← ec, ← ed) refl

-- ## What is left to write behind what was printed

module _ (say : TrapReply) (p : Program) (s : Store) (t : Term) (steps : ℕ) (before now : Option (List ℕ)) (rose : Type 0) where
  abbrev IsDue : Reply → Type 0
  IsDue reply = reply ≡ run_reply say false (Run p s t steps)

  from_zero : Run p s t (0 + steps) ≡ Run p s t steps
  from_zero = ap (Run p s t) (zero-add steps)

  -- what was printed is the run's output
  is_output : (text : List ℕ) → (Run p s t (0 + steps)).output ≡ (Run p s t 0).output ++ text → text ≡ (Run p s t steps).output
  is_output text e = sym e ∙ ap (λ (r : RunState). r.output) from_zero

  behind_same : (text : List ℕ) (left : Reply) → text ≡ (Run p s t steps).output → left ≡ end_reply say (Run p s t steps).outcome → IsDue (behind text left)
  behind_same text left e f = ap (λ (l : List ℕ). behind l left) e ∙ ap (behind (Run p s t steps).output) f

  part_begun : (text : List ℕ) → text ≡ (Run p s t steps).output → GrewByFront before now text → IsBegun IsDue (Grew before now)
  part_begun text e h = (
    run_reply say false (Run p s t steps),
    refl,
    (
      h.part,
      record {
        rest = h.front.rest ++ (end_reply say (Run p s t steps).outcome).out;
        joined = longer h.part h.front.rest text (end_reply say (Run p s t steps).outcome).out h.front.joined ∙ ap (λ (l : List ℕ). l ++ (end_reply say (Run p s t steps).outcome).out) e;
      },
      h.grew,
    ),
  )
    where
      longer : (a b whole more : List ℕ) → a ++ b ≡ whole → a ++ (b ++ more) ≡ whole ++ more
      longer a b whole more j = sym (append_assoc a b more) ∙ ap (λ (l : List ℕ). l ++ more) j

  all_begun : (text : List ℕ) → text ≡ (Run p s t steps).output → Grew before now text → IsBegun IsDue (Grew before now)
  all_begun text e grew = (run_reply say false (Run p s t steps), refl, (text, subst (λ (l : List ℕ). IsFront text (l ++ (end_reply say (Run p s t steps).outcome).out)) e (front_first text _), grew))

  -- a run that stops leaves a line on it
  pub run_refused : (o : Outcome) (stop : Stop) → PrintedBetween (Run p s t 0) (Run p s t (0 + steps)) before now → (Run p s t (0 + steps)).outcome ≡ o
      → Refuses (λ reply. reply ≡ end_reply say o) stop → Leaves IsDue (Err stop) (Grew before now) rose
  run_refused o (Refused refusal) print is_due h =
      (h.0, (print.text, print.grew, behind_same print.text (reply_of_refusal refusal) (is_output print.text print.is) (h.1 ∙ ap (end_reply say) (sym is_due ∙ ap (λ (r : RunState). r.outcome) from_zero))))
  run_refused o WriteFault print is_due h = absurd h
  run_refused o OutOfMemory print is_due h = inr (all_begun print.text (is_output print.text print.is) print.grew)

  -- one that ended leaves its results, a line each
  pub run_ended : (output : Output) (vs : List Val) → PrintedBetween (Run p s t 0) (Run p s t (0 + steps)) before now → HasResults (Run p s t steps).outcome vs
      → joined output.pieces.items ≡ flat_map result_line vs → joined output.err.items ≡ [] → Leaves IsDue (Ok output) (Grew before now) rose
  run_ended output vs print h lines none = (
    print.text,
    print.grew,
    behind_same print.text (reply_with output) (is_output print.text print.is)
        (ap (results_reply (joined output.pieces.items)) none ∙ ap (λ (l : List ℕ). results_reply l []) (lines ∙ ap (flat_map result_line) h.2) ∙ ap (end_reply say) (sym h.1)),
  )
    where
      results_reply : List ℕ → List ℕ → Reply
      results_reply text more = record { out = text; err = more; status = 0 }

  -- where memory ran out behind it, all that it printed was written
  pub run_unlisted : (answer : Result Output Stop) → PrintedBetween (Run p s t 0) (Run p s t (0 + steps)) before now → IsErrAnd answer (λ e. e ≡ OutOfMemory)
      → Leaves IsDue answer (Grew before now) rose
  run_unlisted (Ok output) print is = absurd is
  run_unlisted (Err stop) print is =
      subst (λ (e : Stop). Leaves IsDue (Err e) (Grew before now) rose) (sym is) (inr (all_begun print.text (is_output print.text print.is) print.grew))

  -- a fault leaves nothing
  pub run_failed : PrintedAtMost (Run p s t 0) (Run p s t (0 + steps)) before now → rose → Leaves IsDue (Err WriteFault) (Grew before now) rose
  run_failed print r = (part_begun print.text (is_output print.text print.is) print.grew, r)

  pub run_out : PrintedAtMost (Run p s t 0) (Run p s t (0 + steps)) before now → Leaves IsDue (Err OutOfMemory) (Grew before now) rose
  run_out print = inr (part_begun print.text (is_output print.text print.is) print.grew)

-- ## The lines of results

-- lines are told of values as the definitions see them
pub lines_of_vals : (vs : List Value) → flat_map (λ v. result_line (val v)) vs ≡ flat_map result_line (vals vs)
lines_of_vals [] = refl
lines_of_vals (v ∷ vs) = ap (λ (l : List ℕ). result_line (val v) ++ l) (lines_of_vals vs)

-- ## What a module gives

module _ (on_trap : TrapReply) (OfRun : Program → Store → Term → Reply → Type 0) (m : Module) where
  -- where its run begins, what the run gives
  pub run_gives : (q : Position) → (b : BeginsRunOf m q) → (reply : Reply) → OfRun b.program b.store b.term reply → ProgramGives on_trap OfRun m reply
  run_gives q b reply h = (b.program, b.source, b.known, subst (λ (o : Started). StartGives on_trap (OfRun b.program) o reply) (sym b.start) h)

  -- where it has no run, what it gives without one
  pub no_run_gives : (reply : Reply) → HasNoRun on_trap m reply → ProgramGives on_trap OfRun m reply
  no_run_gives reply h = (h.0, h.1, h.2, by (Start h.0) h.3)
    where
      by : (o : Started) → StartGives on_trap (λ s t r. ⊥) o reply → StartGives on_trap (OfRun h.0) o reply
      by (Ready s t) k = absurd k
      by (NoPrinter i) k = k
      by NoEntry k = k
      by (Exceeds name) k = k
      by (StartTraps t) k = k

-- what a program gives that begins a run
pub given_ready : (on_trap : TrapReply) (OfRun : Store → Term → Reply → Type 0) (p : Program) (s : Store) (t : Term) (reply : Reply) → Start p ≡ Ready s t → StartGives on_trap OfRun (Start p) reply → OfRun s t reply
given_ready on_trap OfRun p s t reply e h = subst (λ (o : Started). StartGives on_trap OfRun o reply) e h
