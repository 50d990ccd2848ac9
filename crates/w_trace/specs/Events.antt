-- The events of a run (stack-switching explainer, execution): what its reductions do with continuations, in order.
use Rattle.std.specs.Prelude.{◌≡◌, ◌≢◌, ◌<◌, ◌≤◌, ◌+◌, ℕ, zero, suc, Bool, List, [], ◌∷◌, ◌++◌, length, map, Option, Some, None, option_map, option_to_list, is_some}
use Rattle.lists.specs.Rows.{Row, ◌▹◌}
use Rattle.w_syntax.specs.Code.{Code, Done, Plain}
use Rattle.w_syntax.specs.declared.instructions.Op.TheVariants as op
use Rattle.w_syntax.specs.declared.instructions.SwitchingOp.{SwitchingOp}
use Rattle.w_syntax.specs.declared.instructions.SwitchingOp.TheVariants as switching
use Rattle.w_words.specs.Words.{Each}
use Rattle.w_reduce.specs.Values.{Val, Cont}
use Rattle.w_reduce.specs.Store.{Store, next_cont}
use Rattle.w_reduce.specs.Terms.{Administrative, Context, Handle, Term, Continuation}
use Rattle.w_reduce.specs.Program.{Program}
use Rattle.w_reduce.specs.Reduced.{Reduced, Went}
use Rattle.w_reduce.specs.Reduce.{reduce}
use Rattle.w_reduce.specs.Run.{RunState, Outcome, Running, Values, Traps, Limit, NoRule, Run}
use Rattle.w_once.specs.Consumptions.{emptied_from, Consumptions}
use Rattle.w_trace.specs.declared.event.Event.{Event}
use Rattle.w_trace.specs.declared.event.EventKind.{EventKind}
use Rattle.w_trace.specs.declared.event.EventKind.TheVariants.{New, Bind, Resume, Suspend, Switch, Exit}
use Rattle.w_trace.specs.Once.{Use, Consumes, Makes, uses, uses_of, consumed_by, made_by, AreFrom, after_uses, IsOneShot}

-- ## The event of a redex, where its reduction goes on

-- the address of the continuation that the topmost operand refers to
abbrev pub top_cont : Row Val → Option ℕ
top_cont (vs ▹ Cont a) = Some a
top_cont vs = None

-- of an instruction that switches stacks
abbrev pub switching_event : Store → Row Val → SwitchingOp → Option EventKind
switching_event s vs (switching.ContNew x) = Some (New (next_cont s))
switching_event s vs (switching.ContBind x y) = option_map (λ a. Bind a (next_cont s)) (top_cont vs)
switching_event s vs (switching.Resume x hs) = option_map Resume (top_cont vs)
switching_event s vs (switching.Suspend x) = Some (Suspend x (next_cont s))
switching_event s vs (switching.Switch x y) = option_map (λ a. Switch a y (next_cont s)) (top_cont vs)

-- of values that leave a handle
abbrev pub leaving_event : Context → Option EventKind
leaving_event (Handle below hs rest ∷ e) = Some Exit
leaving_event e = None

-- of what comes next at the hole of a context
abbrev pub next_event : Store → Context → Row Val → List Administrative → Code → Option EventKind
next_event s e vs [] (Plain (op.Switching o) c) = switching_event s vs o
next_event s e vs [] Done = leaving_event e
next_event s e vs ahead c = None

abbrev pub event_of : Store → Term → Option EventKind
event_of s t = next_event s t.around t.operands t.rest.ahead t.rest.code

-- ## The events of a run

-- a reduction that goes on has the event of its redex
abbrev pub where_went : Reduced → Option EventKind → Option EventKind
where_went (Went out s t) event = event
where_went r event = None

abbrev pub with_step : ℕ → Option EventKind → Option Event
with_step n event = option_map (λ kind. record { step = n; kind = kind }) event

-- a run that isn't running takes no further reduction
abbrev pub while_running : Outcome → Option Event → Option Event
while_running Running event = event
while_running (Values vs) event = None
while_running (Traps t) event = None
while_running (Limit name) event = None
while_running NoRule event = None

-- the event of the next reduction of a run
abbrev pub event_after : Program → RunState → Option Event
event_after p r = while_running r.outcome (with_step (suc r.taken) (where_went (reduce p r.store r.term) (event_of r.store r.term)))

-- those of the first n reductions, in order
abbrev pub Events : Program → Store → Term → ℕ → List Event
Events p s t zero = []
Events p s t (suc n) = Events p s t n ++ option_to_list (event_after p (Run p s t n))

-- ## Laws

-- what an event uses, where there is one
abbrev pub uses_if : Option EventKind → List Use
uses_if None = []
uses_if (Some kind) = uses kind

-- by address, whether the continuation is live
abbrev pub flags_of : List (Option Continuation) → List Bool
flags_of conts = map is_some conts

-- with these uses the one store of continuations becomes the other
pub record Leads (us : List Use) (before now : List (Option Continuation)) : Type 0 where
  pub emptied : emptied_from 0 before now ≡ consumed_by us
  pub made : length now ≡ length before + length (made_by us)
  pub in_order : AreFrom (length before) (made_by us)
  pub by_flags : after_uses us (flags_of before) ≡ Some (flags_of now)

-- the event of a redex says which continuations its reduction consumes, and which it makes
abbrev pub RedexesTell : Type 0
RedexesTell = (p : Program) (s s' : Store) (t t' : Term) (out : List ℕ) → reduce p s t ≡ Went out s' t' → Leads (uses_if (event_of s t)) s.conts s'.conts

-- what the events of a run consume is what its reductions empty
abbrev pub EventsConsume : Type 0
EventsConsume = (p : Program) (s : Store) (t : Term) (n : ℕ) → consumed_by (uses_of (Events p s t n)) ≡ Consumptions p s t n

-- what the events of a run use leads to the continuations that are live then
abbrev pub EventsLead : Type 0
EventsLead = (p : Program) (s : Store) (t : Term) (n : ℕ) → after_uses (uses_of (Events p s t n)) (flags_of s.conts) ≡ Some (flags_of (Run p s t n).store.conts)

-- so they are one-shot where none was made at first
abbrev pub EventsAreOneShot : Type 0
EventsAreOneShot = (p : Program) (s : Store) (t : Term) (n : ℕ) → s.conts ≡ [] → IsOneShot (uses_of (Events p s t n))

-- the events of more reductions begin with those of fewer
abbrev pub EventsGoOn : Type 0
EventsGoOn = (p : Program) (s : Store) (t : Term) (n k : ℕ) → (rest : List Event) × (Events p s t (n + k) ≡ Events p s t n ++ rest)

-- a run that isn't running has no more of them
abbrev pub EndedRunsHaveNoMore : Type 0
EndedRunsHaveNoMore = (p : Program) (s : Store) (t : Term) (n k : ℕ) → (Run p s t n).outcome ≢ Running → Events p s t (n + k) ≡ Events p s t n

abbrev pub address_of : Use → ℕ
address_of (Consumes a) = a
address_of (Makes b) = b

-- the event is of one of the first n reductions, and each address that it uses is below n
pub record IsAmong (n : ℕ) (e : Event) : Type 0 where
  pub from_one : 1 ≤ e.step
  pub to_last : e.step ≤ n
  pub addresses : Each (λ u. address_of u < n) (uses e.kind)

-- each of these events is so
abbrev pub AreWithin : ℕ → List Event → Type 0
AreWithin n es = Each (IsAmong n) es

-- the events of n reductions are n at most, where none was made at first, and each is within them
abbrev pub EventsAreCounted : Type 0
EventsAreCounted = (p : Program) (s : Store) (t : Term) (n : ℕ) → s.conts ≡ [] → (length (Events p s t n) ≤ n) × AreWithin n (Events p s t n)
