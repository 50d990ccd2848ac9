-- Calls that may print: the function is there, and what is printed.
use Rattle.std.proofs.Common.{◌≡◌, ℕ, ◌+◌, ◌<◌, List, [], Option, Some, None, length, drop, slice_get, inl, refl, sym, ap, ◌∙◌, subst, arith, Result, Ok, Err}
use Rattle.std.proofs.lemmas.List.{append-nil}
use Rattle.std.proofs.lemmas.Option.{slice_get_within}
use Rattle.w_outside.specs.Outside.{Grew}
use Rattle.w_syntax.specs.declared.module.Module.{Module}
use Rattle.w_segment.specs.declared.entry.Stage.TheVariants.{Values}
use Rattle.lists.specs.Rows.{◌⧺◌}
use Rattle.w_segment.specs.Shape.{Shape, ReturnTarget, SameParts}
use Rattle.w_segment.specs.Changes.{discarded, returned, staged}
use Rattle.w_tables.specs.Store as instances
use Rattle.w_tables.specs.declared.entries.FuncEntry.TheVariants as entry
use Rattle.w_tables.specs.declared.entries.Printer.{Printer}
use Rattle.w_reduce.specs.Terms.{rest_of}
use Rattle.w_reduce.specs.Reduced.{or_stuck, take_values}
use Rattle.w_reduce.specs.Calls.{invoked, params_of, around_frame}
use Rattle.w_stands.specs.Values.{stack, store_of}
use Rattle.w_stands.specs.GoingOn.{dropped}
use Rattle.w_stands.proofs.LookedUp.{found}
use Rattle.w_stands.proofs.PlainSteps.{following, applies}
use Rattle.w_call_ops.specs.Calling.{Calls, TailCalls, Invokes}
use Rattle.w_call_ops.specs.Printing.{text_of}
use Rattle.w_control_ops.specs.Ended.{ended}
use Rattle.w_call_ops.proofs.HostCalls.{print_follows, fresh_follows}
use Rattle.w_tail_ops.proofs.HostTails.{tail_caller, tail_frame, tail_follows}
use Rattle.w_syntax.specs.declared.instructions.Instr.TheVariants as flat
use Rattle.w_syntax.specs.declared.instructions.Op.TheVariants as op
use Rattle.w_syntax.specs.declared.instructions.ControlOp.TheVariants as control
use Rattle.std.specs.declared.alloc.AllocError.{AllocError}
use Rattle.w_reduce.specs.declared.trap.Trap.{Trap}
use Rattle.w_stands.specs.declared.did.Did.{Did}
use Rattle.w_stands.specs.declared.did.Did.TheVariants as did
use Rattle.w_stands.specs.Keeps.{Keeps}
use Rattle.w_stands.specs.Steps.{MovesAt, Follows, FollowsAlone}
use Rattle.w_plain.specs.Stepped.{Takes, HasStepped}
use Rattle.w_plain.specs.declared.stop.Stop.{Stop}
use Rattle.w_plain.specs.declared.stop.Stop.TheVariants as stop
use Rattle.w_plain.specs.Plainness.{MayTake}
use Rattle.w_plain.specs.Printing.{Prints, Printed, MayStop, widened}
use Rattle.w_plain.proofs.Steps.{takes_alone}

-- nothing is written
pub grew_nothing : (held : Option (List ℕ)) → Grew held held []
grew_nothing None = refl
grew_nothing (Some bytes) = ap (λ (l : List ℕ). Some l) (sym (append-nil bytes))

-- nothing is changed
pub same_parts : (s s' : Shape) → s' ≡ s → SameParts s s'
same_parts s s' e = subst (SameParts s) (sym e) (record { levels = refl; operands = refl; func = refl; place = refl; stage = refl })

-- the function that an instruction calls is there
pub callee_there : (a popped : ℕ) (m : Module) (u : instances.Store) (s : Shape) → Calls a popped m u s → a < length u.functions
callee_there a popped m u s k =
    let mv = k.moves in
    let c = following m u s mv.p mv.o mv.e mv.r k.i mv.at mv.stage mv.here in
    let f = found (slice_get u.functions a) (λ f. invoked mv.p (store_of u) mv.e (stack (drop popped s.operands)) f (rest_of c))
    (λ q. applies m u s mv.p mv.o mv.e mv.r k.i mv.at mv.stage mv.here (k.rule mv.p mv.e c mv.at.source mv.at.program ∙ q)) in
    slice_get_within u.functions a f.item f.is

-- so is the one that a tail call names
pub tail_callee_there : (a popped : ℕ) (m : Module) (u : instances.Store) (s : Shape) → TailCalls a popped m u s → a < length u.functions
tail_callee_there a popped m u s k =
    let mv = k.moves in
    let c = following m u s mv.p mv.o mv.e mv.r k.i mv.at mv.stage mv.here in
    let f = found (slice_get u.functions a)
    (λ f. or_stuck (params_of mv.p f) (λ n. take_values n (stack (drop popped s.operands)) (λ q. around_frame mv.e (λ z. invoked mv.p (store_of u) z.2 (z.0 ⧺ q.1) f z.1))))
    (λ q. applies m u s mv.p mv.o mv.e mv.r k.i mv.at mv.stage mv.here (k.rule mv.p mv.e c mv.at.source mv.at.program ∙ q)) in
    slice_get_within u.functions a f.item f.is

-- what they print
pub call_prints : (a popped : ℕ) (h : Printer) (m : Module) (u : instances.Store) (s : Shape) → Calls a popped m u s → slice_get u.functions a ≡ Some (entry.Printer h) →
    Prints (text_of h popped s.operands) m u s
call_prints a popped h m u s k host = λ p o e r at.
    let t = print_follows m u s a popped h k host (dropped (popped + 1) s) refl p o e r at in
    (store_of u, record { around = t.around; operands = stack (dropped (popped + 1) s).operands; rest = t.rest }, t.is)

pub tail_prints : (a popped : ℕ) (h : Printer) (m : Module) (u : instances.Store) (s : Shape) → TailCalls a popped m u s → slice_get u.functions a ≡ Some (entry.Printer h) →
    Prints (text_of h popped s.operands) m u s
tail_prints a popped h m u s k host = λ p o e r at.
    let left = returned 0 (tail_caller m u s a popped h k host) (discarded (popped + 1) s) in
    let t = tail_follows m u s a popped h k host left (ended left) (λ c is. let one : Some (tail_caller m u s a popped h k host) ≡ Some c = sym (tail_frame m u s a popped h k host) ∙ is in
    let same : tail_caller m u s a popped h k host ≡ c = cc in ap (λ (z : ReturnTarget). returned 0 z (discarded (popped + 1) s)) same) refl p o e r at in
    (store_of u, record { around = t.around; operands = stack (ended left).operands; rest = t.rest }, t.is)

pub invoke_prints : (h : Printer) (m : Module) (u : instances.Store) (s : Shape) → Invokes m u s → slice_get u.functions s.func ≡ Some (entry.Printer h) →
    Prints (text_of h 0 s.operands) m u s
invoke_prints h m u s k host = λ p o e r at.
    let t = fresh_follows m u s h k host (staged Values (discarded 1 s)) refl p o e r at in
    (store_of u, record { around = t.around; operands = stack (staged Values (discarded 1 s)).operands; rest = t.rest }, t.is)

-- what may take memory may stop for want of it
pub may_stop : (e : Stop) (m : Module) (s : Shape) → MayTake m s → MayStop e m s
may_stop stop.OutOfMemory m s h = h
may_stop stop.WriteFault m s h = tt

-- ## Calls that print nothing

pub printed_alone : (d : Did) (m : Module) (u : instances.Store) (s s' : Shape) (held : Option (List ℕ)) → FollowsAlone d m s s' → Keeps s s' →
    (text : List ℕ) × Takes d m text u s u s' × Grew held held text
printed_alone d m u s s' held g k = ([], takes_alone d m u s s' g k, grew_nothing held)

pub printed_trap : (t : Trap) (m : Module) (u : instances.Store) (s : Shape) (held : Option (List ℕ)) → Follows (did.Trapped t) m [] u s u s →
    (text : List ℕ) × Takes (did.Trapped t) m text u s u s × Grew held held text
printed_trap t m u s held g = ([], record { goes = g; keeps = λ test on h k. (h, k) }, grew_nothing held)

pub printed_step : (r : Result Did AllocError) (m : Module) (u u' : instances.Store) (s s' : Shape) (held : Option (List ℕ)) → HasStepped r m u s u' s' → Printed (widened r) held held m u s u' s'
printed_step (Ok d) m u u' s s' held h = ([], h, grew_nothing held)
printed_step (Err e) m u u' s s' held h = (h.0, same_parts s s' h.1, inl refl, h.2)

-- the function that `call` names is invoked
pub call_calls : (m : Module) (u : instances.Store) (s : Shape) (x : ℕ) → MovesAt (flat.Plain (op.Control (control.Call x))) m u s → Calls x 0 m u s
call_calls m u s x k = record { i = op.Control (control.Call x); calls = refl; moves = k; there = omega arith; rule = λ p e c g h. refl }

pub printed_takes : (d : Did) (m : Module) (u u' : instances.Store) (s s' : Shape) (held : Option (List ℕ)) → Takes d m [] u s u' s' →
    (text : List ℕ) × Takes d m text u s u' s' × Grew held held text
printed_takes d m u u' s s' held h = ([], h, grew_nothing held)

-- so is the one that `return_call` names
pub call_tails : (m : Module) (u : instances.Store) (s : Shape) (x : ℕ) → MovesAt (flat.Plain (op.Control (control.ReturnCall x))) m u s → TailCalls x 0 m u s
call_tails m u s x k = record { i = op.Control (control.ReturnCall x); calls = refl; moves = k; there = omega arith; rule = λ p e c g h. refl }
