-- Calls on a stack alone, and on a stack with a store, said in one way.
use Rattle.std.proofs.Common.{◌≡◌, ℕ, true, List, [], Option, sym, subst}
use Rattle.w_syntax.specs.declared.instructions.Instr.{Instr}
use Rattle.w_syntax.specs.declared.instructions.Instr.TheVariants as flat
use Rattle.w_syntax.specs.declared.instructions.Op.{Op}
use Rattle.w_syntax.specs.declared.instructions.Op.TheVariants as op
use Rattle.w_syntax.specs.declared.module.Module.{Module}
use Rattle.w_segment.specs.declared.entry.Stage.{Stage}
use Rattle.w_segment.specs.Shape.{Shape}
use Rattle.w_tables.specs.Store as instances
use Rattle.w_reduce.specs.Entering.{is_call}
use Rattle.w_reduce.specs.Room.{takes_memory}
use Rattle.w_stands.specs.Code.{instr_of}
use Rattle.w_stands.specs.declared.did.Did.{Did}
use Rattle.w_stands.specs.Keeps.{Keeps}
use Rattle.w_stands.specs.Steps.{MovesAt, MovesAlone, Follows, FollowsAlone}
use Rattle.w_call_ops.specs.Calling.{Onward, GoesTo, Invokes}
use Rattle.w_plain.specs.Plainness.{takes_at, MayTakeAt, MayTake}
use Rattle.w_plain.specs.Stepped.{Takes}

-- where a rule applies to a stack with a store, one applies to the stack
pub alone : {i : Instr} {m : Module} {u : instances.Store} {s : Shape} → MovesAt i m u s → MovesAlone i m s
alone {u = u} k = record { u = u; moves = k }

-- a call on the stack alone leaves the store
pub takes_alone : (d : Did) (m : Module) (u : instances.Store) (s s' : Shape) → FollowsAlone d m s s' → Keeps s s' → Takes d m [] u s u s'
takes_alone d m u s s' g k = record { goes = g u; keeps = λ test on h g. (h, k test on g) }

-- one that reads the store, and may print
pub takes_stack : (d : Did) (m : Module) (text : List ℕ) (u : instances.Store) (s s' : Shape) → Follows d m text u s u s' → Keeps s s' → Takes d m text u s u s'
takes_stack d m text u s s' g k = record { goes = g; keeps = λ test on h g. (h, k test on g) }

-- an instruction that may take memory stands there
pub may_take : {m : Module} {u : instances.Store} {s : Shape} {o : Op} → MovesAt (flat.Plain o) m u s → takes_memory o ≡ true → MayTake m s
may_take {m} {u} {s} {o} k h =
    subst (λ (x : Stage). MayTakeAt x (instr_of m s.func s.place)) (sym k.stage) (subst (λ (i : Option Instr). takes_at i ≡ true) (sym k.here) h)

-- one that calls a function does
call_takes : (o : Op) → is_call o ≡ true → takes_memory o ≡ true
call_takes (op.Control o) h = h
call_takes (op.Parametric o) h = absurd (cc)
call_takes (op.Variable o) h = absurd (cc)
call_takes (op.Table o) h = absurd (cc)
call_takes (op.Memory o) h = absurd (cc)
call_takes (op.Numeric o) h = absurd (cc)
call_takes (op.Reference o) h = absurd (cc)
call_takes (op.Switching o) h = absurd (cc)

pub calls_take : {on : Onward} {m : Module} {u : instances.Store} {s : Shape} {a popped : ℕ} → GoesTo on a popped m u s → MayTake m s
calls_take k = may_take k.moves (call_takes k.i k.calls)

-- so does the invoke of a fresh segment
pub invokes_take : {m : Module} {u : instances.Store} {s : Shape} → Invokes m u s → MayTake m s
invokes_take {m} {u} {s} k = subst (λ (x : Stage). MayTakeAt x (instr_of m s.func s.place)) (sym k.stage) tt
