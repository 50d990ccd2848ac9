-- Reductions that invoke a function (Core, execution, function calls).
use Rattle.std.specs.Prelude.{◌≡◌, ◌≤◌, ℕ, true, length, drop}
use Rattle.w_syntax.specs.Code.{Code}
use Rattle.lists.specs.Rows.{Row}
use Rattle.w_syntax.specs.declared.instructions.ControlOp.{ControlOp}
use Rattle.w_syntax.specs.declared.instructions.ControlOp.TheVariants as control
use Rattle.w_syntax.specs.declared.instructions.Instr.TheVariants as flat
use Rattle.w_syntax.specs.declared.instructions.Op.{Op}
use Rattle.w_syntax.specs.declared.module.Module.{Module}
use Rattle.w_segment.specs.declared.entry.Stage.TheVariants.{Fresh}
use Rattle.w_segment.specs.Shape.{Shape}
use Rattle.w_tables.specs.Store as instances
use Rattle.w_reduce.specs.Values.{Val}
use Rattle.w_reduce.specs.Store.{Store}
use Rattle.w_reduce.specs.Reduced.{Reduced}
use Rattle.w_reduce.specs.Terms.{Rest, rest_of, Context}
use Rattle.w_reduce.specs.Program.{Program, IsProgram}
use Rattle.w_reduce.specs.Calls.{invoke, return_invoke}
use Rattle.w_reduce.specs.Entering.{is_call}
use Rattle.w_reduce.specs.Reduce.{instruction}
use Rattle.w_stands.specs.Values.{stack, store_of}
use Rattle.w_stands.specs.Steps.{Outside, Configured, MovesAt}
use Rattle.w_call_ops.specs.declared.callees.CallKind.{CallKind}
use Rattle.w_call_ops.specs.declared.callees.CallKind.TheVariants as kind

-- ## What calls go on with

-- what an instruction does with the operands that are left and the address of the function that it found
abbrev pub Onward : Type 0
Onward = Program → Store → Context → Code → Row Val × ℕ → Reduced

-- the function is invoked
abbrev pub invokes : Onward
invokes p s e c q = invoke p s e q.0 q.1 (rest_of c)

-- it is invoked in the place of the innermost frame
abbrev pub return_invokes : Onward
return_invokes p s e c q = return_invoke p s e q.0 q.1

abbrev pub onward : CallKind → Onward
onward kind.Nested = invokes
onward kind.Tail = return_invokes

-- the instruction of this kind that calls by a reference to type y
abbrev pub by_reference : CallKind → ℕ → ControlOp
by_reference kind.Nested y = control.CallRef y
by_reference kind.Tail y = control.ReturnCallRef y

-- the instruction of this kind that calls a function of type y in table x
abbrev pub by_table : CallKind → ℕ → ℕ → ControlOp
by_table kind.Nested y x = control.CallIndirect y x
by_table kind.Tail y x = control.ReturnCallIndirect y x

-- ## Functions that are called

-- The instruction that comes next goes on so with the function of address a, once so many operands are gone.
pub record GoesTo (on : Onward) (a popped : ℕ) (m : Module) (u : instances.Store) (s : Shape) : Type 0 where
  pub i : Op
  pub calls : is_call i ≡ true
  pub moves : MovesAt (flat.Plain i) m u s
  pub there : popped ≤ length s.operands
  pub rule : (p : Program) (e : Context) (c : Code) → p.source ≡ m → IsProgram p →
      instruction p (store_of u) e (stack s.operands) i c ≡ on p (store_of u) e c (stack (drop popped s.operands), a)

abbrev pub Calls : ℕ → ℕ → Module → instances.Store → Shape → Type 0
Calls = GoesTo invokes

abbrev pub TailCalls : ℕ → ℕ → Module → instances.Store → Shape → Type 0
TailCalls = GoesTo return_invokes

-- The function that a fresh segment invokes comes next, by its address, with the segment's operands as arguments.
pub record Invokes (m : Module) (u : instances.Store) (s : Shape) : Type 0 where
  pub stage : s.stage ≡ Fresh
  pub p : Program
  pub o : Outside
  pub e : Context
  pub r : Rest
  pub at : Configured m u s p o e r
