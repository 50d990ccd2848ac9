-- Calls: of the reductions that switch no stacks they alone enter a frame.
use Rattle.std.specs.Prelude.{◌≡◌, ◌≤◌, ℕ, Bool, true, false, List, [], ◌∷◌}
use Rattle.lists.specs.Rows.{Row}
use Rattle.w_syntax.specs.Code.{Code, Plain}
use Rattle.w_syntax.specs.declared.instructions.ControlOp.TheVariants as control
use Rattle.w_syntax.specs.declared.instructions.Op.{Op}
use Rattle.w_syntax.specs.declared.instructions.Op.TheVariants as op
use Rattle.w_reduce.specs.Values.{Val}
use Rattle.w_reduce.specs.Store.{Store}
use Rattle.w_reduce.specs.Terms.{Administrative, Invoke, Branch, Context, Term, frames}
use Rattle.w_reduce.specs.Program.{Program}
use Rattle.w_reduce.specs.Reduced.{Went}
use Rattle.w_reduce.specs.Reduce.{next}
use Rattle.w_reduce.specs.Apart.{switches}

-- whether an instruction calls a function
abbrev pub is_call : Op → Bool
is_call (op.Control (control.Call x)) = true
is_call (op.Control (control.CallIndirect y x)) = true
is_call (op.Control (control.CallRef y)) = true
is_call (op.Control (control.ReturnCall x)) = true
is_call (op.Control (control.ReturnCallIndirect y x)) = true
is_call (op.Control (control.ReturnCallRef y)) = true
is_call o = false

-- whether what comes next does
abbrev pub calls : List Administrative → Code → Bool
calls (Invoke a ∷ ahead) k = true
calls (Branch l ∷ ahead) k = false
calls [] (Plain o k) = is_call o
calls [] k = false

-- where nothing is called, what it leads to stands in no more frames
abbrev pub OnlyCallsAddFrames : Type 0
OnlyCallsAddFrames = (p : Program) (s : Store) (e : Context) (vs : Row Val) (ahead : List Administrative) (k : Code) → switches ahead k ≡ false → calls ahead k ≡ false
    → (out : List ℕ) (v : Store) (t : Term) → next p s e vs ahead k ≡ Went out v t → frames t.around ≤ frames e
