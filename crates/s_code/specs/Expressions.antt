-- The code of expressions. Each function takes the code that comes after, so that no two sequences are put together.
use Rattle.std.specs.Prelude.{ℕ, zero, suc, ◌+◌, pos, List, Option, Some, None, if◌then◌else◌}
use Rattle.w_syntax.specs.Code.{Code, Plain}
use Rattle.s_syntax.specs.declared.name.Name.{Name}
use Rattle.s_syntax.specs.declared.operators.BinaryOperator.{BinaryOperator}
use Rattle.s_syntax.specs.declared.operators.BinaryOperator.TheVariants.{Connects, Compares, Computes}
use Rattle.s_syntax.specs.declared.script.Declaration.{Declaration}
use Rattle.s_syntax.specs.ExprTree.{ExprTree, Literal, Read, Unary, Run, Call, Do, Handle, Resume, Group, Exprs, NoExprs, MoreExprs, Operands, NoOperands, MoreOperands}
use Rattle.s_check.specs.Rules.{count}
use Rattle.s_index.specs.Numbers.{function_index, handler_index, tag_index}
use Rattle.s_index.specs.Indices.{continuation_index}
use Rattle.s_index.specs.Types.{resumption_type, computation_type}
use Rattle.s_code.specs.Instructions.{constant, call, local_get, local_set, nop, function_reference, new_continuation, bind_continuation, suspend, branch, truth, unary_operator, connective, comparison, arithmetic}
use Rattle.s_code.specs.Coroutines.{group_code}
use Rattle.s_code.specs.Layouts.{Layout, local_number, handler_of_name, stays, slot, owner_parameters}

-- arguments that lie in their places, put on the stack
abbrev pub reload : Layout → ℕ → Exprs → Code → Code
reload Γ t NoExprs c = c
reload Γ t (MoreExprs e es) c = Plain (local_get (slot Γ t e)) (reload Γ (t + 1) es c)

-- a computation that is ready to run, of a function whose arguments are on the stack
abbrev pub begin : List Declaration → Name → Code → Code
begin ds f c =
    Plain (function_reference (function_index ds f))
    (Plain (new_continuation (continuation_index ds f)) (Plain (bind_continuation (continuation_index ds f) computation_type) c))

-- the handler of a resumption
abbrev pub handler_index_of : List Declaration → Option Name → ℕ
handler_index_of ds None = 0
handler_index_of ds (Some h) = handler_index ds h

-- a computation that is ready to run, of a resumption that gets the number on the stack; it is consumed here
abbrev pub wake : Layout → Name → Code → Code
wake Γ k c = Plain (local_get (local_number Γ k)) (Plain (bind_continuation resumption_type computation_type) c)

-- an argument put where it lies until all arguments are there, t temporaries being in use; `value` is its code before what is given to it
abbrev pub aside : Layout → ℕ → ExprTree → (value : Code → Code) → Code → Code
aside Γ t e value c = if stays Γ e then Plain nop c else value (Plain (local_set (Γ.temporaries + t)) c)

-- an operator behind its left operand; `right` is the code of its right one before what is given to it
abbrev pub operator : BinaryOperator → (right : Code → Code) → Code → Code
operator (Connects o) right c = connective o (right truth) c
operator (Compares o) right c = right (comparison o c)
operator (Computes o) right c = right (arithmetic o c)

abbrev mutual
  -- an expression before c, where t temporaries are in use
  pub expr : List Declaration → Layout → ℕ → ExprTree → Code → Code
  expr ds Γ t (Literal n) c = Plain (constant (pos n.value)) c
  expr ds Γ t (Read x) c = Plain (local_get (local_number Γ x)) c
  expr ds Γ t (Unary o e) c = expr ds Γ t e (unary_operator o c)
  expr ds Γ t (Run e ps) c = expr ds Γ t e (operands ds Γ t ps c)
  expr ds Γ t (Call f es) c = args ds Γ t es (Plain (call (function_index ds f)) c)
  expr ds Γ t (Do op es) c = args ds Γ t es (Plain (suspend (tag_index ds op)) c)
  expr ds Γ t (Handle f es h ps) c =
      set_aside ds Γ t es (args ds Γ (t + count es) ps (reload Γ t es (begin ds f (Plain (call (handler_index ds h)) c))))
  expr ds Γ t (Resume k e ps) c =
      expr ds Γ t e
      (Plain (local_set (Γ.temporaries + t))
      (args ds Γ (t + 1) ps (Plain (local_get (Γ.temporaries + t)) (wake Γ k (Plain (call (handler_index_of ds (handler_of_name Γ k))) c)))))
  expr ds Γ t (Group f e) c = expr ds Γ t e (group_code ds f c)

  pub args : List Declaration → Layout → ℕ → Exprs → Code → Code
  args ds Γ t NoExprs c = c
  args ds Γ t (MoreExprs e es) c = expr ds Γ t e (args ds Γ t es c)

  -- arguments, each put where it lies until all are there
  pub set_aside : List Declaration → Layout → ℕ → Exprs → Code → Code
  set_aside ds Γ t NoExprs c = c
  set_aside ds Γ t (MoreExprs e es) c =
      aside Γ t e (λ (k : Code). expr ds Γ t e k) (set_aside ds Γ (t + 1) es c)

  -- operators behind their left operand
  pub operands : List Declaration → Layout → ℕ → Operands → Code → Code
  operands ds Γ t NoOperands c = c
  operands ds Γ t (MoreOperands o e ps) c = operator o (λ (k : Code). expr ds Γ t e k) (operands ds Γ t ps c)

-- ## Tail resumes

-- the first n locals set from the stack, the last one first
abbrev pub set_parameters : ℕ → Code → Code
set_parameters zero c = c
set_parameters (suc n) c = Plain (local_set n) (set_parameters n c)

-- `return resume k(e) with (ps)` in a clause of k's own handler, D labels inside its loop: the next turn of the loop
abbrev pub tail_resume : List Declaration → Layout → ℕ → Name → ExprTree → Exprs → Code → Code
tail_resume ds Γ D k e ps c =
    expr ds Γ 0 e
    (Plain (local_set Γ.temporaries)
    (args ds Γ 1 ps
    (Plain (local_get Γ.temporaries)
    (wake Γ k (Plain (local_set (owner_parameters Γ.owner)) (set_parameters (owner_parameters Γ.owner) (Plain (branch D) c)))))))
