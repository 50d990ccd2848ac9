-- The code of statements. D is the number of labels around them in their function; in a handler's, inside its loop.
use Rattle.std.specs.Prelude.{ℕ, ◌+◌, pos, List, if◌then◌else◌}
use Rattle.w_syntax.specs.Code.{Code, Done, Plain, Block}
use Rattle.w_syntax.specs.declared.instructions.BlockKind.TheVariants as kind
use Rattle.w_syntax.specs.declared.instructions.BlockType.TheVariants as block_type
use Rattle.s_syntax.specs.declared.script.Declaration.{Declaration}
use Rattle.s_syntax.specs.ExprTree.{ExprTree, Call, Resume}
use Rattle.s_syntax.specs.declared.statement.Use.{Use}
use Rattle.s_syntax.specs.declared.statement.Use.TheVariants as use_for
use Rattle.s_syntax.specs.BlockTree.{StatementTree, BlockTree, Evaluate, If, While, Fail, Spawn, Done as NoStatements, ◌⨟◌}
use Rattle.s_index.specs.Numbers.{function_index}
use Rattle.s_code.specs.Instructions.{constant, is_zero, call, return_call, local_set, unreachable, branch, branch_if, leave, dropped, if_zero}
use Rattle.s_code.specs.Layouts.{Layout, local_number, is_own}
use Rattle.s_code.specs.Expressions.{expr, args, tail_resume}
use Rattle.s_code.specs.Slots.{store_code, take_code}
use Rattle.s_code.specs.Coroutines.{spawn_code, switch_code}

-- the function that prints
abbrev pub printer : ℕ
printer = 0

-- a call of a function is a tail call
abbrev pub return : List Declaration → Layout → ℕ → ExprTree → Code → Code
return ds Γ D (Resume k e ps) c = if is_own Γ k then tail_resume ds Γ D k e ps c else expr ds Γ 0 (Resume k e ps) (Plain leave c)
return ds Γ D (Call f es) c = args ds Γ 0 es (Plain (return_call (function_index ds f)) c)
return ds Γ D e c = expr ds Γ 0 e (Plain leave c)

-- an expression, and then what its value is used for
abbrev pub evaluate : List Declaration → Layout → ℕ → Use → ExprTree → Code → Code
evaluate ds Γ D (use_for.Let x) e c = expr ds Γ 0 e (Plain (local_set (local_number Γ x)) c)
evaluate ds Γ D (use_for.Assign x) e c = expr ds Γ 0 e (Plain (local_set (local_number Γ x)) c)
evaluate ds Γ D use_for.Print e c = expr ds Γ 0 e (Plain (call printer) c)
evaluate ds Γ D use_for.Return e c = return ds Γ D e c
evaluate ds Γ D use_for.Drop e c = expr ds Γ 0 e (Plain dropped c)
evaluate ds Γ D (use_for.Store s k) e c = expr ds Γ 0 e (store_code ds Γ s k c)
evaluate ds Γ D (use_for.Take k s) e c = expr ds Γ 0 e (take_code ds Γ k s c)
evaluate ds Γ D (use_for.Switch x u t) e c = expr ds Γ 0 e (switch_code ds Γ x u t c)

abbrev mutual
  pub statement : List Declaration → Layout → ℕ → StatementTree → Code → Code
  statement ds Γ D (Evaluate u e) c = evaluate ds Γ D u e c
  statement ds Γ D (If e a b) c = expr ds Γ 0 e (if_zero (block ds Γ (D + 1) b Done) (block ds Γ (D + 1) a Done) c)
  statement ds Γ D (While e b) c =
      Block kind.Block block_type.Empty
      (Block kind.Loop block_type.Empty
      (expr ds Γ 0 e (Plain is_zero (Plain (branch_if 1) (block ds Γ (D + 2) b (Plain (branch 0) Done))))) Done) c
  statement ds Γ D Fail c = Plain unreachable c
  statement ds Γ D (Spawn t f) c = spawn_code ds Γ t f c

  pub block : List Declaration → Layout → ℕ → BlockTree → Code → Code
  block ds Γ D NoStatements c = c
  block ds Γ D (s ⨟ b) c = statement ds Γ D s (block ds Γ D b c)

-- a body that runs to its end returns 0
abbrev pub ending : Code
ending = Plain (constant (pos 0)) (Plain leave Done)

abbrev pub body : List Declaration → Layout → ℕ → BlockTree → Code
body ds Γ D b = block ds Γ D b ending
