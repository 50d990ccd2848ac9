-- The reduction rules (Core, execution). A chapter has its rules in a file of its own, each with the rule as the standard
-- writes it; here they are one reduction of a term. In brackets stand the names that rules have in the specification's own source
-- (SpecTec), where Step/pure, Step/read and the rules of contexts, Step/ctxt-*, are `reduce` itself. The explainer names no rules.
use Rattle.std.specs.Prelude.{List, [], ◌∷◌, Option, Some, None}
use Rattle.lists.specs.Rows.{Row}
use Rattle.w_syntax.specs.Code.{Code, Done, Plain, Block, If, IfElse}
use Rattle.w_syntax.specs.declared.instructions.Op.{Op}
use Rattle.w_syntax.specs.declared.instructions.Op.TheVariants as op
use Rattle.w_reduce.specs.declared.limit.RunLimit.{RunLimit}
use Rattle.w_reduce.specs.Values.{Val}
use Rattle.w_reduce.specs.Store.{Store}
use Rattle.w_reduce.specs.Terms.{Administrative, Invoke, Branch, Context, Term}
use Rattle.w_reduce.specs.Program.{Program}
use Rattle.w_reduce.specs.Reduced.{Reduced, Went, Trapped, Limited, Ended, Stuck}
use Rattle.w_reduce.specs.Numeric.{numeric_op}
use Rattle.w_reduce.specs.Parametric.{parametric_op}
use Rattle.w_reduce.specs.Variable.{variable_op}
use Rattle.w_reduce.specs.Reference.{reference_op}
use Rattle.w_reduce.specs.Switching.{switching_op}
use Rattle.w_reduce.specs.Memories.{memory_op}
use Rattle.w_reduce.specs.Tables.{table_op}
use Rattle.w_reduce.specs.Branches.{block, choice, branch}
use Rattle.w_reduce.specs.Calls.{invoke}
use Rattle.w_reduce.specs.Control.{control_op}
use Rattle.w_reduce.specs.Exits.{leave}
use Rattle.w_reduce.specs.Limits.{passed}

-- an instruction that holds no others, with the code behind it
abbrev pub instruction : Program → Store → Context → Row Val → Op → Code → Reduced
instruction p s e vs (op.Control o) c = control_op p s e vs o c
instruction p s e vs (op.Parametric o) c = parametric_op s e vs o c
instruction p s e vs (op.Variable o) c = variable_op s e vs o c
instruction p s e vs (op.Memory o) c = memory_op s e vs o c
instruction p s e vs (op.Table o) c = table_op s e vs o c
instruction p s e vs (op.Numeric o) c = numeric_op s e vs o c
instruction p s e vs (op.Reference o) c = reference_op s e vs o c
instruction p s e vs (op.Switching o) c = switching_op p s e vs o c

-- what comes next at the hole of a context
abbrev pub next : Program → Store → Context → Row Val → List Administrative → Code → Reduced
next p s e vs (Invoke a ∷ ahead) c = invoke p s e vs a (record { ahead = ahead; code = c })
-- (br l)
next p s e vs (Branch l ∷ ahead) c = branch s l e vs
next p s e vs [] (Plain o c) = instruction p s e vs o c
next p s e vs [] (Block k b x c) = block p s e vs k b x c
next p s e vs [] (If b x c) = choice p s e vs b x Done c
next p s e vs [] (IfElse b x y c) = choice p s e vs b x y c
next p s e vs [] Done = leave s e vs

abbrev pub unless_passed : Option RunLimit → Reduced → Reduced
unless_passed None r = r
unless_passed (Some name) r = Limited name

-- a result that passes a limit is none
abbrev pub limited : Reduced → Reduced
limited (Went out s t) = unless_passed (passed s t.around) (Went out s t)
limited (Trapped t) = Trapped t
limited (Limited name) = Limited name
limited (Ended vs) = Ended vs
limited Stuck = Stuck

-- one reduction of a term
abbrev pub reduce : Program → Store → Term → Reduced
reduce p s t = limited (next p s t.around t.operands t.rest.ahead t.rest.code)
