-- The values of constant expressions (Core, execution, instantiation).
use Rattle.std.specs.Prelude.{ℕ, [], Option, Some, None}
use Rattle.std.specs.Option.{option_and_then}
use Rattle.lists.specs.Rows.{Row, ε, ◌▹◌}
use Rattle.w_syntax.specs.Code.{Code, Done, Plain, Block, If, IfElse}
use Rattle.w_reduce.specs.Values.{Val, I32, Null}
use Rattle.w_reduce.specs.Store.{Store}
use Rattle.w_reduce.specs.Program.{Program}
use Rattle.w_reduce.specs.Reduced.{Reduced, Went, Trapped, Limited, Ended, Stuck}
use Rattle.w_reduce.specs.Reduce.{instruction}

-- the operands after an instruction
abbrev pub operands_after : Reduced → Option (Row Val)
operands_after (Went out s t) = Some t.operands
operands_after (Trapped t) = None
operands_after (Limited name) = None
operands_after (Ended vs) = None
operands_after Stuck = None

-- the operands after constant code, from these on: each of its instructions is reduced by itself
unfoldable pub evaluated : Program → Store → Row Val → Code → Option (Row Val)
evaluated p s vs Done = Some vs
evaluated p s vs (Plain o c) = option_and_then (λ us. evaluated p s us c) (operands_after (instruction p s [] vs o Done))
evaluated p s vs (Block k b x c) = None
evaluated p s vs (If b x c) = None
evaluated p s vs (IfElse b x y c) = None

-- the topmost operand; code that is constant and has a type leaves one
abbrev pub topmost : Option (Row Val) → Val
topmost (Some (vs ▹ v)) = v
topmost (Some ε) = Null
topmost None = Null

-- the value of a constant expression
abbrev pub value_of : Program → Store → Code → Val
value_of p s c = topmost (evaluated p s ε c)

-- the number of an offset, which is an i32
abbrev pub number_in : Val → ℕ
number_in (I32 n) = n
number_in _ = 0
