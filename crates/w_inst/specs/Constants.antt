-- Constant expressions, and what is seen of a store while their values are found.
use Rattle.std.specs.Prelude.{◌≡◌, ℕ, Bool, true, false, IsTrue, List, [], length, Option, Some, None}
use Rattle.lists.specs.Rows.{Row, row_of}
use Rattle.w_types.specs.declared.value.Value.{Value}
use Rattle.w_syntax.specs.Code.{Code, Done}
use Rattle.w_syntax.specs.declared.instructions.Instr.{Instr}
use Rattle.w_syntax.specs.declared.instructions.Instr.TheVariants as flat
use Rattle.w_syntax.specs.declared.instructions.Op.{Op}
use Rattle.w_rules.specs.Bodies.{is_const, all_const}
use Rattle.w_rules.specs.Context.{Context}
use Rattle.w_reduce.specs.Values.{Val}
use Rattle.w_reduce.specs.Store.{Store}
use Rattle.w_reduce.specs.Program.{Program}
use Rattle.w_reduce.specs.Reduce.{instruction}
use Rattle.w_reduce.specs.Constants.{operands_after}
use Rattle.w_stands.specs.Values.{vals}

-- in some context the instruction may stand in a constant expression
pub record MayBeConstant (o : Op) : Type 0 where
  pub within : Context
  pub constant : IsTrue (is_const within o)

-- in some context the expression is constant
pub record IsConstant (k : Code) : Type 0 where
  pub within : Context
  pub constant : IsTrue (all_const within k)

-- the store has so many functions, and these globals
pub record Sees (globals : List Value) (functions : ℕ) (s : Store) : Type 0 where
  pub count : length s.functions ≡ functions
  pub values : s.globals ≡ vals globals

-- operands, the topmost last, as a row
abbrev pub row : List Value → Row Val
row vs = row_of (vals vs)

-- the operands after an instruction, where a rule applied to it
abbrev pub left : Bool → List Value → Option (Row Val)
left true vs = Some (row vs)
left false vs = None

-- whatever the store has, the instruction takes the operands to these, or no rule applies to it
abbrev pub AlwaysLeaves : Op → List Value → Bool → List Value → Type 0
AlwaysLeaves o before went after = (p : Program) (s : Store) → operands_after (instruction p s [] (row before) o Done) ≡ left went after

-- and in a store of these globals and so many functions
abbrev pub Leaves : List Value → ℕ → Op → List Value → Bool → List Value → Type 0
Leaves globals functions o before went after = (p : Program) (s : Store) → Sees globals functions s
    → operands_after (instruction p s [] (row before) o Done) ≡ left went after

-- the same of what stands in a list; a mark of the nesting changes nothing
abbrev pub LeavesAt : List Value → ℕ → Instr → List Value → Bool → List Value → Type 0
LeavesAt globals functions (flat.Plain o) before went after = Leaves globals functions o before went after
LeavesAt globals functions i before went after = (went ≡ true) × (after ≡ before)
