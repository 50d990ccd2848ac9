-- Operands that an instruction takes, the topmost first, and rules that take them.
use Rattle.std.specs.Prelude.{◌≡◌, ℕ, List, [], ◌∷◌, ⊤}
use Rattle.lists.specs.Rows.{Row}
use Rattle.w_types.specs.declared.value.Value.{Value}
use Rattle.w_syntax.specs.Code.{Code}
use Rattle.w_syntax.specs.declared.numeric.IntType.{IntType}
use Rattle.w_syntax.specs.declared.instructions.Op.{Op}
use Rattle.w_reduce.specs.Values.{Val, val}
use Rattle.w_reduce.specs.Store.{Store}
use Rattle.w_reduce.specs.Terms.{Context}
use Rattle.w_reduce.specs.Program.{Program}
use Rattle.w_reduce.specs.Reduced.{Reduced, take_number, take_value}
use Rattle.w_reduce.specs.Reduce.{instruction}
use Rattle.w_stands.specs.Numbers.{IsNumber, bits_in}

-- which operand a rule takes: a number of a type, or any value
pub data Kind : Type 0 where
  Number : IntType → Kind
  Any : Kind

-- what it sees of one: the bits of a number, or the value
pub data Taken : Type 0 where
  Bits : ℕ → Taken
  Is : Val → Taken

-- operands of these kinds, and those beneath
abbrev pub taking : List Kind → Row Val → (List Taken → Row Val → Reduced) → Reduced
taking [] vs go = go [] vs
taking (Number t ∷ ks) vs go = take_number t vs (λ q. taking ks q.0 (λ xs rest. go (Bits q.1 ∷ xs) rest))
taking (Any ∷ ks) vs go = take_value vs (λ q. taking ks q.0 (λ xs rest. go (Is q.1 ∷ xs) rest))

-- what a rule comes to by the operands that it took, on those beneath
abbrev pub Going : Type 0
Going = Program → Store → Context → Code → List Taken → Row Val → Reduced

-- the rule of an instruction that takes operands of these kinds
abbrev pub IsTaking : Op → List Kind → Going → Type 0
IsTaking i ks go = (p : Program) (s : Store) (e : Context) (vs : Row Val) (c : Code) → instruction p s e vs i c ≡ taking ks vs (go p s e c)

-- ## Values of the program

-- they are of these kinds
abbrev pub AreOf : List Kind → List Value → Type 0
AreOf [] [] = ⊤
AreOf [] (v ∷ vs) = ⊥
AreOf (k ∷ ks) [] = ⊥
AreOf (Number t ∷ ks) (v ∷ vs) = IsNumber t v × AreOf ks vs
AreOf (Any ∷ ks) (v ∷ vs) = AreOf ks vs

-- what a rule sees of them
abbrev pub taken_of : List Kind → List Value → List Taken
taken_of [] vs = []
taken_of (k ∷ ks) [] = []
taken_of (Number t ∷ ks) (v ∷ vs) = Bits (bits_in v) ∷ taken_of ks vs
taken_of (Any ∷ ks) (v ∷ vs) = Is (val v) ∷ taken_of ks vs
