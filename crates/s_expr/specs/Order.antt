-- That tokens are in order has one proof at most, so that a struct can keep it.
use mathlib.Core.HLevel.{×₃_prop}
use Rattle.std.specs.Prelude.{ℕ, List, [], ◌∷◌}
use Rattle.std.specs.Coded.{le_prop}
use Rattle.s_syntax.specs.declared.token.Token.{Token}
use Rattle.s_lex.specs.Lexes.{AreInOrder}

pub AreInOrder-prop : (from to : ℕ) (ts : List Token) → IsProp (AreInOrder from to ts)
AreInOrder-prop from to [] = le_prop
AreInOrder-prop from to (t ∷ ts) = ×₃_prop le_prop le_prop (AreInOrder-prop t.end to ts)
