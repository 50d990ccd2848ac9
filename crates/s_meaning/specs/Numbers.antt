-- The numbers of scripts: signed, of 64 bits.
use Rattle.std.specs.Prelude.{ℕ, zero, suc, ◌-◌, ◌^◌, ℤ, pos, negsuc, ◌+ℤ◌, int_div, int_rem, int_lt, int_le, Bool, true, false, not, ◌&&◌, ◌||◌, List, ◌∷◌, [], ◌++◌, if◌then◌else◌}
use Rattle.std.proofs.Math.IntN.{◌-ℤ◌, ◌*ℤ◌, neg_ℤ}
use Rattle.std.specs.Int.{w64, int_wrap}
use Rattle.std.specs.Ordering.{int_eq}
use Rattle.std.specs.Fmt.{signed_decimal}
use Rattle.s_syntax.specs.declared.name.Name.{Name}
use Rattle.s_syntax.specs.declared.operators.UnaryOperator.{UnaryOperator}
use Rattle.s_syntax.specs.declared.operators.Connective.{Connective}
use Rattle.s_syntax.specs.declared.operators.Comparison.{Comparison}
use Rattle.s_syntax.specs.declared.operators.Arithmetic.{Arithmetic}
use Rattle.s_syntax.specs.declared.operators.BinaryOperator.{BinaryOperator}
use Rattle.s_syntax.specs.declared.operators.UnaryOperator.TheVariants.{Minus, Not}
use Rattle.s_syntax.specs.declared.operators.Connective.TheVariants.{Or, And}
use Rattle.s_syntax.specs.declared.operators.Comparison.TheVariants.{Equal, NotEqual, Less, AtMost, Greater, AtLeast}
use Rattle.s_syntax.specs.declared.operators.Arithmetic.TheVariants.{Add, Subtract, Multiply, Divide, Remainder}
use Rattle.s_syntax.specs.declared.operators.BinaryOperator.TheVariants.{Connects, Compares, Computes}

pub data Fault : Type 0 where
  DivZero Overflow Failed Reused Empty : Fault
  Unhandled : (op : Name) → Fault

abbrev pub least : ℤ
least = negsuc (2 ^ 63 - 1)

abbrev pub minus_one : ℤ
minus_one = negsuc 0

-- the number modulo 2^64, from -2^63 to 2^63 - 1
abbrev pub wrap : ℤ → ℤ
wrap z = int_wrap w64 z

-- a condition holds when it isn't 0
abbrev pub holds : ℤ → Bool
holds (pos zero) = false
holds (pos (suc n)) = true
holds (negsuc n) = true

abbrev pub truth : Bool → ℤ
truth b = if b then pos 1 else pos 0

abbrev pub unary : UnaryOperator → ℤ → ℤ
unary Minus a = wrap (neg_ℤ a)
unary Not a = truth (not (holds a))

abbrev pub connect : Connective → Bool → Bool → Bool
connect And a b = a && b
connect Or a b = a || b

-- the left side of && decides where it doesn't hold, that of || where it holds
abbrev pub decided : Connective → ℤ → Bool
decided And a = not (holds a)
decided Or a = holds a

abbrev pub compare : Comparison → ℤ → ℤ → Bool
compare Equal a b = int_eq a b
compare NotEqual a b = not (int_eq a b)
compare Less a b = int_lt a b
compare AtMost a b = int_le a b
compare Greater a b = int_lt b a
compare AtLeast a b = int_le b a

pub data Computed : Type 0 where
  Is : ℤ → Computed
  Faulty : Fault → Computed

abbrev pub unless_zero : ℤ → Computed → Computed
unless_zero b c = if holds b then c else Faulty DivZero

-- + - * wrap; / truncates, and so does the division of %
abbrev pub compute : Arithmetic → ℤ → ℤ → Computed
compute Add a b = Is (wrap (a +ℤ b))
compute Subtract a b = Is (wrap (a -ℤ b))
compute Multiply a b = Is (wrap (a *ℤ b))
compute Divide a b = unless_zero b (if int_eq a least && int_eq b minus_one then Faulty Overflow else Is (int_div a b))
compute Remainder a b = unless_zero b (Is (int_rem a b))

abbrev pub operate : BinaryOperator → ℤ → ℤ → Computed
operate (Connects c) a b = Is (truth (connect c (holds a) (holds b)))
operate (Compares c) a b = Is (truth (compare c a b))
operate (Computes o) a b = compute o a b

-- what print writes: the number, and LF
abbrev pub line : ℤ → List ℕ
line n = signed_decimal n ++ 10 ∷ []
