-- Whether value types match value types, told by the operands that are left: the same test as that of result types.
use Rattle.std.proofs.Common.{◌≡◌, Bool, true, false, ◌&&◌, List, [], ◌∷◌, ◌++◌, Option, None, if◌then◌else◌, refl, sym, ◌∙◌, ap}
use Rattle.w_types.specs.declared.types.ValType.{ValType}
use Rattle.lists.specs.Rows.{Row, ε, ◌▹◌, listed, row_of}
use Rattle.lists.proofs.Rows.{listed-row_of}
use Rattle.w_canon.specs.declared.entry.Entry.{Entry}
use Rattle.w_canon.specs.Tests.{pairwise_test, val_test, result_test}
use Rattle.w_rules.specs.Operands.{Operand}
use Rattle.w_rules.specs.Matching.{known}
use Rattle.w_flow.specs.Flow.{pops, none_left, ends}

-- the second of two tests goes first
and_swap : (b d : Bool) → b && d ≡ d && b
and_swap true true = refl
and_swap true false = refl
and_swap false true = refl
and_swap false false = refl

-- three tests
and_assoc : (b d e : Bool) → b && (d && e) ≡ (b && d) && e
and_assoc true d e = refl
and_assoc false d e = refl

-- a test and a false one
and_false : (b : Bool) → b && false ≡ false
and_false true = refl
and_false false = refl

module _ (f : ValType → ValType → Bool) where
  -- a longer list does not match one value
  one_and_more : (x y : ValType) (ys : List ValType) (z : ValType) → pairwise_test f (x ∷ []) (y ∷ (ys ++ z ∷ [])) ≡ false
  one_and_more x y [] z = and_false (f x y)
  one_and_more x y (w ∷ ys) z = and_false (f x y)

  -- nor does one value a longer list
  more_and_one : (x : ValType) (xs : List ValType) (z y : ValType) → pairwise_test f (x ∷ (xs ++ z ∷ [])) (y ∷ []) ≡ false
  more_and_one x [] z y = and_false (f x y)
  more_and_one x (w ∷ xs) z y = and_false (f x y)

  -- lists with one more value at their ends
  pairwise_last : (xs ys : List ValType) (x y : ValType) → pairwise_test f (xs ++ x ∷ []) (ys ++ y ∷ []) ≡ f x y && pairwise_test f xs ys
  pairwise_last [] [] x y = refl
  pairwise_last [] (w ∷ ys) x y = one_and_more x w ys y ∙ sym (and_false (f x y))
  pairwise_last (w ∷ xs) [] x y = more_and_one w xs x y ∙ sym (and_false (f x y))
  pairwise_last (v ∷ xs) (w ∷ ys) x y =
      ap (λ (b : Bool). f v w && b) (pairwise_last xs ys x y) ∙ and_assoc (f v w) (f x y) (pairwise_test f xs ys)
      ∙ ap (λ (b : Bool). b && pairwise_test f xs ys) (and_swap (f v w) (f x y)) ∙ sym (and_assoc (f x y) (f v w) (pairwise_test f xs ys))

  -- nor does a longer list the empty one
  none_and_more : (ys : List ValType) (y : ValType) → pairwise_test f [] (ys ++ y ∷ []) ≡ false
  none_and_more [] y = refl
  none_and_more (w ∷ ys) y = refl

  -- nor the empty one it
  more_and_none : (xs : List ValType) (x : ValType) → pairwise_test f (xs ++ x ∷ []) [] ≡ false
  more_and_none [] x = refl
  more_and_none (w ∷ xs) x = refl

-- nothing is left behind a test
left_and : (b : Bool) (o : Option (Row Operand)) → none_left (if b then o else None) ≡ b && none_left o
left_and true o = refl
left_and false o = refl

-- the same of rows
ends_rows : (es : List Entry) (ts us : Row ValType) → ends es false (known ts) us ≡ result_test es (listed ts) (listed us)
ends_rows es ε ε = refl
ends_rows es ε (us ▹ u) = sym (none_and_more (val_test es) (listed us) u)
ends_rows es (ts ▹ t) ε = sym (more_and_none (val_test es) (listed ts) t)
ends_rows es (ts ▹ t) (us ▹ u) =
    left_and (val_test es t u) (pops es false (known ts) us) ∙ ap (λ (b : Bool). val_test es t u && b) (ends_rows es ts us)
    ∙ sym (pairwise_last (val_test es) (listed ts) (listed us) t u)

-- the operands of one list are those of the other exactly where the result types match
pub ends_listed : (es : List Entry) (ts us : List ValType) → ends es false (known (row_of ts)) (row_of us) ≡ result_test es ts us
ends_listed es ts us = ends_rows es (row_of ts) (row_of us) ∙ ap (λ (xs : List ValType). result_test es xs (listed (row_of us))) (listed-row_of ts)
    ∙ ap (λ (ys : List ValType). result_test es ts ys) (listed-row_of us)
