-- Rows of lists, from the end of the list.
use Rattle.std.proofs.Common.{◌≡◌, ℕ, zero, suc, ◌+◌, ◌-◌, ◌<◌, ◌≤◌, Bool, true, false, List, [], ◌∷◌, ◌++◌, length, length-take, map, take, get_or, nat_eq, Some, None, if◌then◌else◌, refl, sym, ◌∙◌, ap, arith}
use Rattle.std.proofs.lemmas.List.{map-append, take_more}
use Rattle.std.proofs.Math.Dec.{eqb-suc-zero}
use Rattle.w_types.specs.declared.types.ValType.{ValType}
use Rattle.lists.specs.Rows.{Row, ε, ◌▹◌, ◌⧺◌, size, row_of}
use Rattle.lists.proofs.Rows.{row_of-append, row_of-more, size-row_of, unit_left}
use Rattle.w_canon.specs.declared.entry.Entry.{Entry}
use Rattle.w_rules.specs.Operands.{Operand as TheType, Known}
use Rattle.w_rules.specs.Matching.{known}
use Rattle.w_rows.specs.Operands.{type_of, types_of, row_in}
use Rattle.w_rows.specs.declared.operand.Operand.{Operand}
use Rattle.w_rows.proofs.WordedOperands.{row_more_in, types_length}
use Rattle.w_flow.specs.Flow.{operand_test, pops, none_left}
use Rattle.w_flow.proofs.SameTypes.{row_of_known}

-- one more at the end of a list is the topmost of its row
pub row_more : {A : Type 0} (xs : List A) (x : A) → row_of (xs ++ x ∷ []) ≡ row_of xs ▹ x
row_more xs x = row_of-more xs x

-- a list's row is as long
pub row_length : {A : Type 0} (xs : List A) → size (row_of xs) ≡ length xs
row_length xs = size-row_of xs

-- the topmost of the first items of a list
pub row_front : {A : Type 0} (xs : List A) (i : ℕ) (d : A) → i < length xs → row_of (take (i + 1) xs) ≡ row_of (take i xs) ▹ get_or xs i d
row_front xs i d h = ap row_of (take_more xs i d h) ∙ row_of-more (take i xs) (get_or xs i d)

-- one more type that is given
pub known_front : (types : List ValType) (i : ℕ) (d : ValType) → i < length types →
    known (row_of (take (i + 1) types)) ≡ known (row_of (take i types)) ▹ Known (get_or types i d)
known_front types i d h = ap known (row_front types i d h)

-- ## Taking types from the last on

-- where no operands are left
pub pops_nothing : (es : List Entry) (p : Bool) (us : Row ValType) → 0 < size us → pops es p ε us ≡ (if p then Some ε else None)
pops_nothing es p ε h = absurd (omega arith)
pops_nothing es false (us ▹ u) h = refl
pops_nothing es true (ε ▹ u) h = refl
pops_nothing es true (us ▹ v ▹ u) h = pops_nothing es true (us ▹ v) (omega arith)

-- the topmost of the first operands
row_front_in : (xs : List Operand) (i : ℕ) (d : Operand) → i < length xs → row_in (take (i + 1) xs) ≡ row_in (take i xs) ▹ type_of (get_or xs i d)
row_front_in xs i d h = ap row_in (take_more xs i d h) ∙ row_more_in (take i xs) (get_or xs i d)

module _ (es : List Entry) (p : Bool) (operands : List Operand) (wanted : List ValType) (n i : ℕ) where
  -- where types are left and no operands
  pub none_there : n ≡ 0 → 0 < i → i ≤ length wanted → pops es p (row_in (take n operands)) (row_of (take i wanted)) ≡ (if p then Some ε else None)
  none_there z h k =
      ap (λ (m : ℕ). pops es p (row_in (take m operands)) (row_of (take i wanted))) z
      ∙ pops_nothing es p (row_of (take i wanted)) (omega (arith, size-row_of (take i wanted), length-take i wanted))

  -- the last of each are compared
  pub compared : (d : Operand) (e : ValType) → 0 < n → n ≤ length operands → 0 < i → i ≤ length wanted →
      pops es p (row_in (take n operands)) (row_of (take i wanted))
      ≡ (if operand_test es (type_of (get_or operands (n - 1) d)) (get_or wanted (i - 1) e) then pops es p (row_in (take (n - 1) operands)) (row_of (take (i - 1) wanted)) else None)
  compared d e h k j l =
      let a : row_in (take n operands) ≡ row_in (take (n - 1) operands) ▹ type_of (get_or operands (n - 1) d) =
      ap (λ (m : ℕ). row_in (take m operands)) (omega arith) ∙ row_front_in operands (n - 1) d (omega arith) in
      let b : row_of (take i wanted) ≡ row_of (take (i - 1) wanted) ▹ get_or wanted (i - 1) e =
      ap (λ (m : ℕ). row_of (take m wanted)) (omega arith) ∙ row_front wanted (i - 1) e (omega arith) in
      ap (λ (r : Row TheType). pops es p r (row_of (take i wanted))) a
      ∙ ap (λ (r : Row ValType). pops es p (row_in (take (n - 1) operands) ▹ type_of (get_or operands (n - 1) d)) r) b

-- a test that is known
pub decided : {A : Type 0} (b c : Bool) (o q : A) → b ≡ c → (if b then o else q) ≡ (if c then o else q)
decided b c o q e = ap (λ (x : Bool). if x then o else q) e

-- a row of no operands has none
none_by_size : (r : Row TheType) (n : ℕ) → size r ≡ n → nat_eq n 0 ≡ none_left (Some r)
none_by_size ε zero h = refl
none_by_size ε (suc n) h = absurd (omega arith)
none_by_size (r ▹ t) zero h = absurd (omega arith)
none_by_size (r ▹ t) (suc n) h = eqb-suc-zero n

-- none of the first operands are left where they are none
pub none_first : (operands : List Operand) (n : ℕ) → n ≤ length operands → nat_eq n 0 ≡ none_left (Some (row_in (take n operands)))
none_first operands n h = none_by_size (row_in (take n operands)) n (omega (arith, size-row_of (types_of (take n operands)), types_length (take n operands), length-take n operands))

-- where no types are wanted, there may be no operands
pub none_wanted_last : (es : List Entry) (p : Bool) (xs : List Operand) (us : List ValType) (n : ℕ) → n ≡ length xs → nat_eq (length us) 0 ≡ true →
    nat_eq n 0 ≡ none_left (pops es p (row_in xs) (row_of us))
none_wanted_last es p xs [] n e h = none_by_size (row_in xs) n (omega (arith, size-row_of (types_of xs), types_length xs))
none_wanted_last es p xs (u ∷ us) n e h = absurd (let f = eqb-suc-zero (length us) in cc)

-- ## Given operands

-- one more is given
pub given_more : (before : Row TheType) (xs : List Operand) (x : Operand) (types : List ValType) (i : ℕ) (d : ValType) → i < length types →
    type_of x ≡ Known (get_or types i d) → row_in xs ≡ before ⧺ known (row_of (take i types)) →
    row_in (xs ++ x ∷ []) ≡ before ⧺ known (row_of (take (i + 1) types))
given_more before xs x types i d h t e =
    row_more_in xs x ∙ ap (λ (u : TheType). row_in xs ▹ u) t ∙ ap (λ (r : Row TheType). r ▹ Known (get_or types i d)) e
    ∙ sym (ap (λ (r : Row TheType). before ⧺ r) (known_front types i d h))

-- the row of operands of these types behind others
pub given_row : (before new given : List Operand) (ts : List ValType) → new ≡ before ++ given → types_of given ≡ map Known ts →
    row_in new ≡ row_in before ⧺ known (row_of ts)
given_row before new given ts e t =
    ap row_in e ∙ ap row_of (map-append type_of before given) ∙ row_of-append (types_of before) (types_of given)
    ∙ ap (λ (us : List TheType). row_in before ⧺ row_of us) t ∙ ap (λ (r : Row TheType). row_in before ⧺ r) (row_of_known ts)

-- where there were none
pub given_first : (old new : List Operand) (types : List ValType) → row_in new ≡ row_in (take 0 old) ⧺ known (row_of types) → row_in new ≡ known (row_of types)
given_first old new types e = e ∙ unit_left (known (row_of types))
