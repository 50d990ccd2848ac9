-- What a br_table needs of its labels, label by label.
use Rattle.std.proofs.Common.{◌≡◌, ℕ, Bool, true, false, ◌&&◌, List, [], ◌∷◌, nat_eq, slice_get, Option, Some, None, if◌then◌else◌, refl, sym, ◌∙◌, ap}
use Rattle.w_types.specs.declared.types.ValType.{ValType}
use Rattle.w_types.specs.declared.types.ValType.TheVariants.{I32}
use Rattle.lists.specs.Rows.{Row, ε, ◌▹◌, size}
use Rattle.w_canon.specs.declared.entry.Entry.{Entry}
use Rattle.w_rules.specs.Operands.{Operand}
use Rattle.w_rules.specs.InstructionTypes.{with_label, labels_at, br_table_type}
use Rattle.w_flow.specs.Flow.{◌>>=◌, pops, is_popped, pops_each, all_long, fits_one, fit_each, step}
use Rattle.w_flow.specs.View.{anything}

-- ## Tests

-- tests in another order
and_swap : (a b c d : Bool) → (a && b) && (c && d) ≡ (a && c) && (b && d)
and_swap true true c d = refl
and_swap true false true d = refl
and_swap true false false d = refl
and_swap false b c d = refl

-- a test and one that fails
and_false : (a : Bool) → a && false ≡ false
and_false true = refl
and_false false = refl

-- tests in another order
and_turn : (a b c : Bool) → a && (b && c) ≡ b && (a && c)
and_turn true b c = refl
and_turn false true c = refl
and_turn false false c = refl

-- ## Labels

-- there are such labels, and each takes a row of n types that can be taken
abbrev both : List Entry → Bool → Row Operand → ℕ → Option (List (Row ValType)) → Bool
both es p ts n None = false
both es p ts n (Some vs) = all_long n vs && pops_each es p ts vs

module _ (es : List Entry) (p : Bool) (ts : Row Operand) where
  -- one label more
  both_with : (n : ℕ) (o : Option (Row ValType)) (q : Option (List (Row ValType))) → both es p ts n (with_label o q) ≡ fits_one es p ts n o && both es p ts n q
  both_with n None q = refl
  both_with n (Some v) None = sym (and_false (nat_eq (size v) n && is_popped (pops es p ts v)))
  both_with n (Some v) (Some vs) = and_swap (nat_eq (size v) n) (all_long n vs) (is_popped (pops es p ts v)) (pops_each es p ts vs)

  -- labels of these indices
  both_each : (labels : List (Row ValType)) (n : ℕ) (xs : List ℕ) → both es p ts n (labels_at labels xs) ≡ fit_each es labels p ts n xs
  both_each labels n [] = refl
  both_each labels n (x ∷ xs) =
      both_with n (slice_get labels x) (labels_at labels xs) ∙ ap (λ (b : Bool). fits_one es p ts n (slice_get labels x) && b) (both_each labels n xs)

  -- ## The type

  -- where these operands are left when the index is taken, and the last label takes this row
  by_line : (left : Row Operand) (v : Row ValType) (o : Option (List (Row ValType))) → pops es p ts (ε ▹ I32) ≡ Some left →
      step es (br_table_type (Some v) o) p ts ≡ (if is_popped (pops es p left v) && both es p left (size v) o then Some anything else None)
  by_line left v None e = sym (ap (λ (b : Bool). if b then Some anything else None) (and_false (is_popped (pops es p left v))))
  by_line left v (Some vs) e =
      ap (λ (q : Option (Row Operand)). q >>= λ (rest : Row Operand). (if all_long (size v) vs && pops_each es p rest (v ∷ vs) then Some anything else None)) e
      ∙ ap (λ (b : Bool). if b then Some anything else None) (and_turn (all_long (size v) vs) (is_popped (pops es p left v)) (pops_each es p left vs))

-- the step of a br_table of labels xs and d, where these operands are left when the index is taken, and label d takes this row
pub table_step : (es : List Entry) (labels : List (Row ValType)) (p : Bool) (ts left : Row Operand) (v : Row ValType) (d : ℕ) (xs : List ℕ) →
    pops es p ts (ε ▹ I32) ≡ Some left → slice_get labels d ≡ Some v →
    step es (br_table_type (slice_get labels d) (labels_at labels xs)) p ts
    ≡ (if is_popped (pops es p left v) && fit_each es labels p left (size v) xs then Some anything else None)
table_step es labels p ts left v d xs e l =
    ap (λ (o : Option (Row ValType)). step es (br_table_type o (labels_at labels xs)) p ts) l ∙ by_line es p ts left v (labels_at labels xs) e
    ∙ ap (λ (b : Bool). if is_popped (pops es p left v) && b then Some anything else None) (both_each es p left labels (size v) xs)
