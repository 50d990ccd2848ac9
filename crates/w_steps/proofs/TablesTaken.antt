-- What branches need of the rows of labels.
use Rattle.std.proofs.Common.{◌≡◌, ℕ, ◌+◌, ◌<◌, Bool, true, false, ◌&&◌, List, [], ◌∷◌, ◌++◌, length, get_or, take, drop, slice_get, Option, Some, None, if◌then◌else◌, refl, sym, ◌∙◌, ap, eq-eqb, eqb-true, arith}
use Rattle.std.proofs.lemmas.List.{drop_more, take_all, take-append-le}
use Rattle.w_types.specs.declared.types.ValType.{ValType}
use Rattle.w_types.specs.declared.types.ValType.TheVariants.{I32}
use Rattle.lists.specs.Rows.{Row, ε, ◌▹◌, row_of, size}
use Rattle.lists.proofs.Rows.{row_of-more, size-row_of}
use Rattle.w_canon.specs.declared.entry.Entry.{Entry}
use Rattle.w_rules.specs.Operands.{Operand}
use Rattle.w_rules.specs.InstructionTypes.{labels_at, br_table_type, br_on_non_null_type}
use Rattle.w_flow.specs.Flow.{pops, is_popped, fits_one, fit_each, step}
use Rattle.w_flow.specs.View.{anything}
use Rattle.w_flow.proofs.LabelsOfTables.{table_step}

-- ## A branch where the operand is not null

-- its type, by the last type of the label's list
pub top_taken : (label beneath : List ValType) (t u : ValType) → label ≡ beneath ++ t ∷ [] → t ≡ u →
    br_on_non_null_type (Some (row_of label)) ≡ br_on_non_null_type (Some (row_of beneath ▹ u))
top_taken label beneath t u e f =
    ap (λ (r : Row ValType). br_on_non_null_type (Some r)) (ap row_of e ∙ row_of-more beneath t ∙ ap (λ (v : ValType). row_of beneath ▹ v) f)

-- the types before the last
pub beneath_last : (label beneath : List ValType) (t : ValType) (n : ℕ) → label ≡ beneath ++ t ∷ [] → n ≡ length beneath → take n label ≡ beneath
beneath_last label beneath t n e f =
    ap (take n) e ∙ ap (λ (k : ℕ). take k (beneath ++ t ∷ [])) f ∙ take-append-le (length beneath) beneath (t ∷ []) (omega arith) ∙ take_all (length beneath) beneath (omega arith)

-- ## Tests

-- both are true
both_true : (b c : Bool) → b ≡ true → c ≡ true → b && c ≡ true
both_true b c e f = ap (λ (x : Bool). x && c) e ∙ f

-- the second is false
right_false : (b c : Bool) → c ≡ false → b && c ≡ false
right_false true c e = e
right_false false c e = refl

-- a test that is not true is false
not_true : (b : Bool) → (b ≡ true → ⊥) → b ≡ false
not_true true h = absurd (h refl)
not_true false h = refl

-- ## A label of a br_table

module _ (es : List Entry) (labels : List (Row ValType)) (p : Bool) (ts : Row Operand) (n : ℕ) where
  -- a label that there is fits where it has so many types and can be taken
  pub label_here : (o : Option (Row ValType)) (label : List ValType) → o ≡ Some (row_of label) → length label ≡ n →
      is_popped (pops es p ts (row_of label)) ≡ fits_one es p ts n o
  label_here o label e long =
      sym (ap (fits_one es p ts n) e ∙ ap (λ (b : Bool). b && is_popped (pops es p ts (row_of label))) (eq-eqb (size (row_of label)) n (size-row_of label ∙ long)))

  -- and does not where it has another number of types
  pub not_equal : (o : Option (Row ValType)) (label : List ValType) → o ≡ Some (row_of label) → (length label ≡ n → ⊥) → false ≡ fits_one es p ts n o
  not_equal o label e differs =
      sym (ap (fits_one es p ts n) e ∙ ap (λ (b : Bool). b && is_popped (pops es p ts (row_of label)))
      (not_true _ (λ t. differs (sym (size-row_of label) ∙ eqb-true (size (row_of label)) n t))))

  -- those left, by the next one
  pub label_next : (xs : List ℕ) (k d : ℕ) → k < length xs →
      fit_each es labels p ts n (drop k xs) ≡ fits_one es p ts n (slice_get labels (get_or xs k d)) && fit_each es labels p ts n (drop (k + 1) xs)
  label_next xs k d h = ap (fit_each es labels p ts n) (drop_more xs k d h)

-- ## The step of a br_table

-- the step where the index is taken, and the last label can be taken, by whether the others fit
pub table_answer : (es : List Entry) (labels : List (Row ValType)) (p q : Bool) (ts rest : Row Operand) (label : List ValType) (d : ℕ) (xs : List ℕ)
    (applies can fit : Bool) →
    pops es p ts (ε ▹ I32) ≡ (if applies then Some rest else None) → applies ≡ true → q ≡ p → slice_get labels d ≡ Some (row_of label) →
    can ≡ is_popped (pops es q rest (row_of label)) → can ≡ true → fit ≡ fit_each es labels q rest (length label) xs →
    step es (br_table_type (slice_get labels d) (labels_at labels xs)) p ts ≡ (if fit then Some anything else None)
table_answer es labels p q ts rest label d xs applies can fit left all same found tested passed others =
    let last : is_popped (pops es p rest (row_of label)) ≡ true =
    ap (λ (x : Bool). is_popped (pops es x rest (row_of label))) (sym same) ∙ sym tested ∙ passed in
    table_step es labels p ts rest (row_of label) d xs (left ∙ ap (λ (b : Bool). if b then Some rest else None) all) found
    ∙ ap (λ (b : Bool). if b && fit_each es labels p rest (size (row_of label)) xs then Some anything else None) last
    ∙ ap (λ (m : ℕ). if fit_each es labels p rest m xs then Some anything else None) (size-row_of label)
    ∙ ap (λ (b : Bool). if b then Some anything else None) (ap (λ (x : Bool). fit_each es labels x rest (length label) xs) (sym same) ∙ sym others)
