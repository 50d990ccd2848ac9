-- Rows of result types: of their parts, and of lists that match.
use Rattle.std.proofs.Common.{◌≡◌, ℕ, zero, suc, List, ◌++◌, length, take, drop, refl, ap, ◌∙◌, subst}
use Rattle.std.proofs.lemmas.List.{take-append-drop}
use Rattle.w_types.specs.declared.types.RecGroup.{RecGroup}
use Rattle.w_types.specs.declared.types.ValType.{ValType}
use Rattle.lists.specs.Rows.{Row, ε, ◌▹◌, ◌⧺◌, size, row_of, listed}
use Rattle.lists.proofs.Rows.{size-row_of, row_of-more, row_of-append}
use Rattle.w_canon.specs.Relations.{Pairwise, none, more}
use Rattle.w_canon.specs.Matching.{ResultMatches}
use Rattle.w_rules.specs.Matching.{RowMatches, known}
use Rattle.w_rules.specs.Operands.{Operand, Known}
use Rattle.w_rules.proofs.Preorder.{row_refl, row_beside}
use Rattle.w_typed.proofs.SameTypes.{result_rows}
use Rattle.w_typed.proofs.Low.{size_known}

-- as many operands as types
pub size_types : (ts : List ValType) → size (known (row_of ts)) ≡ length ts
size_types ts = size_known (row_of ts) ∙ size-row_of ts

-- the row of a row's list is the row
pub row_of-listed : (ts : Row ValType) → row_of (listed ts) ≡ ts
row_of-listed ε = refl
row_of-listed (ts ▹ t) = row_of-more (listed ts) t ∙ ap (λ (us : Row ValType). us ▹ t) (row_of-listed ts)

-- operands of one row of types, and then of another
known-beside : (ts us : Row ValType) → known (ts ⧺ us) ≡ known ts ⧺ known us
known-beside ts ε = refl
known-beside ts (us ▹ u) = ap (λ (r : Row Operand). r ▹ Known u) (known-beside ts us)

-- operands of one list's types, and then of another's
known-append : (ts us : List ValType) → known (row_of (ts ++ us)) ≡ known (row_of ts) ⧺ known (row_of us)
known-append ts us = ap known (row_of-append ts us) ∙ known-beside (row_of ts) (row_of us)

-- the first n of related lists
pub pairwise_take : {A : Type 0} {R : A → A → Type 0} {xs ys : List A} (n : ℕ) → Pairwise R xs ys → Pairwise R (take n xs) (take n ys)
pairwise_take zero h = none
pairwise_take (suc n) none = none
pairwise_take (suc n) (more r h) = more r (pairwise_take n h)

-- and those after them
pub pairwise_drop : {A : Type 0} {R : A → A → Type 0} {xs ys : List A} (n : ℕ) → Pairwise R xs ys → Pairwise R (drop n xs) (drop n ys)
pairwise_drop zero h = h
pairwise_drop (suc n) none = none
pairwise_drop (suc n) (more r h) = pairwise_drop n h

-- the first n types, and others that match those after them
pub rows_joined : (gs : List RecGroup) (n : ℕ) (ts us : List ValType) → ResultMatches gs us (drop n ts)
    → RowMatches gs (known (row_of (take n ts)) ⧺ known (row_of us)) (known (row_of ts))
rows_joined gs n ts us h =
    let first : Row Operand = known (row_of (take n ts)) in
    let others : Row Operand = known (row_of (drop n ts)) in
    let whole : first ⧺ others ≡ known (row_of ts) =
    (cc (known-append (take n ts) (drop n ts), ap (λ (l : List ValType). known (row_of l)) (take-append-drop n ts))) in
    subst (λ (r : Row Operand). RowMatches gs (first ⧺ known (row_of us)) r) whole
    (row_beside gs first first (known (row_of us)) others (row_refl gs first) (result_rows gs h))
