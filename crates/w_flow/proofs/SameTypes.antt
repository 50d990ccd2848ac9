-- Operands that are just of the types that are wanted.
use Rattle.std.proofs.Common.{◌≡◌, ℕ, ◌-◌, Bool, true, false, List, [], ◌∷◌, length, length-drop, map, take, drop, Option, Some, None, if◌then◌else◌, refl, sym, ◌∙◌, ap, arith}
use Rattle.std.proofs.lemmas.List.{take_all, take-append-drop}
use Rattle.w_types.specs.declared.types.ValType.{ValType}
use Rattle.lists.specs.Rows.{Row, ε, ◌▹◌, ◌⧺◌, onto, row_of, size}
use Rattle.lists.proofs.Rows.{row_of-append, size-row_of}
use Rattle.w_canon.specs.declared.entry.Entry.{Entry}
use Rattle.w_canon.proofs.ComparedRows.{type_matches}
use Rattle.w_rules.specs.Operands.{Operand, Known}
use Rattle.w_rules.specs.Matching.{known}
use Rattle.w_flow.specs.Flow.{operand_test, pops}

-- ## One operand

-- an operand that is of the type stands where one is wanted
pub known_matches : (es : List Entry) (o : Operand) (t : ValType) → o ≡ Known t → operand_test es o t ≡ true
known_matches es o t e = ap (λ (u : Operand). operand_test es u t) e ∙ type_matches es t

-- ## Rows

onto_known : (r : Row ValType) (ts : List ValType) → onto (known r) (map Known ts) ≡ known (onto r ts)
onto_known r [] = refl
onto_known r (t ∷ ts) = onto_known (r ▹ t) ts

-- the operands of a list of types
pub row_of_known : (ts : List ValType) → row_of (map Known ts) ≡ known (row_of ts)
row_of_known ts = onto_known ε ts

-- as many operands as are wanted stand for them, whatever stands beneath
pub pops_above : (es : List Entry) (p : Bool) (ts us : Row Operand) (r : Row ValType) → size us ≡ size r → pops es p us r ≡ Some ε → pops es p (ts ⧺ us) r ≡ Some ts
pops_above es p ts ε ε h e = refl
pops_above es p ts ε (r ▹ u) h e = absurd (omega arith)
pops_above es p ts (us ▹ t) ε h e = absurd (omega arith)
pops_above es p ts (us ▹ t) (r ▹ u) h e = above_one (operand_test es t u) (pops es p us r) (pops es p (ts ⧺ us) r) ts e (pops_above es p ts us r (omega arith))
  where
    above_one : (b : Bool) (o q : Option (Row Operand)) (xs : Row Operand) → (if b then o else None) ≡ Some ε → (o ≡ Some ε → q ≡ Some xs) → (if b then q else None) ≡ Some xs
    above_one true o q xs e f = f e
    above_one false o q xs e f = absurd (cc)

split_one : (b : Bool) (o q w : Option (Row Operand)) (r : Row Operand) → (if b then o else None) ≡ Some r → (o ≡ Some r → q ≡ w) → (if b then q else None) ≡ w
split_one true o q w r e f = f e
split_one false o q w r e f = absurd (cc)

-- where the topmost types can be taken, taking all is taking the others from what is left
pops_split : (es : List Entry) (p : Bool) (ts : Row Operand) (us vs : Row ValType) (r : Row Operand) → pops es p ts vs ≡ Some r → pops es p ts (us ⧺ vs) ≡ pops es p r us
pops_split es p ts us ε r e = let same : ts ≡ r = cc in ap (λ (q : Row Operand). pops es p q us) same
pops_split es p ε us (vs ▹ v) r e = split_one p (pops es p ε vs) (pops es p ε (us ⧺ vs)) (pops es p r us) r e (pops_split es p ε us vs r)
pops_split es p (ts ▹ t) us (vs ▹ v) r e =
    split_one (operand_test es t v) (pops es p ts vs) (pops es p ts (us ⧺ vs)) (pops es p r us) r e (pops_split es p ts us vs r)

-- behind so many operands and types the others stand for each other
pub taken_common : (es : List Entry) (p : Bool) (xs : List Operand) (us : List ValType) (n m : ℕ) → length xs - n ≡ length us - m →
    pops es p (row_of (take (length xs - n) (drop n xs))) (row_of (take (length us - m) (drop m us))) ≡ Some ε →
    pops es p (row_of xs) (row_of us) ≡ pops es p (row_of (take n xs)) (row_of (take m us))
taken_common es p xs us n m long h =
    let a : take (length xs - n) (drop n xs) ≡ drop n xs = take_all (length xs - n) (drop n xs) (omega (arith, length-drop n xs)) in
    let b : take (length us - m) (drop m us) ≡ drop m us = take_all (length us - m) (drop m us) (omega (arith, length-drop m us)) in
    let operands : row_of xs ≡ row_of (take n xs) ⧺ row_of (drop n xs) = ap row_of (sym (take-append-drop n xs)) ∙ row_of-append (take n xs) (drop n xs) in
    let types : row_of us ≡ row_of (take m us) ⧺ row_of (drop m us) = ap row_of (sym (take-append-drop m us)) ∙ row_of-append (take m us) (drop m us) in
    let as_long : size (row_of (drop n xs)) ≡ size (row_of (drop m us)) =
    size-row_of (drop n xs) ∙ length-drop n xs ∙ long ∙ sym (size-row_of (drop m us) ∙ length-drop m us) in
    let stand : pops es p (row_of (drop n xs)) (row_of (drop m us)) ≡ Some ε =
    sym (ap (λ (ys : List Operand). pops es p (row_of ys) (row_of (take (length us - m) (drop m us)))) a
    ∙ ap (λ (vs : List ValType). pops es p (row_of (drop n xs)) (row_of vs)) b) ∙ h in
    ap (λ (r : Row Operand). pops es p r (row_of us)) operands
    ∙ ap (λ (r : Row ValType). pops es p (row_of (take n xs) ⧺ row_of (drop n xs)) r) types
    ∙ pops_split es p (row_of (take n xs) ⧺ row_of (drop n xs)) (row_of (take m us)) (row_of (drop m us)) (row_of (take n xs))
    (pops_above es p (row_of (take n xs)) (row_of (drop n xs)) (row_of (drop m us)) as_long stand)

-- where no others are wanted
pub none_wanted : (es : List Entry) (p : Bool) (ts : Row Operand) (us : List ValType) (m : ℕ) → m ≡ 0 → pops es p ts (row_of (take m us)) ≡ Some ts
none_wanted es p ts us m e = ap (λ (k : ℕ). pops es p ts (row_of (take k us))) e
