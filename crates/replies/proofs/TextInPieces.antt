-- A text that is written piece by piece, or collected so.
use Rattle.std.proofs.Common.{◌≡◌, ◌+◌, ◌<◌, ℕ, List, [], ◌∷◌, ◌++◌, drop, length, get_or, flat_map, Vec, refl, sym, ap, ◌∙◌, append_assoc, append-nil, Result, Ok, Err}
use Rattle.std.specs.Prelude.{OnErr}
use Rattle.std.proofs.lemmas.List.{drop_more}
use Rattle.w_outside.specs.Outside.{IsFront}
use Rattle.replies.specs.Pieces.{joined}

module _ {X : Type 0} (f : X → List ℕ) where
  -- a part more
  pub part_more : (xs : List X) (i : ℕ) (d : X) (part text whole : List ℕ) → i < length xs → part ++ flat_map f (drop i xs) ≡ whole
      → text ≡ f (get_or xs i d) → (part ++ text) ++ flat_map f (drop (i + 1) xs) ≡ whole
  part_more xs i d part text whole h e t =
      append_assoc part text (flat_map f (drop (i + 1) xs))
      ∙ ap (λ (l : List ℕ). part ++ (l ++ flat_map f (drop (i + 1) xs))) t
      ∙ ap (λ (l : List ℕ). part ++ l) (sym (ap (flat_map f) (drop_more xs i d h))) ∙ e

  -- a first part of a part more
  pub front_more : (xs : List X) (i : ℕ) (d : X) (part more text whole : List ℕ) → i < length xs → part ++ flat_map f (drop i xs) ≡ whole
      → text ≡ f (get_or xs i d) → IsFront more text → IsFront (part ++ more) whole
  front_more xs i d part more text whole h e t front = record {
    rest = front.rest ++ flat_map f (drop (i + 1) xs);
    joined = regroup part more front.rest (flat_map f (drop (i + 1) xs))
        ∙ ap (λ (l : List ℕ). (part ++ l) ++ flat_map f (drop (i + 1) xs)) front.joined ∙ part_more xs i d part text whole h e t;
  }
    where
      regroup : (a b c d2 : List ℕ) → (a ++ b) ++ (c ++ d2) ≡ (a ++ (b ++ c)) ++ d2
      regroup a b c d2 = simp append_assoc

module _ {Y : Type 0} where
  joined-append : (xs ys : List (Vec ℕ Y)) → joined (xs ++ ys) ≡ joined xs ++ joined ys
  joined-append [] ys = refl
  joined-append (x ∷ xs) ys = ap (λ (l : List ℕ). x.items ++ l) (joined-append xs ys) ∙ sym (append_assoc x.items (joined xs) (joined ys))

  -- a piece more
  pub joined-push : (xs : List (Vec ℕ Y)) (x : Vec ℕ Y) → joined (xs ++ x ∷ []) ≡ joined xs ++ x.items
  joined-push xs x = joined-append xs (x ∷ []) ∙ ap (λ (l : List ℕ). joined xs ++ l) (append-nil x.items)

pub on_err : {T E : Type 0} {P : Type 0} (r : Result T E) → P → OnErr r P
on_err (Ok x) p = tt
on_err (Err e) p = p
