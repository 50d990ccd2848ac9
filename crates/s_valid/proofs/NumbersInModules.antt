-- What a declaration adds to the module stands at its number.
use Rattle.std.proofs.Common.{◌≡◌, ℕ, zero, suc, ◌+◌, Bool, true, false, List, [], ◌∷◌, ◌++◌, length, Some, if◌then◌else◌, refl, ap, ◌∙◌, arith, length-append}
use Rattle.std.specs.Prelude.{slice_get}
use Rattle.std.specs.Str.{bytes_eq}
use Rattle.s_syntax.specs.declared.name.Name.{Name}
use Rattle.s_syntax.specs.declared.script.Definition.{Definition}
use Rattle.s_syntax.specs.declared.script.Declaration.{Declaration}
use Rattle.s_check.specs.Definitions.{definition_of}
use Rattle.s_index.specs.declared.counts.Counts.{Counts}
use Rattle.s_index.specs.Numbers.{counted, counted_all, number_behind, entry_behind}
use Rattle.s_code.specs.Lowered.{for_each}
use Rattle.s_meaning.proofs.Scopes.{same_is}

-- an item of the first part of a list
pub get_left : {A : Type 0} (xs ys : List A) (i : ℕ) (x : A) → slice_get xs i ≡ Some x → slice_get (xs ++ ys) i ≡ Some x
get_left [] ys i x e = absurd (cc)
get_left (y ∷ xs) ys zero x e = e
get_left (y ∷ xs) ys (suc i) x e = get_left xs ys i x e

-- an item of the second part
pub get_right : {A : Type 0} (xs ys : List A) (i k : ℕ) (x : A) → k ≡ length xs + i → slice_get ys i ≡ Some x → slice_get (xs ++ ys) k ≡ Some x
get_right [] ys i k x at e = let same : k ≡ i = omega (arith, at) in ap (λ (j : ℕ). slice_get ys j) same ∙ e
get_right (y ∷ xs) ys i zero x at e = absurd (omega (arith, at))
get_right (y ∷ xs) ys i (suc k) x at e = get_right xs ys i k x (omega (arith, at)) e

-- the declaration of a name among these, behind so many others: its number, and the item that it adds
pub record Found {A : Type 0} (make : Declaration → List A) (counter : Counts → ℕ) (n : Counts) (es : List Declaration) (x : Name) (d : Definition) (a : A) : Type 0 where
  pub place : ℕ
  pub entry : entry_behind n es x ≡ Some (record { definition = d; number = counter n + place })
  pub item : slice_get (for_each make es) place ≡ Some a

module _ {A : Type 0} (make : Declaration → List A) (counter : Counts → ℕ) (steps : (n : Counts) (d : Declaration) → counter (counted n d.definition) ≡ counter n + length (make d)) where
  -- as many items as are counted
  pub all_made : (n : Counts) (es : List Declaration) → counter (counted_all n es) ≡ counter n + length (for_each make es)
  all_made n [] = omega arith
  all_made n (e ∷ es) =
      let q = all_made (counted n e.definition) es in
      let s = steps n e in
      let l = length-append (make e) (for_each make es) in
      omega (arith, q, s, l)

  pub found : (n : Counts) (es : List Declaration) (x : Name) (d : Definition) (a : A) → definition_of es x ≡ Some d
      → ((e : Declaration) → e.definition ≡ d → x ≡ e.name → make e ≡ a ∷ []) → ((m : Counts) → number_behind m d ≡ counter m) → Found make counter n es x d a
  found n [] x d a e makes counts = absurd (cc)
  found n (c ∷ es) x d a e makes counts = by (bytes_eq c.name x) refl e (λ q. found (counted n c.definition) es x d a q makes counts)
    where
      by : (b : Bool) → bytes_eq c.name x ≡ b → (if b then Some c.definition else definition_of es x) ≡ Some d → (definition_of es x ≡ Some d → Found make counter (counted n c.definition) es x d a)
          → Found make counter n (c ∷ es) x d a
      by true t q rest =
          let same : c.definition ≡ d = cc q in
          let number : number_behind n d ≡ counter n + 0 = counts n ∙ omega arith in
          record {
            place = 0;
            entry = ap (λ (b : Bool). if b then Some (record { definition = c.definition; number = number_behind n c.definition }) else entry_behind (counted n c.definition) es x) t
                ∙ ap (λ (k : Definition). Some (record { definition = k; number = number_behind n k })) same
                ∙ ap (λ (k : ℕ). Some (record { definition = d; number = k })) number;
            item = ap (λ (xs : List A). slice_get (xs ++ for_each make es) 0) (makes c same (same_is x c.name t));
          }
      by false f q rest =
          let r = rest q in
          let number : counter (counted n c.definition) + r.place ≡ counter n + (length (make c) + r.place) = let s = steps n c in omega (arith, s) in
          record {
            place = length (make c) + r.place;
            entry = ap (λ (b : Bool). if b then Some (record { definition = c.definition; number = number_behind n c.definition }) else entry_behind (counted n c.definition) es x) f
                ∙ r.entry
                ∙ ap (λ (k : ℕ). Some (record { definition = d; number = k })) number;
            item = get_right (make c) (for_each make es) r.place (length (make c) + r.place) a refl r.item;
          }
