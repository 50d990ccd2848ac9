-- The first file with a name, by its place.
use Rattle.std.proofs.Common.{◌≡◌, ◌≤◌, ◌<◌, ℕ, zero, suc, Bool, true, false, cond, List, [], ◌∷◌, length, Some, None, refl, sym, ◌∙◌, ap, arith}
use Rattle.std.specs.Prelude.{find, position, slice_get, String, Vec, nat_lt}
use Rattle.std.specs.List.{position_or_len}
use Rattle.std.specs.Option.{option_map_or}
use Rattle.std.proofs.lemmas.List.Folds.{find_at}
use Rattle.std.proofs.lemmas.Bool.Decides.{nat_tests}
use Rattle.w_outside.specs.Outside.{Known, missing, holds, Opens}
use Rattle.w_outside.specs.Files.{has_name, known_in, bytes_at}

some_place : (t : Bool) (k n i : ℕ) → nat_lt k n ≡ t → cond t (Some k) None ≡ Some i → (k ≡ i) × (k < n)
some_place true k n i l e = (cc, grind (arith, nat_tests))
some_place false k n i l e = (cc, cc)

no_place : (t : Bool) (k n : ℕ) → nat_lt k n ≡ t → cond t (Some k) None ≡ None → n ≤ k
no_place true k n l e = absurd (cc)
no_place false k n l e = grind (arith, nat_tests)

module _ {X : Type 0} where
  some_at : (xs : List X) (i : ℕ) → i < length xs → (x : X) × (slice_get xs i ≡ Some x)
  some_at [] i h = absurd (omega arith)
  some_at (x ∷ xs) zero h = (x, refl)
  some_at (x ∷ xs) (suc i) h = some_at xs i (omega arith)

  pub none_at : (xs : List X) (i : ℕ) → length xs ≤ i → slice_get xs i ≡ None
  none_at [] i h = refl
  none_at (x ∷ xs) zero h = absurd (omega arith)
  none_at (x ∷ xs) (suc i) h = none_at xs i (omega arith)

  pub find_at-position : (p : X → Bool) (xs : List X) (i : ℕ) → position p xs ≡ Some i → (x : X) × (find p xs ≡ Some x) × (slice_get xs i ≡ Some x)
  find_at-position p xs i e =
      let k : (position_or_len p xs ≡ i) × (position_or_len p xs < length xs) =
      some_place (nat_lt (position_or_len p xs) (length xs)) (position_or_len p xs) (length xs) i refl e in
      let s = some_at xs i (omega arith) in
      (s.0, find_at p xs ∙ ap (slice_get xs) k.0 ∙ s.1, s.1)

  pub find-no_position : (p : X → Bool) (xs : List X) → position p xs ≡ None → find p xs ≡ None
  find-no_position p xs e = find_at p xs ∙ none_at xs (position_or_len p xs)
      (no_place (nat_lt (position_or_len p xs) (length xs)) (position_or_len p xs) (length xs) refl e)

module _ {X Y : Type 0} where
  pub known-position : (files : List (String X × Vec ℕ Y)) (name : List ℕ) (i : ℕ) → position (has_name name) files ≡ Some i
      → known_in files name ≡ holds (bytes_at files i)
  known-position files name i e =
      let s = find_at-position (has_name name) files i e in
      ap (λ o. option_map_or (λ f. holds f.1.items) o missing) s.1
      ∙ sym (ap (λ o. holds (option_map_or (λ f. f.1.items) o [])) s.2)

  pub known-no_position : (files : List (String X × Vec ℕ Y)) (name : List ℕ) → position (has_name name) files ≡ None
      → known_in files name ≡ missing
  known-no_position files name e = ap (λ o. option_map_or (λ f. holds f.1.items) o missing) (find-no_position (has_name name) files e)

  pub bytes_past : (files : List (String X × Vec ℕ Y)) (i : ℕ) → length files ≤ i → bytes_at files i ≡ []
  bytes_past files i h = ap (λ o. option_map_or (λ f. f.1.items) o []) (none_at files i h)

pub opens_at : (known : Known) (bytes : List ℕ) → known ≡ holds bytes → Opens known (Some bytes)
opens_at known bytes e = rw e refl
