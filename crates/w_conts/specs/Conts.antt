-- The store of continuations as contracts see it (stack-switching explainer, continuations): what is kept at each address and where,
-- and how many more fit. A continuation's address is the number of those that were made before it; a reference has it as its serial.
use Rattle.std.specs.Prelude.{◌≡◌, ℕ, suc, ◌+◌, ◌-◌, ◌<◌, List, [], ◌∷◌, ◌++◌, length, Option, Some, None, option_map, slice_index_or, slice_set, refl}
use Rattle.std.specs.Coded.{Coded, code_by, coded×, coded_ℕ, coded_list, coded_option}
use Rattle.w_types.specs.declared.value.ContRef.{ContRef}

-- by address the place and what is kept, or `None` for a consumed continuation; and how many more fit with no memory taken
pub record Conts (T : Type 0) : Type 0 where
  pub entries : List (Option (ℕ × T))
  pub spare : ℕ

-- a store is coded as the pair of its fields
abbrev pub conts_code : {T : Type 0} → Coded T → Coded (Conts T)
conts_code {T} code =
    code_by (List (Option (ℕ × T)) × ℕ) (coded× (coded_list (coded_option (coded× coded_ℕ code))) coded_ℕ)
    (λ s. (s.entries, s.spare)) (λ p. record { entries = p.0; spare = p.1 }) (λ _. refl)

-- how many of a list are there, and how many are not
abbrev pub some_count : {A : Type 0} → List (Option A) → ℕ
some_count [] = 0
some_count (None ∷ xs) = some_count xs
some_count (Some x ∷ xs) = suc (some_count xs)

abbrev pub none_count : {A : Type 0} → List (Option A) → ℕ
none_count [] = 0
none_count (None ∷ xs) = suc (none_count xs)
none_count (Some x ∷ xs) = none_count xs

module _ {T : Type 0} where
  -- the place and what is kept at an address
  abbrev pub entry_at : List (Option (ℕ × T)) → ℕ → Option (ℕ × T)
  entry_at es a = slice_index_or es a None

  -- what is kept at an address
  abbrev pub kept_at : Conts T → ℕ → Option T
  kept_at s a = option_map (λ p. p.1) (entry_at s.entries a)

  -- how many continuations are not consumed, and how many are
  abbrev pub live_of : Conts T → ℕ
  live_of s = some_count s.entries

  abbrev pub consumed_of : Conts T → ℕ
  consumed_of s = none_count s.entries

  abbrev pub with_spare : ℕ → Conts T → Conts T
  with_spare n s = record s { spare = n }

  -- with one more continuation, which is kept at a place and takes one room
  abbrev pub with_entry : ℕ → T → Conts T → Conts T
  with_entry p x s = record { entries = s.entries ++ Some (p, x) ∷ []; spare = s.spare - 1 }

  -- with the continuation at an address consumed, which leaves its room
  abbrev pub without_entry : ℕ → Conts T → Conts T
  without_entry a s = record { entries = slice_set s.entries a None; spare = s.spare + 1 }

  -- The reference is of this store: a continuation was made with its serial, and where that is not consumed, the reference's place
  -- is the one where it is kept.
  pub record IsOf (r : ContRef) (s : Conts T) : Type 0 where
    pub made : r.serial < length s.entries
    pub place : (p : ℕ) (x : T) → entry_at s.entries r.serial ≡ Some (p, x) → p ≡ r.place

  -- each reference of the old store is of the new one
  abbrev pub KeepsReferences : Conts T → Conts T → Type 0
  KeepsReferences old new = (r : ContRef) → IsOf r old → IsOf r new
