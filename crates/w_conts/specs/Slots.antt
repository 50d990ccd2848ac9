-- What the slots of a slab stand for: each that is not vacant has the serial of a continuation and what is kept of it, and its key is
-- the continuation's place.
use Rattle.std.specs.Prelude.{◌≡◌, ℕ, zero, suc, ◌+◌, ◌<◌, ◌≤◌, nat_eq, List, [], ◌∷◌, ◌++◌, Option, Some, None, slice_index_or, if◌then◌else◌}
use Rattle.slab.specs.Slab.{Slab, slab_len}
use Rattle.w_conts.specs.Conts.{Conts, some_count}

module _ {T : Type 0} where
  abbrev pub slot_at : List (Option (ℕ × T)) → ℕ → Option (ℕ × T)
  slot_at slots k = slice_index_or slots k None

  -- the key and what is kept of the first slot with serial a, where the first slot has key k
  abbrev pub find_from : ℕ → ℕ → List (Option (ℕ × T)) → Option (ℕ × T)
  find_from k a [] = None
  find_from k a (None ∷ xs) = find_from (suc k) a xs
  find_from k a (Some p ∷ xs) = if nat_eq p.0 a then Some (k, p.1) else find_from (suc k) a xs

  -- the entries by address, where so many continuations were made
  abbrev pub entries_of : List (Option (ℕ × T)) → ℕ → List (Option (ℕ × T))
  entries_of slots zero = []
  entries_of slots (suc n) = entries_of slots n ++ find_from 0 n slots ∷ []

  -- the store of a slab, of which so many continuations were made and for which so many more fit
  abbrev pub conts_of : Slab (ℕ × T) → ℕ → ℕ → Conts T
  conts_of s made spare = record { entries = entries_of s.slots made; spare = spare }

  -- no two slots have one serial
  abbrev pub HasDistinctSerials : List (Option (ℕ × T)) → Type 0
  HasDistinctSerials slots = (i j a : ℕ) (x y : T) → slot_at slots i ≡ Some (a, x) → slot_at slots j ≡ Some (a, y) → i ≡ j

  -- so many continuations were made, of which the slab keeps those that are live, and so many more fit
  pub record IsSound (s : Slab (ℕ × T)) (made spare : ℕ) : Type 0 where
    pub distinct : HasDistinctSerials s.slots
    pub drawn : (i a : ℕ) (x : T) → slot_at s.slots i ≡ Some (a, x) → a < made
    pub count : slab_len s ≡ some_count (entries_of s.slots made)
    pub room : slab_len s + spare ≤ s.capacity
