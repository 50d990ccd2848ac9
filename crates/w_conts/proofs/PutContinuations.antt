-- A continuation is put at a vacant place.
use Rattle.std.proofs.Common.{◌≡◌, ◌≢◌, ℕ, ◌+◌, ◌-◌, ◌<◌, List, [], ◌∷◌, ◌++◌, Option, Some, None, sym, ap, ◌∙◌, subst, arith, add-one, inl, inr, ◌⊎◌}
use Rattle.std.proofs.lemmas.Bool.{cases_lt}
use Rattle.slab.specs.Slab.{Slab, get, slab_len, Updates}
use Rattle.w_conts.specs.Conts.{Conts, some_count, with_entry, IsOf, KeepsReferences}
use Rattle.w_conts.specs.Slots.{slot_at, find_from, entries_of, conts_of, HasDistinctSerials, IsSound}
use Rattle.w_conts.proofs.SerialsAmongSlots.{serial_is, found, find_same}
use Rattle.w_conts.proofs.Entries.{entries_same}
use Rattle.w_conts.proofs.EntryCounts.{count_more}
use Rattle.w_conts.proofs.OpenedStores.{Opened, made_long}
use Rattle.w_conts.proofs.References.{new_of, others_of}

module _ {T : Type 0} where
  -- what a slab's insertion of the next entry ensures
  pub record Puts (v : Conts T) (s s' : Slab (ℕ × T)) (made spare key : ℕ) (x : T) : Type 0 where
    pub opened : Opened v s made spare
    pub room : 0 < v.spare
    pub vacant : get s key ≡ None
    pub updates : Updates s s' key (Some (made, x))
    pub len : slab_len s' ≡ slab_len s + 1
    pub capacity : s'.capacity ≡ s.capacity

  module _ {v : Conts T} {s s' : Slab (ℕ × T)} {made spare key : ℕ} {x : T} (p : Puts v s s' made spare key x) where
    -- contracts see the spare room
    spare_is : spare ≡ v.spare
    spare_is = ap (λ v. v.spare) p.opened.view

    -- a slot of the new slab is the new one, or one of the old
    new_slot : (i : ℕ) (o : Option (ℕ × T)) → slot_at s'.slots i ≡ o → ((i ≡ key) × (o ≡ Some (made, x))) ⊎ ((i ≢ key) × (slot_at s.slots i ≡ o))
    new_slot i o h = elim (cases_lt i key) [
      | inl l ↦ inr ((λ e. omega arith), sym (p.updates.others i (λ e. omega arith)) ∙ h)
      | inr g ↦ elim (cases_lt key i) [
        | inl l ↦ inr ((λ e. omega arith), sym (p.updates.others i (λ e. omega arith)) ∙ h)
        | inr g' ↦ let e : i ≡ key = omega arith in inl (e, sym h ∙ ap (slot_at s'.slots) e ∙ p.updates.changed)
      ]
    ]

    -- each serial of the new slab was drawn, and no two slots have one
    new_drawn : (i a : ℕ) (y : T) → slot_at s'.slots i ≡ Some (a, y) → a < made + 1
    new_drawn i a y h = elim (new_slot i (Some (a, y)) h) [
      | inl w ↦ let e : a ≡ made = serial_is w.1 in omega arith
      | inr w ↦ let l = p.opened.sound.drawn i a y w.1 in omega arith
    ]

    new_distinct : HasDistinctSerials s'.slots
    new_distinct i j a y z h k = elim (new_slot i (Some (a, y)) h) [
      | inl w ↦ elim (new_slot j (Some (a, z)) k) [
        | inl u ↦ w.0 ∙ sym u.0
        | inr u ↦ let e : a ≡ made = serial_is w.1 in let l = p.opened.sound.drawn j a z u.1 in absurd (omega arith)
      ]
      | inr w ↦ elim (new_slot j (Some (a, z)) k) [
        | inl u ↦ let e : a ≡ made = serial_is u.1 in let l = p.opened.sound.drawn i a y w.1 in absurd (omega arith)
        | inr u ↦ p.opened.sound.distinct i j a y z w.1 u.1
      ]
    ]

    -- at each address that was drawn before, the same is found
    same_found : (a : ℕ) → a < made → find_from 0 a s'.slots ≡ find_from 0 a s.slots
    same_found a l =
        find_same s.slots s'.slots a p.opened.sound.distinct new_distinct
        (λ i y h. p.updates.others i (λ e. let v : slot_at s.slots i ≡ None = ap (slot_at s.slots) e ∙ p.vacant in let w : None ≡ Some (a, y) = sym v ∙ h in cc) ∙ h)
        (λ i y h. elim (new_slot i (Some (a, y)) h) [ inl w ↦ let e : a ≡ made = serial_is w.1 in absurd (omega arith) | inr w ↦ w.1 ])

    -- the entries are those before, and the new one
    put_entries : entries_of s'.slots (made + 1) ≡ entries_of s.slots made ++ Some (key, x) ∷ []
    put_entries =
        ap (entries_of s'.slots) (add-one made)
        ∙ ap (λ (es : List (Option (ℕ × T))). es ++ find_from 0 made s'.slots ∷ []) (entries_same s.slots s'.slots made same_found)
        ∙ ap (λ (o : Option (ℕ × T)). entries_of s.slots made ++ o ∷ []) (found s'.slots made key x new_distinct p.updates.changed)

    -- the invariant is kept
    pub put_sound : IsSound s' (made + 1) (spare - 1)
    put_sound = record {
      distinct = new_distinct;
      drawn = new_drawn;
      count = omega (arith, p.len, p.opened.sound.count, count_more (entries_of s.slots made) (key, x), ap some_count put_entries);
      room = omega (arith, p.len, p.opened.sound.room, p.room, spare_is, p.capacity);
    }

    -- the store has one entry more, at its end
    pub put_after : conts_of s' (made + 1) (spare - 1) ≡ with_entry key x v
    put_after =
        ap (λ (es : List (Option (ℕ × T))). let r : Conts T = record { entries = es; spare = spare - 1 } in r) put_entries
        ∙ ap (with_entry key x) p.opened.view

    -- the reference given is of the new store
    pub put_of : IsOf (record { place = key; serial = made }) (conts_of s' (made + 1) (spare - 1))
    put_of = subst (IsOf (record { place = key; serial = made })) (sym put_after) (new_of v (record { place = key; serial = made }) x (made_long p.opened))

    -- and each other that was
    pub put_references : KeepsReferences v (conts_of s' (made + 1) (spare - 1))
    put_references = subst (KeepsReferences v) (sym put_after) (others_of v key x)
