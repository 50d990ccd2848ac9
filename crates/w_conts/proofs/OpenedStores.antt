-- What an opened store keeps at an address.
use Rattle.std.proofs.Common.{◌≡◌, ℕ, ◌<◌, List, length, Option, Some, None, sym, ap, ◌∙◌, refl, arith, Bor, true}
use Rattle.std.specs.Prelude.{option_map, option_copied, is_some}
use Rattle.slab.specs.Slab.{Slab, get}
use Rattle.w_types.specs.declared.value.ContRef.{ContRef}
use Rattle.w_conts.specs.Conts.{Conts, entry_at, kept_at, IsOf}
use Rattle.w_conts.specs.Slots.{slot_at, find_from, entries_of, conts_of, IsSound}
use Rattle.w_conts.proofs.SerialsAmongSlots.{some_is, find_stands, found}
use Rattle.w_conts.proofs.Entries.{entries_long, entry_found}

module _ {T : Type 0} where
  -- the fields of a store, and the value v that contracts see
  pub record Opened (v : Conts T) (s : Slab (ℕ × T)) (made spare : ℕ) : Type 0 where
    pub sound : IsSound s made spare
    pub view : conts_of s made spare ≡ v

  -- the same from the two facts
  pub opened : {v : Conts T} {s : Slab (ℕ × T)} {made spare : ℕ} → IsSound s made spare → conts_of s made spare ≡ v → Opened v s made spare
  opened sound view = record { sound = sound; view = view }

  module _ {v : Conts T} {s : Slab (ℕ × T)} {made spare : ℕ} (o : Opened v s made spare) where
    -- contracts see the entries of the slots
    entries_are : entries_of s.slots made ≡ v.entries
    entries_are = ap (λ v. v.entries) o.view

    -- as many continuations were made as there are entries
    pub made_long : made ≡ length v.entries
    made_long = sym (entries_long s.slots made) ∙ ap (λ v. length v.entries) o.view

    -- the entry at an address is what is found under it
    pub entry_is : (a : ℕ) → a < made → entry_at v.entries a ≡ find_from 0 a s.slots
    entry_is a l = ap (λ (es : List (Option (ℕ × T))). entry_at es a) (sym entries_are) ∙ entry_found s.slots made a l

    -- a slot is the entry at its serial
    pub entry_of_slot : (a p : ℕ) (x : T) → get s p ≡ Some (a, x) → entry_at v.entries a ≡ Some (p, x)
    entry_of_slot a p x e = entry_is a (o.sound.drawn p a x e) ∙ found s.slots a p x o.sound.distinct e

    -- an entry stands in the slot at its place
    pub slot_of_entry : (a p : ℕ) (x : T) → a < made → entry_at v.entries a ≡ Some (p, x) → get s p ≡ Some (a, x)
    slot_of_entry a p x l e =
        let t = find_stands s.slots 0 a (p, x) (sym (entry_is a l) ∙ e) in
        let k : t.at ≡ p = omega (arith, t.key) in
        ap (slot_at s.slots) (sym k) ∙ t.is

    -- what stands in a slot is kept at its serial
    pub kept_some : (a p : ℕ) (x : T) → get s p ≡ Some (a, x) → kept_at v a ≡ Some x
    kept_some a p x e = ap (λ (q : Option (ℕ × T)). option_map (λ (q : ℕ × T). q.1) q) (entry_of_slot a p x e)

    module _ {r : ContRef} (of : IsOf r v) where
      -- its serial was drawn
      below_made : r.serial < made
      below_made = let b = of.made in omega (arith, made_long, b)

      -- nothing is kept for a reference of the store where the slot at its place has another serial
      pub kept_none : ((x : T) → get s r.place ≡ Some (r.serial, x) → ⊥) → kept_at v r.serial ≡ None
      kept_none none = cases (entry_at v.entries r.serial) refl
        where
          cases : (q : Option (ℕ × T)) → entry_at v.entries r.serial ≡ q → option_map (λ (q : ℕ × T). q.1) q ≡ None
          cases None w = refl
          cases (Some q) w =
              let p : q.0 ≡ r.place = of.place q.0 q.1 w in
              absurd (none q.1 (ap (slot_at s.slots) (sym p) ∙ slot_of_entry r.serial q.0 q.1 below_made w))

      -- what is kept for a reference of the store stands in the slot at its place
      pub kept_stands : (x : T) → kept_at v r.serial ≡ Some x → get s r.place ≡ Some (r.serial, x)
      kept_stands x k = cases (entry_at v.entries r.serial) refl k
        where
          cases : (q : Option (ℕ × T)) → entry_at v.entries r.serial ≡ q → option_map (λ (q : ℕ × T). q.1) q ≡ Some x → get s r.place ≡ Some (r.serial, x)
          cases None w k = absurd cc
          cases (Some q) w k =
              let p : q.0 ≡ r.place = of.place q.0 q.1 w in
              ap (slot_at s.slots) (sym p) ∙ slot_of_entry r.serial q.0 q.1 below_made w ∙ ap (λ (z : T). Some (r.serial, z)) (some_is k)

      -- and is what a look found
      pub look_stands : (found : Option (Bor T)) → option_copied found ≡ kept_at v r.serial → is_some found ≡ true → (x : T) × (get s r.place ≡ Some (r.serial, x))
      look_stands None k h = absurd cc
      look_stands (Some b) k h = (b.now, kept_stands b.now (sym k))
