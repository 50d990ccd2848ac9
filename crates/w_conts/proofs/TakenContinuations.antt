-- A continuation is taken out.
use Rattle.std.proofs.Common.{◌≡◌, ◌≢◌, ℕ, ◌+◌, List, Option, Some, None, true, sym, ap, ◌∙◌, subst, arith, Bor}
use Rattle.std.specs.Prelude.{slice_set, option_copied, is_some}
use Rattle.slab.specs.Slab.{Slab, get, slab_len, Updates}
use Rattle.w_types.specs.declared.value.ContRef.{ContRef}
use Rattle.w_conts.specs.Conts.{Conts, some_count, entry_at, kept_at, without_entry, IsOf, KeepsReferences}
use Rattle.w_conts.specs.Slots.{slot_at, entries_of, conts_of, HasDistinctSerials, IsSound}
use Rattle.w_conts.proofs.SerialsAmongSlots.{some_is, serial_is, find_none, found, find_same}
use Rattle.w_conts.proofs.Entries.{entry_found, entries_set}
use Rattle.w_conts.proofs.EntryCounts.{count_less}
use Rattle.w_conts.proofs.OpenedStores.{Opened, kept_some, look_stands}
use Rattle.w_conts.proofs.References.{still_of}

module _ {T : Type 0} where
  -- what a slab's removal at a reference's place ensures
  pub record Takes (v : Conts T) (s s' : Slab (ℕ × T)) (made spare : ℕ) (r : ContRef) (x : T) : Type 0 where
    pub opened : Opened v s made spare
    pub was : get s r.place ≡ Some (r.serial, x)
    pub updates : Updates s s' r.place None
    pub len : slab_len s' + 1 ≡ slab_len s
    pub capacity : s'.capacity ≡ s.capacity

  module _ {v : Conts T} {s s' : Slab (ℕ × T)} {made spare : ℕ} {r : ContRef} {x : T} (p : Takes v s s' made spare r x) where
    -- a slot of the new slab is another of the old
    old_slot : (i a : ℕ) (y : T) → slot_at s'.slots i ≡ Some (a, y) → (i ≢ r.place) × (slot_at s.slots i ≡ Some (a, y))
    old_slot i a y h =
        let ne : i ≢ r.place = λ e. let w : ◌≡◌ {A = Option (ℕ × T)} None (Some (a, y)) = sym p.updates.changed ∙ ap (slot_at s'.slots) (sym e) ∙ h in cc in
        (ne, sym (p.updates.others i ne) ∙ h)

    -- no two slots of it have one serial
    new_distinct : HasDistinctSerials s'.slots
    new_distinct i j a y z h k = p.opened.sound.distinct i j a y z (old_slot i a y h).1 (old_slot j a z k).1

    -- of the entries that at the reference's serial is gone
    take_entries : entries_of s'.slots made ≡ slice_set (entries_of s.slots made) r.serial None
    take_entries =
        entries_set s.slots s'.slots made r.serial (p.opened.sound.drawn r.place r.serial x p.was)
        (find_none s'.slots 0 r.serial (λ i y h. let w = old_slot i r.serial y h in w.0 (p.opened.sound.distinct i r.place r.serial y x w.1 p.was)))
        (λ b l ne. find_same s.slots s'.slots b p.opened.sound.distinct new_distinct
        (λ i y h. p.updates.others i (λ e. let w : Some (b, y) ≡ Some (r.serial, x) = sym h ∙ ap (slot_at s.slots) e ∙ p.was in absurd (ne (serial_is w))) ∙ h)
        (λ i y h. (old_slot i b y h).1))

    -- it was there
    take_found : entry_at (entries_of s.slots made) r.serial ≡ Some (r.place, x)
    take_found =
        entry_found s.slots made r.serial (p.opened.sound.drawn r.place r.serial x p.was)
        ∙ found s.slots r.serial r.place x p.opened.sound.distinct p.was

    -- the invariant is kept
    pub take_sound : IsSound s' made (spare + 1)
    take_sound = record {
      distinct = new_distinct;
      drawn = λ i a y h. p.opened.sound.drawn i a y (old_slot i a y h).1;
      count = omega (arith, p.len, p.opened.sound.count, count_less (entries_of s.slots made) r.serial (r.place, x) take_found, ap some_count take_entries);
      room = omega (arith, p.len, p.opened.sound.room, p.capacity);
    }

    -- what was taken was kept for the reference
    pub take_value : Some x ≡ kept_at v r.serial
    take_value = sym (kept_some p.opened r.serial r.place x p.was)

    -- the entry is gone
    pub take_after : conts_of s' made (spare + 1) ≡ without_entry r.serial v
    take_after =
        ap (λ (es : List (Option (ℕ × T))). let r : Conts T = record { entries = es; spare = spare + 1 } in r) take_entries
        ∙ ap (without_entry r.serial) p.opened.view

    -- references are of the store still
    pub take_references : KeepsReferences v (conts_of s' made (spare + 1))
    take_references = subst (KeepsReferences v) (sym take_after) (still_of r.serial v)

  -- ## What a look found is what is taken

  -- what a look for a reference of the store found, which is there
  pub record Looks (v : Conts T) (s : Slab (ℕ × T)) (made spare : ℕ) (r : ContRef) : Type 0 where
    pub opened : Opened v s made spare
    pub of : IsOf r v
    pub looked : Option (Bor T)
    pub kept : option_copied looked ≡ kept_at v r.serial
    pub some : is_some looked ≡ true

  module _ {v : Conts T} {s : Slab (ℕ × T)} {made spare : ℕ} {r : ContRef} (l : Looks v s made spare r) where
    -- so there is something to take
    pub not_vacant : get s r.place ≡ None → ⊥
    not_vacant none =
        let t = look_stands l.opened l.of l.looked l.kept l.some in
        let w : ◌≡◌ {A = Option (ℕ × T)} None (Some (r.serial, t.0)) = sym none ∙ t.1 in cc

    -- and it has the reference's serial
    pub takes_of : (s' : Slab (ℕ × T)) (a : ℕ) (x : T) → get s r.place ≡ Some (a, x) → Updates s s' r.place None → slab_len s' + 1 ≡ slab_len s
        → s'.capacity ≡ s.capacity → Takes v s s' made spare r x
    takes_of s' a x g updates len capacity =
        let t = look_stands l.opened l.of l.looked l.kept l.some in
        let e : ◌≡◌ {A = ℕ × T} (r.serial, t.0) (a, x) = some_is (sym t.1 ∙ g) in
        record { opened = l.opened; was = t.1 ∙ ap (λ (z : ℕ × T). Some (r.serial, z.1)) e; updates = updates; len = len; capacity = capacity }
