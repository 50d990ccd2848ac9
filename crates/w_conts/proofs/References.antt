-- References of a store that changes.
use Rattle.std.proofs.Common.{◌≡◌, ℕ, ◌+◌, ◌<◌, [], ◌∷◌, length, Some, None, sym, ap, ◌∙◌, arith, inl, inr, length-append}
use Rattle.std.proofs.lemmas.Bool.{cases_lt}
use Rattle.std.proofs.lemmas.List.{get_or_append_left, get_or-set_same, get_or-set_other, length-set}
use Rattle.std.proofs.Math.Seq.{get_or-append_seam}
use Rattle.std.specs.Prelude.{slice_set}
use Rattle.w_types.specs.declared.value.ContRef.{ContRef}
use Rattle.w_conts.specs.Conts.{Conts, entry_at, with_entry, without_entry, IsOf, KeepsReferences}
use Rattle.w_conts.proofs.SerialsAmongSlots.{serial_is}

module _ {T : Type 0} where
  -- each entry before stays, the new one stands behind them, and there is one more
  entry_before : (v : Conts T) (p a : ℕ) (x : T) → a < length v.entries → entry_at (with_entry p x v).entries a ≡ entry_at v.entries a
  entry_before v p a x l = get_or_append_left v.entries (Some (p, x) ∷ []) None a l

  entry_last : (v : Conts T) (p a : ℕ) (x : T) → a ≡ length v.entries → entry_at (with_entry p x v).entries a ≡ Some (p, x)
  entry_last v p a x e = ap (entry_at (with_entry p x v).entries) e ∙ get_or-append_seam v.entries (Some (p, x)) [] None

  one_longer : (v : Conts T) (p : ℕ) (x : T) → length (with_entry p x v).entries ≡ length v.entries + 1
  one_longer v p x = length-append v.entries (Some (p, x) ∷ [])

  -- the reference to the new entry is of the new store
  pub new_of : (v : Conts T) (r : ContRef) (x : T) → r.serial ≡ length v.entries → IsOf r (with_entry r.place x v)
  new_of v r x e = record {
    made = omega (arith, e, one_longer v r.place x);
    place = λ p y h. serial_is (sym h ∙ entry_last v r.place r.serial x e);
  }

  -- and each other that was
  pub others_of : (v : Conts T) (p : ℕ) (x : T) → KeepsReferences v (with_entry p x v)
  others_of v p x r of = record {
    made = let l = of.made in omega (arith, l, one_longer v p x);
    place = λ q y h. of.place q y (sym (entry_before v p r.serial x of.made) ∙ h);
  }

  -- each reference of a store is of the one without an entry
  pub still_of : (a : ℕ) (v : Conts T) → KeepsReferences v (without_entry a v)
  still_of a v r of = record {
    made = let l = of.made in omega (arith, l, length-set v.entries a None);
    place = λ p x h. elim (cases_lt r.serial a) [
      | inl l ↦ of.place p x (sym (get_or-set_other v.entries a r.serial None None (λ e. omega arith)) ∙ h)
      | inr g ↦ elim (cases_lt a r.serial) [
        | inl l ↦ of.place p x (sym (get_or-set_other v.entries a r.serial None None (λ e. omega arith)) ∙ h)
        | inr g' ↦
            let e : r.serial ≡ a = omega arith in
            let l : a < length v.entries = (let m = of.made in omega arith) in
            let w : None ≡ Some (p, x) = sym (get_or-set_same v.entries a None None l) ∙ ap (entry_at (slice_set v.entries a None)) (sym e) ∙ h in
            absurd cc
      ]
    ];
  }
