-- Flag by flag, and as a whole: the same lists of uses are one-shot.
use Rattle.std.proofs.Common.{◌≡◌, ◌≢◌, ℕ, Bool, true, false, List, [], ◌∷◌, ◌++◌, length, Option, Some, None, refl, sym, ap, subst, ◌∙◌}
use Rattle.std.specs.Prelude.{slice_get, slice_set, nat_eq, option_and_then, take, drop, if◌then◌else◌}
use Rattle.std.proofs.lemmas.Bool.{eqb-true, eq-eqb}
use Rattle.std.proofs.lemmas.Grind.{flat_map-append}
use Rattle.std.proofs.lemmas.List.{length-set, take-append-drop}
use Rattle.w_once.specs.Consumptions.{Each, Once}
use Rattle.w_once.proofs.EmptiedByReductions.{each_map}
use Rattle.w_trace.specs.declared.event.Event.{Event}
use Rattle.w_trace.specs.Once.{Use, Consumes, Makes, uses, uses_of, consumed_by, made_by, AreFrom, MadeBefore, IsOneShot, where_live, make, after_uses, OneShotExactly, FirstPartsAreOneShot}
use Rattle.w_trace.proofs.Flags.{length-more, set_same, set_keeps, set_other, below, is_live, more_keeps, more_only}

each_both : {P Q R : ℕ → Type 0} (xs : List ℕ) → ((a : ℕ) → P a → Q a → R a) → Each P xs → Each Q xs → Each R xs
each_both [] f h k = tt
each_both (a ∷ xs) f h k = (f a h.0 k.0, each_both xs f h.1 k.1)

-- ## From flags that are so

-- what comes is one-shot, where these were made before
pub record Goes (flags : List Bool) (us : List Use) : Type 0 where
  pub in_order : AreFrom (length flags) (made_by us)
  pub made_before : MadeBefore (length flags) us
  pub once : Once (consumed_by us)
  pub unused : Each (λ a. slice_get flags a ≢ Some false) (consumed_by us)

forth_consumed : (flags : List Bool) (a : ℕ) (us : List Use) → slice_get flags a ≡ Some true → Goes (slice_set flags a false) us → Goes flags (Consumes a ∷ us)
forth_consumed flags a us e g = record {
  in_order = subst (λ (n : ℕ). AreFrom n (made_by us)) (length-set flags a false) g.in_order;
  made_before = (below flags a true e, subst (λ (n : ℕ). MadeBefore n us) (length-set flags a false) g.made_before);
  once = (each_map (consumed_by us) (λ b other same. other (subst (λ (n : ℕ). slice_get (slice_set flags a false) n ≡ Some false) same (set_same flags a true e))) g.unused, g.once);
  unused = ((λ is. absurd (cc)), each_map (consumed_by us) (λ b other was. other (set_keeps flags a b was)) g.unused);
}

forth_made : (flags : List Bool) (b : ℕ) (us : List Use) → b ≡ length flags → Goes (flags ++ true ∷ []) us → Goes flags (Makes b ∷ us)
forth_made flags b us e g = record {
  in_order = (e, subst (λ (n : ℕ). AreFrom n (made_by us)) (length-more flags true) g.in_order);
  made_before = subst (λ (n : ℕ). MadeBefore n us) (length-more flags true) g.made_before;
  once = g.once;
  unused = each_map (consumed_by us) (λ a other was. other (more_keeps flags a was)) g.unused;
}

forth_where : (us : List Use) (flags now : List Bool) (a : ℕ) (o : Option Bool) → ((next : List Bool) → after_uses us next ≡ Some now → Goes next us) → slice_get flags a ≡ o
    → option_and_then (after_uses us) (where_live o (slice_set flags a false)) ≡ Some now → Goes flags (Consumes a ∷ us)
forth_where us flags now a None go e h = absurd (cc)
forth_where us flags now a (Some false) go e h = absurd (cc)
forth_where us flags now a (Some true) go e h = forth_consumed flags a us e (go (slice_set flags a false) h)

forth_if : (us : List Use) (flags now : List Bool) (b : ℕ) (is_next : Bool) → ((next : List Bool) → after_uses us next ≡ Some now → Goes next us) → nat_eq b (length flags) ≡ is_next
    → option_and_then (after_uses us) (if is_next then Some (flags ++ true ∷ []) else None) ≡ Some now → Goes flags (Makes b ∷ us)
forth_if us flags now b false go e h = absurd (cc)
forth_if us flags now b true go e h = forth_made flags b us (eqb-true b (length flags) e) (go (flags ++ true ∷ []) h)

pub forth : (us : List Use) (flags now : List Bool) → after_uses us flags ≡ Some now → Goes flags us
forth [] flags now h = record { in_order = tt; made_before = tt; once = tt; unused = tt }
forth (Consumes a ∷ us) flags now h = forth_where us flags now a (slice_get flags a) (λ next k. forth us next now k) refl h
forth (Makes b ∷ us) flags now h = forth_if us flags now b (nat_eq b (length flags)) (λ next k. forth us next now k) refl h

-- ## And back

abbrev Lasts : List Use → List Bool → Type 0
Lasts us flags = (now : List Bool) × (after_uses us flags ≡ Some now)

back : (us : List Use) (flags : List Bool) → Goes flags us → Lasts us flags
back [] flags g = (flags, refl)
back (Consumes a ∷ us) flags g =
    let e = is_live flags a g.made_before.0 g.unused.0 in
    let i = back us (slice_set flags a false) (record {
      in_order = subst (λ (n : ℕ). AreFrom n (made_by us)) (sym (length-set flags a false)) g.in_order;
      made_before = subst (λ (n : ℕ). MadeBefore n us) (sym (length-set flags a false)) g.made_before.1;
      once = g.once.1;
      unused = each_both (consumed_by us) (λ b apart other was. other (set_other flags a b apart was)) g.once.0 g.unused.1;
    }) in
    (i.0, rw e i.1)
back (Makes b ∷ us) flags g =
    let e = eq-eqb b (length flags) g.in_order.0 in
    let i = back us (flags ++ true ∷ []) (record {
      in_order = subst (λ (n : ℕ). AreFrom n (made_by us)) (sym (length-more flags true)) g.in_order.1;
      made_before = subst (λ (n : ℕ). MadeBefore n us) (sym (length-more flags true)) g.made_before;
      once = g.once;
      unused = each_map (consumed_by us) (λ a other was. other (more_only flags a was)) g.unused;
    }) in
    (i.0, rw e i.1)

none_before : (xs : List ℕ) → Each (λ a. slice_get {X = Bool} [] a ≢ Some false) xs
none_before [] = tt
none_before (a ∷ xs) = ((λ e. absurd (cc)), none_before xs)

pub one_shot : (us : List Use) (now : List Bool) → after_uses us [] ≡ Some now → IsOneShot us
one_shot us now h = let g = forth us [] now h in record { in_order = g.in_order; made_before = g.made_before; once = g.once }

pub lasting : (us : List Use) → IsOneShot us → (now : List Bool) × (after_uses us [] ≡ Some now)
lasting us h = back us [] (record { in_order = h.in_order; made_before = h.made_before; once = h.once; unused = none_before (consumed_by us) })

pub one_shot_exactly : OneShotExactly
one_shot_exactly us = ((λ h. one_shot us h.0 h.1), lasting us)

-- ## One list of uses behind another

-- where each list goes on so, they do one behind the other
each_behind : (us vs : List Use) → ((flags : List Bool) → after_uses (us ++ vs) flags ≡ option_and_then (after_uses vs) (after_uses us flags)) → (o : Option (List Bool))
    → option_and_then (after_uses (us ++ vs)) o ≡ option_and_then (after_uses vs) (option_and_then (after_uses us) o)
each_behind us vs go None = refl
each_behind us vs go (Some flags) = go flags

pub after-append : (us vs : List Use) (flags : List Bool) → after_uses (us ++ vs) flags ≡ option_and_then (after_uses vs) (after_uses us flags)
after-append [] vs flags = refl
after-append (Consumes a ∷ us) vs flags = each_behind us vs (after-append us vs) (where_live (slice_get flags a) (slice_set flags a false))
after-append (Makes b ∷ us) vs flags = each_behind us vs (after-append us vs) (make b flags)

first_lasts : (vs : List Use) (o : Option (List Bool)) (now : List Bool) → option_and_then (after_uses vs) o ≡ Some now → (flags : List Bool) × (o ≡ Some flags)
first_lasts vs None now e = absurd (cc)
first_lasts vs (Some flags) now e = (flags, refl)

first_uses : (us vs : List Use) → IsOneShot (us ++ vs) → IsOneShot us
first_uses us vs h =
    let all = lasting (us ++ vs) h in
    let first = first_lasts vs (after_uses us []) all.0 (sym (after-append us vs []) ∙ all.1) in
    one_shot us first.0 first.1

pub first_part : FirstPartsAreOneShot
first_part es n h =
    let parts : uses_of es ≡ uses_of (take n es) ++ uses_of (drop n es) =
    sym (ap uses_of (take-append-drop n es)) ∙ flat_map-append (λ (e : Event). uses e.kind) (take n es) (drop n es) in
    first_uses (uses_of (take n es)) (uses_of (drop n es)) (subst IsOneShot parts h)
