-- How many flags there are behind uses, how many of them are live, and the loop over events.
use Rattle.std.proofs.Common.{◌≡◌, ℕ, zero, suc, ◌+◌, ◌<◌, ◌≤◌, Bool, true, false, List, [], ◌∷◌, ◌++◌, length, take, get_or, Option, Some, None, refl, sym, ap, subst, arith, add-one, ◌∙◌}
use Rattle.std.specs.Prelude.{slice_get, slice_set, nat_eq, option_and_then, if◌then◌else◌}
use Rattle.std.proofs.Math.Seq.{take-suc}
use Rattle.std.proofs.lemmas.List.{append-nil, length-set, take_all}
use Rattle.std.proofs.lemmas.Grind.{flat_map-append}
use Rattle.w_trace.specs.declared.event.Event.{Event}
use Rattle.w_trace.specs.Once.{Use, Consumes, Makes, uses, uses_of, consumed_by, made_by, where_live, after_uses, number_live, IsUnsoundAt, Becomes}
use Rattle.w_trace.proofs.Flags.{length-more}
use Rattle.w_trace.proofs.Uses.{one_shot, lasting, after-append}

pub record Counts (flags : List Bool) (us : List Use) (now : List Bool) : Type 0 where
  pub all : length now ≡ length flags + length (made_by us)
  pub left : number_live now + length (consumed_by us) ≡ number_live flags + length (made_by us)

number_live-set : (flags : List Bool) (a : ℕ) → slice_get flags a ≡ Some true → suc (number_live (slice_set flags a false)) ≡ number_live flags
number_live-set [] a e = absurd (cc)
number_live-set (true ∷ flags) zero e = refl
number_live-set (false ∷ flags) zero e = absurd (cc)
number_live-set (true ∷ flags) (suc a) e = ap suc (number_live-set flags a e)
number_live-set (false ∷ flags) (suc a) e = number_live-set flags a e

number_live-more : (flags : List Bool) → number_live (flags ++ true ∷ []) ≡ suc (number_live flags)
number_live-more [] = refl
number_live-more (true ∷ flags) = ap suc (number_live-more flags)
number_live-more (false ∷ flags) = number_live-more flags

counts_where : (us : List Use) (flags now : List Bool) (a : ℕ) (o : Option Bool) → ((next : List Bool) → after_uses us next ≡ Some now → Counts next us now) → slice_get flags a ≡ o
    → option_and_then (after_uses us) (where_live o (slice_set flags a false)) ≡ Some now → Counts flags (Consumes a ∷ us) now
counts_where us flags now a None go e h = absurd (cc)
counts_where us flags now a (Some false) go e h = absurd (cc)
counts_where us flags now a (Some true) go e h =
    let i = go (slice_set flags a false) h in let l = length-set flags a false in let v = number_live-set flags a e in let all = i.all in let left = i.left in
    record { all = omega (arith, all, l); left = omega (arith, left, v) }

counts_if : (us : List Use) (flags now : List Bool) (b : ℕ) (is_next : Bool) → ((next : List Bool) → after_uses us next ≡ Some now → Counts next us now)
    → option_and_then (after_uses us) (if is_next then Some (flags ++ true ∷ []) else None) ≡ Some now → Counts flags (Makes b ∷ us) now
counts_if us flags now b false go h = absurd (cc)
counts_if us flags now b true go h =
    let i = go (flags ++ true ∷ []) h in let l = length-more flags true in let v = number_live-more flags in let all = i.all in let left = i.left in
    record { all = omega (arith, all, l); left = omega (arith, left, v) }

pub counts : (us : List Use) (flags now : List Bool) → after_uses us flags ≡ Some now → Counts flags us now
counts [] flags now h = let same : flags ≡ now = cc in subst (Counts flags []) same (record { all = omega arith; left = omega arith })
counts (Consumes a ∷ us) flags now h = counts_where us flags now a (slice_get flags a) (λ next k. counts us next now k) refl h
counts (Makes b ∷ us) flags now h = counts_if us flags now b (nat_eq b (length flags)) (λ next k. counts us next now k) h

-- ## The loop

uses_single : (e : Event) → uses_of (e ∷ []) ≡ uses e.kind
uses_single e = append-nil (uses e.kind)

-- one event more
after_more : (es : List Event) (i : ℕ) (d : Event) (flags : List Bool) → i < length es → after_uses (uses_of (take i es)) [] ≡ Some flags
    → after_uses (uses_of (take (suc i) es)) [] ≡ after_uses (uses (get_or es i d).kind) flags
after_more es i d flags h e =
    let e1 = take-suc es i d h in
    let e2 = flat_map-append (λ (e : Event). uses e.kind) (take i es) (get_or es i d ∷ []) in
    let e3 = uses_single (get_or es i d) in
    let e4 = after-append (uses_of (take i es)) (uses (get_or es i d).kind) [] in
    rw e1 (rw e2 (rw e3 (rw e4 (rw e refl))))

-- or none
pub unsound : (es : List Event) (i : ℕ) (flags : List Bool) → i < length es → after_uses (uses_of (take i es)) [] ≡ Some flags
    → after_uses (uses_of (take (suc i) es)) [] ≡ None → IsUnsoundAt es i
unsound es i flags h e none = record {
  here = h;
  before = one_shot (uses_of (take i es)) flags e;
  breaks = λ o. let n = lasting (uses_of (take (suc i) es)) o in let is = n.1 in absurd (cc);
}

becomes_some : (r : Bool) (o : Option (List Bool)) (now : List Bool) → r ≡ true → Becomes r o now → o ≡ Some now
becomes_some true o now t h = h
becomes_some false o now t h = absurd (cc)

becomes_none : (r : Bool) (o : Option (List Bool)) (now : List Bool) → r ≡ false → Becomes r o now → o ≡ None
becomes_none true o now t h = absurd (cc)
becomes_none false o now t h = h

-- an event was followed
pub onward : (es : List Event) (i : ℕ) (d : Event) (flags now : List Bool) (r : Bool) → i < length es → after_uses (uses_of (take i es)) [] ≡ Some flags
    → r ≡ true → Becomes r (after_uses (uses (get_or es i d).kind) flags) now → after_uses (uses_of (take (i + 1) es)) [] ≡ Some now
onward es i d flags now r h e t b =
    ap (λ (j : ℕ). after_uses (uses_of (take j es)) []) (add-one i) ∙ (after_more es i d flags h e ∙ becomes_some r (after_uses (uses (get_or es i d).kind) flags) now t b)

-- or it wasn't
pub refused : (es : List Event) (i : ℕ) (d : Event) (flags now : List Bool) (r : Bool) → i < length es → after_uses (uses_of (take i es)) [] ≡ Some flags
    → r ≡ false → Becomes r (after_uses (uses (get_or es i d).kind) flags) now → IsUnsoundAt es i
refused es i d flags now r h e t b = unsound es i flags h e (after_more es i d flags h e ∙ becomes_none r (after_uses (uses (get_or es i d).kind) flags) now t b)

-- all of them were
pub whole : (es : List Event) (i : ℕ) (flags : List Bool) → length es ≤ i → after_uses (uses_of (take i es)) [] ≡ Some flags → after_uses (uses_of es) [] ≡ Some flags
whole es i flags h e = ap (λ (xs : List Event). after_uses (uses_of xs) []) (sym (take_all i es h)) ∙ e
