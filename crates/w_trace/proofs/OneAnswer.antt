-- A list of events has one answer: it is one-shot, or one event alone is the first with which it isn't.
use Rattle.std.proofs.Common.{◌≡◌, ◌⊎◌, inl, inr, ℕ, zero, suc, ◌<◌, ◌≤◌, Bool, List, [], length, Option, Some, None, Result, Ok, Err, IfOk, refl, ap, subst, arith}
use Rattle.std.specs.Prelude.{take, IfErr}
use Rattle.std.proofs.lemmas.Bool.{cases_order}
use Rattle.std.proofs.lemmas.List.{take-take, take_all}
use Rattle.w_trace.specs.declared.event.Event.{Event}
use Rattle.w_trace.specs.declared.fault.OnceFault.{OnceFault}
use Rattle.w_trace.specs.declared.fault.OnceFault.TheVariants as fault
use Rattle.w_trace.specs.Once.{uses_of, after_uses, IsOneShot, IsUnsoundAt}
use Rattle.w_trace.proofs.Uses.{one_shot, lasting, first_part}
use Rattle.w_trace.proofs.Counting.{unsound}

-- what comes behind an event that is unsound mends nothing
never_mended : (es : List Event) (k l : ℕ) → k < l → IsUnsoundAt es k → IsOneShot (uses_of (take l es)) → ⊥
never_mended es k l less unsound one =
    unsound.breaks (subst (λ (front : List Event). IsOneShot (uses_of front)) (take-take (suc k) l es (omega (arith, less))) (first_part (take l es) (suc k) one))

-- what is one-shot is unsound nowhere
pub not_both : (es : List Event) (l : ℕ) → IsOneShot (uses_of es) → IsUnsoundAt es l → ⊥
not_both es l one unsound = unsound.breaks (first_part es (suc l) one)

-- no two events are the first
pub one_unsound : (es : List Event) (k l : ℕ) → IsUnsoundAt es k → IsUnsoundAt es l → k ≡ l
one_unsound es k l h i = elim (cases_order k l) [
  | inl same ↦ same
  | inr apart ↦ elim apart [ inl less ↦ absurd (never_mended es k l less h i.before) | inr more ↦ absurd (never_mended es l k more i h.before) ]
]

-- ## There is an answer

abbrev Answered : List Event → List Event → Type 0
Answered es front = IsOneShot (uses_of front) ⊎ ((l : ℕ) × IsUnsoundAt es l)

-- of one event more, where those before it are one-shot
answered_by : (es : List Event) (n : ℕ) (o : Option (List Bool)) → n < length es → IsOneShot (uses_of (take n es)) → after_uses (uses_of (take (suc n) es)) [] ≡ o → Answered es (take (suc n) es)
answered_by es n (Some now) less one e = inl (one_shot (uses_of (take (suc n) es)) now e)
answered_by es n None less one e = let flags = lasting (uses_of (take n es)) one in inr (n, unsound es n flags.0 less flags.1 e)

answered_more : (es : List Event) (n : ℕ) → n < length es → Answered es (take n es) → Answered es (take (suc n) es)
answered_more es n less (inl one) = answered_by es n (after_uses (uses_of (take (suc n) es)) []) less one refl
answered_more es n less (inr found) = inr found

answered : (es : List Event) (n : ℕ) → n ≤ length es → Answered es (take n es)
answered es zero few = inl (record { in_order = tt; made_before = tt; once = tt })
answered es (suc n) few = answered_more es n (omega (arith, few)) (answered es n (omega (arith, few)))

-- a list of events is one-shot, or it has a first event that is unsound
pub one_shot_or_unsound : (es : List Event) → IsOneShot (uses_of es) ⊎ ((l : ℕ) × IsUnsoundAt es l)
one_shot_or_unsound es = subst (Answered es) (take_all (length es) es (omega arith)) (answered es (length es) (omega arith))

-- ## What an answer that is right says of all others

abbrev Right : List Event → OnceFault → Type 0
Right es e = (l : ℕ) → e ≡ fault.Unsound l → IsUnsoundAt es l

module _ {A : Type 0} where
  pub only_ok : (es : List Event) (r : Result A OnceFault) → IfErr r (Right es) → IsOneShot (uses_of es) → IfErr r (λ e. e ≡ fault.OutOfMemory)
  only_ok es (Ok a) right one = tt
  only_ok es (Err (fault.Unsound l)) right one = absurd (not_both es l one (right l refl))
  only_ok es (Err fault.OutOfMemory) right one = refl

  pub only_err : (es : List Event) (r : Result A OnceFault) → IfOk r (λ a. IsOneShot (uses_of es)) → IfErr r (Right es) → (l : ℕ) → IsUnsoundAt es l
      → (r ≡ Err (fault.Unsound l)) ⊎ (r ≡ Err fault.OutOfMemory)
  only_err es (Ok a) one right l h = absurd (not_both es l one h)
  only_err es (Err (fault.Unsound k)) one right l h = inl (ap (λ (n : ℕ). Err (fault.Unsound n)) (one_unsound es k l (right k refl) h))
  only_err es (Err fault.OutOfMemory) one right l h = inr refl
