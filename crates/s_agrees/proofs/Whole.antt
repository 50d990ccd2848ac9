-- Whole runs: the module's run follows its script, since each step is matched.
use Rattle.std.proofs.Common.{◌≡◌, ℕ, ℤ, zero, suc, ◌+◌, ◌<◌, ◌≤◌, Bool, List, [], inl, inr, Some, refl, ap, subst, arith}
use Rattle.following.specs.Follows.{Is, Limit, Value, Fault as Faulty}
use Rattle.following.specs.Steps as steps
use Rattle.following.specs.Steps.{Stops, Over, Reducing, Reductions, StepMatched, StepSimulation, goes, returns, faults, stops_before, stops_after, Goes, Returns, Faults, ending_before}
use Rattle.following.proofs.Reductions.{silent_then}
use Rattle.w_reduce.specs.Store.{Store}
use Rattle.w_reduce.specs.Terms.{Term}
use Rattle.s_syntax.specs.declared.script.Script.{Script}
use Rattle.s_meaning.specs.Numbers.{Fault}
use Rattle.s_meaning.specs.Terms.{Configuration}
use Rattle.s_meaning.specs.Steps.{Step, step}
use Rattle.s_meaning.specs.Typed.{World, Typed}
use Rattle.s_meaning.specs.Laws.{StepGood, on}
use Rattle.s_meaning.specs.Eval as eval
use Rattle.s_meaning.specs.Eval.{Passes, start}
use Rattle.s_agrees.proofs.StandsFor.{At}
use Rattle.s_agrees.proofs.CountedContexts.{weight}
use Rattle.s_agrees.proofs.Matches.{Matches, went, prints, faulted, caps_of}
use Rattle.s_agrees.proofs.Matches as matching
use Rattle.s_agrees.proofs.WithinLimits.{Config, at, reduce, Walked, all, part, walked, Went_on, goes_on, stopped, one, passes_here, passes_either}

-- what stands for one another, the script's configuration being typed
pub record Related (p : Script) (σ : Configuration) (x : Config) : Type 0 where
  pub world : World
  pub typed : Typed p world σ
  pub addresses : List ℕ
  pub stands : At p.declarations addresses σ x.store x.term

abbrev pub potential : Configuration → Config → ℕ
potential σ x = weight x.store x.term

module _ (p : Script) (matches : ℕ → ℕ → Bool) where
  abbrev pub WithinLimits : Configuration → Config → Type 0
  WithinLimits = StepMatched {V = ℤ} {F = Fault} {L = eval.RunLimit} (step p) Passes (reduce p matches) (Related p) potential

  module _ {ρ : List ℕ} {σ : Configuration} {s : Store} {t : Term} (from : At p.declarations ρ σ s t) where
    -- the limit is met before the step
    stops_here : {n : ℕ} (l : eval.RunLimit) (j : ℕ) (z : Config) → j < n → n ≤ 60 + weight s t → Reductions (reduce p matches) (at s t) [] j z → reduce p matches z ≡ Stops (Some (Limit l)) → Passes l σ → WithinLimits σ (at s t)
    stops_here l j z lt le r f passes = stops_before l j z r f passes (omega (arith, lt, le))

    within_went : {ρ' : List ℕ} {τ : Configuration} {n : ℕ} {s' : Store} {t' : Term} → step p σ ≡ Goes [] τ → (Ξ : World) → Typed p Ξ τ → 1 ≤ n → n + weight s' t' ≤ 60 + weight s t → At p.declarations ρ' τ s' t'
        → Walked p matches (caps_of s t t') n (at s t) (at s' t') → WithinLimits σ (at s t)
    within_went {n = zero} is Ξ typed le cost to w = absurd (omega (arith, le))
    within_went {ρ' = ρ'} {τ = τ} {n = suc k} {s' = s'} {t' = t'} is Ξ typed le cost to (all r) =
        goes [] τ k (at s' t') is r (record { world = Ξ; typed = typed; addresses = ρ'; stands = to }) (omega (arith, cost))
    within_went {τ = τ} {n = suc k} is Ξ typed le cost to (part l j z lt r f b) = elim (passes_either p matches from to l b) [
      | inl passes ↦ stops_here l j z lt (omega (arith, cost)) r f passes
      | inr passes ↦ stops_after l [] τ j z is r f passes (omega (arith, lt, cost))
    ]

    within_prints : {ρ' : List ℕ} {τ : Configuration} {o : List ℕ} {n : ℕ} {s1 s' : Store} {t1 t' : Term} → step p σ ≡ Goes o τ → (Ξ : World) → Typed p Ξ τ → suc n + weight s' t' ≤ 60 + weight s t → At p.declarations ρ' τ s' t'
        → Walked p matches (caps_of s t t) n (at s t) (at s1 t1) → Went_on p matches (caps_of s t t) (at s1 t1) o (at s' t') → WithinLimits σ (at s t)
    within_prints is Ξ typed cost to (part l j z lt r f b) last = stops_here l j z lt (omega (arith, cost)) r f (passes_here p matches from l b)
    within_prints {n = n} {s1 = s1} {t1 = t1} is Ξ typed cost to (all r) (stopped l h b) = stops_before l n (at s1 t1) r h (passes_here p matches from l b) (omega (arith, cost))
    within_prints {ρ' = ρ'} {τ = τ} {o = o} {n = n} {s' = s'} {t' = t'} is Ξ typed cost to (all r) (goes_on h) =
        let path : Reductions (reduce p matches) (at s t) o (suc n) (at s' t') =
        subst (λ (i : ℕ). Reductions (reduce p matches) (at s t) o i (at s' t')) (let z : n + 1 ≡ suc n = omega arith in z) (silent_then (reduce p matches) n 1 r (steps.prints h steps.none)) in
        goes o τ n (at s' t') is path (record { world = Ξ; typed = typed; addresses = ρ'; stands = to }) (omega (arith, cost))

    within_returns : {n : ℕ} {v : ℤ} {s1 : Store} {t1 : Term} → step p σ ≡ Returns v → 1 ≤ n → n ≤ 60 + weight s t → reduce p matches (at s1 t1) ≡ Over (Some (Is (Value v)))
        → Walked p matches (caps_of s t t) n (at s t) (at s1 t1) → WithinLimits σ (at s t)
    within_returns {n = zero} is le cost over w = absurd (omega (arith, le))
    within_returns {n = suc k} {v = v} {s1 = s1} {t1 = t1} is le cost over (all r) = returns v k (at s1 t1) is r over (omega (arith, cost))
    within_returns {n = suc k} is le cost over (part l j z lt r f b) = stops_here l j z lt cost r f (passes_here p matches from l b)

    within_faults : {n : ℕ} {f : Fault} {s1 : Store} {t1 : Term} → step p σ ≡ Faults f → suc n ≤ 60 + weight s t → reduce p matches (at s1 t1) ≡ Stops (Some (Is (Faulty f)))
        → Walked p matches (caps_of s t t) n (at s t) (at s1 t1) → WithinLimits σ (at s t)
    within_faults {n = n} {f = f} {s1 = s1} {t1 = t1} is cost stops (all r) = faults f n (at s1 t1) is r stops (omega (arith, cost))
    within_faults {n = n} is cost stops (part l j z lt r f b) = stops_here l j z lt (omega (arith, cost)) r f (passes_here p matches from l b)

    -- a step that is matched is so within the limits
    pub within : (r : Step) → step p σ ≡ r → StepGood p r → Matches p matches 60 s t r → WithinLimits σ (at s t)
    within (Goes o τ) is (on Ξ typed) (went path le cost to) = within_went is Ξ typed le cost to (walked p matches path)
    within (Goes o τ) is (on Ξ typed) (prints {s1 = s1} {s' = s'} {t1 = t1} {t' = t'} path last u cost to) = within_prints is Ξ typed cost to (walked p matches path) (one p matches (caps_of s t t) s1 s' t1 t' o last u)
    within (Returns v) is good (matching.returns {w = w} {s1 = s1} {t1 = t1} path le ended value cost) =
        within_returns is le cost (rw ended (ap (λ (z : ℤ). Over (Some (Is (Value z)))) value)) (walked p matches path)
    within (Faults f) is good (faulted {s1 = s1} {t1 = t1} path trapped fault cost) = within_faults is cost (rw (trapped, fault) refl) (walked p matches path)
    within steps.Wrong is good m = elim good [ ]
