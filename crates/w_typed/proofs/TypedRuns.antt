-- Runs of typed configurations stay typed.
use Rattle.std.proofs.Common.{◌≡◌, ◌≢◌, ℕ, zero, suc, List, [], ◌++◌, refl}
use Rattle.lists.specs.Rows.{Row}
use Rattle.w_rules.specs.Operands.{Operand}
use Rattle.w_rules.specs.Sound.{Sound}
use Rattle.w_reduce.specs.Store.{Store}
use Rattle.w_reduce.specs.Terms.{Term}
use Rattle.w_reduce.specs.Program.{Program, IsProgram}
use Rattle.w_reduce.specs.Reduced.{Reduced}
use Rattle.w_reduce.specs.Reduce.{reduce}
use Rattle.w_reduce.specs.Run.{Outcome, Running, Values, Traps, Limit, NoRule, RunState, outcome_by, state_at, after_reduction, continued, Run}
use Rattle.w_typed.specs.Values.{Arrows}
use Rattle.w_typed.specs.Configurations.{Typed, IsSafe, goes, traps, is_limited, ends, RunIsTyped, RunsAreTyped}
use Rattle.w_typed.proofs.Reductions.{reductions_are_safe}

module _ (p : Program) (us : Row Operand) (prog : IsProgram p) (valid : Sound p.source) where
  -- a rule applies to what is safe
  safe_goes : {K : Arrows} (r : Reduced) → IsSafe p.source K us r → outcome_by r ≢ NoRule
  safe_goes _ (goes g h) is = absurd (cc)
  safe_goes _ traps is = absurd (cc)
  safe_goes _ is_limited is = absurd (cc)
  safe_goes _ (ends v) is = absurd (cc)

  begun : (K : Arrows) (n : ℕ) (out : List ℕ) (s : Store) (t : Term) → Typed p.source K us s t → RunIsTyped p us (state_at p n out s t)
  begun K n out s t h = record { arrows = K; typed = h; never_stuck = safe_goes (reduce p s t) (reductions_are_safe p K us s t prog valid h) }

  after_safe : (K : Arrows) (r : RunState) (d : Reduced) → Typed p.source K us r.store r.term → IsSafe p.source K us d → r.outcome ≡ Running → RunIsTyped p us (after_reduction p r d)
  after_safe K r _ h (goes {L = L} {out = out} {s = s} {t = t} g k) running = begun L (suc r.taken) (r.output ++ out) s t k
  after_safe K r _ h traps running = record { arrows = K; typed = h; never_stuck = λ e. absurd (cc) }
  after_safe K r _ h is_limited running = record { arrows = K; typed = h; never_stuck = λ e. absurd (cc) }
  after_safe K r _ h (ends v) running = record { arrows = K; typed = h; never_stuck = λ e. absurd (cc) }

  goes_on_typed : (r : RunState) (o : Outcome) → r.outcome ≡ o → RunIsTyped p us r → RunIsTyped p us (continued p r o)
  goes_on_typed r Running is h = after_safe h.arrows r (reduce p r.store r.term) h.typed (reductions_are_safe p h.arrows us r.store r.term prog valid h.typed) is
  goes_on_typed r (Values vs) is h = h
  goes_on_typed r (Traps t) is h = h
  goes_on_typed r (Limit name) is h = h
  goes_on_typed r NoRule is h = h

-- each run of a typed configuration stays typed
pub runs_are_typed : RunsAreTyped
runs_are_typed p K us s t prog valid h zero = begun p us prog valid K 0 [] s t h
runs_are_typed p K us s t prog valid h (suc n) =
    goes_on_typed p us prog valid (Run p s t n) (Run p s t n).outcome refl (runs_are_typed p K us s t prog valid h n)
