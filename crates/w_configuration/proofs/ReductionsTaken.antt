-- What a reduction that was taken leaves.
use Rattle.std.proofs.Common.{◌≡◌, ℕ, List, [], Option, Some, None, refl, subst, subst₂, arith, ◌<◌, length}
use Rattle.lists.specs.Rows.{Row}
use Rattle.w_syntax.specs.declared.module.Module.{Module}
use Rattle.w_rules.specs.Operands.{Operand}
use Rattle.w_rules.specs.Sound.{Sound}
use Rattle.w_segment.specs.Link.{Link}
use Rattle.w_reduce.specs.Values.{Val}
use Rattle.w_reduce.specs.Store.{Store}
use Rattle.w_reduce.specs.Terms.{Rest, Context, Term, Continuation}
use Rattle.w_reduce.specs.Program.{Program}
use Rattle.w_reduce.specs.Reduced.{Reduced, Went, Trapped, Limited, Ended, Stuck}
use Rattle.w_reduce.specs.Reduce.{limited, reduce, unless_passed, next}
use Rattle.w_typed.specs.Values.{Arrows}
use Rattle.w_typed.specs.Configurations.{Typed, IsSafe, goes, traps, is_limited, ends}
use Rattle.w_configuration.specs.Parts.{Parts, whole}
use Rattle.w_configuration.specs.Standing.{IsLast, Stands}
use Rattle.w_reduce.specs.Limits.{passed, IsWithin}
use Rattle.w_reduce.specs.declared.limit.RunLimit.{RunLimit}
use Rattle.w_reduce.proofs.PassedLimits.{none_within}
use Rattle.w_switching.specs.Standing.{Chained, only, around}
use Rattle.w_configuration.specs.Reducing.{TakesReduction}
use Rattle.w_configuration.proofs.PartsOfRuns.{reduces_safely}

-- it is typed, with some function types of its continuations
pub record SomehowTyped (m : Module) (us : Row Operand) (v : Store) (t : Term) : Type 0 where
  pub arrows : Arrows
  pub typed : Typed m arrows us v t

safe_went : {m : Module} {K : Arrows} {us : Row Operand} {d : Reduced} {text : List ℕ} {v : Store} {t : Term} → IsSafe m K us d → d ≡ Went text v t → SomehowTyped m us v t
safe_went {m = m} {us = us} {v = v} {t = t} (goes {L = L} {s = old_store} {t = old} g h) is =
    let one : old ≡ t = cc in
    let store : old_store ≡ v = cc in
    record { arrows = L; typed = subst (λ (x : Term). Typed m L us v x) one (subst (λ (w : Store). Typed m L us w old) store h) }
safe_went traps is = absurd (cc)
safe_went is_limited is = absurd (cc)
safe_went (ends h) is = absurd (cc)

pub limited_within : (d : Reduced) (text : List ℕ) (v : Store) (t : Term) → limited d ≡ Went text v t → IsWithin v t.around
limited_within (Went out s u) text v t is = within (passed s u.around) refl is
  where
    within : (o : Option RunLimit) → passed s u.around ≡ o → unless_passed o (Went out s u) ≡ Went text v t → IsWithin v t.around
    within None e is =
        let same : u ≡ t = cc in
        let store : s ≡ v = cc in
        subst₂ (λ (z : Store) (x : Term). IsWithin z x.around) store same (none_within s u.around e)
    within (Some name) e is = absurd (cc)
limited_within (Trapped x) text v t is = absurd (cc)
limited_within (Limited l) text v t is = absurd (cc)
limited_within (Ended vs) text v t is = absurd (cc)
limited_within Stuck text v t is = absurd (cc)

module _ {m : Module} {waiting : List ℕ} {x : Parts} {p : Program} {ks : List (Option Continuation)} {t : Term} (sound : Sound m) (h : Stands m waiting x p ks t) where
  -- it is typed again
  pub went_typed : {text : List ℕ} {v : Store} {u : Term} → reduce p (whole x.store ks) t ≡ Went text v u → SomehowTyped m h.results v u
  went_typed {v = v} {u = u} went = subst (λ (n : Module). SomehowTyped n h.results v u) h.stand.source (safe_went (reduces_safely sound h) went)

-- segments that stand for a context are some
pub chained_long : {m : Module} {outer : Context} {behind : Rest} {xs : List Link} {e : Context} {vs : Row Val} {r : Rest} → Chained m outer behind xs e vs r → 0 < length xs
chained_long (only i v) = omega arith
chained_long (around i v c g k) = omega arith

-- what was taken leaves what stands for a configuration, where the turn of no other segment has come
pub stands_after : {m : Module} {waiting : List ℕ} {x : Parts} {p : Program} {ks : List (Option Continuation)} {t : Term} {x' : Parts} {k : ℕ} {before now : Option (List ℕ)}
    → Sound m → (h : Stands m waiting x p ks t) → (went : TakesReduction m waiting p (reduce p (whole x.store ks) t) k x' before now) → (IsLast x'.chain → waiting ≡ [])
    → Stands m waiting x' p went.ks went.t
stands_after {x = x} {p = p} {ks = ks} {t = t} {x' = x'} valid h went done =
    let typed = went_typed valid h went.is in
    record {
      stand = went.stand;
      results = h.results;
      arrows = typed.arrows;
      typed = typed.typed;
      ends = h.ends;
      within = limited_within (next p (whole x.store ks) t.around t.operands t.rest.ahead t.rest.code) went.text (whole x'.store went.ks) went.t went.is;
      sound = went.sound;
      room = went.room;
      held = went.held;
      done = done;
    }
