-- Where the innermost segment is values: the handle around it is left, and where there is none the run ends.
use Rattle.std.proofs.Common.{◌≡◌, ℕ, ◌-◌, ◌≤◌, Bool, true, false, nat_eq, if◌then◌else◌, List, [], ◌∷◌, length, Option, Some, None, refl, sym, ap, subst, ◌∙◌, arith}
use Rattle.std.specs.Prelude.{⊤}
use Rattle.w_outside.proofs.Growth.{grew_nothing}
use Rattle.lists.specs.Rows.{Row, size}
use Rattle.w_syntax.specs.declared.module.Module.{Module}
use Rattle.w_segment.specs.declared.entry.Stage.TheVariants.{Values}
use Rattle.w_segment.specs.Shape.{Shape}
use Rattle.w_segment.specs.Link.{Link, top}
use Rattle.w_conts.specs.Conts.{Conts, KeepsReferences}
use Rattle.w_reduce.specs.Exits.{leave}
use Rattle.w_reduce.specs.Limits.{most_conts, IsWithin}
use Rattle.w_reduce.specs.Program.{Program}
use Rattle.w_reduce.specs.Reduced.{Reduced, Went, Trapped, Limited, Ended, Stuck}
use Rattle.w_reduce.specs.Reduce.{next, limited}
use Rattle.w_reduce.specs.Store.{Store, live}
use Rattle.w_reduce.specs.Terms.{Rest, Label, Frame, Handle, Context, Continuation, frames, handles}
use Rattle.w_reduce.specs.Values.{Val}
use Rattle.w_stands.specs.Stands.{StackIs, body, left, fresh, values}
use Rattle.w_stands.specs.Values.{stack}
use Rattle.w_switching.specs.declared.stored.Stored.{Stored}
use Rattle.w_switching.specs.Reductions.{Exits}
use Rattle.w_switching.specs.Sound.{Sound, Roomy}
use Rattle.w_switching.specs.Standing.{Chained, only, around}
use Rattle.w_switching.proofs.SegmentsInOthers.{kept_long}
use Rattle.w_configuration.specs.declared.stop.RunStop.TheVariants as run_stop
use Rattle.w_configuration.specs.Parts.{Parts, parts, whole}
use Rattle.w_configuration.specs.Standing.{behind_of, StandsSomewhere}
use Rattle.w_configuration.specs.Reducing.{PartsReduce}
use Rattle.w_configuration.proofs.ConfigurationCounts.{all_handles}
use Rattle.w_configuration.proofs.PlainReductions.{within}
use Rattle.w_configuration.proofs.SwitchedStacks.{held_on}

-- ## The exit

-- where it goes on the store is the same, and there are no more frames and handles
abbrev Fewer : Store → Context → Reduced → Type 0
Fewer s e (Went out s' t) = (s' ≡ s) × (frames t.around ≤ frames e) × (handles t.around ≤ handles e)
Fewer s e (Trapped t) = ⊤
Fewer s e (Limited l) = ⊤
Fewer s e (Ended vs) = ⊤
Fewer s e Stuck = ⊤

fewer_if : (s : Store) (e : Context) (b : Bool) (d : Reduced) → Fewer s e d → Fewer s e (if b then d else Stuck)
fewer_if s e true d h = h
fewer_if s e false d h = tt

leave_fewer : (s : Store) (e : Context) (vs : Row Val) → Fewer s e (leave s e vs)
leave_fewer s [] vs = tt
leave_fewer s (Label below n again rest ∷ e) vs = (refl, omega arith, omega arith)
leave_fewer s (Frame below n f locals rest ∷ e) vs = fewer_if s (Frame below n f locals rest ∷ e) (nat_eq (size vs) n) _ (refl, omega arith, omega arith)
leave_fewer s (Handle below hs rest ∷ e) vs = (refl, omega arith, omega arith)

module _ {m : Module} {x : Parts} (chain' : List Link) (conts' : Conts Stored) where
  -- what it led to passes no limit
  pub left_handle : Exits x.chain x.conts chain' conts' → Sound chain' conts' → ((n : Module) → Roomy n x.chain x.conts → Roomy n chain' conts') → KeepsReferences x.conts conts' → (held : Option (List ℕ))
      → PartsReduce None m x (parts x.store chain' conts') held held
  left_handle exits sound room keeps held waiting p ks t h =
      let went = exits m (behind_of waiting) p (whole x.store ks) t h.stand in
      let to = went.1 in
      let s' = whole x.store to.conts_after in
      let fewer = subst (Fewer (whole x.store ks) t.around) to.is (leave_fewer (whole x.store ks) t.around t.operands) in
      let same : to.conts_after ≡ ks = ap (λ (s : Store). s.conts) fewer.0 in
      let few_frames = h.within.few_frames in
      let few_handles = h.within.few_handles in
      let frames_less = fewer.1 in
      let handles_less = fewer.2 in
      let is_within : IsWithin s' to.t.around = record {
        few_frames = omega (arith, few_frames, frames_less);
        few_handles = omega (arith, few_handles, handles_less);
        few_conts = subst (λ (s : Store). live s ≤ most_conts) (sym fewer.0) h.within.few_conts;
      } in
      let after = kept_long to.stand.store in
      let before = kept_long h.stand.store in
      let long = ap (λ (l : List (Option Continuation)). length l) same in
      record {
        text = [];
        ks = to.conts_after;
        t = to.t;
        is = ap (λ (r : Rest). limited (next p (whole x.store ks) t.around t.operands r.ahead r.code)) went.0 ∙ ap limited to.is ∙ within [] s' to.t is_within;
        stand = to.stand;
        sound = sound;
        room = room m h.room;
        held = held_on x.store x.conts conts' keeps h.held;
        made = omega (arith, after, before, long);
        grew = grew_nothing held;
      }

-- ## The end

values_there : {m : Module} {outer : Context} {behind : Rest} {s : Shape} {e : Context} {r : Rest} → StackIs m outer behind s e r → s.stage ≡ Values → (e ≡ outer) × (r ≡ behind)
values_there (body h k w) b = absurd (cc)
values_there (left h k w) b = absurd (cc)
values_there (fresh h k) b = absurd (cc)
values_there (values h k) b = (refl, refl)

-- of the last segment
last_there : {m : Module} {behind : Rest} {chain : List Link} {e : Context} {vs : Row Val} {r : Rest} → Chained m [] behind chain e vs r → length chain ≡ 1 → (top chain).shape.stage ≡ Values
    → (e ≡ []) × (r ≡ behind) × (vs ≡ stack (top chain).shape.operands)
last_there (only h q) one b = let w = values_there h b in (w.0, w.1, q)
last_there (around h q clauses c k) one b = absurd (omega (arith, one))

ended_there : (p : Program) (u : Store) (vs : Row Val) (waiting : List ℕ) → waiting ≡ [] → limited (next p u [] vs (behind_of waiting).ahead (behind_of waiting).code) ≡ Ended vs
ended_there p u vs [] e = refl
ended_there p u vs (f ∷ fs) e = absurd (cc)

-- where one segment is left, and that is values, the term is
pub reduces_ended : {m : Module} {x : Parts} {before : Option (List ℕ)} → length x.chain ≡ 1 → (top x.chain).shape.stage ≡ Values → PartsReduce (Some run_stop.Ended) m x x before before
reduces_ended {x = x} one b waiting p ks t h =
    let there = last_there h.stand.term one b in
    let s = whole x.store ks in (
      ap (λ (c : Context). limited (next p s c t.operands t.rest.ahead t.rest.code)) there.0
          ∙ ap (λ (r : Rest). limited (next p s [] t.operands r.ahead r.code)) there.1
          ∙ ap (λ (vs : Row Val). limited (next p s [] vs (behind_of waiting).ahead (behind_of waiting).code)) there.2
          ∙ ended_there p s (stack (top x.chain).shape.operands) waiting (h.done (one, b)),
      record { same = refl; sink = refl },
    )

-- where there is no handle one segment is left
pub one_left : {m : Module} {x : Parts} → StandsSomewhere m x → (n : ℕ) → n ≡ length x.chain - 1 → n ≡ 0 → length x.chain ≡ 1
one_left h n count none = let all = all_handles h.stands.stand in omega (arith, all, count, none)
