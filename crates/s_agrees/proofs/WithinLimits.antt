-- From one step that is matched to one that is matched within the limits of a run: a limit is met only where the script may meet it.
use Rattle.std.proofs.Common.{◌≡◌, ℕ, ℤ, suc, ◌<◌, max, Bool, true, false, List, [], ◌⊎◌, inl, inr, Option, Some, None, refl, ◌∙◌, subst, arith}
use Rattle.std.specs.Prelude.{nat_le}
use Rattle.std.proofs.lemmas.Bool.{leb-false, cases_lt}
use Rattle.following.specs.Follows.{Limit}
use Rattle.following.specs.Steps as steps
use Rattle.following.specs.Steps.{Stops, Over, Reductions, StepMatched, goes, returns, faults, stops_before, stops_after, Goes, Returns, Faults}
use Rattle.w_reduce.specs.declared.limit.RunLimit.{RunLimit}
use Rattle.w_reduce.specs.declared.limit.RunLimit.TheVariants as limit
use Rattle.w_reduce.specs.Limits.{passed, first_passed, most_frames, most_handles, most_conts}
use Rattle.w_reduce.specs.Reduce as machine
use Rattle.w_reduce.specs.Reduced as reduced
use Rattle.w_reduce.specs.Reduced.{Went, Trapped, Limited, Ended, Stuck}
use Rattle.w_reduce.specs.Store.{Store, live}
use Rattle.w_reduce.specs.Terms.{Context, Term, frames, handles}
use Rattle.s_syntax.specs.declared.script.Declaration.{Declaration}
use Rattle.s_syntax.specs.declared.script.Script.{Script}
use Rattle.s_meaning.specs.Numbers.{Fault}
use Rattle.s_meaning.specs.Terms.{activations, Configuration, acts, hands, kept}
use Rattle.s_meaning.specs.Terms as script
use Rattle.s_meaning.specs.Eval as eval
use Rattle.s_meaning.specs.Eval.{Frames, Handles, Conts, Passes, Ended as ScriptEnd}
use Rattle.s_agrees.specs.Agrees.{fault_of, limit_of, end_of_fault, end_of_values}
use Rattle.s_agrees.proofs.StandsFor.{Stands, gives, lies, finds, runs, At}
use Rattle.s_agrees.proofs.Contexts.{works_deep, rest_deep}
use Rattle.s_agrees.proofs.CountedContexts.{Counted, waits_counted, deep_frames, deep_handles, base_frames, base_handles}
use Rattle.s_agrees.proofs.Paths.{program_of, Caps, Under, Path, stay, go}
use Rattle.s_agrees.proofs.Paths as paths
use Rattle.s_agrees.proofs.Matches.{caps_of}

-- a configuration of the machine
pub record Config : Type 0 where
  pub store : Store
  pub term : Term

-- what a reduction comes to, where that stands for anything of the script's
abbrev pub reduced_to : List Declaration → reduced.Reduced → steps.Reduced ℤ Fault eval.RunLimit Config
reduced_to ds (Went o s t) = steps.Went o (record { store = s; term = t })
reduced_to ds (Trapped k) = Stops (end_of_fault (fault_of ds k))
reduced_to ds (Limited name) = Stops (Some (Limit (limit_of name)))
reduced_to ds (Ended vs) = Over (end_of_values vs)
reduced_to ds Stuck = Over None

abbrev pub reduce : Script → (ℕ → ℕ → Bool) → Config → steps.Reduced ℤ Fault eval.RunLimit Config
reduce p matches x = reduced_to p.declarations (machine.reduce (program_of p matches) x.store x.term)

abbrev pub at : Store → Term → Config
at s t = record { store = s; term = t }

-- ## Limits

-- a limit that is passed where these caps are kept is passed by the caps
pub data Beyond (k : Caps) : eval.RunLimit → Type 0 where
  frames_beyond : 20000 < k.frames → Beyond k Frames
  handles_beyond : 1000 < k.handles → Beyond k Handles
  conts_beyond : 65536 < k.conts → Beyond k Conts

first_beyond : (k : Caps) (s : Store) (e : Context) → Under k s e → (a b c : Bool) → nat_le (frames e) most_frames ≡ a → nat_le (handles e) most_handles ≡ b → nat_le (live s) most_conts ≡ c
    → (name : RunLimit) → first_passed a b c ≡ Some name → Beyond k (limit_of name)
first_beyond k s e u false b c x y z name q =
    let h : most_frames < frames e = leb-false (frames e) most_frames x in let v = u.frames in
    let is : limit.Frames ≡ name = cc in subst (λ (l : RunLimit). Beyond k (limit_of l)) is (frames_beyond (omega (arith, h, v)))
first_beyond k s e u true false c x y z name q =
    let h : most_handles < handles e = leb-false (handles e) most_handles y in let v = u.handles in
    let is : limit.Handles ≡ name = cc in subst (λ (l : RunLimit). Beyond k (limit_of l)) is (handles_beyond (omega (arith, h, v)))
first_beyond k s e u true true false x y z name q =
    let h : most_conts < live s = leb-false (live s) most_conts z in let v = u.conts in
    let is : limit.Conts ≡ name = cc in subst (λ (l : RunLimit). Beyond k (limit_of l)) is (conts_beyond (omega (arith, h, v)))
first_beyond k s e u true true true x y z name q = absurd (cc)

-- either a reduction goes on, or a limit is met
pub data Went_on (p : Script) (matches : ℕ → ℕ → Bool) (k : Caps) (x : Config) (o : List ℕ) (y : Config) : Type 0 where
  goes_on : reduce p matches x ≡ steps.Went o y → Went_on p matches k x o y
  stopped : (l : eval.RunLimit) → reduce p matches x ≡ Stops (Some (Limit l)) → Beyond k l → Went_on p matches k x o y

pub one : (p : Script) (matches : ℕ → ℕ → Bool) (k : Caps) (s s' : Store) (t t' : Term) (o : List ℕ) → paths.step (program_of p matches) s t ≡ Went o s' t' → Under k s' t'.around → Went_on p matches k (at s t) o (at s' t')
one p matches k s s' t t' o e u = by (passed s' t'.around) refl
  where
    by : (l : Option RunLimit) → passed s' t'.around ≡ l → Went_on p matches k (at s t) o (at s' t')
    by None q = goes_on (rw (e, q) refl)
    by (Some name) q = stopped (limit_of name) (rw (e, q) refl)
        (first_beyond k s' t'.around u (nat_le (frames t'.around) most_frames) (nat_le (handles t'.around) most_handles) (nat_le (live s') most_conts) refl refl refl name q)

-- reductions, of which one may meet a limit
pub data Walked (p : Script) (matches : ℕ → ℕ → Bool) (k : Caps) (n : ℕ) (x y : Config) : Type 0 where
  all : Reductions (reduce p matches) x [] n y → Walked p matches k n x y
  part : (l : eval.RunLimit) (j : ℕ) (z : Config) → j < n → Reductions (reduce p matches) x [] j z → reduce p matches z ≡ Stops (Some (Limit l)) → Beyond k l → Walked p matches k n x y

pub walked : (p : Script) (matches : ℕ → ℕ → Bool) {k : Caps} {n : ℕ} {s s' : Store} {t t' : Term} → Path (program_of p matches) k n s t s' t' → Walked p matches k n (at s t) (at s' t')
walked p matches stay = all steps.none
walked p matches {k} {s = s} {s' = s''} {t = t} {t' = t''} (go {n = n} {s' = s'} {t' = t'} e u q) = by (one p matches k s s' t t' [] e u) (walked p matches q)
  where
    by : Went_on p matches k (at s t) [] (at s' t') → Walked p matches k n (at s' t') (at s'' t'') → Walked p matches k (suc n) (at s t) (at s'' t'')
    by (stopped l h b) w = part l 0 (at s t) (omega arith) steps.none h b
    by (goes_on h) (all r) = all (steps.silent h r)
    by (goes_on h) (part l j z lt r f b) = part l (suc j) z (omega (arith, lt)) (steps.silent h r) f b

-- ## What stands for a configuration has as many frames and handles

pub stands_counted : {ds : List Declaration} {ρ : List ℕ} {T : script.Term} {t : Term} → Stands ds ρ T t → Counted T.around t.around
stands_counted (gives same w) = waits_counted w
stands_counted (lies ns a le s lt l w b k) =
    let q = waits_counted k in let qf = q.frames in let d = (works_deep w).1 in let x = deep_frames d in let y = base_frames b in record {
      frames = omega (arith, qf, x, y);
      handles = deep_handles d ∙ base_handles b ∙ q.handles;
    }
stands_counted (finds a x w b k) =
    let q = waits_counted k in let qf = q.frames in let d = (works_deep w).1 in let z = deep_frames d in let y = base_frames b in record {
      frames = omega (arith, qf, z, y);
      handles = deep_handles d ∙ base_handles b ∙ q.handles;
    }
stands_counted (runs a r b k) =
    let q = waits_counted k in let qf = q.frames in let d = (rest_deep r).deep in let x = deep_frames d in let y = base_frames b in record {
      frames = omega (arith, qf, x, y);
      handles = deep_handles d ∙ base_handles b ∙ q.handles;
    }

-- ## A step within the limits

either_max : (n a b : ℕ) → n < max a b → (n < a) ⊎ (n < b)
either_max n a b h = elim (cases_lt n a) [
  | inl x ↦ inl x
  | inr x ↦ inr (omega (arith, x, h))
]

module _ (p : Script) (matches : ℕ → ℕ → Bool) {ρ : List ℕ} {σ : Configuration} {s : Store} {t : Term} (from : At p.declarations ρ σ s t) where
  -- caps of one configuration
  pub passes_here : (l : eval.RunLimit) → Beyond (caps_of s t t) l → Passes l σ
  passes_here Frames (frames_beyond h) = let q = (stands_counted from.stands).frames in omega (arith, q, h)
  passes_here Handles (handles_beyond h) = let q = (stands_counted from.stands).handles in omega (arith, q, h)
  passes_here Conts (conts_beyond h) = let q = from.stores.lives in omega (arith, q, h)

  -- caps of two
  pub passes_either : {ρ' : List ℕ} {τ : Configuration} {s' : Store} {t' : Term} → At p.declarations ρ' τ s' t' → (l : eval.RunLimit) → Beyond (caps_of s t t') l → Passes l σ ⊎ Passes l τ
  passes_either {t' = t'} to Frames (frames_beyond h) =
      let q = (stands_counted from.stands).frames in let r = (stands_counted to.stands).frames in
      elim (either_max 20000 (frames t.around) (frames t'.around) h) [
        | inl x ↦ inl (omega (arith, q, x))
        | inr x ↦ inr (omega (arith, r, x))
      ]
  passes_either {t' = t'} to Handles (handles_beyond h) =
      let q = (stands_counted from.stands).handles in let r = (stands_counted to.stands).handles in
      elim (either_max 1000 (handles t.around) (handles t'.around) h) [
        | inl x ↦ inl (omega (arith, q, x))
        | inr x ↦ inr (omega (arith, r, x))
      ]
  passes_either to Conts (conts_beyond h) = let q = from.stores.lives in inl (omega (arith, q, h))
