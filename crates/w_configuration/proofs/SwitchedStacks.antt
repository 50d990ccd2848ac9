-- What a reduction that switches stacks, or leaves a handle, comes to, by what the call that takes it came to.
use Rattle.std.proofs.Common.{◌≡◌, ◌≢◌, inl, ℕ, ◌-◌, ◌≤◌, true, nat_le, List, [], ◌∷◌, length, Option, Some, None, Result, Ok, Err, refl, sym, ap, subst, ◌∙◌, arith}
use Rattle.std.specs.Result.{IfOk, OnErr}
use Rattle.std.specs.declared.alloc.AllocError.{AllocError}
use Rattle.w_outside.proofs.Growth.{grew_nothing}
use Rattle.w_types.specs.declared.value.Value.{Value}
use Rattle.w_syntax.specs.Code.{Code, Plain}
use Rattle.w_syntax.specs.declared.instructions.Instr.TheVariants as flat
use Rattle.w_syntax.specs.declared.instructions.Op.TheVariants as op
use Rattle.w_syntax.specs.declared.instructions.SwitchingOp.{SwitchingOp}
use Rattle.w_syntax.specs.declared.module.Module.{Module}
use Rattle.w_rules.specs.Sound.{Sound as SoundModule}
use Rattle.w_tables.specs.Store as instances
use Rattle.w_segment.specs.declared.entry.Stage.TheVariants.{Body}
use Rattle.w_segment.specs.Holds.{AllOf}
use Rattle.w_segment.specs.Shape.{Shape}
use Rattle.w_segment.specs.Link.{Link, top}
use Rattle.w_chain.specs.Counts.{frames_in_all}
use Rattle.w_conts.specs.Conts.{Conts, live_of, KeepsReferences}
use Rattle.w_reduce.specs.declared.limit.RunLimit.{RunLimit}
use Rattle.w_reduce.specs.Limits.{most_frames, most_handles, most_conts, first_passed, passed}
use Rattle.w_reduce.specs.Program.{Program}
use Rattle.w_reduce.specs.Reduced.{Went}
use Rattle.w_reduce.specs.Reduce.{next, reduce, limited, unless_passed}
use Rattle.w_reduce.specs.Room.{HoldsAfter, takes_memory, may_take_memory}
use Rattle.w_reduce.specs.Terms.{Rest, rest_of, Context, Term, Continuation}
use Rattle.w_stands.specs.declared.did.Did.{Did}
use Rattle.w_stands.specs.declared.did.Did.TheVariants as did
use Rattle.w_stands.specs.Code.{instr_of}
use Rattle.w_stands.specs.Keeps.{TablesHold, SegmentsHold, StoreHolds}
use Rattle.w_stands.specs.Stands.{StackIs}
use Rattle.w_stands.proofs.AtInstructions.{here, shows_plain}
use Rattle.w_switching.specs.declared.stored.Stored.{Stored}
use Rattle.w_switching.specs.Moved.{SameLinks}
use Rattle.w_switching.specs.Reductions.{switched, StandsAt, SwitchesAt, Switches}
use Rattle.w_switching.specs.Sound.{is_of, Sound, Roomy, most_segments}
use Rattle.w_switching.proofs.SegmentsInOthers.{kept_long}
use Rattle.w_switching.proofs.SameButRoom.{same_links}
use Rattle.w_switching.proofs.References.{more_of}
use Rattle.w_configuration.specs.declared.stop.RunStop.{RunStop}
use Rattle.w_configuration.specs.declared.stop.RunStop.TheVariants as run_stop
use Rattle.w_configuration.specs.Parts.{Parts, parts, whole}
use Rattle.w_configuration.specs.Standing.{behind_of, Stands, StandsSomewhere}
use Rattle.w_configuration.specs.Reducing.{PartsReduce, TakesEnough, switching_stop_by}
use Rattle.w_configuration.proofs.ConfigurationCounts.{passed_is}
use Rattle.w_configuration.proofs.MadeConts.{MakesOne, made_one, makes_one}
use Rattle.w_configuration.proofs.Rooms.{holds_next}
use Rattle.w_configuration.proofs.PartsOfRuns.{rule_applies, few_segments, head}
use Rattle.w_configuration.proofs.TakingEnough.{takes_enough}

-- ## The values of a store

module _ (P Q : Value → Type 0) (f : (v : Value) → P v → Q v) where
  all_more : (vs : List Value) → AllOf P vs → AllOf Q vs
  all_more [] h = tt
  all_more (v ∷ vs) h = (f v h.0, all_more vs h.1)

  tables_more : (ts : List instances.Table) → TablesHold P ts → TablesHold Q ts
  tables_more [] h = tt
  tables_more (t ∷ ts) h = (all_more t.elements h.0, tables_more ts h.1)

  segments_more : (vss : List (List Value)) → SegmentsHold P vss → SegmentsHold Q vss
  segments_more [] h = tt
  segments_more (vs ∷ vss) h = (all_more vs h.0, segments_more vss h.1)

  -- what holds of each of them, where a fact of values becomes another
  pub store_more : (u : instances.Store) → StoreHolds P u → StoreHolds Q u
  store_more u h = record { tables = tables_more u.tables h.tables; globals = all_more u.globals h.globals; segments = segments_more u.elems h.segments }

-- references of a store's stay good
pub held_on : (u : instances.Store) (conts conts' : Conts Stored) → KeepsReferences conts conts' → StoreHolds (λ v. is_of conts v ≡ true) u → StoreHolds (λ v. is_of conts' v ≡ true) u
held_on u conts conts' k h = store_more (λ v. is_of conts v ≡ true) (λ v. is_of conts' v ≡ true) (more_of conts conts' k) u h

-- ## At the instruction

-- the instruction comes next, with code behind it
record Comes (o : SwitchingOp) (r : Rest) : Type 0 where
  code : Code
  is : r ≡ rest_of (Plain (op.Switching o) code)

comes_in : {m : Module} {outer : Context} {behind : Rest} {s : Shape} {e : Context} {r : Rest} (o : SwitchingOp) → StackIs m outer behind s e r → s.stage ≡ Body
    → instr_of m s.func s.place ≡ Some (flat.Plain (op.Switching o)) → Comes o r
comes_in o k b h = let there = here k b in let at = shows_plain (op.Switching o) there.reads h in record { code = at.following; is = there.rest ∙ ap rest_of at.is }

module _ {m : Module} {x : Parts} (valid : SoundModule m) (o : SwitchingOp) (b : (top x.chain).shape.stage ≡ Body)
    (at : instr_of m (top x.chain).shape.func (top x.chain).shape.place ≡ Some (flat.Plain (op.Switching o))) where
  module _ {waiting : List ℕ} {p : Program} {ks : List (Option Continuation)} {t : Term} (h : Stands m waiting x p ks t) where
    comes : Comes o t.rest
    comes = comes_in o (head h).stands b at

    -- the reduction is that of the instruction
    reduce_is : reduce p (whole x.store ks) t ≡ limited (switched o p (whole x.store ks) t comes.code)
    reduce_is = ap (λ (r : Rest). limited (next p (whole x.store ks) t.around t.operands r.ahead r.code)) comes.is

    at_it : StandsAt o m (behind_of waiting) x.chain x.conts p (whole x.store ks) t comes.code
    at_it = record { stand = h.stand; comes = comes.is; applies = λ q. rule_applies valid h (reduce_is ∙ ap limited q) }

  -- wherever the parts stand
  pub switches_there : StandsSomewhere m x → SwitchesAt o m x.chain x.conts
  switches_there h = record {
    here = at;
    stage = b;
    behind = behind_of h.waiting;
    p = h.p;
    s = whole x.store h.ks;
    t = h.t;
    c = (comes h.stands).code;
    at = at_it h.stands;
    holds = subst (λ (r : Rest). HoldsAfter m (next h.p (whole x.store h.ks) h.t.around h.t.operands r.ahead r.code)) (comes h.stands).is (holds_next valid h.stands);
  }

  pub enough_there : StandsSomewhere m x → TakesEnough o m x.chain x.conts
  enough_there h = takes_enough valid h.stands o (comes h.stands).code (comes h.stands).is

  -- ## Its answers

  module _ (chain' : List Link) (conts' : Conts Stored) (sound : Sound chain' conts') (room : Roomy m chain' conts') (keeps : KeepsReferences x.conts conts') where
    -- it went on
    went_by : (l : Option RunLimit) → l ≡ first_passed (nat_le (frames_in_all chain') most_frames) (nat_le (length chain' - 1) most_handles) (nat_le (live_of conts') most_conts)
        → Switches did.Went o m x.chain x.conts chain' conts' → (held : Option (List ℕ)) → PartsReduce (switching_stop_by (Ok did.Went) l) m x (parts x.store chain' conts') held held
    went_by None none goes held waiting p ks t h =
        let to = goes (behind_of waiting) p (whole x.store ks) t (comes h).code (at_it h) in
        let s' = whole x.store to.conts_after in
        let few : passed s' to.t.around ≡ None = passed_is to.stand ∙ sym none in
        let one = made_one (subst (MakesOne (length ks)) to.is (makes_one o p (whole x.store ks) t.around t.operands (comes h).code)) in
        let after = kept_long to.stand.store in
        let before = kept_long h.stand.store in
        record {
          text = [];
          ks = to.conts_after;
          t = to.t;
          is = reduce_is h ∙ ap limited to.is ∙ ap (λ (l : Option RunLimit). unless_passed l (Went [] s' to.t)) few;
          stand = to.stand;
          sound = sound;
          room = room;
          held = held_on x.store x.conts conts' keeps h.held;
          made = omega (arith, one, after, before);
          grew = grew_nothing held;
        }
    went_by (Some name) some goes held waiting p ks t h =
        let to = goes (behind_of waiting) p (whole x.store ks) t (comes h).code (at_it h) in
        let s' = whole x.store to.conts_after in
        let past : passed s' to.t.around ≡ Some name = passed_is to.stand ∙ sym some in
        (reduce_is h ∙ ap limited to.is ∙ ap (λ (l : Option RunLimit). unless_passed l (Went [] s' to.t)) past, refl)

    -- what it comes to is what the rules do
    switched_by : (d : Result Did AllocError) (l : Option RunLimit)
        → l ≡ first_passed (nat_le (frames_in_all chain') most_frames) (nat_le (length chain' - 1) most_handles) (nat_le (live_of conts') most_conts)
        → IfOk d (λ d. Switches d o m x.chain x.conts chain' conts') → OnErr d (chain' ≡ x.chain) → OnErr d (conts' ≡ x.conts)
        → OnErr d (takes_memory (op.Switching o) ≡ true) → (held : Option (List ℕ)) → PartsReduce (switching_stop_by d l) m x (parts x.store chain' conts') held held
    switched_by (Ok did.Went) l is goes links same takes held = went_by l is goes held
    switched_by (Ok (did.Trapped y)) l is goes links same takes held = λ waiting p ks t h.
        (reduce_is h ∙ ap limited (goes.2 (behind_of waiting) p (whole x.store ks) t (comes h).code (at_it h)), refl)
    switched_by (Err e) l is goes links same takes held = λ waiting p ks t h. (
      record { store = refl; chain = subst (SameLinks x.chain) (sym links) (same_links x.chain); conts = same; sink = inl refl },
      ap (λ (r : Rest). may_take_memory r.ahead r.code) (comes h).is ∙ takes,
    )

    -- the same, with the call's own words
    pub switched_stop : (d : Result Did AllocError) (l : Option RunLimit) (k : Option RunStop)
        → l ≡ first_passed (nat_le (frames_in_all chain') most_frames) (nat_le (length chain' - 1) most_handles) (nat_le (live_of conts') most_conts) → k ≡ switching_stop_by d l
        → IfOk d (λ d. Switches d o m x.chain x.conts chain' conts') → OnErr d (chain' ≡ x.chain) → OnErr d (conts' ≡ x.conts)
        → OnErr d (takes_memory (op.Switching o) ≡ true) → (held : Option (List ℕ)) → PartsReduce k m x (parts x.store chain' conts') held held
    switched_stop d l k is result_is goes links same takes held =
        subst (λ (y : Option RunStop). PartsReduce y m x (parts x.store chain' conts') held held) (sym result_is) (switched_by d l is goes links same takes held)

-- there are few segments wherever the parts stand
pub few_there : {m : Module} {x : Parts} → StandsSomewhere m x → length x.chain ≤ most_segments
few_there h = few_segments h.stands

-- no fault of the sink's stops it
pub never_a_fault : (d : Result Did AllocError) (l : Option RunLimit) → switching_stop_by d l ≢ Some run_stop.WriteFault
never_a_fault (Ok did.Went) None h = absurd (cc)
never_a_fault (Ok did.Went) (Some name) h = absurd (cc)
never_a_fault (Ok (did.Trapped t)) l h = absurd (cc)
never_a_fault (Err e) l h = absurd (cc)
