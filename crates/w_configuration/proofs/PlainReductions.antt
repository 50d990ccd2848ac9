-- What a reduction that switches no stacks comes to, by what the call that takes it came to.
use Rattle.std.proofs.Common.{◌≡◌, ◌⊎◌, inl, inr, ℕ, ◌≤◌, Bool, true, false, nat_le, if◌then◌else◌, List, [], ◌∷◌, Option, Some, None, Result, Ok, Err, refl, sym, ap, subst, ◌∙◌, arith}
use Rattle.w_outside.specs.Outside.{Grew, GrewByFront, IsFront}
use Rattle.w_outside.proofs.Growth.{grew_nothing}
use Rattle.w_syntax.specs.declared.module.Module.{Module}
use Rattle.w_rules.specs.Sound.{Sound}
use Rattle.w_tables.specs.Store as instances
use Rattle.w_segment.specs.Holds.{Holds}
use Rattle.w_segment.specs.Shape.{Shape}
use Rattle.w_segment.specs.declared.entry.Stage.TheVariants.{Body}
use Rattle.w_segment.specs.Link.{Link, top, with_top}
use Rattle.w_chain.specs.Counts.{frames_in_all}
use Rattle.w_conts.specs.Conts.{Conts}
use Rattle.w_reduce.specs.declared.limit.RunLimit.{RunLimit}
use Rattle.w_reduce.specs.declared.limit.RunLimit.TheVariants.{Frames}
use Rattle.w_reduce.specs.declared.trap.Trap.{Trap}
use Rattle.w_reduce.specs.Apart.{apart}
use Rattle.w_reduce.specs.Limits.{most_frames, IsWithin}
use Rattle.w_reduce.specs.Program.{Program}
use Rattle.w_reduce.specs.Reduced.{Reduced, Went, Limited}
use Rattle.w_reduce.specs.Reduce.{reduce, limited, unless_passed}
use Rattle.w_reduce.specs.Store.{Store, with_conts}
use Rattle.w_reduce.specs.Terms.{Context, Term, Continuation, frames, handles}
use Rattle.w_reduce.proofs.PassedLimits.{within_none}
use Rattle.w_reduce.proofs.Plainly.{Plainly, silent, stays, leaves_frame, silent_trap, silent_limit, silent_end, silent_stuck, plainly_next, no_more_frames}
use Rattle.w_stands.specs.declared.did.Did.{Did}
use Rattle.w_stands.specs.declared.did.Did.TheVariants as did
use Rattle.w_stands.specs.Code.{instr_of}
use Rattle.w_stands.specs.Keeps.{OnPlain, StoreHolds}
use Rattle.w_stands.specs.Steps.{Outside, LeadsTo}
use Rattle.w_stands.specs.Values.{stack, store_of}
use Rattle.w_plain.specs.Plainness.{calls_at}
use Rattle.w_plain.specs.declared.stop.Stop.{Stop}
use Rattle.w_plain.specs.declared.stop.Stop.TheVariants as plain_stop
use Rattle.w_plain.specs.Printing.{Began, Printed}
use Rattle.w_plain.specs.Stepped.{Takes as TakesPlain}
use Rattle.w_switching.specs.declared.stored.Stored.{Stored}
use Rattle.w_switching.specs.Standing.{Stand}
use Rattle.w_switching.specs.Sound.{is_of}
use Rattle.w_switching.proofs.PutIntoStore.{top_sound}
use Rattle.w_switching.proofs.Rooms.{links_with}
use Rattle.w_switching.proofs.SameButRoom.{same_top}
use Rattle.w_switching.proofs.References.{hold_top, long_top}
use Rattle.w_configuration.specs.declared.stop.RunStop.{RunStop}
use Rattle.w_configuration.specs.declared.stop.RunStop.TheVariants as run_stop
use Rattle.w_configuration.specs.Parts.{Parts, parts, whole}
use Rattle.w_configuration.specs.Standing.{behind_of, Stands}
use Rattle.w_configuration.specs.Reducing.{Begun, Fails, PartsReduce, IsPlainAt, stop_by}
use Rattle.w_configuration.proofs.ConfigurationCounts.{all_frames, all_handles}
use Rattle.w_configuration.proofs.Rooms.{may_take_in}
use Rattle.w_configuration.proofs.PartsOfRuns.{plain_next, calls_in, head, alone, standing_at}

-- ## What is printed

-- a reduction that goes on prints nothing, or its context has no more frames and handles
quiet_text : {ks : List (Option Continuation)} {e : Context} {last : Bool} {most : ℕ} {d d' : Reduced} (text : List ℕ) (v : Store) (t : Term) → Plainly ks e last most d d' → d ≡ Went text v t
    → (text ≡ []) ⊎ ((frames t.around ≤ frames e) × (handles t.around ≤ handles e))
quiet_text text v t (silent few) is = inl (cc)
quiet_text {e = e} text v t (stays {t = old} h) is =
    let same : t ≡ old = cc in
    let there : t.around ≡ e = ap (λ (x : Term). x.around) same ∙ h in
    let a = ap frames there in
    let b = ap handles there in
    inr (omega (arith, a), omega (arith, b))
quiet_text {e = e} text v t (leaves_frame {t = old} h) is =
    let same : t ≡ old = cc in
    let a = ap (λ (x : Term). frames x.around) same in
    let b = ap (λ (x : Term). handles x.around) same in
    let f = h.fewer in
    let n = h.no_more in
    inr (omega (arith, a, f), omega (arith, b, n))
quiet_text text v t (silent_trap handled) is = absurd (cc)
quiet_text text v t silent_limit is = absurd (cc)
quiet_text text v t (silent_end ends) is = absurd (cc)
quiet_text text v t silent_stuck is = absurd (cc)

-- nothing was written
pub grew_none : {before now : Option (List ℕ)} {text : List ℕ} → text ≡ [] → Grew before now text → now ≡ before
grew_none {before = before} {now = now} e h = subst (λ (t : List ℕ). Grew before now t) e h ∙ sym (grew_nothing before)

no_front : {part text : List ℕ} → IsFront part text → text ≡ [] → part ≡ []
no_front {part = []} h e = refl
no_front {part = n ∷ ns} h e = let j = h.joined in absurd (cc)

-- also where a first part was
pub front_none : {before now : Option (List ℕ)} {text : List ℕ} → text ≡ [] → GrewByFront before now text → now ≡ before
front_none e h = grew_none (no_front h.front e) h.grew

-- ## Limits

not_le : (n : ℕ) → nat_le n most_frames ≡ false → n ≤ most_frames → ⊥
not_le n is h = let no : nat_le n most_frames ≡ true = grind (arith, h) in absurd (cc)

not_many : (n : ℕ) → n ≤ most_frames → nat_le n most_frames ≡ true
not_many n h = grind (arith, h)

few_enough : (n : ℕ) → nat_le n most_frames ≡ true → n ≤ most_frames
few_enough n h = grind (arith, h)

-- a result within the limits is one
pub within : (text : List ℕ) (v : Store) (t : Term) → IsWithin v t.around → limited (Went text v t) ≡ Went text v t
within text v t h = ap (λ (o : Option RunLimit). unless_passed o (Went text v t)) (within_none v t.around h)

past : (text : List ℕ) (v : Store) (t : Term) → nat_le (frames t.around) most_frames ≡ false → limited (Went text v t) ≡ Limited Frames
past text v t h = rw h refl

-- each value that is no reference to a continuation passes
pub passes_plain : (conts : Conts Stored) → OnPlain (is_of conts)
passes_plain conts = record { i32 = λ n. refl; i64 = λ n. refl; null = refl; functions = λ a. refl }

-- what a reduction leads to
abbrev led_to : {m : Module} {o : Outside} {text : List ℕ} {u : instances.Store} {s : Shape} {d : Reduced} → LeadsTo m o text u s d → Term
led_to {s = s} to = record { around = to.around; operands = stack s.operands; rest = to.rest }

-- ## Each answer

module _ {m : Module} {x : Parts} (sound : Sound m) (f : IsPlainAt m (top x.chain).shape) where
  -- references are still those of the store
  kept_values : {waiting : List ℕ} {p : Program} {ks : List (Option Continuation)} {t : Term} {d : Did} {text : List ℕ} {u' : instances.Store} {s' : Shape} → Stands m waiting x p ks t
      → TakesPlain d m text x.store (top x.chain).shape u' s' → StoreHolds (λ v. is_of x.conts v ≡ true) u' × Holds (λ v. is_of x.conts v ≡ true) s'
  kept_values h takes = takes.keeps (is_of x.conts) (passes_plain x.conts) h.held (hold_top (is_of x.conts) x.chain h.sound.references)

  module _ {waiting : List ℕ} {p : Program} {ks : List (Option Continuation)} {t : Term} (h : Stands m waiting x p ks t) {text : List ℕ} {u' : instances.Store} {s' : Shape} where
    -- the parts stand there
    stands_there : {d : Reduced} (to : LeadsTo m (head h).o text u' s' d) → Stand m (behind_of waiting) (with_top s' x.chain) x.conts p (whole u' ks) (led_to to)
    stands_there to = record {
      source = h.stand.source;
      program = h.stand.program;
      short = h.stand.short;
      narrow = h.stand.narrow;
      term = (head h).back s' to.around to.rest to.stands;
      store = h.stand.store;
    }

    -- with few frames it is within the limits
    within_there : {d : Reduced} (to : LeadsTo m (head h).o text u' s' d) → frames to.around ≤ most_frames → IsWithin (whole u' ks) to.around
    within_there to few = record {
      few_frames = few;
      few_handles =
          (let now = all_handles (stands_there to) in let before = all_handles h.stand in let long = long_top s' x.chain in let most = h.within.few_handles in omega (arith, now, before, long, most));
      few_conts = h.within.few_conts;
    }

    frames_there : {d : Reduced} (to : LeadsTo m (head h).o text u' s' d) (b : Bool) → nat_le (frames_in_all (with_top s' x.chain)) most_frames ≡ b → nat_le (frames to.around) most_frames ≡ b
    frames_there to b is = ap (λ (n : ℕ). nat_le n most_frames) (all_frames (stands_there to)) ∙ is

  -- where no function was called, it has no more of them
  pub few_there : {waiting : List ℕ} {p : Program} {ks : List (Option Continuation)} {t : Term} → Stands m waiting x p ks t → (top x.chain).shape.stage ≡ Body
      → calls_at (instr_of m (top x.chain).shape.func (top x.chain).shape.place) ≡ false → {u' : instances.Store} {s' : Shape} → TakesPlain did.Went m [] x.store (top x.chain).shape u' s'
      → nat_le (frames_in_all (with_top s' x.chain)) most_frames ≡ true
  few_there {p = p} {t = t} h body none {u'} {s'} takes =
      let to = takes.goes p (head h).o t.around t.rest (standing_at sound h f) in
      let fewer = no_more_frames p (store_of x.store) t.around (stack (top x.chain).shape.operands) t.rest.ahead t.rest.code (plain_next (head h).stands f)
      (calls_in (head h).stands body ∙ none) [] (store_of u') (led_to to) to.is in
      let same = all_frames (stands_there h to) in
      let most = h.within.few_frames in
      not_many (frames_in_all (with_top s' x.chain)) (omega (arith, fewer, same, most))

  -- it went on
  went : (u' : instances.Store) (s' : Shape) (before now : Option (List ℕ)) (b : Bool) → nat_le (frames_in_all (with_top s' x.chain)) most_frames ≡ b
      → Printed (Ok did.Went) before now m x.store (top x.chain).shape u' s' → PartsReduce (if b then None else Some (run_stop.Limit Frames)) m x (parts u' (with_top s' x.chain) x.conts) before now
  went u' s' before now true few (text, takes, grew) waiting p ks t h =
      let to = takes.goes p (head h).o t.around t.rest (standing_at sound h f) in
      let values = kept_values h takes in
      record {
        text = text;
        ks = ks;
        t = led_to to;
        is = ap limited (alone h f ∙ ap (apart ks) to.is) ∙ within text (whole u' ks) (led_to to) (within_there h to (few_enough (frames to.around) (frames_there h to true few)));
        stand = stands_there h to;
        sound = top_sound 0 x.chain x.conts s' h.sound values.1;
        room = record { running = links_with m s' x.chain to.room h.room.running; stored = h.room.stored };
        held = values.0;
        made = omega arith;
        grew = grew;
      }
  went u' s' before now false many (text, takes, grew) waiting p ks t h =
      let to = takes.goes p (head h).o t.around t.rest (standing_at sound h f) in
      let n : nat_le (frames to.around) most_frames ≡ false = frames_there h to false many in (
        ap limited (alone h f ∙ ap (apart ks) to.is) ∙ past text (whole u' ks) (led_to to) n,
        elim (quiet_text text (store_of u') (led_to to)
            (plainly_next [] p (store_of x.store) t.around (stack (top x.chain).shape.operands) t.rest.ahead t.rest.code (plain_next (head h).stands f)) to.is) [
              | inl none ↦ grew_none none grew
              | inr few ↦ absurd (not_le (frames to.around) n (let most = h.within.few_frames in omega (arith, few.0, most)))
            ],
      )

  trapped : (u' : instances.Store) (s' : Shape) (before now : Option (List ℕ)) (t : Trap) → Printed (Ok (did.Trapped t)) before now m x.store (top x.chain).shape u' s'
      → PartsReduce (Some (run_stop.Trapped t)) m x (parts u' (with_top s' x.chain) x.conts) before now
  trapped u' s' before now y (text, takes, grew) waiting p ks t h =
      (ap limited (alone h f ∙ ap (apart ks) (takes.goes.0 p (head h).o t.around t.rest (standing_at sound h f))), grew_none takes.goes.1 grew)

  began : {before now : Option (List ℕ)} {waiting : List ℕ} {p : Program} {ks : List (Option Continuation)} {t : Term} → Stands m waiting x p ks t
      → Began before now m x.store (top x.chain).shape → (now ≡ before) ⊎ Begun (reduce p (whole x.store ks) t) before now
  began h (inl same) = inl same
  began {waiting = waiting} {p = p} {ks = ks} {t = t} h (inr (text, prints, grew)) =
      let at = prints p (head h).o t.around t.rest (standing_at sound h f) in
      elim (quiet_text text at.0 at.1
      (plainly_next [] p (store_of x.store) t.around (stack (top x.chain).shape.operands) t.rest.ahead t.rest.code (plain_next (head h).stands f)) at.2) [
        | inl none ↦ inl (front_none none grew)
        | inr few ↦ inr (record {
          text = text;
          store = with_conts ks at.0;
          term = at.1;
          grew = grew;
          is = ap limited (alone h f ∙ ap (apart ks) at.2) ∙ within text (with_conts ks at.0) at.1
              (record {
                few_frames = (let most = h.within.few_frames in omega (arith, few.0, most));
                few_handles = (let most = h.within.few_handles in omega (arith, few.1, most));
                few_conts = h.within.few_conts;
              });
        })
      ]

  failed : {u' : instances.Store} {s' : Shape} {before now : Option (List ℕ)} (y : Stop) {waiting : List ℕ} {p : Program} {ks : List (Option Continuation)} {t : Term}
      → Printed (Err y) before now m x.store (top x.chain).shape u' s' → Stands m waiting x p ks t → Fails (reduce p (whole x.store ks) t) x (parts u' (with_top s' x.chain) x.conts) before now
  failed {s' = s'} y (same, shape, begun, may) h = record { store = same; chain = same_top s' x.chain shape; conts = refl; sink = began h begun }

  -- what it comes to is what the rules do
  pub reduces_stop : (u' : instances.Store) (s' : Shape) (before now : Option (List ℕ)) (d : Result Did Stop) → Printed d before now m x.store (top x.chain).shape u' s'
      → PartsReduce (stop_by d (frames_in_all (with_top s' x.chain))) m x (parts u' (with_top s' x.chain) x.conts) before now
  reduces_stop u' s' before now (Ok did.Went) k = went u' s' before now (nat_le (frames_in_all (with_top s' x.chain)) most_frames) refl k
  reduces_stop u' s' before now (Ok (did.Trapped t)) k = trapped u' s' before now t k
  reduces_stop u' s' before now (Err plain_stop.WriteFault) k = λ waiting p ks t h. failed plain_stop.WriteFault k h
  reduces_stop u' s' before now (Err plain_stop.OutOfMemory) k = λ waiting p ks t h. (failed plain_stop.OutOfMemory k h, may_take_in (head h).stands k.3)

  -- the same, with the call's own words
  pub stop_reduces : (u' : instances.Store) (s' : Shape) (chain' : List Link) (before now : Option (List ℕ)) (d : Result Did Stop) (n : ℕ) (k : Option RunStop) → k ≡ stop_by d n
      → n ≡ frames_in_all chain' → chain' ≡ with_top s' x.chain → Printed d before now m x.store (top x.chain).shape u' s' → PartsReduce k m x (parts u' chain' x.conts) before now
  stop_reduces u' s' chain' before now d n k result_is frames_are chain_is h =
      let count : n ≡ frames_in_all (with_top s' x.chain) = frames_are ∙ ap frames_in_all chain_is in
      let same : stop_by d (frames_in_all (with_top s' x.chain)) ≡ k = ap (stop_by d) (sym count) ∙ sym result_is in
      let there : PartsReduce k m x (parts u' (with_top s' x.chain) x.conts) before now = subst (λ (y : Option RunStop). PartsReduce y m x (parts u' (with_top s' x.chain) x.conts) before now) same (reduces_stop u' s' before now d h) in
      subst (λ (c : List Link). PartsReduce k m x (parts u' c x.conts) before now) (sym chain_is) there

-- a fault that stops it is the sink's
pub stop_is_fault : (d : Result Did Stop) (n : ℕ) → stop_by d n ≡ Some run_stop.WriteFault → d ≡ Err plain_stop.WriteFault
stop_is_fault (Ok did.Went) n h = by_test (nat_le n most_frames) h
  where
    by_test : (b : Bool) → (if b then None else Some (run_stop.Limit Frames)) ≡ Some run_stop.WriteFault → Ok did.Went ≡ Err plain_stop.WriteFault
    by_test true h = absurd (cc)
    by_test false h = absurd (cc)
stop_is_fault (Ok (did.Trapped t)) n h = absurd (cc)
stop_is_fault (Err plain_stop.WriteFault) n h = refl
stop_is_fault (Err plain_stop.OutOfMemory) n h = absurd (cc)
