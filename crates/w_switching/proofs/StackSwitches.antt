-- Switching.
use Rattle.std.proofs.Common.{◌≡◌, ℕ, suc, ◌+◌, ◌-◌, ◌<◌, ◌≤◌, Bool, true, false, List, [], ◌∷◌, ◌++◌, Option, Some, None, length, refl, sym, ap, ◌∙◌, subst, arith, add-one, drop, take, reverse, length-append, get_or}
use Rattle.std.proofs.lemmas.List.{reverse-reverse, length-set}
use Rattle.std.specs.Prelude.{All, slice_set, if◌then◌else◌}
use Rattle.lists.specs.Rows.{Row, ◌▹◌, ◌⧺◌, row_of}
use Rattle.w_types.specs.declared.types.FuncType.{FuncType}
use Rattle.w_types.specs.declared.value.Value.{Value}
use Rattle.w_types.specs.declared.value.Value.TheVariants as value
use Rattle.w_types.specs.declared.value.ContRef.{ContRef}
use Rattle.w_syntax.specs.Code.{Code, Plain, Done}
use Rattle.w_syntax.specs.declared.instructions.Clause.{Clause}
use Rattle.w_syntax.specs.declared.instructions.Op.TheVariants as op
use Rattle.w_syntax.specs.declared.instructions.SwitchingOp.TheVariants as switching
use Rattle.w_syntax.specs.declared.module.Module.{Module}
use Rattle.w_rules.specs.Context.{cont_of}
use Rattle.w_rules.specs.Spaces.{context_of}
use Rattle.w_segment.specs.declared.entry.Stage.TheVariants.{Body}
use Rattle.w_segment.specs.Shape.{Shape, below_all, height}
use Rattle.w_segment.specs.Changes.{pushed, pushed_all, discarded, moved}
use Rattle.w_segment.specs.Link.{Link, top, rest, with_top}
use Rattle.w_segment.proofs.FactsOfValues.{all_take, all_drop, all_reverse, pushed_holds, pushed_all_holds, discarded_holds, moved_holds}
use Rattle.w_chain.specs.ClauseLists.{clauses_of}
use Rattle.w_chain.specs.Layers.{switches_for, IsFirstSwitch}
use Rattle.w_conts.specs.Conts.{Conts, KeepsReferences, IsOf, kept_at, without_entry}
use Rattle.w_reduce.specs.Values.{Val, Cont}
use Rattle.w_reduce.specs.Terms.{Rest, rest_of, Handle, Context, Term, Continuation, filled, in_context}
use Rattle.w_reduce.specs.Store.{Store, with_cont, without_cont, next_cont}
use Rattle.w_reduce.specs.Program.{Program}
use Rattle.w_reduce.specs.Reduced.{Reduced, Went, or_stuck, take_values, unless_consumed}
use Rattle.w_reduce.specs.Handlers.{Handler, has_switch, switch_clause, find}
use Rattle.w_reduce.specs.Room.{Holding}
use Rattle.w_reduce.specs.Switching.{switching_op, continuation_at, or_unhandled, back_type}
use Rattle.w_reduce.specs.declared.trap.Trap.TheVariants as trap
use Rattle.w_stands.specs.declared.did.Did.TheVariants as did
use Rattle.w_stands.specs.Values.{stack}
use Rattle.w_stands.specs.Stands.{StackIs}
use Rattle.w_stands.proofs.RoomOfFrames.{stack_size}
use Rattle.w_stands.proofs.LookedUp.{goes_on}
use Rattle.w_stands.proofs.ManyTakenOperands.{stack_take, stack_enough}
use Rattle.w_switching.specs.declared.stored.Stored.{Stored}
use Rattle.w_switching.specs.BackTypes.{back_of}
use Rattle.w_switching.specs.Moved.{Exchanged, next_ref}
use Rattle.w_switching.specs.Standing.{Chained, kept, AllKept}
use Rattle.w_switching.specs.Reductions.{StandsAt, SwitchesAt, Switches}
use Rattle.w_switching.specs.Sound.{LinksHold, Waits, HasRoomFor, is_of, IsGood, Sound, SoundWith, Roomy, most_segments}
use Rattle.w_switching.proofs.SegmentsInOthers.{joined, inside_top, kept_set, kept_more, kept_long}
use Rattle.w_switching.proofs.AtSwitchingInstruction.{on_stack, at_term, next_top, some_chain}
use Rattle.w_switching.proofs.ReferenceFirst.{kept_there}
use Rattle.w_switching.proofs.CutAtHandles.{Cuts, cuts, no_layer, layer_below}
use Rattle.w_switching.proofs.LastTypes.{looks_up}
use Rattle.w_switching.proofs.SegmentsUpToLayers.{top_taken, some_taken, both_long, ready_top}
use Rattle.w_switching.proofs.PutIntoStore.{take_sound, put_sound, top_sound}
use Rattle.w_switching.proofs.Resumptions.{given}
use Rattle.w_switching.proofs.Rooms.{links_take, room_at, get_end}
use Rattle.w_switching.proofs.References.{More, more_of, links_more, hold_append, hold_take, hold_drop, hold_with, hold_top, each_at, is_of_it, long_top, room_with, waits_some}

-- ## Clauses

-- no clause for the tag is no answer
switch_none : (e : ℕ) (hs : List Clause) → has_switch e hs ≡ false → switch_clause e hs ≡ None
switch_none e hs h = ap (λ (b : Bool). if b then Some tt else None) h

-- and one is an answer
switch_some : (e : ℕ) (hs : List Clause) → has_switch e hs ≡ true → switch_clause e hs ≡ Some tt
switch_some e hs h = ap (λ (b : Bool). if b then Some tt else None) h

-- the same of all layers
none_switch : (m : Module) (e : ℕ) (ys : List Link) → All (λ y. switches_for m e y ≡ false) ys → All (λ y. switch_clause e (clauses_of m y) ≡ None) ys
none_switch m e ys a = λ k d h. switch_none e (clauses_of m (get_or ys k d)) (a k d h)

-- segments inside others, whatever these are
joined_all : {m : Module} {outer : Context} {behind : Rest} {segs ys : List Link} {e e' : Context} {vs below : Row Val} {r : Rest} {hs : List Clause} {c : Code} →
    Chained m [] (rest_of Done) segs e vs r → clauses_of m (top ys) ≡ hs → (top ys).shape.stage ≡ Body → Chained m outer behind ys e' below (rest_of c) →
    Chained m outer behind (segs ++ ys) (e ++ Handle below hs c ∷ e') vs r
joined_all {ys = []} k h b d = elim d [ ]
joined_all {ys = y ∷ ys} k h b d = joined k h b d

-- the innermost of joined segments is that of the first ones
with_append : (s : Shape) (xs ys : List Link) → 0 < length xs → with_top s (xs ++ ys) ≡ with_top s xs ++ ys
with_append s [] ys h = absurd (omega arith)
with_append s (x ∷ xs) ys h = refl

-- ## The rule

-- where the handle and the type were found
exchanging : Store → ℕ → Code → Continuation → Handler (Unit {0}) → FuncType → Row Val × Row Val → Reduced
exchanging s a c q h u (below, us) =
    Went [] (with_cont (continuation_at (length u.params) h.inner below c) (without_cont a s)) (in_context (Handle h.below h.clauses h.rest ∷ h.outer) (filled q.term (us ▹ Cont (next_cont s))))

module _ (m : Module) (chain : List Link) (conts : Conts Stored) (x y : ℕ) (r : ContRef) (vs : List Value) (b : Stored) (on : (top chain).shape.operands ≡ value.Cont r ∷ vs) (of : IsOf r conts)
    (is : kept_at conts r.serial ≡ Some b) where
  -- where the handle was found
  handling : Program → Store → Code → Continuation → Handler (Unit {0}) → Reduced
  handling p s c q h = or_stuck (cont_of (context_of p.source) x) (λ f. or_stuck (back_type (row_of f.params)) (λ z. or_stuck (cont_of (context_of p.source) z) (λ u.
      take_values (q.takes - 1) (stack vs) (exchanging s r.serial c q h u))))

  -- the rule looks for the handle once the reference led to a continuation
  rule_is : {behind : Rest} {p : Program} {s : Store} {t : Term} {c : Code} (a : StandsAt (switching.Switch x y) m behind chain conts p s t c) →
      switching_op p s t.around t.operands (switching.Switch x y) c ≡ or_unhandled y (find (switch_clause y) t.around) (handling p s c (kept_there a.stand r of b is).k)
  unfolding handling exchanging
  rule_is {p = p} {s = s} {t = t} {c = c} a =
      on_stack a (value.Cont r ∷ vs) on
      ∙ ap (λ (o : Option (Option Continuation)). unless_consumed o (λ q. or_unhandled y (find (switch_clause y) t.around) (handling p s c q))) (kept_there a.stand r of b is).is

  -- where no handle has a switch clause for the tag it traps
  pub switch_traps : All (λ z. switches_for m y z ≡ false) (rest chain) → Switches (did.Trapped (trap.Unhandled y)) (switching.Switch x y) m chain conts chain conts
  switch_traps none = (
    refl,
    refl,
    λ behind p s t c a.
        rule_is a ∙ ap (λ (o : Option (Handler (Unit {0}))). or_unhandled y o (handling p s c (kept_there a.stand r of b is).k))
        (no_layer (switch_clause y) m a.stand.term refl (none_switch m y (rest chain) none)),
  )

  module _ (k : SwitchesAt (switching.Switch x y) m chain conts) (layer : ℕ) (first : IsFirstSwitch m y layer chain) where
    -- the handle that is found
    switch_cuts : {behind : Rest} {p : Program} {s : Store} {t : Term} {c : Code} → StandsAt (switching.Switch x y) m behind chain conts p s t c →
        Cuts (switch_clause y) m [] behind chain t.around t.operands (rest_of (Plain (op.Switching (switching.Switch x y)) c)) layer tt
    switch_cuts a = cuts (switch_clause y) m layer tt (at_term a) (record {
      waiting = first.waiting;
      stands = first.stands;
      answers = switch_some y (clauses_of m first.waiting) first.switches;
      inside = none_switch m y (take layer (rest chain)) first.inside;
    })

    -- the layer is one of the chain
    pub switch_layer : layer + 1 < length chain
    switch_layer = layer_below (switch_cuts k.at)

    -- what the rule comes to, by the type that is looked up
    handled_is : {behind : Rest} {p : Program} {s : Store} {t : Term} {c : Code} (a : StandsAt (switching.Switch x y) m behind chain conts p s t c) →
        switching_op p s t.around t.operands (switching.Switch x y) c
        ≡ or_stuck (back_of m x) (λ u. take_values (b.takes - 1) (stack vs) (exchanging s r.serial c (kept_there a.stand r of b is).k (switch_cuts a).handler u))
    unfolding handling
    handled_is {p = p} {s = s} {c = c} a =
        let w = kept_there a.stand r of b is in
        let d = switch_cuts a in
        rule_is a ∙ ap (λ (o : Option (Handler (Unit {0}))). or_unhandled y o (handling p s c w.k)) d.found
        ∙ looks_up p.source x (λ u. take_values (w.k.takes - 1) (stack vs) (exchanging s r.serial c w.k d.handler u))
        ∙ ap (λ (z : Module). or_stuck (back_of z x) (λ u. take_values (w.k.takes - 1) (stack vs) (exchanging s r.serial c w.k d.handler u))) a.stand.source
        ∙ ap (λ (n : ℕ). or_stuck (back_of m x) (λ u. take_values (n - 1) (stack vs) (exchanging s r.serial c w.k d.handler u))) w.takes

    -- the type is there, since otherwise no rule would apply
    pub switch_typed : back_of m x ≡ None → ⊥
    switch_typed none =
        let w = kept_there k.at.stand r of b is in
        let d = switch_cuts k.at in
        k.at.applies (handled_is k.at ∙ ap (λ (o : Option FuncType). or_stuck o (λ u. take_values (b.takes - 1) (stack vs) (exchanging k.s r.serial k.c w.k d.handler u))) none)

    module _ (u : FuncType) (kind : back_of m x ≡ Some u) where
      record Exchanges (behind : Rest) (p : Program) (s : Store) (t : Term) (c : Code) (a : StandsAt (switching.Switch x y) m behind chain conts p s t c) : Type 0 where
        fits : b.takes - 1 ≤ length vs
        goes : switching_op p s t.around t.operands (switching.Switch x y) c
            ≡ exchanging s r.serial c (kept_there a.stand r of b is).k (switch_cuts a).handler u (stack (drop (b.takes - 1) vs), stack (take (b.takes - 1) vs))

      -- it comes to this in each configuration
      exchanges : (behind : Rest) (p : Program) (s : Store) (t : Term) (c : Code) (a : StandsAt (switching.Switch x y) m behind chain conts p s t c) → Exchanges behind p s t c a
      exchanges behind p s t c a =
          let w = kept_there a.stand r of b is in
          let d = switch_cuts a in
          let go = exchanging s r.serial c w.k d.handler u in
          let rule = handled_is a ∙ goes_on (back_of m x) (λ u. take_values (b.takes - 1) (stack vs) (exchanging s r.serial c w.k d.handler u)) u kind in
          let fits = stack_enough (b.takes - 1) vs go (λ q. a.applies (rule ∙ q)) in
          record { fits = fits; goes = rule ∙ stack_take (b.takes - 1) vs go fits }

      -- its arguments are there
      pub switch_fits : b.takes - 1 + 1 ≤ length (top chain).shape.operands
      switch_fits = let f = (exchanges k.behind k.p k.s k.t k.c k.at).fits in let l = ap (λ (l : List Value). length l) on in omega (arith, f, l)

      -- the configuration after it holds no more than its functions need
      switch_holds : (let w = kept_there k.at.stand r of b is in let h = (switch_cuts k.at).handler in
          Holding m (with_cont (continuation_at (length u.params) h.inner (stack (drop (b.takes - 1) vs)) k.c) (without_cont r.serial k.s))
          (in_context (Handle h.below h.clauses h.rest ∷ h.outer) (filled w.k.term (stack (take (b.takes - 1) vs) ▹ Cont (next_cont k.s)))))
      unfolding exchanging
      switch_holds = k.holds [] _ _ (exchanges k.behind k.p k.s k.t k.c k.at).goes

      -- what is stored has room for what it takes
      pub switch_inside : Roomy m chain conts → height (discarded (b.takes - 1) (discarded 1 (top chain).shape)) + length u.params ≤ (top chain).shape.capacity.operands
      switch_inside roomy =
          let n = b.takes - 1 in
          let S = (top chain).shape in
          let h = (switch_cuts k.at).handler in
          let one : drop 1 S.operands ≡ vs = ap (λ (l : List Value). drop 1 l) on in
          let low : take (suc layer) chain ≡ take (layer + 1) chain = ap (λ (j : ℕ). take j chain) (sym (add-one layer)) in
          let inside = subst (λ (z : List Link). Chained m [] (rest_of Done) z h.inner k.t.operands (rest_of (Plain (op.Switching (switching.Switch x y)) k.c))) low (switch_cuts k.at).inner in
          let same = top_taken layer chain in
          let k1 : Continuation = continuation_at (length u.params) h.inner (stack (drop n vs)) k.c in
          let many = stack_size (drop n vs) in
          let room = room_at inside (ap (λ (z : Link). z.shape.stage) same ∙ k.stage) (links_take m (layer + 1) chain roomy.running) (length (drop n vs) + length u.params)
          (λ g is. let held = (switch_holds.stored (length (slice_set k.s.conts r.serial None)) k1 (get_end (slice_set k.s.conts r.serial None) (Some k1)) g is refl).operands in omega (arith, held, many)) in
          let there : below_all S.levels + (length (drop n vs) + length u.params) ≤ S.capacity.operands =
          subst (λ (z : Link). below_all z.shape.levels + (length (drop n vs) + length u.params) ≤ z.shape.capacity.operands) same room in
          let left = ap (λ (l : List Value). length (drop n l)) one in
          omega (arith, there, left)

      module _ (conts1 : Conts Stored) (chain' : List Link) (conts' : Conts Stored) (taken : conts1 ≡ without_entry r.serial conts)
          (ex : Exchanged (b.takes - 1) (length u.params) layer b.segment.value chain conts1 chain' conts') where
        -- it went as the rule says
        pub exchange_goes : Switches did.Went (switching.Switch x y) m chain conts chain' conts'
        unfolding exchanging
        exchange_goes behind p s t c a =
            let w = kept_there a.stand r of b is in
            let d = switch_cuts a in
            let h = d.handler in
            let n = b.takes - 1 in
            let S = (top chain).shape in
            let q = w.k.term in
            let segs = b.segment.value in
            let one : drop 1 S.operands ≡ vs = ap (λ (l : List Value). drop 1 l) on in
            let low : take (suc layer) chain ≡ take (layer + 1) chain = ap (λ (j : ℕ). take j chain) (sym (add-one layer)) in
            let high : drop (suc layer) chain ≡ drop (layer + 1) chain = ap (λ (j : ℕ). drop j chain) (sym (add-one layer)) in
            let es = ap (λ (z : Conts Stored). z.entries) taken in
            let long : next_cont s ≡ length conts1.entries = kept_long a.stand.store ∙ sym (ap (λ (l : List (Option (ℕ × Stored))). length l) es ∙ length-set conts.entries r.serial None) in
            let here : Code = Plain (op.Switching (switching.Switch x y)) c in
            let S' = moved (S.place + 1) (discarded n (discarded 1 S)) in
            let k1 : Continuation = continuation_at (length u.params) h.inner (stack (drop n vs)) c in
            let inside = subst (λ (z : List Link). Chained m [] (rest_of Done) z h.inner t.operands (rest_of here)) low d.inner in
            let part : Chained m [] (rest_of Done) (with_top S' (take (layer + 1) chain)) h.inner (stack (drop n vs)) (rest_of c) =
            inside_top S'
            (λ o e i. next_top k S' (record { levels = refl; func = refl; place = refl; stage = k.stage; capacity = refl })
            (subst (λ (z : Link). StackIs m o e z.shape h.inner (rest_of here)) (top_taken layer chain) i))
            (ap (λ (l : List Value). stack (drop n l)) (sym one)) inside in
            let own = next_ref ex.place (length conts1.entries) in
            let us = take n (drop 1 S.operands) in
            let T' = pushed own (pushed_all (reverse us) (top segs).shape) in
            let target = given T' (own ∷ us) w.stands (record { levels = refl; func = refl; place = refl; stage = refl })
            (ap (λ (l : List Value). own ∷ (l ++ (top segs).shape.operands)) (reverse-reverse us)) in
            let outside = subst (λ (z : List Link). Chained m [] behind z h.outer h.below (rest_of h.rest)) high d.outside in
            let body = ap (λ (z : List Link). (top z).shape.stage) (sym high) ∙ d.waits in
            let clauses = ap (λ (z : List Link). clauses_of m (top z)) (sym high) ∙ d.clauses in
            let whole = joined_all target clauses body outside in
            let after : Term = in_context (Handle h.below h.clauses h.rest ∷ h.outer) (filled q (stack (take n vs) ▹ Cont (next_cont s))) in
            record {
              conts_after = slice_set s.conts r.serial None ++ Some k1 ∷ [];
              t = after;
              is = (exchanges behind p s t c a).goes;
              stand = record {
                source = a.stand.source;
                program = a.stand.program;
                short = a.stand.short;
                narrow = a.stand.narrow;
                term = subst (λ (z : List Link). Chained m [] behind z after.around after.operands after.rest) (sym ex.chain_after)
                    (subst (λ (i : ℕ). Chained m [] behind (with_top T' segs ++ drop (layer + 1) chain) after.around (q.operands ⧺ (stack (take n vs) ▹ Cont i)) after.rest) (sym long)
                    (subst (λ (l : List Value). Chained m [] behind (with_top T' segs ++ drop (layer + 1) chain) after.around (q.operands ⧺ (stack (take n l) ▹ Cont (length conts1.entries))) after.rest) one whole));
                store = subst (λ (z : Conts Stored). AllKept m z.entries (slice_set s.conts r.serial None ++ Some k1 ∷ [])) (sym ex.conts_after)
                    (kept_more (Some (ex.place, ex.b)) (Some k1) (subst (λ (z : Conts Stored). AllKept m z.entries (slice_set s.conts r.serial None)) (sym taken) (kept_set r.serial a.stand.store))
                    (kept (subst (λ (z : List Link). Chained m [] (rest_of Done) z h.inner (stack (drop n vs)) (rest_of c)) (sym ex.stored) part) (sym ex.takes_is)));
              };
            }

        -- and is sound
        pub exchange_sound : Sound chain conts → Roomy m chain conts → length chain ≤ most_segments → KeepsReferences conts conts1 → KeepsReferences conts1 conts' → Sound chain' conts'
        exchange_sound s roomy few refs1 refs2 =
            let n = b.takes - 1 in
            let S = (top chain).shape in
            let segs = b.segment.value in
            let T = (top segs).shape in
            let low = take (layer + 1) chain in
            let high = drop (layer + 1) chain in
            let free = subst (SoundWith (length segs) chain) (sym taken) (take_sound chain conts r.serial b s is (subst (KeepsReferences conts) taken refs1)) in
            let test = is_of conts1 in
            let P : Value → Type 0 = λ v. test v ≡ true in
            let Q : Value → Type 0 = λ v. is_of conts' v ≡ true in
            let more : More test (is_of conts') = more_of conts1 conts' refs2 in
            let good = each_at (IsGood (is_of conts)) conts.entries r.serial b is s.stored in
            let segs_hold = links_more (is_of conts) test (more_of conts conts1 refs1) segs good.references in
            let some = waits_some segs good.waits in
            let sh = hold_top test chain free.references in
            let S' = moved (S.place + 1) (discarded n (discarded 1 S)) in
            let h1 = moved_holds P (S.place + 1) (discarded n (discarded 1 S)) (discarded_holds P n (discarded 1 S) (discarded_holds P 1 S sh)) in
            let low_hold = hold_take test (layer + 1) chain free.references in
            let some_low = some_taken layer chain (some_chain k) in
            let room = switch_inside roomy in
            let takes = ex.takes_is in
            let both = both_long (layer + 1) chain in
            let long : length ex.b.segment.value ≡ length low = ap (λ (z : List Link). length z) ex.stored ∙ long_top S' low in
            let good1 : IsGood test ex.b = record {
              references = subst (LinksHold test) (sym ex.stored) (hold_with test S' low h1 low_hold);
              waits = subst Waits (sym ex.stored) (ready_top S' low some_low k.stage);
              room = subst (HasRoomFor ex.b.takes) (sym ex.stored) (room_with ex.b.takes S' low some_low (omega (arith, room, takes)));
              few = omega (arith, long, both, few);
            } in
            let joined_long = length-append segs high in
            let d = free.slots in
            let between : SoundWith (length ex.b.segment.value) (segs ++ high) conts1 = record {
              references = hold_append test segs high segs_hold (hold_drop test (layer + 1) chain free.references);
              stored = free.stored;
              slots = omega (arith, d, joined_long, both, long);
            } in
            let spare : 0 < conts1.spare = (let e = ap (λ (z : Conts Stored). z.spare) taken in omega (arith, e)) in
            let put = put_sound (segs ++ high) conts1 ex.place ex.b between spare good1 (subst (KeepsReferences conts1) ex.conts_after refs2) in
            let put' : Sound (segs ++ high) conts' = subst (Sound (segs ++ high)) (sym ex.conts_after) put in
            let us = take n (drop 1 S.operands) in
            let args = all_reverse Q us (all_take Q n (drop 1 S.operands) (all_drop Q 1 S.operands (hold_top (is_of conts') chain (links_more test (is_of conts') more chain free.references)).operands)) in
            let th = hold_top (is_of conts') segs (links_more test (is_of conts') more segs segs_hold) in
            let own = next_ref ex.place (length conts1.entries) in
            let T' = pushed own (pushed_all (reverse us) T) in
            let h2 = pushed_holds Q own (pushed_all (reverse us) T) (is_of_it conts' (record { place = ex.place; serial = length conts1.entries }) ex.of) (pushed_all_holds Q (reverse us) T args th) in
            subst (λ (z : List Link). Sound z conts') (with_append T' segs high some.0 ∙ sym ex.chain_after) (top_sound 0 (segs ++ high) conts' T' put' h2)
