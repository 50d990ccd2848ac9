-- Suspending.
use Rattle.std.proofs.Common.{◌≡◌, ℕ, suc, ◌+◌, ◌<◌, ◌≤◌, true, length-append, List, [], ◌∷◌, ◌++◌, Option, Some, None, length, refl, sym, ap, ◌∙◌, subst, arith, add-one, drop, take, reverse}
use Rattle.std.proofs.lemmas.List.{reverse-reverse, length-take-le}
use Rattle.std.specs.Prelude.{All}
use Rattle.lists.specs.Rows.{Row, ◌▹◌, ◌⧺◌, size}
use Rattle.w_types.specs.declared.types.FuncType.{FuncType}
use Rattle.w_types.specs.declared.value.Value.{Value}
use Rattle.w_syntax.specs.Code.{Code, Plain, Done}
use Rattle.w_syntax.specs.declared.instructions.Op.TheVariants as op
use Rattle.w_syntax.specs.declared.instructions.SwitchingOp.TheVariants as switching
use Rattle.w_syntax.specs.declared.module.Module.{Module}
use Rattle.w_rules.specs.Context.{type_of_tag}
use Rattle.w_rules.specs.Spaces.{context_of}
use Rattle.w_segment.specs.declared.entry.Stage.TheVariants.{Body, Branch as AtBranch}
use Rattle.w_segment.specs.Shape.{Shape, Level, below_all, height}
use Rattle.w_segment.specs.Changes.{pushed, pushed_all, discarded, moved, staged}
use Rattle.w_segment.specs.Link.{Link, top, rest, with_top}
use Rattle.w_segment.proofs.FactsOfValues.{all_take, all_reverse, pushed_holds, pushed_all_holds, discarded_holds, moved_holds, staged_holds}
use Rattle.w_chain.specs.Layers.{label_for, IsFirstLabel}
use Rattle.w_conts.specs.Conts.{Conts, KeepsReferences}
use Rattle.w_reduce.specs.Values.{Val, Cont}
use Rattle.w_reduce.specs.Terms.{Branch, Rest, rest_of, Context, Term, Continuation}
use Rattle.w_reduce.specs.Store.{Store, with_cont, next_cont}
use Rattle.w_reduce.specs.Program.{Program}
use Rattle.w_reduce.specs.Reduced.{Reduced, steps_to, take_values}
use Rattle.w_reduce.specs.Handlers.{Handler, label_clause, find}
use Rattle.w_reduce.specs.Room.{Holding}
use Rattle.w_reduce.specs.Switching.{switching_op, continuation_at, or_unhandled}
use Rattle.w_reduce.specs.declared.trap.Trap.TheVariants as trap
use Rattle.w_stands.specs.declared.did.Did.TheVariants as did
use Rattle.w_stands.specs.Values.{stack}
use Rattle.w_stands.specs.Code.{instrs, Reads}
use Rattle.w_stands.specs.Stands.{LevelsAre, StackIs, left}
use Rattle.w_stands.proofs.RoomOfFrames.{stack_size}
use Rattle.w_stands.proofs.LookedUp.{found, goes_on}
use Rattle.w_stands.proofs.AtInstructions.{here}
use Rattle.w_stands.proofs.ManyTakenOperands.{stack_take, stack_enough, stack_append}
use Rattle.w_switching.specs.declared.stored.Stored.{Stored}
use Rattle.w_switching.specs.Moved.{Captured, next_ref}
use Rattle.w_switching.specs.Standing.{Chained, kept, AllKept}
use Rattle.w_switching.specs.Reductions.{StandsAt, SwitchesAt, Switches}
use Rattle.w_switching.specs.Sound.{LinksHold, Waits, HasRoomFor, is_of, IsGood, Sound, SoundWith, Roomy, most_segments}
use Rattle.w_switching.proofs.SegmentsInOthers.{inside_top, kept_more, kept_long}
use Rattle.w_switching.proofs.AtSwitchingInstruction.{head, on_stack, at_term, next_top, some_chain}
use Rattle.w_switching.proofs.CutAtHandles.{Cuts, cuts, no_layer, layer_below}
use Rattle.w_switching.proofs.SegmentsUpToLayers.{top_taken, some_taken, both_long, part_sound, ready_top}
use Rattle.w_switching.proofs.PutIntoStore.{put_sound, top_sound}
use Rattle.w_switching.proofs.Rooms.{links_take, links_drop, room_at, get_end}
use Rattle.w_switching.proofs.References.{More, more_of, links_more, hold_take, hold_with, hold_top, is_of_it, long_top, room_with, spare_slot}

-- the segment that waited stands at a branch
at_branch : {m : Module} {outer : Context} {behind : Rest} {e : Context} {c : Code} (l : ℕ) (s s' : Shape) → s.stage ≡ Body → s'.levels ≡ s.levels → s'.func ≡ s.func → s'.place ≡ s.place →
    s'.stage ≡ AtBranch l → StackIs m outer behind s e (rest_of c) → StackIs m outer behind s' e (record { ahead = Branch l ∷ []; code = c })
at_branch {m} {outer} {behind} {e} {c} l s s' b x f g t w =
    let h = here w b in
    let same : c ≡ h.code = ap (λ (r : Rest). r.code) h.rest in
    subst (λ (y : Code). StackIs m outer behind s' e (record { ahead = Branch l ∷ []; code = y })) (sym same)
    (left t (subst (λ (p : ℕ). Reads (instrs m s'.func) p h.code h.end) (sym g) (subst (λ (f : ℕ). Reads (instrs m f) s.place h.code h.end) (sym f) h.reads))
    (subst (λ (ls : List Level). LevelsAre m outer behind s'.func h.end ls e) (sym x) (subst (λ (f : ℕ). LevelsAre m outer behind f h.end s.levels e) (sym f) h.around)))

-- ## The rule

-- where the handle was found
catching : Store → FuncType → List Value → Code → Handler ℕ → Reduced
catching s f vs c h =
    steps_to (with_cont (continuation_at (length f.results) h.inner (stack (drop (length f.params) vs)) c) s) h.outer
    ((h.below ⧺ stack (take (length f.params) vs)) ▹ Cont (next_cont s)) (record { ahead = Branch h.answer ∷ []; code = h.rest })

module _ (m : Module) (chain : List Link) (conts : Conts Stored) (x : ℕ) where
  record Suspends (f : FuncType) (p : Program) (s : Store) (t : Term) (c : Code) : Type 0 where
    fits : length f.params ≤ length (top chain).shape.operands
    goes : switching_op p s t.around t.operands (switching.Suspend x) c ≡ or_unhandled x (find (label_clause x) t.around) (catching s f (top chain).shape.operands c)

  -- it comes to this in each configuration
  suspends : (f : FuncType) → type_of_tag (context_of m) x ≡ Some f → (behind : Rest) (p : Program) (s : Store) (t : Term) (c : Code) →
      StandsAt (switching.Suspend x) m behind chain conts p s t c → Suspends f p s t c
  unfolding catching
  suspends f kind behind p s t c a =
      let vs = (top chain).shape.operands in
      let go : FuncType → Row Val × Row Val → Reduced = λ q (below, us).
      or_unhandled x (find (label_clause x) t.around) (λ h. steps_to (with_cont (continuation_at (length q.results) h.inner below c) s) h.outer
      ((h.below ⧺ us) ▹ Cont (next_cont s)) (record { ahead = Branch h.answer ∷ []; code = h.rest })) in
      let rule : switching_op p s t.around t.operands (switching.Suspend x) c ≡ take_values (length f.params) (stack vs) (go f) =
      on_stack a vs refl
      ∙ goes_on (type_of_tag (context_of p.source) x) (λ q. take_values (length q.params) (stack vs) (go q)) f (ap (λ (z : Module). type_of_tag (context_of z) x) a.stand.source ∙ kind) in
      let fits = stack_enough (length f.params) vs (go f) (λ q. a.applies (rule ∙ q)) in
      record { fits = fits; goes = rule ∙ stack_take (length f.params) vs (go f) fits }

  -- the tag's type is there, since otherwise no rule would apply
  record HasType : Type 0 where
    type_is : FuncType
    there : type_of_tag (context_of m) x ≡ Some type_is

  -- so each configuration tells of it
  has_type : (behind : Rest) (p : Program) (s : Store) (t : Term) (c : Code) → StandsAt (switching.Suspend x) m behind chain conts p s t c → HasType
  has_type behind p s t c a =
      let f = found (type_of_tag (context_of p.source) x) (λ q. take_values (length q.params) t.operands (λ (below, us).
      or_unhandled x (find (label_clause x) t.around) (λ h. steps_to (with_cont (continuation_at (length q.results) h.inner below c) s) h.outer
      ((h.below ⧺ us) ▹ Cont (next_cont s)) (record { ahead = Branch h.answer ∷ []; code = h.rest })))) a.applies in
      record { type_is = f.item; there = ap (λ (z : Module). type_of_tag (context_of z) x) (sym a.stand.source) ∙ f.is }

  -- where no handle has a label clause for the tag it traps
  pub suspend_traps : All (λ y. label_for m x y ≡ None) (rest chain) → Switches (did.Trapped (trap.Unhandled x)) (switching.Suspend x) m chain conts chain conts
  suspend_traps none = (
    refl,
    refl,
    λ behind p s t c a.
        let f = has_type behind p s t c a in
        (suspends f.type_is f.there behind p s t c a).goes
        ∙ ap (λ (o : Option (Handler ℕ)). or_unhandled x o (catching s f.type_is (top chain).shape.operands c)) (no_layer (label_clause x) m a.stand.term refl none),
  )

  module _ (k : SwitchesAt (switching.Suspend x) m chain conts) (layer l : ℕ) (first : IsFirstLabel m x layer l chain) where
    -- the handle that is found
    pub suspend_cuts : {behind : Rest} {p : Program} {s : Store} {t : Term} {c : Code} → StandsAt (switching.Suspend x) m behind chain conts p s t c →
        Cuts (label_clause x) m [] behind chain t.around t.operands (rest_of (Plain (op.Switching (switching.Suspend x)) c)) layer l
    suspend_cuts a = cuts (label_clause x) m layer l (at_term a) (record { waiting = first.waiting; stands = first.stands; answers = first.label; inside = first.inside })

    -- the layer is one of the chain
    pub suspend_layer : layer + 1 < length chain
    suspend_layer = layer_below (suspend_cuts k.at)

    module _ (f : FuncType) (kind : type_of_tag (context_of m) x ≡ Some f) where
      -- its arguments are there
      pub suspend_fits : length f.params ≤ length (top chain).shape.operands
      suspend_fits = (suspends f kind k.behind k.p k.s k.t k.c k.at).fits

      -- the configuration after it holds no more than its functions need
      suspend_holds : (let d = suspend_cuts k.at in let h = d.handler in Holding m (with_cont (continuation_at (length f.results) h.inner (stack (drop (length f.params) (top chain).shape.operands)) k.c) k.s)
          (record { around = h.outer; operands = (h.below ⧺ stack (take (length f.params) (top chain).shape.operands)) ▹ Cont (next_cont k.s); rest = record { ahead = Branch h.answer ∷ []; code = h.rest } }))
      unfolding catching
      suspend_holds =
          let d = suspend_cuts k.at in
          k.holds [] _ _ ((suspends f kind k.behind k.p k.s k.t k.c k.at).goes ∙ ap (λ (o : Option (Handler ℕ)). or_unhandled x o (catching k.s f (top chain).shape.operands k.c)) d.found)

      -- what is stored has room for what it takes
      pub suspend_inside : Roomy m chain conts → height (discarded (length f.params) (top chain).shape) + length f.results ≤ (top chain).shape.capacity.operands
      suspend_inside roomy =
          let n = length f.params in
          let S = (top chain).shape in
          let d = suspend_cuts k.at in
          let h = d.handler in
          let low : take (suc layer) chain ≡ take (layer + 1) chain = ap (λ (j : ℕ). take j chain) (sym (add-one layer)) in
          let inside = subst (λ (z : List Link). Chained m [] (rest_of Done) z h.inner k.t.operands (rest_of (Plain (op.Switching (switching.Suspend x)) k.c))) low d.inner in
          let same = top_taken layer chain in
          let k1 : Continuation = continuation_at (length f.results) h.inner (stack (drop n S.operands)) k.c in
          let many = stack_size (drop n S.operands) in
          let room = room_at inside (ap (λ (z : Link). z.shape.stage) same ∙ k.stage) (links_take m (layer + 1) chain roomy.running) (length (drop n S.operands) + length f.results)
          (λ g is. let held = (suspend_holds.stored (next_cont k.s) k1 (get_end k.s.conts (Some k1)) g is refl).operands in omega (arith, held, many)) in
          let there : below_all S.levels + (length (drop n S.operands) + length f.results) ≤ S.capacity.operands =
          subst (λ (z : Link). below_all z.shape.levels + (length (drop n S.operands) + length f.results) ≤ z.shape.capacity.operands) same room in
          omega (arith, there)

      -- and what waits outside has room for the arguments and the reference
      pub suspend_outside : Roomy m chain conts → HasRoomFor (length f.params + 1) (drop (layer + 1) chain)
      suspend_outside roomy =
          let n = length f.params in
          let S = (top chain).shape in
          let W = (top (drop (layer + 1) chain)).shape in
          let d = suspend_cuts k.at in
          let h = d.handler in
          let high : drop (suc layer) chain ≡ drop (layer + 1) chain = ap (λ (j : ℕ). drop j chain) (sym (add-one layer)) in
          let outside = subst (λ (z : List Link). Chained m [] k.behind z h.outer h.below (rest_of h.rest)) high d.outside in
          let body : W.stage ≡ Body = ap (λ (z : List Link). (top z).shape.stage) (sym high) ∙ d.waits in
          let us = take n S.operands in
          let many : size (h.below ⧺ stack us) ≡ length (us ++ W.operands) =
          ap (λ (r : Row Val). size (r ⧺ stack us)) (head outside).operands ∙ ap size (sym (stack_append us W.operands)) ∙ stack_size (us ++ W.operands) in
          let both = length-append us W.operands in
          let all = length-take-le n S.operands suspend_fits in
          let room = room_at outside body (links_drop m (layer + 1) chain roomy.running) (suc (length us + length W.operands))
          (λ g is. let held = (suspend_holds.running g is refl).operands in omega (arith, held, many, both)) in
          omega (arith, room, all)

      module _ (chain' : List Link) (conts' : Conts Stored) (cap : Captured (length f.params) (length f.results) layer l chain conts chain' conts') where
        -- the reference to what is stored
        abbrev own_ref : Value
        own_ref = next_ref cap.place (length conts.entries)

        -- the innermost segment once it is stored, and the one that waited
        abbrev s_stored : Shape
        s_stored = moved ((top chain).shape.place + 1) (discarded (length f.params) (top chain).shape)

        abbrev s_branch : Shape
        s_branch = staged (AtBranch l) (pushed own_ref (pushed_all (reverse (take (length f.params) (top chain).shape.operands)) (top (drop (layer + 1) chain)).shape))

        -- it went as the rule says
        pub suspend_goes : Switches did.Went (switching.Suspend x) m chain conts chain' conts'
        unfolding catching
        suspend_goes behind p s t c a =
            let n = length f.params in
            let S = (top chain).shape in
            let W = (top (drop (layer + 1) chain)).shape in
            let d = suspend_cuts a in
            let h = d.handler in
            let low : take (suc layer) chain ≡ take (layer + 1) chain = ap (λ (j : ℕ). take j chain) (sym (add-one layer)) in
            let high : drop (suc layer) chain ≡ drop (layer + 1) chain = ap (λ (j : ℕ). drop j chain) (sym (add-one layer)) in
            let long = kept_long a.stand.store in
            let k1 : Continuation = continuation_at (length f.results) h.inner (stack (drop n S.operands)) c in
            let ws = (h.below ⧺ stack (take n S.operands)) ▹ Cont (next_cont s) in
            let r2 : Rest = record { ahead = Branch h.answer ∷ []; code = h.rest } in
            let outside = subst (λ (z : List Link). Chained m [] behind z h.outer h.below (rest_of h.rest)) high d.outside in
            let body : W.stage ≡ Body = ap (λ (z : List Link). (top z).shape.stage) (sym high) ∙ d.waits in
            let inside = subst (λ (z : List Link). Chained m [] (rest_of Done) z h.inner t.operands (rest_of (Plain (op.Switching (switching.Suspend x)) c))) low d.inner in
            let ops : ws ≡ stack s_branch.operands =
            ap (λ (r : Row Val). (r ⧺ stack (take n S.operands)) ▹ Cont (next_cont s)) (head outside).operands
            ∙ ap (λ (r : Row Val). r ▹ Cont (next_cont s)) (sym (stack_append (take n S.operands) W.operands))
            ∙ ap (λ (us : List Value). stack (us ++ W.operands) ▹ Cont (next_cont s)) (sym (reverse-reverse (take n S.operands)))
            ∙ ap (λ (j : ℕ). stack (reverse (reverse (take n S.operands)) ++ W.operands) ▹ Cont j) long in
            let term : Chained m [] behind (with_top s_branch (drop (layer + 1) chain)) h.outer ws r2 =
            inside_top s_branch (λ o b q. at_branch h.answer W s_branch body refl refl refl (ap AtBranch (sym d.answer_is)) q) ops outside in
            let part : Chained m [] (rest_of Done) (with_top s_stored (take (layer + 1) chain)) h.inner (stack (drop n S.operands)) (rest_of c) =
            inside_top s_stored
            (λ o b q. next_top k s_stored (record { levels = refl; func = refl; place = refl; stage = k.stage; capacity = refl })
            (subst (λ (y : Link). StackIs m o b y.shape h.inner (rest_of (Plain (op.Switching (switching.Suspend x)) c))) (top_taken layer chain) q))
            refl inside in
            record {
              conts_after = s.conts ++ Some k1 ∷ [];
              t = record { around = h.outer; operands = ws; rest = r2 };
              is = (suspends f kind behind p s t c a).goes ∙ ap (λ (o : Option (Handler ℕ)). or_unhandled x o (catching s f S.operands c)) d.found;
              stand = record {
                source = a.stand.source;
                program = a.stand.program;
                short = a.stand.short;
                narrow = a.stand.narrow;
                term = subst (λ (z : List Link). Chained m [] behind z h.outer ws r2) (sym cap.chain_after) term;
                store = subst (λ (z : Conts Stored). AllKept m z.entries (s.conts ++ Some k1 ∷ [])) (sym cap.conts_after)
                    (kept_more (Some (cap.place, cap.b)) (Some k1) a.stand.store
                    (kept (subst (λ (z : List Link). Chained m [] (rest_of Done) z h.inner (stack (drop n S.operands)) (rest_of c)) (sym cap.stored) part) (sym cap.takes_is)));
              };
            }

        -- and is sound
        pub suspend_sound : Sound chain conts → Roomy m chain conts → length chain ≤ most_segments → KeepsReferences conts conts' → Sound chain' conts'
        suspend_sound s roomy few keeps =
            let n = length f.params in
            let S = (top chain).shape in
            let low = take (layer + 1) chain in
            let outside = drop (layer + 1) chain in
            let test = is_of conts in
            let P : Value → Type 0 = λ v. test v ≡ true in
            let Q : Value → Type 0 = λ v. is_of conts' v ≡ true in
            let more : More test (is_of conts') = more_of conts conts' keeps in
            let some = some_taken layer chain (some_chain k) in
            let room = suspend_inside roomy in
            let takes = cap.takes_is in
            let l1 = both_long (layer + 1) chain in
            let l2 : length cap.b.segment.value ≡ length low = ap (λ (z : List Link). length z) cap.stored ∙ long_top s_stored low in
            let good : IsGood test cap.b = record {
              references = subst (LinksHold test) (sym cap.stored)
                  (hold_with test s_stored low (moved_holds P (S.place + 1) (discarded n S) (discarded_holds P n S (hold_top test chain s.references))) (hold_take test (layer + 1) chain s.references));
              waits = subst Waits (sym cap.stored) (ready_top s_stored low some k.stage);
              room = subst (HasRoomFor cap.b.takes) (sym cap.stored) (room_with cap.b.takes s_stored low some (omega (arith, room, takes)));
              few = omega (arith, l1, l2, few);
            } in
            let spare = spare_slot chain conts s (let h = suspend_layer in omega (arith, h)) in
            let put = put_sound outside conts cap.place cap.b (subst (λ (i : ℕ). SoundWith i outside conts) (sym l2) (part_sound layer chain conts s)) spare good (subst (KeepsReferences conts) cap.conts_after keeps) in
            let put' : Sound outside conts' = subst (Sound outside) (sym cap.conts_after) put in
            let us = take n S.operands in
            let W = (top outside).shape in
            let args = all_reverse Q us (all_take Q n S.operands (hold_top (is_of conts') chain (links_more test (is_of conts') more chain s.references)).operands) in
            let h1 = pushed_all_holds Q (reverse us) W args (hold_top (is_of conts') outside put'.references) in
            let h2 = pushed_holds Q own_ref (pushed_all (reverse us) W) (is_of_it conts' (record { place = cap.place; serial = length conts.entries }) cap.of) h1 in
            subst (λ (z : List Link). Sound z conts') (sym cap.chain_after)
            (top_sound 0 outside conts' s_branch put' (staged_holds Q (AtBranch l) (pushed own_ref (pushed_all (reverse us) W)) h2))
