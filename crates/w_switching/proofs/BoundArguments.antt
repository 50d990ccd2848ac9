-- Binding arguments of a continuation.
use Rattle.std.proofs.Common.{◌≡◌, ℕ, ◌+◌, ◌-◌, ◌<◌, ◌≤◌, true, List, [], ◌∷◌, ◌++◌, Option, Some, None, length, refl, sym, ap, ◌∙◌, subst, arith, drop, take, reverse}
use Rattle.std.proofs.lemmas.List.{length-take-le, length-set}
use Rattle.std.specs.Prelude.{slice_set}
use Rattle.lists.specs.Rows.{Row, ◌▹◌, ◌⧺◌}
use Rattle.w_types.specs.declared.types.FuncType.{FuncType}
use Rattle.w_types.specs.declared.value.Value.{Value}
use Rattle.w_types.specs.declared.value.Value.TheVariants as value
use Rattle.w_types.specs.declared.value.ContRef.{ContRef}
use Rattle.w_syntax.specs.Code.{Code, Done}
use Rattle.w_syntax.specs.declared.instructions.SwitchingOp.TheVariants as switching
use Rattle.w_syntax.specs.declared.module.Module.{Module}
use Rattle.w_rules.specs.Context.{cont_of}
use Rattle.w_rules.specs.Spaces.{context_of}
use Rattle.w_segment.specs.Changes.{pushed, pushed_all, discarded, moved}
use Rattle.w_segment.specs.Link.{Link, top, with_top}
use Rattle.w_segment.proofs.FactsOfValues.{all_take, all_drop, all_reverse, pushed_holds, pushed_all_holds, discarded_holds, moved_holds}
use Rattle.w_conts.specs.Conts.{Conts, KeepsReferences, IsOf, kept_at, without_entry}
use Rattle.w_reduce.specs.Values.{Val, Cont}
use Rattle.w_reduce.specs.Terms.{Rest, rest_of, Term, Continuation, filled}
use Rattle.w_reduce.specs.Store.{Store, without_cont, with_cont, next_cont}
use Rattle.w_reduce.specs.Program.{Program}
use Rattle.w_reduce.specs.Reduced.{Reduced, or_stuck, steps_to, take_values, unless_consumed}
use Rattle.w_reduce.specs.Switching.{switching_op}
use Rattle.w_stands.specs.declared.did.Did.TheVariants as did
use Rattle.w_stands.specs.Values.{stack}
use Rattle.w_stands.proofs.ManyTakenOperands.{stack_take, stack_enough}
use Rattle.w_stands.proofs.LookedUp.{goes_on}
use Rattle.w_switching.specs.declared.stored.Stored.{Stored}
use Rattle.w_switching.specs.Moved.{Bound, next_ref}
use Rattle.w_switching.specs.Standing.{Chained, kept, AllKept}
use Rattle.w_switching.specs.Reductions.{StandsAt, SwitchesAt, Switches}
use Rattle.w_switching.specs.Sound.{LinksHold, Waits, HasRoomFor, is_of, IsGood, Sound, SoundWith}
use Rattle.w_switching.proofs.SegmentsInOthers.{inside_top, kept_set, kept_more, kept_long}
use Rattle.w_switching.proofs.AtSwitchingInstruction.{on_stack, at_term, next_top}
use Rattle.w_switching.proofs.ReferenceFirst.{KeptThere, kept_there}
use Rattle.w_switching.proofs.PutIntoStore.{take_sound, put_sound, top_sound}
use Rattle.w_switching.proofs.Resumptions.{pushed_given}
use Rattle.w_switching.proofs.References.{hold_with, hold_top, each_at, links_more, more_of, is_of_it, long_top, top_wait, waits_some, room_with, high_pushed}

-- the type before it is there, since otherwise no rule would apply
pub bind_typed : (m : Module) (chain : List Link) (conts : Conts Stored) (x y : ℕ) (r : ContRef) (vs : List Value) (b : Stored) → SwitchesAt (switching.ContBind x y) m chain conts →
    (top chain).shape.operands ≡ value.Cont r ∷ vs → IsOf r conts → kept_at conts r.serial ≡ Some b → cont_of (context_of m) y ≡ None → ⊥
bind_typed m chain conts x y r vs b k on of is none =
    let p = k.p in
    let s = k.s in
    let a = k.at in
    let w = kept_there a.stand r of b is in
    let go : Continuation → FuncType → Row Val × Row Val → Reduced = λ q f (below, us).
    steps_to (with_cont (record { takes = length f.params; term = filled q.term us }) (without_cont r.serial s)) k.t.around (below ▹ Cont (next_cont s)) (rest_of k.c) in
    a.applies (on_stack a (value.Cont r ∷ vs) on
    ∙ ap (λ (o : Option (Option Continuation)). unless_consumed o (λ q. or_stuck (cont_of (context_of p.source) y) (λ f. take_values (q.takes - length f.params) (stack vs) (go q f)))) w.is
    ∙ ap (λ (o : Option FuncType). or_stuck o (λ f. take_values (w.k.takes - length f.params) (stack vs) (go w.k f))) (ap (λ (z : Module). cont_of (context_of z) y) a.stand.source ∙ none))

module _ (m : Module) (chain : List Link) (conts : Conts Stored) (x y : ℕ) (r : ContRef) (vs : List Value) (b : Stored) (t1 : FuncType) (k : SwitchesAt (switching.ContBind x y) m chain conts)
    (on : (top chain).shape.operands ≡ value.Cont r ∷ vs) (of : IsOf r conts) (is : kept_at conts r.serial ≡ Some b) (kind : cont_of (context_of m) y ≡ Some t1) where
  -- how many arguments are bound
  abbrev pub bound_count : ℕ
  bound_count = b.takes - length t1.params

  -- what the rule comes to
  pub record Binds (behind : Rest) (p : Program) (s : Store) (t : Term) (c : Code) : Type 0 where
    pub there : KeptThere m s r.serial b
    pub fits : bound_count ≤ length vs
    pub goes : switching_op p s t.around t.operands (switching.ContBind x y) c
        ≡ steps_to (with_cont (record { takes = length t1.params; term = filled there.k.term (stack (take bound_count vs)) }) (without_cont r.serial s)) t.around
        (stack (drop bound_count vs) ▹ Cont (next_cont s)) (rest_of c)

  -- it comes to this in each configuration
  pub binds : (behind : Rest) (p : Program) (s : Store) (t : Term) (c : Code) → StandsAt (switching.ContBind x y) m behind chain conts p s t c → Binds behind p s t c
  binds behind p s t c a =
      let w = kept_there a.stand r of b is in
      let go : Continuation → FuncType → Row Val × Row Val → Reduced = λ q f (below, us).
      steps_to (with_cont (record { takes = length f.params; term = filled q.term us }) (without_cont r.serial s)) t.around (below ▹ Cont (next_cont s)) (rest_of c) in
      let rule : switching_op p s t.around t.operands (switching.ContBind x y) c ≡ take_values bound_count (stack vs) (go w.k t1) =
      on_stack a (value.Cont r ∷ vs) on
      ∙ ap (λ (o : Option (Option Continuation)). unless_consumed o (λ q. or_stuck (cont_of (context_of p.source) y) (λ f. take_values (q.takes - length f.params) (stack vs) (go q f)))) w.is
      ∙ goes_on (cont_of (context_of p.source) y) (λ f. take_values (w.k.takes - length f.params) (stack vs) (go w.k f)) t1 (ap (λ (z : Module). cont_of (context_of z) y) a.stand.source ∙ kind)
      ∙ ap (λ (n : ℕ). take_values (n - length t1.params) (stack vs) (go w.k t1)) w.takes in
      let fits = stack_enough bound_count vs (go w.k t1) (λ q. a.applies (rule ∙ q)) in
      record { there = w; fits = fits; goes = rule ∙ stack_take bound_count vs (go w.k t1) fits }

  -- there are as many arguments
  pub bind_fits : bound_count + 1 ≤ length (top chain).shape.operands
  bind_fits = let f = (binds k.behind k.p k.s k.t k.c k.at).fits in let l = ap (λ (l : List Value). length l) on in omega (arith, f, l)

  module _ (conts1 : Conts Stored) (chain' : List Link) (conts' : Conts Stored) (taken : conts1 ≡ without_entry r.serial conts) (bound : Bound bound_count (length t1.params) b.segment.value chain conts1 chain' conts') where
    -- it went as the rule says
    pub bind_goes : Switches did.Went (switching.ContBind x y) m chain conts chain' conts'
    bind_goes behind p s t c a =
        let w = binds behind p s t c a in
        let n = bound_count in
        let S = (top chain).shape in
        let one : drop 1 S.operands ≡ vs = ap (λ (l : List Value). drop 1 l) on in
        let k1 : Continuation = record { takes = length t1.params; term = filled w.there.k.term (stack (take n vs)) } in
        let es = ap (λ (z : Conts Stored). z.entries) taken in
        let long : next_cont s ≡ length conts1.entries = kept_long a.stand.store ∙ sym (ap (λ (l : List (Option (ℕ × Stored))). length l) es ∙ length-set conts.entries r.serial None) in
        let s' = moved (S.place + 1) (pushed (next_ref bound.place (length conts1.entries)) (discarded n (discarded 1 S))) in
        let inner = subst (λ (l : List Value). Chained m [] (rest_of Done) (with_top (pushed_all (reverse (take n (drop 1 S.operands))) (top b.segment.value).shape) b.segment.value)
        w.there.k.term.around (w.there.k.term.operands ⧺ stack (take n l)) w.there.k.term.rest) one (pushed_given (take n (drop 1 S.operands)) w.there.stands) in
        record {
          conts_after = slice_set s.conts r.serial None ++ Some k1 ∷ [];
          t = record { around = t.around; operands = stack (drop n vs) ▹ Cont (next_cont s); rest = rest_of c };
          is = w.goes;
          stand = record {
            source = a.stand.source;
            program = a.stand.program;
            short = a.stand.short;
            narrow = a.stand.narrow;
            term = subst (λ (z : List Link). Chained m [] behind z t.around (stack (drop n vs) ▹ Cont (next_cont s)) (rest_of c)) (sym bound.chain_after)
                (inside_top s' (λ o q. next_top k s' (record { levels = refl; func = refl; place = refl; stage = k.stage; capacity = refl }))
                (ap (λ (i : ℕ). stack (drop n vs) ▹ Cont i) long ∙ ap (λ (l : List Value). stack (drop n l) ▹ Cont (length conts1.entries)) (sym one)) (at_term a));
            store = subst (λ (z : Conts Stored). AllKept m z.entries (slice_set s.conts r.serial None ++ Some k1 ∷ [])) (sym bound.conts_after)
                (kept_more (Some (bound.place, bound.b)) (Some k1) (subst (λ (z : Conts Stored). AllKept m z.entries (slice_set s.conts r.serial None)) (sym taken) (kept_set r.serial a.stand.store))
                (kept (subst (λ (z : List Link). Chained m [] (rest_of Done) z k1.term.around k1.term.operands k1.term.rest) (sym bound.part) inner) (sym bound.takes_is)));
          };
        }

    -- and is sound
    pub bind_sound : Sound chain conts → length t1.params ≤ b.takes → KeepsReferences conts conts1 → KeepsReferences conts1 conts' → Sound chain' conts'
    bind_sound s few refs1 refs2 =
        let n = bound_count in
        let S = (top chain).shape in
        let segs = b.segment.value in
        let T = (top segs).shape in
        let free = subst (SoundWith (length segs) chain) (sym taken) (take_sound chain conts r.serial b s is (subst (KeepsReferences conts) taken refs1)) in
        let test = is_of conts1 in
        let P : Value → Type 0 = λ v. test v ≡ true in
        let good = each_at (IsGood (is_of conts)) conts.entries r.serial b is s.stored in
        let segs_hold = links_more (is_of conts) test (more_of conts conts1 refs1) segs good.references in
        let sh = hold_top test chain free.references in
        let us = take n (drop 1 S.operands) in
        let args = all_reverse P us (all_take P n (drop 1 S.operands) (all_drop P 1 S.operands sh.operands)) in
        let S1 = pushed_all (reverse us) T in
        let h1 = pushed_all_holds P (reverse us) T args (hold_top test segs segs_hold) in
        let some = waits_some segs good.waits in
        let room = good.room in
        let high = high_pushed us T in
        let fits = (binds k.behind k.p k.s k.t k.c k.at).fits in
        let one = ap (λ (l : List Value). length (drop 1 l)) on in
        let long_us = length-take-le n (drop 1 S.operands) (omega (arith, fits, one)) in
        let part = bound.part in
        let takes = bound.takes_is in
        let long_part : length bound.b.segment.value ≡ length segs = ap (λ (z : List Link). length z) part ∙ long_top S1 segs in
        let few_segs = good.few in
        let good1 : IsGood test bound.b = record {
          references = subst (LinksHold test) (sym part) (hold_with test S1 segs h1 segs_hold);
          waits = subst Waits (sym part) (top_wait S1 segs good.waits refl);
          room = subst (λ (z : List Link). HasRoomFor bound.b.takes z) (sym part) (room_with bound.b.takes S1 segs some.0 (omega (arith, room, high, long_us, takes, few)));
          few = omega (arith, long_part, few_segs);
        } in
        let spare : 0 < conts1.spare = (let e = ap (λ (z : Conts Stored). z.spare) taken in omega (arith, e)) in
        let refs3 = subst (KeepsReferences conts1) bound.conts_after refs2 in
        let put = put_sound chain conts1 bound.place bound.b (subst (λ (i : ℕ). SoundWith i chain conts1) (sym long_part) free) spare good1 refs3 in
        let put' : Sound chain conts' = subst (Sound chain) (sym bound.conts_after) put in
        let Q : Value → Type 0 = λ v. is_of conts' v ≡ true in
        let D = discarded n (discarded 1 S) in
        let own = next_ref bound.place (length conts1.entries) in
        let h2 = moved_holds Q (S.place + 1) (pushed own D) (pushed_holds Q own D (is_of_it conts' (record { place = bound.place; serial = length conts1.entries }) bound.of)
        (discarded_holds Q n (discarded 1 S) (discarded_holds Q 1 S (hold_top (is_of conts') chain put'.references)))) in
        subst (λ (z : List Link). Sound z conts') (sym bound.chain_after) (top_sound 0 chain conts' (moved (S.place + 1) (pushed own D)) put' h2)
