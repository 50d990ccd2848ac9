-- Making a continuation.
use Rattle.std.proofs.Common.{◌≡◌, ℕ, ◌+◌, ◌≤◌, true, List, [], ◌∷◌, ◌++◌, Some, length, refl, sym, ap, ◌∙◌, subst, arith, drop}
use Rattle.lists.specs.Rows.{◌▹◌}
use Rattle.w_types.specs.declared.types.FuncType.{FuncType}
use Rattle.w_types.specs.declared.value.Value.{Value}
use Rattle.w_types.specs.declared.value.Value.TheVariants as value
use Rattle.w_syntax.specs.Code.{Done}
use Rattle.w_syntax.specs.declared.instructions.SwitchingOp.TheVariants as switching
use Rattle.w_syntax.specs.declared.module.Module.{Module}
use Rattle.w_rules.specs.Context.{cont_of}
use Rattle.w_rules.specs.Spaces.{context_of}
use Rattle.w_segment.specs.Shape.{Shape}
use Rattle.w_segment.specs.Link.{Link, IsNew, top, with_top}
use Rattle.w_segment.specs.Changes.{pushed, discarded, moved}
use Rattle.w_segment.proofs.FactsOfValues.{pushed_holds, discarded_holds, moved_holds, fresh_holds}
use Rattle.w_conts.specs.Conts.{Conts, KeepsReferences, IsOf, with_entry, with_spare}
use Rattle.w_reduce.specs.Values.{Cont}
use Rattle.w_reduce.specs.Terms.{rest_of, Continuation, fresh_continuation as fresh_kept}
use Rattle.w_reduce.specs.Store.{next_cont, with_cont}
use Rattle.w_reduce.specs.Reduced.{steps_to}
use Rattle.w_reduce.specs.declared.trap.Trap.TheVariants as trap
use Rattle.w_stands.specs.declared.did.Did.TheVariants as did
use Rattle.w_stands.specs.Values.{stack}
use Rattle.w_stands.specs.Stands.{fresh}
use Rattle.w_stands.proofs.LookedUp.{goes_on}
use Rattle.w_switching.specs.declared.stored.Stored.{Stored}
use Rattle.w_switching.specs.Moved.{next_ref}
use Rattle.w_switching.specs.Standing.{Chained, only, kept, AllKept}
use Rattle.w_switching.specs.Reductions.{SwitchesAt, Switches}
use Rattle.w_switching.specs.Sound.{LinksHold, Waits, HasRoomFor, is_of, Sound, SoundWith, IsGood}
use Rattle.w_switching.proofs.SegmentsInOthers.{inside_top, kept_more, kept_long}
use Rattle.w_switching.proofs.AtSwitchingInstruction.{on_stack, at_term, next_top}
use Rattle.w_switching.proofs.References.{hold_top, is_of_it}
use Rattle.w_switching.proofs.PutIntoStore.{reserve_sound, top_sound, put_sound}

-- a null reference traps
pub new_traps : (m : Module) (chain : List Link) (conts : Conts Stored) (x : ℕ) (vs : List Value) → (top chain).shape.operands ≡ value.Null ∷ vs →
    Switches (did.Trapped trap.NullReference) (switching.ContNew x) m chain conts chain conts
new_traps m chain conts x vs q = (refl, refl, λ behind p s t c a. on_stack a (value.Null ∷ vs) q)

module _ (m : Module) (chain : List Link) (conts conts' : Conts Stored) (x f place : ℕ) (vs : List Value) (t1 : FuncType) (b : Stored) (k : SwitchesAt (switching.ContNew x) m chain conts)
    (on : (top chain).shape.operands ≡ value.Func f ∷ vs) (kind : cont_of (context_of m) x ≡ Some t1) (takes : b.takes ≡ length t1.params) (new : IsNew f b.takes b.segment.value)
    (after : conts' ≡ with_entry place b (with_spare (conts.spare + 1) conts)) where
  -- the innermost segment
  abbrev s_top : Shape
  s_top = (top chain).shape

  -- the same with the reference, behind the instruction
  abbrev s_new : Shape
  s_new = moved (s_top.place + 1) (pushed (next_ref place (length conts.entries)) (discarded 1 s_top))

  -- it went as the rule says
  pub new_goes : (s' : Shape) → s' ≡ s_new → Switches did.Went (switching.ContNew x) m chain conts (with_top s' chain) conts'
  new_goes s' is behind p s t c a =
      let kept_one : Continuation = fresh_kept f (length t1.params) in
      let long : next_cont s ≡ length conts.entries = kept_long a.stand.store in
      let rule = on_stack a (value.Func f ∷ vs) on
      ∙ goes_on (cont_of (context_of p.source) x) (λ (w : FuncType). steps_to (with_cont (fresh_kept f (length w.params)) s) t.around (stack vs ▹ Cont (next_cont s)) (rest_of c)) t1
      (ap (λ (y : Module). cont_of (context_of y) x) a.stand.source ∙ kind) in
      record {
        conts_after = s.conts ++ Some kept_one ∷ [];
        t = record { around = t.around; operands = stack vs ▹ Cont (next_cont s); rest = rest_of c };
        is = rule;
        stand = record {
          source = a.stand.source;
          program = a.stand.program;
          short = a.stand.short;
          narrow = a.stand.narrow;
          term = subst (λ (z : Shape). Chained m [] behind (with_top z chain) t.around (stack vs ▹ Cont (next_cont s)) (rest_of c)) (sym is)
              (inside_top s_new (λ o r. next_top k s_new (record { levels = refl; func = refl; place = refl; stage = k.stage; capacity = refl }))
              (ap (λ (n : ℕ). stack vs ▹ Cont n) long ∙ ap (λ (l : List Value). stack (drop 1 l) ▹ Cont (length conts.entries)) (sym on)) (at_term a));
          store = subst (λ (z : Conts Stored). AllKept m z.entries (s.conts ++ Some kept_one ∷ [])) (sym after)
              (kept_more (Some (place, b)) (Some kept_one) a.stand.store
              (kept (subst (λ (z : List Link). Chained m [] (rest_of Done) z kept_one.term.around kept_one.term.operands kept_one.term.rest) (sym new.is) (only (fresh refl refl) refl)) (sym takes)));
        };
      }

  -- and is sound
  pub new_sound : (s' : Shape) → s' ≡ s_new → Sound chain conts → KeepsReferences (with_spare (conts.spare + 1) conts) conts' → IsOf (record { place = place; serial = length conts.entries }) conts' →
      Sound (with_top s' chain) conts'
  new_sound s' is s keeps of =
      let one_more = with_spare (conts.spare + 1) conts in
      let test = is_of one_more in
      let P : Value → Type 0 = λ v. is_of conts' v ≡ true in
      let l = ap (λ (z : List Link). length z) new.is in
      let r = new.room in
      let good : IsGood test b = record {
        references = subst (LinksHold test) (sym new.is) (fresh_holds (λ v. test v ≡ true) f new.capacity, tt);
        waits = subst Waits (sym new.is) tt;
        room = subst (HasRoomFor b.takes) (sym new.is) (let z : 0 + 0 + b.takes ≤ new.capacity.operands = omega (arith, r) in z);
        few = omega (arith, l);
      } in
      let taken = subst (λ (n : ℕ). SoundWith n chain one_more) (sym l) (reserve_sound chain conts s) in
      let put : Sound chain conts' = subst (Sound chain) (sym after) (put_sound chain one_more place b taken (omega arith) good (subst (KeepsReferences one_more) after keeps)) in
      let h = hold_top (is_of conts') chain put.references in
      let h' = moved_holds P (s_top.place + 1) (pushed (next_ref place (length conts.entries)) (discarded 1 s_top))
      (pushed_holds P (next_ref place (length conts.entries)) (discarded 1 s_top) (is_of_it conts' (record { place = place; serial = length conts.entries }) of) (discarded_holds P 1 s_top h)) in
      subst (λ (z : Shape). Sound (with_top z chain) conts') (sym is) (top_sound 0 chain conts' s_new put h')
