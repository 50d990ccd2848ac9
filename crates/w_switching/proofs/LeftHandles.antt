-- Leaving a handle.
use Rattle.std.proofs.Common.{◌≡◌, ◌-◌, ◌+◌, ◌<◌, Bool, true, length-append, List, [], ◌∷◌, ◌++◌, length, refl, sym, ap, ◌∙◌, subst, arith, reverse}
use Rattle.std.proofs.lemmas.List.{reverse-reverse}
use Rattle.lists.specs.Rows.{Row, ◌⧺◌, size}
use Rattle.w_types.specs.declared.value.Value.{Value}
use Rattle.w_syntax.specs.Code.{Code, Done}
use Rattle.w_syntax.specs.declared.instructions.Clause.{Clause}
use Rattle.w_syntax.specs.declared.module.Module.{Module}
use Rattle.w_segment.specs.declared.entry.Stage.TheVariants.{Body, Values}
use Rattle.w_segment.specs.Shape.{Shape}
use Rattle.w_segment.specs.Changes.{pushed_all}
use Rattle.w_segment.specs.Link.{Link, top, rest, with_top}
use Rattle.w_segment.proofs.FactsOfValues.{pushed_all_holds, all_reverse}
use Rattle.w_conts.specs.Conts.{Conts, with_spare}
use Rattle.w_reduce.specs.Values.{Val}
use Rattle.w_reduce.specs.Store.{Store}
use Rattle.w_reduce.specs.Terms.{Rest, rest_of, Handle, Context, Term}
use Rattle.w_reduce.specs.Program.{Program}
use Rattle.w_reduce.specs.Room.{HoldsAfter}
use Rattle.w_reduce.specs.Exits.{leave}
use Rattle.w_stands.specs.Values.{stack}
use Rattle.w_stands.proofs.RoomOfFrames.{stack_size}
use Rattle.w_stands.proofs.ManyTakenOperands.{stack_append}
use Rattle.w_stands.specs.Stands.{StackIs, body, left, fresh, values}
use Rattle.w_switching.specs.declared.stored.Stored.{Stored}
use Rattle.w_switching.specs.Moved.{merged}
use Rattle.w_switching.specs.Standing.{Chained, only, around, AllKept, Stand}
use Rattle.w_switching.specs.Reductions.{Exits}
use Rattle.w_switching.specs.Sound.{LinksHold, LinksRoom, HasRoomFor, is_of, Sound}
use Rattle.w_switching.proofs.Resumptions.{given}
use Rattle.w_switching.proofs.AtSwitchingInstruction.{head}
use Rattle.w_switching.proofs.Rooms.{links_rest, room_at}
use Rattle.w_switching.proofs.References.{hold_top, hold_with, long_top, spare_slot}

-- ## Where it stood

record IsValues (outer e : Context) (behind r : Rest) : Type 0 where
  context : e ≡ outer
  rest_is : r ≡ behind

-- a segment that is values has no context of its own, and what comes behind it comes next
values_is : {m : Module} {outer : Context} {behind : Rest} {s : Shape} {e : Context} {r : Rest} → StackIs m outer behind s e r → s.stage ≡ Values → IsValues outer e behind r
values_is (body a k w) h = absurd cc
values_is (left a k w) h = absurd cc
values_is (fresh a k) h = absurd cc
values_is (values a k) h = record { context = refl; rest_is = refl }

-- the handle around it, and the segments that wait
record Inside (m : Module) (behind : Rest) (chain : List Link) (e : Context) (vs : Row Val) (r : Rest) : Type 0 where
  outer : Context
  below : Row Val
  hs : List Clause
  code : Code
  context : e ≡ Handle below hs code ∷ outer
  rest_is : r ≡ rest_of Done
  stands : Chained m [] behind (rest chain) outer below (rest_of code)
  waits : (top (rest chain)).shape.stage ≡ Body
  operands : vs ≡ stack (top chain).shape.operands

-- where there are two segments, the innermost one stands inside a handle
in_handle : {m : Module} {behind : Rest} {chain : List Link} {e : Context} {vs : Row Val} {r : Rest} → Chained m [] behind chain e vs r → 1 < length chain → (top chain).shape.stage ≡ Values →
    Inside m behind chain e vs r
in_handle (only i o) h b = absurd (omega arith)
in_handle (around {e' = e'} {below = below} {hs = hs} {c = c} i o g w k) h b =
    let v = values_is i b in
    record { outer = e'; below = below; hs = hs; code = c; context = v.context; rest_is = v.rest_is; stands = k; waits = w; operands = o }

-- ## Where it goes

-- a fact of all values of segments holds for those around the innermost one
rest_hold : (test : Value → Bool) (xs : List Link) → LinksHold test xs → LinksHold test (rest xs)
rest_hold test [] h = tt
rest_hold test (x ∷ xs) h = h.1

-- these are one fewer
pub rest_long : (xs : List Link) → length (rest xs) ≡ length xs - 1
rest_long [] = refl
rest_long (x ∷ xs) = omega arith

-- the segment that waits has room for the values, where the configuration after holds no more than its functions need
pub exit_room : {m : Module} {behind : Rest} {chain : List Link} {p : Program} {s : Store} {t : Term} {conts : Conts Stored} → Stand m behind chain conts p s t → 1 < length chain → (top chain).shape.stage ≡ Values
    → LinksRoom m chain → HoldsAfter m (leave s t.around t.operands) → HasRoomFor (length (top chain).shape.operands) (rest chain)
exit_room {m} {chain = chain} {s = s} {t = t} a two b room holds =
    let w = in_handle a.term two b in
    let us = (top chain).shape.operands in
    let s1 = (top (rest chain)).shape in
    let held = holds [] s (record { around = w.outer; operands = w.below ⧺ t.operands; rest = rest_of w.code }) (ap (λ (e : Context). leave s e t.operands) w.context) in
    let many : size (w.below ⧺ t.operands) ≡ length (us ++ s1.operands) =
    ap (λ (r : Row Val). size (r ⧺ t.operands)) (head w.stands).operands ∙ ap (λ (r : Row Val). size (stack s1.operands ⧺ r)) w.operands
    ∙ ap size (sym (stack_append us s1.operands)) ∙ stack_size (us ++ s1.operands) in
    let both = length-append us s1.operands in
    let there = room_at w.stands w.waits (links_rest m chain room) (length us + length s1.operands) (λ g is. let h = (held.running g is refl).operands in omega (arith, h, many, both)) in
    omega (arith, there)

module _ (chain chain' : List Link) (conts conts' : Conts Stored) (two : 1 < length chain) (merge : chain' ≡ merged chain) (after : conts' ≡ with_spare (conts.spare - 1) conts) where
  -- it went as the rule says
  pub exits : (top chain).shape.stage ≡ Values → Exits chain conts chain' conts'
  exits b m behind p s t a =
      let w = in_handle a.term two b in
      let us = (top chain).shape.operands in
      let s1 = (top (rest chain)).shape in
      let k = given (pushed_all (reverse us) s1) us w.stands (record { levels = refl; func = refl; place = refl; stage = refl })
      (ap (λ (l : List Value). l ++ s1.operands) (reverse-reverse us)) in (
        w.rest_is,
        record {
          conts_after = s.conts;
          t = record { around = w.outer; operands = w.below ⧺ t.operands; rest = rest_of w.code };
          is = ap (λ (e : Context). leave s e t.operands) w.context;
          stand = record {
            source = a.source;
            program = a.program;
            short = a.short;
            narrow = a.narrow;
            term = subst (λ (z : List Link). Chained m [] behind z w.outer (w.below ⧺ t.operands) (rest_of w.code)) (sym merge)
                (subst (λ (r : Row Val). Chained m [] behind (with_top (pushed_all (reverse us) s1) (rest chain)) w.outer (w.below ⧺ r) (rest_of w.code)) (sym w.operands) k);
            store = subst (λ (z : Conts Stored). AllKept m z.entries s.conts) (sym after) a.store;
          };
        },
      )

  -- and it is sound
  pub exit_sound : Sound chain conts → Sound chain' conts'
  exit_sound s =
      let us = (top chain).shape.operands in
      let s1 = (top (rest chain)).shape in
      let test = is_of conts in
      let P : Value → Type 0 = λ v. test v ≡ true in
      let outside = rest_hold test chain s.references in
      let own = hold_top test chain s.references in
      let held = pushed_all_holds P (reverse us) s1 (all_reverse P us own.operands) (hold_top test (rest chain) outside) in
      let s' = pushed_all (reverse us) s1 in
      let d = s.slots in
      let l = long_top s' (rest chain) in
      let r = rest_long chain in
      let w = spare_slot chain conts s two in
      let whole : Sound (with_top s' (rest chain)) (with_spare (conts.spare - 1) conts) = record {
        references = hold_with test s' (rest chain) held outside;
        stored = s.stored;
        slots = omega (arith, d, l, r, w, two);
      } in
      subst (λ (z : List Link). Sound z conts') (sym merge) (subst (Sound (with_top s' (rest chain))) (sym after) whole)
