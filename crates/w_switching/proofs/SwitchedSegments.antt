-- A switch: what moving its segments needs, and that it went as the rule says.
use Rattle.std.proofs.Common.{◌≡◌, ℕ, ◌+◌, ◌-◌, ◌<◌, ◌≤◌, List, ◌∷◌, Some, length, sym, ap, ◌∙◌, subst, arith}
use Rattle.std.specs.Prelude.{◌^◌}
use Rattle.w_types.specs.declared.types.FuncType.{FuncType}
use Rattle.w_types.specs.declared.value.Value.{Value}
use Rattle.w_types.specs.declared.value.Value.TheVariants as value
use Rattle.w_types.specs.declared.value.ContRef.{ContRef}
use Rattle.w_syntax.specs.declared.instructions.SwitchingOp.TheVariants as switching
use Rattle.w_syntax.specs.declared.module.Module.{Module}
use Rattle.w_segment.specs.Link.{Link, top}
use Rattle.w_chain.specs.Layers.{IsFirstSwitch}
use Rattle.w_conts.specs.Conts.{Conts, KeepsReferences, IsOf, kept_at, without_entry}
use Rattle.w_conts.proofs.SerialsAmongSlots.{some_is}
use Rattle.w_stands.specs.declared.did.Did.TheVariants as did
use Rattle.w_switching.specs.declared.stored.Stored.{Stored}
use Rattle.w_switching.specs.BackTypes.{back_of}
use Rattle.w_switching.specs.Moved.{Exchanged}
use Rattle.w_switching.specs.Reductions.{SwitchesAt, Switches, TakesAtLeast}
use Rattle.w_switching.specs.Sound.{HasRoomFor, IsGood, is_of, Sound, Roomy, most_segments}
use Rattle.w_switching.proofs.AtSwitchingInstruction.{place_behind}
use Rattle.w_switching.proofs.StackSwitches.{switch_layer, switch_fits, exchange_goes, exchange_sound}
use Rattle.w_switching.proofs.Rooms.{segments_roomy, take_roomy, exchange_roomy}
use Rattle.w_switching.proofs.References.{each_at, reference_of}

-- what the moving needs
pub record CanExchange (n layer : ℕ) (segs chain : List Link) : Type 0 where
  pub layer_is : layer + 1 < length chain
  pub operands : n + 1 ≤ length (top chain).shape.operands
  pub place : (top chain).shape.place + 1 < 2 ^ 32
  pub room : HasRoomFor (n + 1) segs
  pub few : length chain + length segs ≤ 2 ^ 31

module _ (m : Module) (chain : List Link) (conts : Conts Stored) (x y : ℕ) (r : ContRef) (vs : List Value) (seen b : Stored) (on : (top chain).shape.operands ≡ value.Cont r ∷ vs)
    (sound : Sound chain conts) (sees : kept_at conts r.serial ≡ Some seen) (is : kept_at conts r.serial ≡ Some b) (k : SwitchesAt (switching.Switch x y) m chain conts) (layer : ℕ)
    (first : IsFirstSwitch m y layer chain) (u : FuncType) (kind : back_of m x ≡ Some u) where
  -- what was looked at is what was taken
  takes_is : seen.takes ≡ b.takes
  takes_is = ap (λ (z : Stored). z.takes) (some_is (sym sees ∙ is))

  -- the reference is of the store
  of : IsOf r conts
  of = reference_of chain conts r vs sound on

  -- all of it is there
  pub can_exchange : TakesAtLeast 1 chain conts → length chain ≤ most_segments → CanExchange (seen.takes - 1) layer b.segment.value chain
  can_exchange one few =
      let t = takes_is in
      let f = switch_fits m chain conts x y r vs b on of is k layer first u kind in
      let g = each_at (IsGood (is_of conts)) conts.entries r.serial b is sound.stored in
      let room = g.room in
      let few_segs = g.few in
      let o = one r vs b on is in
      record {
        layer_is = switch_layer m chain conts x y r vs b on of is k layer first;
        operands = omega (arith, f, t);
        place = place_behind k;
        room = omega (arith, room, t, o);
        few = omega (arith, few, few_segs);
      }

  module _ (takes : ℕ) (long : takes ≡ length u.params) (conts1 : Conts Stored) (chain' : List Link) (conts' : Conts Stored) (taken : conts1 ≡ without_entry r.serial conts)
      (ex : Exchanged (seen.takes - 1) takes layer b.segment.value chain conts1 chain' conts') where
    -- what was moved, by the numbers of the rule
    exchanged : Exchanged (b.takes - 1) (length u.params) layer b.segment.value chain conts1 chain' conts'
    exchanged =
        subst (λ (n : ℕ). Exchanged (n - 1) (length u.params) layer b.segment.value chain conts1 chain' conts') takes_is
        (subst (λ (n : ℕ). Exchanged (seen.takes - 1) n layer b.segment.value chain conts1 chain' conts') long ex)

    -- it went as the rule says
    pub given_goes : Switches did.Went (switching.Switch x y) m chain conts chain' conts'
    given_goes = exchange_goes m chain conts x y r vs b on of is k layer first u kind conts1 chain' conts' taken exchanged

    -- is sound
    pub given_sound : Roomy m chain conts → length chain ≤ most_segments → KeepsReferences conts conts1 → KeepsReferences conts1 conts' → Sound chain' conts'
    given_sound roomy few refs1 refs2 = exchange_sound m chain conts x y r vs b on of is k layer first u kind conts1 chain' conts' taken exchanged sound roomy few refs1 refs2

    -- and has room
    pub given_roomy : Roomy m chain conts → Roomy m chain' conts'
    given_roomy h =
        exchange_roomy m (b.takes - 1) (length u.params) layer b.segment.value chain conts1 chain' conts' exchanged (segments_roomy m chain conts r.serial b h is)
        (take_roomy m chain conts conts1 r.serial taken h)
