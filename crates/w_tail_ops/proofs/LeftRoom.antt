-- What a frame that is left leaves: operands, and room.
use Rattle.std.proofs.Common.{◌≡◌, ◌≤◌, ◌+◌, ℕ, zero, suc, List, [], ◌∷◌, ◌++◌, length, take, drop, Some, refl, sym, ap, ◌∙◌, subst, arith, length-drop, length-append}
use Rattle.std.proofs.lemmas.List.{length-take-le}
use Rattle.w_types.specs.declared.value.Value.{Value}
use Rattle.w_syntax.specs.declared.module.Module.{Module}
use Rattle.w_segment.specs.Shape.{Shape, Level, Label, Frame, Capacity, Fits, ReturnTarget, frame_at, below_all, locals_all}
use Rattle.w_segment.specs.Changes.{discarded, returned}
use Rattle.w_stands.specs.Room.{HasRoom, Roomier}
use Rattle.w_stands.proofs.RoomOfFrames.{return_fit, roomier_fit}

-- ## Lists

-- the first items of some in front of others are theirs
pub front_taken : {A : Type 0} (n : ℕ) (xs ys : List A) → n ≤ length xs → take n (take n xs ++ ys) ≡ take n xs
front_taken zero xs ys h = refl
front_taken (suc n) [] ys h = absurd (omega arith)
front_taken (suc n) (x ∷ xs) ys h = ap (λ zs. x ∷ zs) (front_taken n xs ys (omega arith))

-- and the others are behind
pub front_dropped : {A : Type 0} (n : ℕ) (xs ys : List A) → n ≤ length xs → drop n (take n xs ++ ys) ≡ ys
front_dropped zero xs ys h = refl
front_dropped (suc n) [] ys h = absurd (omega arith)
front_dropped (suc n) (x ∷ xs) ys h = front_dropped n xs ys (omega arith)

-- ## Around a frame

-- there is less than inside
pub record IsLess (g : ReturnTarget) (ls : List Level) : Type 0 where
  pub operands : length g.below + below_all g.outer ≤ below_all ls
  pub levels : length g.outer ≤ length ls
  pub locals : locals_all g.outer ≤ locals_all ls

pub less_around : (ls : List Level) (g : ReturnTarget) → frame_at ls ≡ Some g → IsLess g ls
less_around [] g is = absurd (cc)
less_around (Label below n t ∷ ls) g is =
    let r = less_around ls g is in
    let a = r.operands in let b = r.levels in let c = r.locals in
    record { operands = omega (arith, a); levels = omega (arith, b); locals = omega (arith, c) }
less_around (Frame below n locals f p ∷ ls) g is =
    let e : record { below = below; arity = n; caller = f; back = p; outer = ls } ≡ g = cc in
    subst (λ (x : ReturnTarget). IsLess x (Frame below n locals f p ∷ ls)) e (record { operands = omega arith; levels = omega arith; locals = omega arith })

-- ## Where operands are gone, and then the frame

module _ (popped n : ℕ) (s r mid : Shape) (g : ReturnTarget) (room : Roomier s r) (at : frame_at s.levels ≡ Some g) (is : mid ≡ returned n g (discarded popped r)) where
  pub left_operands : mid.operands ≡ take n (drop popped s.operands) ++ g.below
  left_operands = ap (λ (x : Shape). x.operands) is ∙ ap (λ (vs : List Value). take n (drop popped vs) ++ g.below) room.same.operands

  -- what fitted inside still does
  pub left_fits : (v l k : ℕ) → n ≤ length (drop popped s.operands) → Fits v l k r → Fits v l k mid
  left_fits v l k some f =
      let less = less_around s.levels g at in
      let c = ap (λ (x : Shape). x.capacity) is in
      let a : mid.capacity.operands ≡ r.capacity.operands = ap (λ (x : Capacity). x.operands) c in
      let b : mid.capacity.levels ≡ r.capacity.levels = ap (λ (x : Capacity). x.levels) c in
      let d : mid.capacity.locals ≡ r.capacity.locals = ap (λ (x : Capacity). x.locals) c in
      let outer = ap (λ (x : Shape). x.levels) is in
      let ops = ap (λ (vs : List Value). length vs) left_operands in
      let joined = length-append (take n (drop popped s.operands)) g.below in
      let taken = length-take-le n (drop popped s.operands) some in
      let gone = length-drop popped s.operands in
      let held = ap (λ (vs : List Value). length vs) room.same.operands in
      let below = ap below_all outer in
      let long = ap (λ (ls : List Level). length ls) outer in
      let locals = ap locals_all outer in
      let below' = ap below_all room.same.levels in
      let long' = ap (λ (ls : List Level). length ls) room.same.levels in
      let locals' = ap locals_all room.same.levels in
      let p = f.operands in
      let q = f.levels in
      let t = f.locals in
      let x = less.operands in
      let y = less.levels in
      let z = less.locals in
      record {
        operands = omega (arith, a, ops, joined, taken, gone, held, below, below', p, x, some);
        levels = omega (arith, b, long, long', q, y);
        locals = omega (arith, d, locals, locals', t, z);
      }

  -- and each frame that is left has its room
  pub left_room : (m : Module) → HasRoom m s → HasRoom m mid
  left_room m h =
      let inner = roomier_fit m s r room h in
      let there : frame_at r.levels ≡ Some g = ap frame_at room.same.levels ∙ at in
      let outer = return_fit m r.capacity r.func r.levels g there inner in
      subst (HasRoom m) (sym is) outer
