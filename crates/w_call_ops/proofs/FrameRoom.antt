-- The room of a frame that is entered.
use Rattle.std.proofs.Common.{◌≡◌, ◌<◌, ◌≤◌, ◌+◌, ◌-◌, ℕ, suc, List, [], ◌∷◌, ◌++◌, map, reverse, length, take, drop, append-nil, Option, Some, None, refl, sym, ap, ◌∙◌, subst, arith, length-drop}
use Rattle.std.specs.Prelude.{OnOk, Result, Ok, Err, replicate}
use Rattle.w_types.specs.declared.value.Value.{Value}
use Rattle.w_types.specs.declared.types.FuncType.{FuncType}
use Rattle.w_syntax.specs.Flat.{whole}
use Rattle.w_syntax.specs.declared.locals.LocalRun.{LocalRun}
use Rattle.w_syntax.specs.declared.module.Func.{Func}
use Rattle.w_syntax.specs.declared.module.Module.{Module}
use Rattle.w_segment.specs.Shape.{Shape, Level, Label, Frame, Capacity, Fits, Grown, below_all, locals_all, height}
use Rattle.w_segment.specs.Changes.{discarded, moved, framed, labelled, with_more}
use Rattle.w_rules.specs.Facts.{height_of}
use Rattle.w_rules.specs.Peak.{depth}
use Rattle.w_reduce.proofs.Deep.{one_deep}
use Rattle.w_reduce.specs.Room.{most_operands, most_labels}
use Rattle.w_stands.specs.Room.{FramesFit, HasRoom, Roomier}
use Rattle.w_stands.proofs.RoomOfFrames.{grown_fit}
use Rattle.w_call_ops.specs.Entering.{HasFrameRoom, IsEntered, IsFunction, first_values}

-- what holds of both where it succeeded
pub both_ok : {T E : Type 0} (P Q : Type 0) (r : Result T E) → OnOk r P → OnOk r Q → OnOk r (P × Q)
both_ok P Q (Ok t) p q = (p, q)
both_ok P Q (Err e) p q = tt

-- capacities that grow twice
pub grown_more : (a b c : Capacity) → Grown a b → Grown b c → Grown a c
grown_more a b c g h =
    let x = g.operands in let y = h.operands in let z = g.levels in let w = h.levels in let p = g.locals in let q = h.locals in
    record { operands = omega (arith, x, y); levels = omega (arith, z, w); locals = omega (arith, p, q) }

-- each frame has room where the one that is entered has, and those around it had
pub entered_room : (m : Module) (i back : ℕ) (given : List Value) (s s' : Shape) → IsEntered m i back given s s' → HasFrameRoom m i s s' → HasRoom m s → HasRoom m s'
entered_room m i back given s s' h g room =
    let outer = grown_fit m s.capacity s'.capacity s.func s.levels g.grown room in
    let below = ap below_all h.levels in
    let operands = g.operands in
    subst (λ (f : ℕ). FramesFit m s'.capacity f s'.levels) (sym h.func)
    (subst (FramesFit m s'.capacity i) (sym h.levels) (omega (arith, below, operands), g.levels, outer))

-- with so much room taken before
pub framed_room : (i h d locals params arity target : ℕ) (ks : List (Option Value)) (s s' : Shape) → Fits h (d + 1) locals s
    → s' ≡ labelled 0 arity target (with_more ks (framed i params params arity s))
    → (s'.capacity ≡ s.capacity) × (below_all s'.levels + h ≤ s'.capacity.operands) × (suc (length s.levels) + d ≤ s'.capacity.levels)
framed_room i h d locals params arity target ks s s' fits is =
    let capacity : s'.capacity ≡ s.capacity = ap (λ (x : Shape). x.capacity) is in
    let below = ap (λ (x : Shape). below_all x.levels) is in
    let b = length-drop params s.operands in
    let p = fits.operands in
    let q = fits.levels in
    let x : s'.capacity.operands ≡ s.capacity.operands = ap (λ (c : Capacity). c.operands) capacity in
    let y : s'.capacity.levels ≡ s.capacity.levels = ap (λ (c : Capacity). c.levels) capacity in
    (capacity, omega (arith, below, b, p, x), omega (arith, q, y))

-- what the function needs, as the checker counted it
pub needed : (m : Module) (i h d : ℕ) (t : FuncType) (f : Func) → IsFunction m i t f → h ≡ height_of m t f → d ≡ depth f.body → (most_operands m i ≡ h) × (most_labels m i ≡ d) × (1 ≤ d)
needed m i h d t f is height deep =
    let a : most_operands m i ≡ height_of m t f = rw (is.type_is, is.code_is) refl in
    let b : most_labels m i ≡ depth f.body = rw (is.type_is, is.code_is) refl in
    let one = one_deep f.body in
    (a ∙ sym height, b ∙ sym deep, omega (arith, one, deep))

-- behind the frame, and its locals, there is room for the label of the body
pub label_room : (i h d locals params arity : ℕ) (ks : List (Option Value)) (s s' : Shape) → Fits h (d + 1) locals s → 1 ≤ d
    → s' ≡ with_more ks (framed i params params arity s) → length s'.levels < s'.capacity.levels
label_room i h d locals params arity ks s s' fits one is =
    let a = ap (λ (x : Shape). length x.levels) is in
    let b = ap (λ (x : Shape). x.capacity.levels) is in
    let q = fits.levels in
    omega (arith, a, b, q, one)

-- ## Where operands are gone first

-- a stack that took room, without so many operands, which goes on at another place
module _ (popped back : ℕ) (s r mid : Shape) (room : Roomier s r) (is : mid ≡ moved back (discarded popped r)) where
  pub gone_operands : mid.operands ≡ drop popped s.operands
  gone_operands = ap (λ (x : Shape). x.operands) is ∙ ap (drop popped) room.same.operands

  pub gone_levels : mid.levels ≡ s.levels
  gone_levels = ap (λ (x : Shape). x.levels) is ∙ room.same.levels

  -- what fitted still does
  pub gone_fits : (v l k : ℕ) → Fits v l k r → Fits v l k mid
  gone_fits v l k f =
      let c = ap (λ (x : Shape). x.capacity) is in
      let a : mid.capacity.operands ≡ r.capacity.operands = ap (λ (x : Capacity). x.operands) c in
      let b : mid.capacity.levels ≡ r.capacity.levels = ap (λ (x : Capacity). x.levels) c in
      let d : mid.capacity.locals ≡ r.capacity.locals = ap (λ (x : Capacity). x.locals) c in
      let ops = ap (λ (x : Shape). length x.operands) is in
      let less = length-drop popped r.operands in
      let below = ap (λ (x : Shape). below_all x.levels) is in
      let long = ap (λ (x : Shape). length x.levels) is in
      let locals = ap (λ (x : Shape). locals_all x.levels) is in
      let p = f.operands in
      let q = f.levels in
      let t = f.locals in
      record { operands = omega (arith, a, ops, less, below, p); levels = omega (arith, b, long, q); locals = omega (arith, d, locals, t) }

  -- the function is entered from there, or from the stack before
  pub gone_entered : (m : Module) (i : ℕ) (s' : Shape) → IsEntered m i mid.place mid.operands mid s' → IsEntered m i back (drop popped s.operands) s s'
  gone_entered m i s' h =
      let place : mid.place ≡ back = ap (λ (x : Shape). x.place) is in
      let func : mid.func ≡ s.func = ap (λ (x : Shape). x.func) is ∙ room.same.func in
      let operands = gone_operands in
      let levels = gone_levels in
      let f = h.levels in
      record { kind = h.kind; code = h.code; there = h.there; levels = cc; operands = h.operands; func = h.func; place = h.place; stage = h.stage }

  pub gone_room : (m : Module) (i : ℕ) (s' : Shape) → HasFrameRoom m i mid s' → HasFrameRoom m i s s'
  gone_room m i s' h =
      let c = ap (λ (x : Shape). x.capacity) is in
      let long : length mid.levels ≡ length s.levels = ap (λ (x : List Level). length x) gone_levels in
      let l = h.levels in
      record {
        grown = grown_more s.capacity r.capacity s'.capacity room.grown (subst (λ (x : Capacity). Grown x s'.capacity) c h.grown);
        operands = h.operands;
        levels = omega (arith, long, l);
      }

-- ## Where the stack stands then

-- at the function's beginning, in the label of its body
pub entered_is : (m : Module) (i : ℕ) (t : FuncType) (f : Func) (s s' : Shape) (params arity target : ℕ) (runs : List LocalRun) → IsFunction m i t f
    → params ≡ length t.params → arity ≡ length t.results → target ≡ length (whole f.body) → runs ≡ f.locals
    → s' ≡ labelled 0 arity target (with_more (first_values runs) (framed i params params arity s)) → IsEntered m i s.place s.operands s s'
entered_is m i t f s s' params arity target runs there a b c d is =
    let n = length t.params in
    let k = length t.results in
    let long = length (whole f.body) in
    let given = map (λ (v : Value). Some v) (reverse (take n s.operands)) in
    let begun : Shape = labelled 0 k long (with_more (first_values f.locals) (framed i n n k s)) in
    let same : s' ≡ begun = cc in
    let none : n - n ≡ 0 = omega arith in
    let locals = first_values f.locals in
    let levels : begun.levels ≡ Label [] k long ∷ Frame (drop n s.operands) k (given ++ locals) s.func s.place ∷ s.levels =
    ap (λ (j : ℕ). Label [] k long ∷ Frame (drop n s.operands) k ((given ++ replicate j None) ++ locals) s.func s.place ∷ s.levels) none
    ∙ ap (λ (l : List (Option Value)). Label [] k long ∷ Frame (drop n s.operands) k (l ++ locals) s.func s.place ∷ s.levels) (append-nil given) in
    subst (IsEntered m i s.place s.operands s) (sym same)
    (record { kind = t; code = f; there = there; levels = levels; operands = refl; func = refl; place = refl; stage = refl })
