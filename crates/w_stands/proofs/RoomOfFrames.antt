-- What changes of a stack leave each frame its room, and what room is where a stack stands in a context.
use Rattle.std.proofs.Common.{◌≡◌, ◌≤◌, ◌<◌, ◌+◌, ℕ, zero, suc, Bool, true, if◌then◌else◌, List, [], ◌∷◌, length, Some, refl, sym, ap, subst, arith}
use Rattle.lists.specs.Rows.{size}
use Rattle.w_types.specs.declared.value.Value.{Value}
use Rattle.w_syntax.specs.declared.instructions.Instr.{Instr}
use Rattle.w_syntax.specs.declared.instructions.Instr.TheVariants as flat
use Rattle.w_syntax.specs.declared.instructions.Op.{Op}
use Rattle.w_syntax.specs.declared.module.Module.{Module}
use Rattle.w_segment.specs.Shape.{Level, Label, Frame, Capacity, Shape, Grown, Target, label_at, ReturnTarget, frame_at, below_all, height}
use Rattle.w_segment.specs.Changes.{left_at, with_local}
use Rattle.w_tables.specs.Store as instances
use Rattle.w_reduce.specs.Room.{most_operands, most_labels, function_in, held_in, labels_in, gives_one}
use Rattle.w_reduce.specs.Terms.{Rest, Context}
use Rattle.w_stands.specs.Values.{stack}
use Rattle.w_stands.specs.Stands.{LevelsAre, label, frame, outermost}
use Rattle.w_stands.specs.Room.{FramesFit, HasRoom, Roomier, operands_of, labels_of}
use Rattle.w_stands.specs.Steps.{MovesAt}

-- ## Frames

-- the same levels of the same function, with the same capacity
pub same_room : (m : Module) (s s' : Shape) → s'.levels ≡ s.levels → s'.func ≡ s.func → s'.capacity ≡ s.capacity → HasRoom m s → HasRoom m s'
same_room m s s' l f c h =
    subst (λ (x : Capacity). FramesFit m x s'.func s'.levels) (sym c)
    (subst (λ (x : ℕ). FramesFit m s.capacity x s'.levels) (sym f) (subst (FramesFit m s.capacity s.func) (sym l) h))

-- no change takes no room
pub same_grown : (c : Capacity) → Grown c c
same_grown c = record { operands = omega arith; levels = omega arith; locals = omega arith }

-- more capacity
pub grown_fit : (m : Module) (c c' : Capacity) (f : ℕ) (ls : List Level) → Grown c c' → FramesFit m c f ls → FramesFit m c' f ls
grown_fit m c c' f [] g h = h
grown_fit m c c' f (Label below n t ∷ ls) g h = grown_fit m c c' f ls g h
grown_fit m c c' f (Frame below n locals caller back ∷ ls) g h =
    let a = h.0 in let b = h.1 in let x = g.operands in let y = g.levels in (omega (arith, a, x), omega (arith, b, y), grown_fit m c c' caller ls g h.2)

pub roomier_fit : (m : Module) (s s' : Shape) → Roomier s s' → HasRoom m s → HasRoom m s'
roomier_fit m s s' r h =
    subst (λ (x : ℕ). FramesFit m s'.capacity x s'.levels) (sym r.same.func)
    (subst (FramesFit m s'.capacity s.func) (sym r.same.levels) (grown_fit m s.capacity s'.capacity s.func s.levels r.grown h))

module _ (m : Module) (c : Capacity) where
  -- the levels around a label that is branched to
  pub branch_fit : (f l : ℕ) (ls : List Level) (t : Target) → label_at l ls ≡ Some t → FramesFit m c f ls → FramesFit m c f t.outer
  branch_fit f l [] t is h = absurd (cc)
  branch_fit f zero (Label below n p ∷ ls) t is h = let e : record { below = below; arity = n; target = p; outer = ls } ≡ t = cc in subst (λ (x : Target). FramesFit m c f x.outer) e h
  branch_fit f (suc l) (Label below n p ∷ ls) t is h = branch_fit f l ls t is h
  branch_fit f zero (Frame below n locals g p ∷ ls) t is h = absurd (cc)
  branch_fit f (suc l) (Frame below n locals g p ∷ ls) t is h = absurd (cc)

  -- those around the innermost frame
  pub return_fit : (f : ℕ) (ls : List Level) (r : ReturnTarget) → frame_at ls ≡ Some r → FramesFit m c f ls → FramesFit m c r.caller r.outer
  return_fit f [] r is h = absurd (cc)
  return_fit f (Label below n p ∷ ls) r is h = return_fit f ls r is h
  return_fit f (Frame below n locals g p ∷ ls) r is h =
      let e : record { below = below; arity = n; caller = g; back = p; outer = ls } ≡ r = cc in subst (λ (x : ReturnTarget). FramesFit m c x.caller x.outer) e h.2

  -- a local that is set
  pub local_fit : (f x : ℕ) (v : Value) (ls : List Level) → FramesFit m c f ls → FramesFit m c f (with_local x v ls)
  local_fit f x v [] h = h
  local_fit f x v (Label below n p ∷ ls) h = local_fit f x v ls h
  local_fit f x v (Frame below n locals g p ∷ ls) h = h

-- without the innermost level
pub left_fit : (m : Module) (s : Shape) (ls : List Level) → s.levels ≡ ls → HasRoom m s → HasRoom m (left_at ls s)
left_fit m s [] is h = h
left_fit m s (Label below n p ∷ ls) is h = let k : FramesFit m s.capacity s.func (Label below n p ∷ ls) = subst (FramesFit m s.capacity s.func) is h in k
left_fit m s (Frame below n locals g p ∷ ls) is h = let k : FramesFit m s.capacity s.func (Frame below n locals g p ∷ ls) = subst (FramesFit m s.capacity s.func) is h in k.2

-- ## In a context

-- What stands around operands in a stack: the context has the same function, and where operands and labels fit what that needs they fit the
-- capacity.
pub record Measures (m : Module) (c : Capacity) (f : ℕ) (ls : List Level) (e : Context) : Type 0 where
  pub function : function_in e ≡ Some f
  pub operands : (n : ℕ) → held_in e + n ≤ most_operands m f → below_all ls + n ≤ c.operands
  pub labels : (n : ℕ) → labels_in e + n ≤ most_labels m f → length ls + n ≤ c.levels

-- as many operands
pub stack_size : (vs : List Value) → size (stack vs) ≡ length vs
stack_size [] = refl
stack_size (v ∷ vs) = ap suc (stack_size vs)

pub measured : {m : Module} {outer : Context} {behind : Rest} {f q : ℕ} {ls : List Level} {e : Context} → LevelsAre m outer behind f q ls e → (c : Capacity) → FramesFit m c f ls → Measures m c f ls e
measured (label {below = below} b k g w) c h =
    let r = measured w c h in
    let many = stack_size below in
    record {
      function = r.function;
      operands = λ n small. let x = r.operands (length below + n) (omega (arith, small, many)) in omega (arith, x);
      labels = λ n small. let x = r.labels (suc n) (omega (arith, small)) in omega (arith, x);
    }
measured (frame z k w) c h =
    let a = h.0 in let b = h.1 in record { function = refl; operands = λ n small. omega (arith, a, small); labels = λ n small. omega (arith, b, small) }
measured (outermost z) c h =
    let a = h.0 in let b = h.1 in record { function = refl; operands = λ n small. omega (arith, a, small); labels = λ n small. omega (arith, b, small) }

-- ## Before an instruction

-- one that gives an operand has room for it
pub room_for_one : (m : Module) (u : instances.Store) (s : Shape) (i : Op) → gives_one i ≡ true → MovesAt (flat.Plain i) m u s → height s < s.capacity.operands
room_for_one m u s i one k =
    let fits = k.at.fits (flat.Plain i) k.stage k.here in
    let room = fits.operands in
    let many : operands_of (flat.Plain i) ≡ 1 = ap (λ (b : Bool). if b then 1 else 0) one in
    omega (arith, room, many)

-- one that enters a label has room for it
pub room_for_label : (m : Module) (u : instances.Store) (s : Shape) (i : Instr) → labels_of i ≡ 1 → MovesAt i m u s → length s.levels < s.capacity.levels
room_for_label m u s i one k =
    let fits = k.at.fits i k.stage k.here in
    let room = fits.labels in
    omega (arith, room, one)
