-- The innermost frame of a typed term holds no more than its function has anywhere, and has room for what comes next.
use Rattle.std.proofs.Common.{◌≡◌, ◌≤◌, ◌+◌, ℕ, Bool, true, false, List, [], length, Some, None, refl, ap, subst, arith}
use Rattle.std.specs.Prelude.{if◌then◌else◌}
use Rattle.lists.specs.Rows.{Row, ◌⧺◌, size}
use Rattle.w_syntax.specs.Code.{Code, Done, Plain, Block, If, IfElse}
use Rattle.w_syntax.specs.declared.instructions.Op.{Op}
use Rattle.w_syntax.specs.declared.module.Module.{Module}
use Rattle.w_rules.specs.InstructionTypes.{instr_type}
use Rattle.w_rules.specs.Operands.{Operand}
use Rattle.w_reduce.proofs.Deep.{one_deep}
use Rattle.w_reduce.specs.Room.{FrameHolds, invokes_next, most_operands, most_labels, function_in, held_in, labels_in, gives_one, more_operands, more_labels}
use Rattle.w_reduce.specs.Terms.{Administrative, Context}
use Rattle.w_typed.specs.Values.{Arrows}
use Rattle.w_typed.specs.Contexts.{Scope, in_scope, IsHeld, CodeTyped, RestTyped, code_alone, invoke_first, branch_first, Within, outside, label, frame, handle}
use Rattle.w_typed.specs.Configurations.{FramesHoldNoMore, NextHasRoom}
use Rattle.w_typed.proofs.Branches.{values_size}
use Rattle.w_typed.proofs.Low.{size_beside, low_held, low_next, counts_of}
use Rattle.w_typed.proofs.OperandCounts.{counted}
use Rattle.w_typed.proofs.GivesOne.{gives_more, gives_stays}

-- ## Scopes and contexts

-- a scope describes what stands in the innermost frame
record Describes (e : Context) (c : Scope) (f : ℕ) : Type 0 where
  function : c.function ≡ f
  base : c.base ≡ held_in e
  labels : length c.labels ≡ labels_in e
  inside : c.results ≡ None → ⊥

describes : {m : Module} {K : Arrows} {us : Row Operand} {e : Context} {c : Scope} {now : List Bool} {ts : Row Operand} → Within m K us e c now ts
    → (f : ℕ) → function_in e ≡ Some f → Describes e c f
describes (outside r) f is = absurd (cc)
describes (label beneath r n v again behind still w) f is =
    let t = describes w f is in
    let base = t.base in
    let labels = t.labels in
    record { function = t.function; base = omega (arith, base); labels = omega (arith, labels); inside = t.inside }
describes (frame beneath of r n l v k still w) f is = record { function = cc; base = refl; labels = refl; inside = λ e. absurd (cc) }
describes (handle results beneath r clauses tops v k still w) f is = absurd (cc)

-- what is held in the scope is held in the frame
holds : {m : Module} {e : Context} {c : Scope} {f n : ℕ} → Describes e c f → IsHeld m c n → FrameHolds m f e n 0
holds {m} {e} {c} {f} {n} t h =
    let a : most_operands m c.function ≡ most_operands m f = ap (most_operands m) t.function in
    let b : most_labels m c.function ≡ most_labels m f = ap (most_labels m) t.function in
    let base = t.base in
    let labels = t.labels in
    let p = h.operands in
    let q = h.labels in
    record { operands = omega (arith, a, base, p); labels = omega (arith, b, labels, q) }

-- ## At the hole

-- what comes next says so of the operands before it
rest_held : (m : Module) {c : Scope} {s : List Bool} {ahead : List Administrative} {k : Code} {ts us : Row Operand} → RestTyped m c s ahead k ts us
    → (c.results ≡ None → ⊥) → invokes_next ahead ≡ false → IsHeld m c (size ts)
rest_held m (code_alone h) i none = low_held m (h.low i)
rest_held m (branch_first beneath is r held) i none = held i
rest_held m (invoke_first beneath is r h) i none = absurd (cc)

pub frames_hold : FramesHoldNoMore
frames_hold m K ps us t h f is none =
    let c = describes h.around f is in
    let many : size (h.before ⧺ ps) ≡ size t.operands + size ps = (let a = size_beside h.before ps in let b = values_size m h.operands in omega (arith, a, b)) in
    holds c (subst (IsHeld m h.scope) many (rest_held m h.rest c.inside none))

-- ## Before an instruction

-- with the operand that it gives, and the label that it enters
record Fits (m : Module) (c : Scope) (n k : ℕ) : Type 0 where
  operands : c.base + n ≤ most_operands m c.function
  labels : length c.labels + k ≤ most_labels m c.function

with_one : (m : Module) (c : Scope) (s : List Bool) (o : Op) (k : Code) (ts us : Row Operand) (b : Bool) → gives_one o ≡ b → (c.results ≡ None → ⊥) → CodeTyped m c s (Plain o k) ts us
    → Fits m c (size ts + (if b then 1 else 0)) 0
with_one m c s o k ts us false is i h =
    let n = low_held m (h.low i) in
    let p = n.operands in
    let q = n.labels in
    record { operands = omega (arith, p); labels = omega (arith, q) }
with_one m c s o k ts us true is i h =
    let ws = h.derives.1.0 in
    let typed = h.derives.1.1 in
    let stays = gives_stays o is in
    let known = counted m.types ts ws (in_scope m c) s o stays typed in
    let after = low_held m (low_next m ts ws o (h.low i) typed known) in
    let more : size ws ≡ size ts + 1 = gives_more (in_scope m c) s o ts ws is (counts_of m.types (instr_type (in_scope m c) s o) ts ws typed known) in
    let p = after.operands in
    let q = after.labels in
    record { operands = omega (arith, p, more); labels = omega (arith, q) }

code_fits : (m : Module) (c : Scope) (s : List Bool) (k : Code) (ts us : Row Operand) → (c.results ≡ None → ⊥) → CodeTyped m c s k ts us
    → Fits m c (size ts + more_operands k) (more_labels k)
code_fits m c s Done ts us i h =
    let n = low_held m (h.low i) in let p = n.operands in let q = n.labels in record { operands = omega (arith, p); labels = omega (arith, q) }
code_fits m c s (Plain o k) ts us i h = with_one m c s o k ts us (gives_one o) refl i h
code_fits m c s (Block kind b x k) ts us i h =
    let n = low_held m (h.low i) in let p = n.operands in let low = h.low i in let q = low.labels in let one = one_deep x in
    record { operands = omega (arith, p); labels = omega (arith, q, one) }
code_fits m c s (If b x k) ts us i h =
    let n = low_held m (h.low i) in let p = n.operands in let low = h.low i in let q = low.labels in let one = one_deep x in
    record { operands = omega (arith, p); labels = omega (arith, q, one) }
code_fits m c s (IfElse b x y k) ts us i h =
    let n = low_held m (h.low i) in let p = n.operands in let low = h.low i in let q = low.labels in let one = one_deep x in
    record { operands = omega (arith, p); labels = omega (arith, q, one) }

rest_fits : (m : Module) {c : Scope} {s : List Bool} {ahead : List Administrative} {k : Code} {ts us : Row Operand} → RestTyped m c s ahead k ts us
    → (c.results ≡ None → ⊥) → ahead ≡ [] → Fits m c (size ts + more_operands k) (more_labels k)
rest_fits m {c} {s} {ahead} {k} {ts} {us} (code_alone h) i none = code_fits m c s k ts us i h
rest_fits m (branch_first beneath is r held) i none = absurd (cc)
rest_fits m (invoke_first beneath is r h) i none = absurd (cc)

pub next_has_room : NextHasRoom
next_has_room m K us t h f is none =
    let c = describes h.around f is in
    let fits = rest_fits m h.rest c.inside none in
    let many = values_size m h.operands in
    let a : most_operands m h.scope.function ≡ most_operands m f = ap (most_operands m) c.function in
    let b : most_labels m h.scope.function ≡ most_labels m f = ap (most_labels m) c.function in
    let base = c.base in
    let labels = c.labels in
    let p = fits.operands in
    let q = fits.labels in
    record { operands = omega (arith, a, base, p, many); labels = omega (arith, b, labels, q) }
