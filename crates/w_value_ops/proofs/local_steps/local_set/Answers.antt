use Rattle.std.proofs.Common.{◌≡◌, ℕ, ◌+◌, ap, ◌∙◌, sym, arith, refl, true, subst, ◌<◌, length}
use Rattle.lists.specs.Rows.{Row}
use Rattle.w_syntax.specs.declared.instructions.Op.TheVariants as op
use Rattle.w_syntax.specs.declared.instructions.VariableOp.TheVariants as variable
use Rattle.w_segment.specs.Shape.{Shape, locals_of}
use Rattle.w_segment.specs.Changes.{moved, with_locals, popped}
use Rattle.w_value_ops.proofs.FactsOfValues.{kept_popped}
use Rattle.w_reduce.specs.Values.{Val}
use Rattle.w_stands.specs.Values.{stack}
use Rattle.w_value_ops.proofs.LocalsRead.{IsSetting, set_needs, set_within, set_place, set_follows}
use Rattle.w_value_ops.proofs.local_steps.local_set.Goals as goal

-- what stands there behind it
abbrev left : Row Val → Val → Row Val
left vs v = vs

rule : (x : ℕ) → IsSetting (op.Variable (variable.LocalSet x)) x left
rule x = λ p u e vs c. refl

pub pop-value-requires : goal.pop-value-requires
pop-value-requires c =
    record { some = (set_needs c.args.program.now c.args.stack.now (op.Variable (variable.LocalSet c.args.index)) c.args.index left (rule c.args.index) c.requires.moves).2 }

pub local_set-requires : goal.local_set-requires
local_set-requires c =
    let h = set_within c.args.program.now c.args.stack.now (op.Variable (variable.LocalSet c.args.index)) c.args.index left (rule c.args.index) c.requires.moves in
    record { there = subst (λ (y : Shape). c.args.index < length (locals_of y.levels)) (sym c.pop-value.ensures.after) h }

pub overflow_add-place : goal.overflow_add-place
overflow_add-place c =
    let h = set_place c.args.program.now c.args.stack.now (op.Variable (variable.LocalSet c.args.index)) c.args.index left (rule c.args.index) c.requires.moves in
    let at = c.place.ensures.value in
    let after = ap (λ (s : Shape). s.place) c.local_set.ensures.after in
    let before = ap (λ (s : Shape). s.place) c.pop-value.ensures.after in
    omega (arith, h, at, after, before)

pub returns-clause-goes : goal.returns-clause-goes
returns-clause-goes c =
    let s = c.args.stack.now in
    let v = c.pop-value.result in
    let set = c.local_set.ensures.after ∙ ap (with_locals c.args.index v) c.pop-value.ensures.after in
    let at = c.place.ensures.value ∙ ap (λ (y : Shape). y.place) set in
    let e : c.go.new.self ≡ moved (s.place + 1) (with_locals c.args.index v (popped s)) =
    c.go.ensures.after ∙ ap (λ (n : ℕ). moved (n + 1) c.local_set.new.self) at ∙ ap (moved (s.place + 1)) set in
    set_follows c.args.program.now s (op.Variable (variable.LocalSet c.args.index)) c.args.index left (rule c.args.index) c.requires.moves c.go.new.self v c.pop-value.ensures.value
    (ap (λ (y : Shape). y.levels) e) (ap (λ (y : Shape). y.func) e) (ap (λ (y : Shape). y.place) e) (ap (λ (y : Shape). y.stage) e) (ap (λ (y : Shape). y.capacity) e)
    (sym (ap (λ (y : Shape). stack y.operands) e))

-- the operand passes what all pass
pub returns-clause-keeps : goal.returns-clause-keeps
returns-clause-keeps c = λ test on h.
    let s = c.args.stack.now in
    let v = c.pop-value.result in
    let set = c.local_set.ensures.after ∙ ap (with_locals c.args.index v) c.pop-value.ensures.after in
    let at = c.place.ensures.value ∙ ap (λ (y : Shape). y.place) set in
    let e : c.go.new.self ≡ moved (s.place + 1) (with_locals c.args.index v (popped s)) =
    c.go.ensures.after ∙ ap (λ (n : ℕ). moved (n + 1) c.local_set.new.self) at ∙ ap (moved (s.place + 1)) set in
    kept_popped (λ w. test w ≡ true) s c.go.new.self v c.args.index c.pop-value.ensures.value e h
