use Rattle.std.proofs.Common.{◌≡◌, ℕ, ◌+◌, ◌≤◌, length, get_or, Result, IfOk, subst, ap, ◌∙◌, arith}
use Rattle.std.proofs.lemmas.Grind.{common_steps}
use Rattle.std.specs.declared.alloc.AllocError.{AllocError}
use Rattle.w_syntax.specs.declared.module.Module.{Module}
use Rattle.w_linked.specs.Definitions.{Definitions}
use Rattle.w_linked.specs.Definitions as linked
use Rattle.w_placing.proofs.HostCounts.{all_functions, own_next, own_none}
use Rattle.w_placing.proofs.placing.count_hosts.Goals as goal

told : (r : Result ℕ AllocError) (a b : ℕ) → a ≡ b → IfOk r (λ n. n ≡ a) → IfOk r (λ n. n ≡ b)
told r a b e h = let P : ℕ → Type 0 = λ k. IfOk r (λ n. n ≡ k) in subst P e h

pub loop-checked-init : goal.loop-checked-init
loop-checked-init c =
    let count : c.len-count.result ≡ length c.definitions.inside.functions.items = grind (arith, common_steps) in
    count ∙ ap (λ (d : Definitions). length d.functions) (c.definitions.view_is ∙ c.requires) ∙ all_functions c.args.modules.now

pub overflow_sub-count : goal.overflow_sub-count
overflow_sub-count c =
    let d = c.checked-item.result in
    let own : c.len-count-in-loop-checked.result ≡ length (get_or c.args.modules.now c.loop-checked.checked-index d).functions =
    c.len-count-in-loop-checked.ensures ∙ ap (λ (m : Module). length m.functions) (c.module.ensures.same ∙ c.checked-item.is) in
    let next = own_next c.args.modules.now c.loop-checked.checked-index d c.loop-checked-test.true in
    omega (arith, own, next, c.loop-checked.invariant)

pub loop-checked-preserved : goal.loop-checked-preserved
loop-checked-preserved c =
    let d = c.checked-item.result in
    let own : c.len-count-in-loop-checked.result ≡ length (get_or c.args.modules.now c.loop-checked.checked-index d).functions =
    c.len-count-in-loop-checked.ensures ∙ ap (λ (m : Module). length m.functions) (c.module.ensures.same ∙ c.checked-item.is) in
    let next = own_next c.args.modules.now c.loop-checked.checked-index d c.loop-checked-test.true in
    omega (arith, own, next, c.loop-checked.invariant)

pub returns : goal.returns
returns c =
    let past : length c.args.modules.now ≤ c.loop-checked.checked-index = omega arith in
    let none = own_none c.args.modules.now c.loop-checked.checked-index past in
    let all : 0 + c.loop-checked.count ≡ linked.hosts c.args.modules.now = omega (arith, none, c.loop-checked.invariant) in
    told c.counted.result _ _ all c.counted.ensures
