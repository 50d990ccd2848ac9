use Rattle.std.proofs.Common.{◌≡◌, ◌<◌, ◌+◌, ◌^◌, ℕ, List, length, sym, ap, ◌∙◌, subst, arith}
use Rattle.w_syntax.specs.declared.module.Func.{Func}
use Rattle.w_syntax.specs.declared.module.Module.{Module}
use Rattle.w_stands.specs.Code.{instrs}
use Rattle.w_call_ops.specs.KnownFunctions.{AreOf}
use Rattle.w_call_ops.specs.declared.known_functions.FunctionFacts.{FunctionFacts}
use Rattle.w_call_ops.proofs.KnownSoFar.{FactsSoFar, one_more, all_known, all_short}
use Rattle.w_call_ops.proofs.known_functions.all_facts.Goals as goal

pub loop-code-preserved : goal.loop-code-preserved
loop-code-preserved c =
    let m = c.args.program.now in
    let k = c.loop-code.code-index in
    let before = c.loop-code.invariant in
    let known = c.in_ok-facts_at.ensures in
    let same : c.in-Ok.function ≡ k = (let a = before.as_many in let b = c.len.ensures in let d = c.in-Ok.ensures in omega (arith, a, b, d)) in
    subst (FactsSoFar m (k + 1)) (sym {A = List FunctionFacts} c.in_ok-push.ensures.items)
    (one_more m k c.loop-code.facts.items c.in_ok-facts_at.field-0 before
    (subst (λ (i : ℕ). AreOf m i c.in_ok-facts_at.field-0) same known.facts) (subst (λ (i : ℕ). length (instrs m i) < 2 ^ 32) same known.short))

pub returns-clause-facts : goal.returns-clause-facts
returns-clause-facts c =
    let m = c.args.program.now in
    let codes = ap (λ (l : List Func). length l) c.as_slice-code-items.ensures ∙ ap (λ (x : Module). length x.codes) c.module.ensures.same in
    let end = c.loop-code-test.false in
    let all : length m.codes ≡ c.loop-code.code-index = (let i = c.loop-code.auto.code-index-end in omega (arith, codes, end, i)) in
    all_known m c.loop-code.code-index c.loop-code.facts.items c.loop-code.invariant all

pub returns-clause-short : goal.returns-clause-short
returns-clause-short c =
    let m = c.args.program.now in
    let codes = ap (λ (l : List Func). length l) c.as_slice-code-items.ensures ∙ ap (λ (x : Module). length x.codes) c.module.ensures.same in
    let end = c.loop-code-test.false in
    let all : length m.codes ≡ c.loop-code.code-index = (let i = c.loop-code.auto.code-index-end in omega (arith, codes, end, i)) in
    all_short m c.loop-code.code-index c.loop-code.facts.items c.loop-code.invariant all
