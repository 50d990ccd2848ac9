use Rattle.std.proofs.Common.{◌≡◌, ◌∙◌, ◌+◌, ◌-◌, ◌++◌, ℕ, suc, ap, arith}
use Rattle.w_syntax.specs.Expr.{tokens}
use Rattle.s_code.specs.Expressions.{set_parameters}
use Rattle.s_code.proofs.expression.write_set_parameters.Goals as goal

pub loop-behind-preserved : goal.loop-behind-preserved
loop-behind-preserved c k =
    let n = c.args.count in
    let b = c.loop-behind.behind in
    let h = c.loop-behind-test.true in
    let here : n - b ≡ suc (n - 1 - b) = omega (arith, h) in
    let next : n - 1 - b ≡ n - (b + 1) = omega (arith, h) in
    c.loop-behind.invariant k
    ∙ ap (λ (m : ℕ). c.loop-behind.out.items ++ tokens (set_parameters m k)) here
    ∙ c.in_ok-write_set.ensures.writes (set_parameters (n - 1 - b) k)
    ∙ ap (λ (m : ℕ). c.write_set.new.out.items ++ tokens (set_parameters m k)) next
