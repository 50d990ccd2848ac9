use Rattle.std.proofs.Common.{◌∙◌, ◌+◌, ◌-◌, ◌++◌, ℕ, List, length, take, sym, ap}
use Rattle.w_syntax.specs.Code.{Plain}
use Rattle.w_syntax.specs.Expr.{tokens}
use Rattle.s_syntax.specs.declared.name.Name.{Name}
use Rattle.s_code.specs.Handlers.{set_names}
use Rattle.s_code.specs.Instructions.{local_set}
use Rattle.s_code.proofs.Blocks.{set_last, taken_last}
use Rattle.s_code.proofs.handler.write_set_names.Goals as goal

pub loop-behind-preserved : goal.loop-behind-preserved
loop-behind-preserved c k =
    let names = c.args.names.now in
    let b = c.loop-behind.behind in
    let x = c.index-names-names.result in
    let before : List Name = take (length names - (b + 1)) names in
    let rest = set_names c.args.layout.now before k in
    c.loop-behind.invariant k
    ∙ ap (λ (xs : List Name). c.loop-behind.out.items ++ tokens (set_names c.args.layout.now xs k)) (taken_last names b x c.loop-behind-test.true c.index-names-names.is)
    ∙ ap (λ r. c.loop-behind.out.items ++ tokens r) (set_last c.args.layout.now before x k)
    ∙ ap (λ (n : ℕ). c.loop-behind.out.items ++ tokens (Plain (local_set n) rest)) (sym c.local_number.ensures.value)
    ∙ c.in_ok-write_set.ensures.writes rest
