use Rattle.std.proofs.Common.{◌≡◌, Bool, Option, IfOk, ◌∙◌, ap, subst, sym}
use Rattle.lists.specs.Rows.{ε, ◌▹◌}
use Rattle.w_flow.specs.Flow.{Flow}
use Rattle.w_flow.specs.View.{flow_view, flow_if}
use Rattle.w_flow.proofs.ShortTypes.{below, none_below}
use Rattle.w_flow.proofs.flow.Flow.joins.Goals as goal

pub returns-clause-steps : goal.returns-clause-steps
returns-clause-steps c =
    let here = flow_view c.args.self.now in
    subst (λ (o : Option Flow). IfOk c.turns.result (λ applies. o ≡ flow_if applies c.turns.new.self))
    (sym (below c.args.classes.now here.any here.operands (ε ▹ c.args.from) (ε ▹ c.args.to) c.args.from (flow_view c.takes.new.self)
    (c.takes.ensures.steps ∙ ap (λ (b : Bool). flow_if b c.takes.new.self) c.if-not-takes.false)))
    c.turns.ensures.steps

pub returns-then-not-takes-clause-steps : goal.returns-then-not-takes-clause-steps
returns-then-not-takes-clause-steps c =
    let here = flow_view c.args.self.now in
    none_below c.args.classes.now here.any here.operands (ε ▹ c.args.from) (ε ▹ c.args.to) c.args.from
    (c.takes.ensures.steps ∙ ap (λ (b : Bool). flow_if b c.takes.new.self) c.if-not-takes.true)
