use Rattle.std.proofs.Common.{Bool, ◌∙◌, ap}
use Rattle.lists.specs.Rows.{ε, ◌▹◌}
use Rattle.w_flow.specs.View.{flow_view, flow_if}
use Rattle.w_flow.proofs.ShortTypes.{below}
use Rattle.w_flow.proofs.flow.Flow.takes_two.Goals as goal

pub returns-then-takes-clause-steps : goal.returns-then-takes-clause-steps
returns-then-takes-clause-steps c =
    let here = flow_view c.args.self.now in
    below c.args.classes.now here.any here.operands (ε ▹ c.args.below) ε c.args.top (flow_view c.takes.new.self)
    (c.takes.ensures.steps ∙ ap (λ (b : Bool). flow_if b c.takes.new.self) c.if-takes.true)
    ∙ c.takes-then-takes.ensures.steps
