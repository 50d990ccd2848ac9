use Rattle.std.proofs.Common.{◌≡◌, ◌-◌, IfOk, Option, length, take, subst, sym, ◌∙◌}
use Rattle.w_flow.specs.Flow.{Flow}
use Rattle.w_flow.specs.View.{flow_if}
use Rattle.w_flow.proofs.ShortTypes.{turns_none, turns_some, turns_made}
use Rattle.w_flow.proofs.flow.Flow.turns.Goals as goal

pub returns-then-self-clause-steps : goal.returns-then-self-clause-steps
returns-then-self-clause-steps c =
    subst (λ (o : Option Flow). IfOk c.gives.result (λ applies. o ≡ flow_if applies c.gives.new.self))
    (sym (turns_made c.args.classes.now c.args.self.now.any c.args.self.now.operands c.args.from c.args.to c.in_default.ensures.none c.if-self.true))
    c.gives.ensures.steps

pub returns-then-not-matches_type-clause-steps : goal.returns-then-not-matches_type-clause-steps
returns-then-not-matches_type-clause-steps c =
    turns_none c.args.classes.now c.args.self.now.any c.args.self.now.operands c.args.from c.args.to
    (take (length c.args.self.now.operands - 1) c.args.self.now.operands) c.in-Some.top c.in-Some.ensures.last (sym c.matches_type.ensures ∙ c.if-not-matches_type.true)

pub returns-clause-steps : goal.returns-clause-steps
returns-clause-steps c =
    turns_some c.args.classes.now c.args.self.now.any c.args.self.now.operands c.args.from c.args.to
    (take (length c.args.self.now.operands - 1) c.args.self.now.operands) c.replace_last.new.self c.in-Some.top c.known.result c.in-Some.ensures.last
    (sym c.matches_type.ensures ∙ c.if-not-matches_type.false) c.replace_last.ensures c.known.ensures.known
