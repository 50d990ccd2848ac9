use Rattle.std.proofs.Common.{sym, ◌∙◌}
use Rattle.w_syntax.specs.Packed.{unpacked}
use Rattle.w_vplain.specs.Prefixes.{follow_enter}
use Rattle.w_vplain.proofs.CallsAnswered.{answers_packed, answers_malformed}
use Rattle.w_vplain.proofs.CallsKnown.{opens_checked, enter_same, enter_malformed}
use Rattle.w_vplain.proofs.checker.Checker.enter.Goals as goal

pub returns-clause-answers : goal.returns-clause-answers
returns-clause-answers c =
    let i = unpacked c.args.packed.now in
    answers_packed c.call.result c.args.self.now c.call.new.self c.args.packed (follow_enter i) c.call.ensures.steps c.call.ensures.body (opens_checked i (sym c.opens_packed.ensures ∙ c.if-not-opens_packed.false))
    (λ w. enter_same i w (sym c.opens_packed.ensures ∙ c.if-not-opens_packed.false))

pub returns-then-not-opens_packed-clause-answers : goal.returns-then-not-opens_packed-clause-answers
returns-then-not-opens_packed-clause-answers c =
    let i = unpacked c.args.packed.now in
    answers_malformed c.refuse.result c.args.self.now c.refuse.new.self (follow_enter i) (λ w. enter_malformed i w (sym c.opens_packed.ensures ∙ c.if-not-opens_packed.true)) c.refuse.ensures.refuses
