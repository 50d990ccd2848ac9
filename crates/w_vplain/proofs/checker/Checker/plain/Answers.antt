use Rattle.std.proofs.Common.{sym, ◌∙◌}
use Rattle.w_syntax.specs.Packed.{unpacked}
use Rattle.w_vplain.specs.Prefixes.{follow_plain}
use Rattle.w_vplain.proofs.CallsAnswered.{answers_packed, answers_malformed}
use Rattle.w_vplain.proofs.CallsKnown.{plain_checked, plain_same, plain_malformed}
use Rattle.w_vplain.proofs.checker.Checker.plain.Goals as goal

pub returns-clause-answers : goal.returns-clause-answers
returns-clause-answers c =
    let i = unpacked c.args.packed.now in
    answers_packed c.call.result c.args.self.now c.call.new.self c.args.packed (follow_plain i) c.call.ensures.steps c.call.ensures.body (plain_checked i (sym c.is_plain_packed.ensures ∙ c.if-not-is_plain_packed.false))
    (λ w. plain_same i w (sym c.is_plain_packed.ensures ∙ c.if-not-is_plain_packed.false))

pub returns-then-not-is_plain_packed-clause-answers : goal.returns-then-not-is_plain_packed-clause-answers
returns-then-not-is_plain_packed-clause-answers c =
    let i = unpacked c.args.packed.now in
    answers_malformed c.refuse.result c.args.self.now c.refuse.new.self (follow_plain i) (λ w. plain_malformed i w (sym c.is_plain_packed.ensures ∙ c.if-not-is_plain_packed.true)) c.refuse.ensures.refuses
