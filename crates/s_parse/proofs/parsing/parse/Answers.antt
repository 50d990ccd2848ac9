use Rattle.std.proofs.Common.{List, subst}
use Rattle.s_syntax.specs.declared.token.Token.{Token}
use Rattle.s_parse.specs.Parsed.{parsed}
use Rattle.s_parse.specs.Refusal.{IsAnswer}
use Rattle.s_parse.proofs.Verdicts.{means_ok, means_err, means_only}
use Rattle.s_parse.proofs.parsing.parse.Goals as goal

pub returns : goal.returns
returns c =
    let bs = c.args.bytes.now in
    let ts = c.args.tokens.now in
    let r = c.parse_exactly.result in
    let answer = subst (λ (l : List Token). IsAnswer (parsed bs l) r) c.as_slice.ensures c.parse_exactly.ensures.answer in
    record { ok = means_ok bs ts r answer; err = means_err bs ts r answer; only = λ s h. means_only bs ts s r answer h }
