use Rattle.std.proofs.lemmas.Result.{IfOk-weaker}
use Rattle.s_code.proofs.BuiltFromTokens.{held}
use Rattle.s_code.proofs.body.body_of.Goals as goal

pub into_body-requires : goal.into_body-requires
into_body-requires c =
    (c.requires.0, held c.args.tokens.items c.reverse.new.self.items c.in_ok-builder.builder c.push.new.self c.in_ok-push.field-0 c.reverse.ensures.items c.in_ok-builder.ensures.builds c.in_ok-push.ensures c.requires.0 c.requires.1)

pub returns : goal.returns
returns c = record {
  value = IfOk-weaker c.into_body.result _ _ (λ body h d e. h d (held c.args.tokens.items c.reverse.new.self.items c.in_ok-builder.builder c.push.new.self c.in_ok-push.field-0 c.reverse.ensures.items c.in_ok-builder.ensures.builds c.in_ok-push.ensures d e)) c.into_body.ensures;
}
