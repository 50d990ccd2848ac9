use Rattle.std.proofs.Common.{length}
use Rattle.s_syntax.specs.declared.token.Kind.TheVariants as kind
use Rattle.s_expr.proofs.Tokens.{key_covers}
use Rattle.s_expr.proofs.token.int_at.Goals as goal

pub text-requires : goal.text-requires
text-requires c =
    let h = key_covers c.args.source.now.tokens.now 0 (length c.args.source.now.bytes.now) c.args.at kind.Int c.in_ok-token.token _ c.args.source.now.order c.in_ok-token.ensures.reads.0 in
    record { forward = h.0; within = h.1 }
