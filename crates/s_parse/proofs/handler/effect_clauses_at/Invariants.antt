use Rattle.std.proofs.Common.{◌-◌, length}
use Rattle.s_syntax.specs.declared.token.Kind.TheVariants as kind
use Rattle.s_grammar.specs.Kinds.{is}
use Rattle.s_grammar.specs.Reads.{clause}
use Rattle.s_expr.proofs.Loops.{Ahead}
use Rattle.s_parse.proofs.handler.effect_clauses_at.Given as goal

abbrev pub invariant-items : goal.invariant-items
invariant-items l = Ahead (is kind.On) (clause l.source.bytes.now l.nest) l.source.tokens.now l.start l.items l.at

abbrev pub decreases-items : goal.decreases-items
decreases-items l = length l.source.tokens.now - l.at
