use Rattle.std.proofs.Common.{◌-◌, length}
use Rattle.s_syntax.specs.declared.token.Kind.TheVariants as kind
use Rattle.s_grammar.specs.Kinds.{other_than, is}
use Rattle.s_expr.proofs.Loops.{Ahead}
use Rattle.s_parse.specs.Items.{declaration}
use Rattle.s_parse.proofs.declaration.declarations_at.Given as goal

abbrev pub invariant-items : goal.invariant-items
invariant-items l = Ahead (other_than (is kind.End)) (declaration l.source.bytes.now l.nest) l.source.tokens.now l.start l.items l.at

abbrev pub decreases-items : goal.decreases-items
decreases-items l = length l.source.tokens.now - l.at
