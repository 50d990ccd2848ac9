use Rattle.std.proofs.Common.{◌-◌, length}
use Rattle.s_expr.proofs.ListsWithCommas.{ListedAhead}
use Rattle.s_parse.proofs.listed.items_at.Given as goal

abbrev pub invariant-items : goal.invariant-items
invariant-items g l = ListedAhead (g.T.Item.reading l.source.bytes.now) l.source.tokens.now l.start l.items l.at

abbrev pub decreases-items : goal.decreases-items
decreases-items g l = length l.source.tokens.now - l.at
