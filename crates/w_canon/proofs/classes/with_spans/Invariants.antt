use Rattle.std.proofs.Common.{◌≡◌, map, take, length}
use Rattle.w_canon.specs.Spanned.{spanned}
use Rattle.w_canon.proofs.classes.with_spans.Given as goal

abbrev pub invariant-loop-index : goal.invariant-loop-index
invariant-loop-index l = (l.list.items ≡ map (spanned l.spans) (take l.index l.entries)) × (l.index-end ≡ length l.entries)
