use Rattle.std.specs.Prelude.{slice_range}
use Rattle.w_words.specs.Pieces.{InLine}
use Rattle.w_words.proofs.line_feeds.line_end.Given as goal

abbrev pub invariant-loop-place : goal.invariant-loop-place
invariant-loop-place l = InLine (slice_range l.text l.at l.place)
