use Rattle.std.proofs.Common.{sym, ap, ◌∙◌}
use Rattle.w_words.specs.Words.{spaced}
use Rattle.w_words.proofs.Lines.{words_spaced}
use Rattle.w_trace.specs.Reading.{ending_said}
use Rattle.w_trace.proofs.line_words.ending_in.Goals as goal

pub returns : goal.returns
returns c = c.ending_said.ensures ∙ ap ending_said (sym (words_spaced c.in_ok-text.text.now) ∙ ap spaced (sym c.in_ok-text.ensures.some))
