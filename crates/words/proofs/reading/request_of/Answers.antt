use Rattle.std.proofs.Common.{◌≡◌, ap, sym, ◌∙◌}
use Rattle.words.specs.Line.{entered_line}
use Rattle.words.specs.declared.reading.WordsFault.TheVariants.{Bad}
use Rattle.words.proofs.TakenWords.{line_of-taken, line_of-refused, asked_for, asked_none}
use Rattle.words.proofs.reading.request_of.Goals as goal

pub returns-in-Ok-Some-clause-asks : goal.returns-in-Ok-Some-clause-asks
returns-in-Ok-Some-clause-asks c =
    line_of-taken _ c.in-Ok.ensures.taken ∙ ap entered_line (sym c.in-Ok.ensures.rows) ∙ asked_for _ _ _ c.in-Ok-Some.ensures.asks c.in-Ok-Some.field-0-is

pub returns-in-Ok-None-clause-bad : goal.returns-in-Ok-None-clause-bad
returns-in-Ok-None-clause-bad c = λ _.
    line_of-taken _ c.in-Ok.ensures.taken ∙ ap entered_line (sym c.in-Ok.ensures.rows) ∙ asked_none _ _ c.in-Ok-None.ensures.asks c.in-Ok-None.field-0-is

pub returns-clause-bad : goal.returns-clause-bad
returns-clause-bad c = λ is.
    let refused : c.fault_of_error.result ≡ Bad = cc in
    line_of-refused _ c.in-Err.error c.in-Err.ensures.refused (c.fault_of_error.ensures.bad refused)
