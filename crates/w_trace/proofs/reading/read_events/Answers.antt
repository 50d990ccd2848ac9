use Rattle.w_trace.proofs.Texts.{only_ok, only_err}
use Rattle.w_trace.proofs.reading.read_events.Goals as goal

pub returns-clause-only_ok : goal.returns-clause-only_ok
returns-clause-only_ok c = only_ok c.args.bytes.now c.read_lines.result c.read_lines.ensures.err

pub returns-clause-only_err : goal.returns-clause-only_err
returns-clause-only_err c = only_err c.args.bytes.now c.read_lines.result c.read_lines.ensures.ok c.read_lines.ensures.err
