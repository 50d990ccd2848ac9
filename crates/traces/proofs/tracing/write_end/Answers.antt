use Rattle.std.proofs.Common.{Some, ◌++◌}
use Rattle.w_trace.specs.declared.line.Line.TheVariants as line
use Rattle.w_trace.specs.Lines.{line_bytes}
use Rattle.traces.proofs.TracesWritten.{more_kept, ok_so, err_so}
use Rattle.traces.proofs.tracing.write_end.Goals as goal

pub returns-clause-ok : goal.returns-clause-ok
returns-clause-ok g c =
    ok_so c.write_kept.result c.write_kept.ensures.ok
    (λ f text before h.
    let all = f (text ++ line_bytes (line.End c.args.taken c.args.ending)) before
    (more_kept text before (g.O.Sink.held c.args.out.now) (Some c.args.kept.now.bytes.items) (Some c.put_end.new.sink.bytes.items) (line_bytes (line.End c.args.taken c.args.ending)) h c.in_ok-put_end.ensures.ok) in
    all.0)

pub returns-clause-err : goal.returns-clause-err
returns-clause-err g c =
    err_so c.write_kept.result c.write_kept.ensures.err
    (λ f text before h. f (text ++ line_bytes (line.End c.args.taken c.args.ending)) before
    (more_kept text before (g.O.Sink.held c.args.out.now) (Some c.args.kept.now.bytes.items) (Some c.put_end.new.sink.bytes.items) (line_bytes (line.End c.args.taken c.args.ending)) h c.in_ok-put_end.ensures.ok))
