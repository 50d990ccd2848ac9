use Rattle.std.proofs.Common.{Some, ◌++◌}
use Rattle.w_trace.specs.declared.line.Line.TheVariants as line
use Rattle.w_trace.specs.Lines.{line_bytes}
use Rattle.traces.proofs.TracesWritten.{more_kept, ok_so, err_so}
use Rattle.traces.proofs.tracing.keep_event.Goals as goal

pub returns-clause-ok : goal.returns-clause-ok
returns-clause-ok g c =
    ok_so c.write_enough.result c.write_enough.ensures.ok
    (λ f text before h. f (text ++ line_bytes (line.Event c.args.event.now)) before
    (more_kept text before (g.O.Sink.held c.args.out.now) (Some c.args.kept.now.bytes.items) (Some c.put_event.new.sink.bytes.items) (line_bytes (line.Event c.args.event.now)) h c.in_ok-put_event.ensures.ok))

pub returns-clause-err : goal.returns-clause-err
returns-clause-err g c =
    err_so c.write_enough.result c.write_enough.ensures.err
    (λ f text before h. f (text ++ line_bytes (line.Event c.args.event.now)) before
    (more_kept text before (g.O.Sink.held c.args.out.now) (Some c.args.kept.now.bytes.items) (Some c.put_event.new.sink.bytes.items) (line_bytes (line.Event c.args.event.now)) h c.in_ok-put_event.ensures.ok))
