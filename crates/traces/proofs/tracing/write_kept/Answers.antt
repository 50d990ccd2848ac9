use Rattle.std.proofs.Common.{Some}
use Rattle.replies.proofs.TextInPieces.{on_err}
use Rattle.traces.proofs.TracesWritten.{front_written}
use Rattle.traces.proofs.tracing.write_kept.Goals as goal

pub returns-in_err-put-clause-err : goal.returns-in_err-put-clause-err
returns-in_err-put-clause-err g c =
    on_err c.from_residual.result
    (λ text before h. front_written text before (g.O.Sink.held c.args.out.now) (g.O.Sink.held c.put.new.sink) (Some c.args.kept.now.bytes.items) c.held.result.now c.held.ensures h c.in_err-put.ensures.err)
