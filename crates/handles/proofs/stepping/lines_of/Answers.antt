use Rattle.replies.specs.Pieces.{joined}
use Rattle.handles.proofs.ResultLines.{has_lines, if_made}
use Rattle.handles.proofs.stepping.lines_of.Goals as goal

pub returns : goal.returns
returns c =
    if_made c.args.run.now.machine c.result_lines.result (λ lines is. has_lines c.args.run.now.machine c.results.result.now (joined lines.items) is c.results.ensures.ended c.results.ensures.none) c.result_lines.ensures
