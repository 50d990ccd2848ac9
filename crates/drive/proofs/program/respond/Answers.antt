use Rattle.std.proofs.Common.{inl, map}
use Rattle.std.specs.Prelude.{string_bytes}
use Rattle.w_outside.specs.Outside.{Grew, Rose}
use Rattle.words.specs.Line.{line_of}
use Rattle.replies.specs.Answer.{Answer}
use Rattle.runs.specs.Delivery.{MayFail}
use Rattle.runs.proofs.Replies.{leaves_ends, delivered, rose_first, rose_either}
use Rattle.drive.proofs.program.respond.Goals as goal

pub deliver-requires : goal.deliver-requires
deliver-requires g c =
    leaves_ends (MayFail (Rose (g.F.Inputs.faults c.args.files.now) (g.F.Inputs.faults c.answer-left.new.files)) (Answer (line_of (map string_bytes c.args.words.now)) (g.F.Inputs.file c.args.files.now)))
    c.answer-left.result (Grew (g.O.Sink.held c.args.out.now) (g.O.Sink.held c.answer-left.new.out)) (Rose (g.O.Sink.faults c.args.out.now) (g.O.Sink.faults c.answer-left.new.out)) c.answer-left.ensures.leaves

pub returns-clause-replies : goal.returns-clause-replies
returns-clause-replies g c =
    delivered (MayFail (Rose (g.F.Inputs.faults c.args.files.now) (g.F.Inputs.faults c.answer-left.new.files)) (Answer (line_of (map string_bytes c.args.words.now)) (g.F.Inputs.file c.args.files.now)))
    (g.O.Sink.held c.args.out.now) (g.O.Sink.held c.answer-left.new.out) (g.O.Sink.held c.deliver.new.out) (Grew (g.E.Sink.held c.args.err.now) (g.E.Sink.held c.deliver.new.err))
    (λ h. inl (rose_first (g.O.Sink.faults c.args.out.now) (g.O.Sink.faults c.answer-left.new.out) (g.O.Sink.faults c.deliver.new.out) c.deliver.ensures.later.0 h))
    (rose_either (g.O.Sink.faults c.args.out.now) (g.O.Sink.faults c.answer-left.new.out) (g.O.Sink.faults c.deliver.new.out) c.answer-left.ensures.later.1)
    c.answer-left.result c.deliver.result c.answer-left.ensures.leaves c.deliver.ensures.delivers
