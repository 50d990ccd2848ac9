use Rattle.std.proofs.Common.{inl}
use Rattle.w_outside.specs.Outside.{Grew, Rose}
use Rattle.replies.specs.Answer.{ActionGives, OnBytes}
use Rattle.runs.proofs.Replies.{leaves_ends, delivered, rose_first, rose_either}
use Rattle.drive.proofs.in_memory.respond_to_bytes.Goals as goal

pub deliver-requires : goal.deliver-requires
deliver-requires g c =
    leaves_ends (OnBytes (ActionGives c.args.action) c.args.bytes.now)
    c.answer_to_bytes-left.result (Grew (g.O.Sink.held c.args.out.now) (g.O.Sink.held c.answer_to_bytes-left.new.out)) (Rose (g.O.Sink.faults c.args.out.now) (g.O.Sink.faults c.answer_to_bytes-left.new.out)) c.answer_to_bytes-left.ensures.leaves

pub returns-clause-replies : goal.returns-clause-replies
returns-clause-replies g c =
    delivered (OnBytes (ActionGives c.args.action) c.args.bytes.now)
    (g.O.Sink.held c.args.out.now) (g.O.Sink.held c.answer_to_bytes-left.new.out) (g.O.Sink.held c.deliver.new.out) (Grew (g.E.Sink.held c.args.err.now) (g.E.Sink.held c.deliver.new.err))
    (λ h. inl (rose_first (g.O.Sink.faults c.args.out.now) (g.O.Sink.faults c.answer_to_bytes-left.new.out) (g.O.Sink.faults c.deliver.new.out) c.deliver.ensures.later.0 h))
    (rose_either (g.O.Sink.faults c.args.out.now) (g.O.Sink.faults c.answer_to_bytes-left.new.out) (g.O.Sink.faults c.deliver.new.out) c.answer_to_bytes-left.ensures.later)
    c.answer_to_bytes-left.result c.deliver.result c.answer_to_bytes-left.ensures.leaves c.deliver.ensures.delivers
