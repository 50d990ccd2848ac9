use Rattle.std.proofs.Common.{inl}
use Rattle.w_outside.specs.Outside.{Grew, Rose, holds}
use Rattle.replies.specs.Answer.{NamesGive}
use Rattle.runs.proofs.Replies.{leaves_ends, delivered, rose_first, rose_either}
use Rattle.handing.specs.Files.{files_of}
use Rattle.handing.proofs.links.respond.Goals as goal

pub deliver-requires : goal.deliver-requires
deliver-requires g c =
    leaves_ends (NamesGive c.args.steps c.args.stats (files_of c.args.lengths.now c.args.bytes.now) holds)
    c.link_files-answer.result (Grew (g.O.Sink.held c.args.out.now) (g.O.Sink.held c.link_files-answer.new.out)) (Rose (g.O.Sink.faults c.args.out.now) (g.O.Sink.faults c.link_files-answer.new.out)) c.link_files-answer.ensures.leaves

pub returns : goal.returns
returns g c =
    record {
      replies = delivered (NamesGive c.args.steps c.args.stats (files_of c.args.lengths.now c.args.bytes.now) holds)
          (g.O.Sink.held c.args.out.now) (g.O.Sink.held c.link_files-answer.new.out) (g.O.Sink.held c.deliver.new.out) (Grew (g.E.Sink.held c.args.err.now) (g.E.Sink.held c.deliver.new.err))
          (λ h. inl (rose_first (g.O.Sink.faults c.args.out.now) (g.O.Sink.faults c.link_files-answer.new.out) (g.O.Sink.faults c.deliver.new.out) c.deliver.ensures.later.0 h))
          (rose_either (g.O.Sink.faults c.args.out.now) (g.O.Sink.faults c.link_files-answer.new.out) (g.O.Sink.faults c.deliver.new.out) c.link_files-answer.ensures.later)
          c.link_files-answer.result c.deliver.result c.link_files-answer.ensures.leaves c.deliver.ensures.delivers;
    }
