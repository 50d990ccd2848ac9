use Rattle.std.proofs.Common.{[], arith}
use Rattle.w_outside.specs.Outside.{Grew, Rose, holds}
use Rattle.replies.proofs.Refusals.{refuses_as}
use Rattle.replies.specs.Answer.{FilesGive, NamesGive}
use Rattle.runs.proofs.Replies.{leaves_as, refusal_left, stop_left}
use Rattle.drive.specs.Linking.{AreRefused}
use Rattle.handing.specs.Files.{files_of}
use Rattle.handing.proofs.FilesInBytes.{few_files, many_files, sure}
use Rattle.handing.proofs.links.link_files.Goals as goal

pub returns-then-lengths-gt-MOST_FILES-clause-leaves : goal.returns-then-lengths-gt-MOST_FILES-clause-leaves
returns-then-lengths-gt-MOST_FILES-clause-leaves g c =
    let ns = c.args.lengths.now in
    let bytes = c.args.bytes.now in
    let Due = NamesGive c.args.steps c.args.stats (files_of ns bytes) holds in
    refusal_left Due (g.O.Sink.held c.args.out.now) (Rose (g.O.Sink.faults c.args.out.now) (g.O.Sink.faults c.args.out.now)) c.refuse.result
    (refuses_as {Due' = Due} (λ r h. many_files ns bytes c.args.steps c.args.stats r (omega (arith, c.if-lengths-gt-MOST_FILES.true)) h) c.refuse.result c.refuse.ensures)

pub returns-in_err-modules-clause-leaves : goal.returns-in_err-modules-clause-leaves
returns-in_err-modules-clause-leaves g c =
    let ns = c.args.lengths.now in
    let bytes = c.args.bytes.now in
    let Due = NamesGive c.args.steps c.args.stats (files_of ns bytes) holds in
    let stop = c.in_err-modules.field-0.0 in
    stop_left Due (g.O.Sink.held c.args.out.now) (Rose (g.O.Sink.faults c.args.out.now) (g.O.Sink.faults c.args.out.now)) c.from_residual.result stop c.from_residual.ensures.1
    (refuses_as {Due = AreRefused (files_of ns bytes) holds ⊥} {Due' = Due}
    (λ r h. few_files ns bytes c.args.steps c.args.stats r (omega (arith, c.if-lengths-gt-MOST_FILES.false)) (sure (FilesGive c.args.steps c.args.stats [] (files_of ns bytes) holds) r (h c.args.steps c.args.stats))) stop c.in_err-modules.ensures.refused)

pub returns-clause-leaves : goal.returns-clause-leaves
returns-clause-leaves g c =
    let ns = c.args.lengths.now in
    let bytes = c.args.bytes.now in
    leaves_as {Due' = NamesGive c.args.steps c.args.stats (files_of ns bytes) holds}
    (λ r h. few_files ns bytes c.args.steps c.args.stats r (omega (arith, c.if-lengths-gt-MOST_FILES.false)) (c.in_ok-modules.ensures.read c.args.steps c.args.stats r h))
    (Grew (g.O.Sink.held c.args.out.now) (g.O.Sink.held c.run_linked.new.out)) (Rose (g.O.Sink.faults c.args.out.now) (g.O.Sink.faults c.run_linked.new.out)) c.run_linked.result c.run_linked.ensures.leaves
