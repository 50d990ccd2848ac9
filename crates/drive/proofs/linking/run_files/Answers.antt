use Rattle.std.proofs.Common.{inl, arith}
use Rattle.w_outside.specs.Outside.{Grew, Rose}
use Rattle.replies.proofs.Refusals.{refuses_as}
use Rattle.replies.specs.Answer.{NamesGive}
use Rattle.runs.specs.Delivery.{MayFail}
use Rattle.drive.specs.Linking.{AreRefused, names_of}
use Rattle.drive.proofs.FilesRead.{few_names, many_names}
use Rattle.runs.proofs.Replies.{leaves_as, refusal_left, stop_left}
use Rattle.drive.proofs.linking.run_files.Goals as goal

pub returns-then-names-gt-MOST_FILES-clause-leaves : goal.returns-then-names-gt-MOST_FILES-clause-leaves
returns-then-names-gt-MOST_FILES-clause-leaves g c =
    let files = g.F.Inputs.file c.args.files.now in
    let failed = Rose (g.F.Inputs.faults c.args.files.now) (g.F.Inputs.faults c.args.files.now) in
    refusal_left (MayFail failed (NamesGive c.args.steps c.args.stats (names_of c.args.names.now) files)) (g.O.Sink.held c.args.out.now)
    (Rose (g.O.Sink.faults c.args.out.now) (g.O.Sink.faults c.args.out.now)) c.refuse.result
    (refuses_as {Due' = MayFail failed (NamesGive c.args.steps c.args.stats (names_of c.args.names.now) files)}
    (many_names c.args.names.now files failed c.args.steps c.args.stats (omega (arith, c.if-names-gt-MOST_FILES.true))) c.refuse.result c.refuse.ensures)

pub returns-in_err-modules-clause-leaves : goal.returns-in_err-modules-clause-leaves
returns-in_err-modules-clause-leaves g c =
    let files = g.F.Inputs.file c.args.files.now in
    let failed = Rose (g.F.Inputs.faults c.args.files.now) (g.F.Inputs.faults c.read_modules.new.files) in
    let stop = c.in_err-modules.field-0.0 in
    stop_left (MayFail failed (NamesGive c.args.steps c.args.stats (names_of c.args.names.now) files)) (g.O.Sink.held c.args.out.now)
    (Rose (g.O.Sink.faults c.args.out.now) (g.O.Sink.faults c.args.out.now)) c.from_residual.result stop c.from_residual.ensures.1
    (refuses_as {Due = AreRefused (names_of c.args.names.now) files failed} {Due' = MayFail failed (NamesGive c.args.steps c.args.stats (names_of c.args.names.now) files)}
    (λ r h. few_names c.args.names.now files failed c.args.steps c.args.stats (omega (arith, c.if-names-gt-MOST_FILES.false)) r (h c.args.steps c.args.stats)) stop c.in_err-modules.ensures.refused)

pub returns-clause-leaves : goal.returns-clause-leaves
returns-clause-leaves g c =
    let files = g.F.Inputs.file c.args.files.now in
    let failed = Rose (g.F.Inputs.faults c.args.files.now) (g.F.Inputs.faults c.read_modules.new.files) in
    leaves_as {Due' = MayFail failed (NamesGive c.args.steps c.args.stats (names_of c.args.names.now) files)}
    (λ r h. few_names c.args.names.now files failed c.args.steps c.args.stats (omega (arith, c.if-names-gt-MOST_FILES.false)) r (inl (c.in_ok-modules.ensures.read c.args.steps c.args.stats r h)))
    (Grew (g.O.Sink.held c.args.out.now) (g.O.Sink.held c.run_linked.new.out)) (Rose (g.O.Sink.faults c.args.out.now) (g.O.Sink.faults c.run_linked.new.out)) c.run_linked.result c.run_linked.ensures.leaves
