use Rattle.std.proofs.Common.{◌∙◌, ◌+◌, sym, subst, arith}
use Rattle.w_outside.specs.Outside.{Known, Rose}
use Rattle.intake.specs.Reading.{MayBe, ModuleFileRefusal}
use Rattle.replies.proofs.Refusals.{refuses_as}
use Rattle.drive.specs.Linking.{AreRefused, ReadTo, names_of}
use Rattle.drive.proofs.FilesRead.{next_name, no_more_names, read_more, read_all, refused_at, refused_by, failed_later}
use Rattle.drive.proofs.linking.read_modules.Goals as goal

pub returns-in_err-checked-clause-refused : goal.returns-in_err-checked-clause-refused
returns-in_err-checked-clause-refused g c =
    let names = names_of c.args.names.now in
    let files = g.F.Inputs.file c.args.files.now in
    let faults = g.F.Inputs.faults in
    let i = c.loop-name.name-index in
    let failed = Rose (faults c.loop-name.files) (faults c.read_module.new.files) in
    let at = next_name c.args.names.now i _ c.loop-name-test.true in
    let stop = c.in_err-checked.field-0.0 in
    refused_by (AreRefused names files (Rose (faults c.args.files.now) (faults c.read_module.new.files))) c.from_residual.result stop c.from_residual.ensures.1
    (refuses_as {Due' = AreRefused names files (Rose (faults c.args.files.now) (faults c.read_module.new.files))}
    (λ r h. failed_later names files (faults c.args.files.now) (faults c.loop-name.files) (faults c.read_module.new.files) c.loop-name.invariant.later r
    (refused_at names files i c.len.result _ c.loop-name.modules.items failed (omega (arith, c.len.ensures)) at c.loop-name.invariant.read r
    (subst (λ (known : Known). ModuleFileRefusal c.len.result known failed r) (c.loop-name.invariant.names _) h)))
    stop c.in_err-checked.ensures.refused)

pub loop-name-preserved : goal.loop-name-preserved
loop-name-preserved g c =
    let names = names_of c.args.names.now in
    let files = g.F.Inputs.file c.args.files.now in
    let i = c.loop-name.name-index in
    let ms = c.loop-name.modules.items in
    let m = c.in_ok-checked.checked in
    let at = next_name c.args.names.now i _ c.loop-name-test.true in
    let is = subst (λ (known : Known). MayBe known m) (c.loop-name.invariant.names _) c.in_ok-checked.ensures.read in
    record {
      read = subst (ReadTo names files (i + 1)) (sym c.in_ok-push_module.ensures) (read_more names files i _ ms m at c.loop-name.invariant.read is c.in_ok-checked.ensures.within c.in_ok-checked.ensures.valid);
      names = λ n. c.in_ok-checked.ensures.names n ∙ c.loop-name.invariant.names n;
      later = omega (arith, c.in_ok-checked.ensures.later, c.loop-name.invariant.later);
    }

pub returns-clause-read : goal.returns-clause-read
returns-clause-read g c =
    read_all (names_of c.args.names.now) (g.F.Inputs.file c.args.files.now) c.loop-name.name-index c.loop-name.modules.items
    (no_more_names c.args.names.now c.loop-name.name-index (omega (arith, c.loop-name-test.false))) c.loop-name.invariant.read
