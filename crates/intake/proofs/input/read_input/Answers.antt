use Rattle.std.proofs.Common.{Bool, Ok, subst}
use Rattle.w_outside.specs.Outside.{OpenLeaves}
use Rattle.intake.specs.declared.intake.Input.{Input}
use Rattle.intake.proofs.FilesTakenIn.{begun}
use Rattle.intake.proofs.LongFiles.{part_of_fault}
use Rattle.intake.proofs.input.read_input.Goals as goal

pub returns-in_ok-end-in-Ok-clause-bytes : goal.returns-in_ok-end-in-Ok-clause-bytes
returns-in_ok-end-in-Ok-clause-bytes g c =
    let known = g.F.Inputs.file c.args.files.now c.args.name.now in
    let left = g.F.Inputs.left c.open.new.self in
    let opens = subst (λ (b : Bool). OpenLeaves known left (Ok b)) c.if-not-branch.false c.in_ok-open.ensures.leaves in
    let read = c.in-Ok.ensures.bytes known (begun known left c.args.takes c.new-intake.result opens (c.new-intake.ensures c.args.takes)) in
    (read.0, read.1, read.2, c.in_ok-end-in-Ok.ensures read.0 read.3)

pub returns-in-Err-clause-part : goal.returns-in-Err-clause-part
returns-in-Err-clause-part g c =
    let known = g.F.Inputs.file c.args.files.now c.args.name.now in
    let left = g.F.Inputs.left c.open.new.self in
    let opens = subst (λ (b : Bool). OpenLeaves known left (Ok b)) c.if-not-branch.false c.in_ok-open.ensures.leaves in
    part_of_fault (Unit {0}) Input known (g.F.Inputs.left c.read_all.new.files) c.in-Err.fault (c.in-Err.ensures.part known (begun known left c.args.takes c.new-intake.result opens (c.new-intake.ensures c.args.takes)))
