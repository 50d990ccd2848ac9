use Rattle.std.proofs.Common.{◌≡◌, sym, subst}
use Rattle.w_outside.specs.Outside.{Grew, Rose}
use Rattle.words.specs.declared.request.Action.{Action}
use Rattle.replies.specs.Answer.{gives, ok_module, built, dumped}
use Rattle.runs.specs.Leaving.{Leaves}
use Rattle.runs.proofs.Replies.{all_left}
use Rattle.drive.proofs.finishing.finish.Goals as goal

pub returns-in-Check-clause-leaves : goal.returns-in-Check-clause-leaves
returns-in-Check-clause-leaves g c =
    let held = g.O.Sink.held c.args.out.now in
    let rose = Rose (g.O.Sink.faults c.args.out.now) (g.O.Sink.faults c.args.out.now) in
    subst (λ (a : Action). Leaves (gives a c.args.checked) c.confirm.result (Grew held held) rose) (sym c.in-Check.is)
    (all_left (λ reply. reply ≡ ok_module) held rose c.confirm.result c.confirm.ensures)

pub returns-in-Build-clause-leaves : goal.returns-in-Build-clause-leaves
returns-in-Build-clause-leaves g c =
    let held = g.O.Sink.held c.args.out.now in
    let rose = Rose (g.O.Sink.faults c.args.out.now) (g.O.Sink.faults c.args.out.now) in
    subst (λ (a : Action). Leaves (gives a c.args.checked) c.build_checked.result (Grew held held) rose) (sym c.in-Build.is)
    (all_left (λ reply. reply ≡ built c.args.checked) held rose c.build_checked.result c.build_checked.ensures)

pub returns-in-Dump-clause-leaves : goal.returns-in-Dump-clause-leaves
returns-in-Dump-clause-leaves g c =
    let held = g.O.Sink.held c.args.out.now in
    let rose = Rose (g.O.Sink.faults c.args.out.now) (g.O.Sink.faults c.args.out.now) in
    subst (λ (a : Action). Leaves (gives a c.args.checked) c.dump_checked.result (Grew held held) rose) (sym c.in-Dump.is)
    (all_left (λ reply. reply ≡ dumped c.args.checked) held rose c.dump_checked.result c.dump_checked.ensures)

pub returns-in-Assemble-clause-leaves : goal.returns-in-Assemble-clause-leaves
returns-in-Assemble-clause-leaves g c =
    let held = g.O.Sink.held c.args.out.now in
    let rose = Rose (g.O.Sink.faults c.args.out.now) (g.O.Sink.faults c.args.out.now) in
    subst (λ (a : Action). Leaves (gives a c.args.checked) c.build_checked-in-Assemble.result (Grew held held) rose) (sym c.in-Assemble.is)
    (all_left (λ reply. reply ≡ built c.args.checked) held rose c.build_checked-in-Assemble.result c.build_checked-in-Assemble.ensures)
