use Rattle.std.proofs.Common.{sym, ap, subst}
use Rattle.w_outside.specs.Outside.{Grew, Rose}
use Rattle.w_reduce.specs.Start.{first_term}
use Rattle.w_stands.specs.Values.{store_of}
use Rattle.w_machine.specs.Beginning.{Origin, Begins}
use Rattle.w_machine.specs.Position.{Position}
use Rattle.replies.specs.Answer.{LinkGives}
use Rattle.drive.proofs.LinkedRuns.{told_ok, begins, program, run_linked}
use Rattle.runs.proofs.Replies.{leaves_as, refusal_left}
use Rattle.drive.proofs.linking.run_linked.Goals as goal

pub returns-in_ok-machine-in-Ok-clause-leaves : goal.returns-in_ok-machine-in-Ok-clause-leaves
returns-in_ok-machine-in-Ok-clause-leaves g c =
    let ms = c.args.modules.items in
    let l = c.in-Ok.linked in
    let h = c.in-Ok.ensures in
    let t = told_ok ms l h.links in
    let same = ap (λ (q : Position). q.origin) c.in_ok-machine-in-Ok.ensures in
    leaves_as (run_linked ms l t c.args.steps c.args.stats)
    (Grew (g.O.Sink.held c.args.out.now) (g.O.Sink.held c.run_from.new.out)) (Rose (g.O.Sink.faults c.args.out.now) (g.O.Sink.faults c.run_from.new.out)) c.run_from.result
    (c.run_from.ensures.leaves (program ms l t) (store_of l.store) (first_term l.starts.items l.main)
    (subst (λ (n : Origin). Begins n (program ms l t) (store_of l.store) (first_term l.starts.items l.main)) (sym same) (begins ms l t h.types h.begins)))

pub returns-in-Err-clause-leaves : goal.returns-in-Err-clause-leaves
returns-in-Err-clause-leaves g c =
    let ms = c.args.modules.items in
    refusal_left (LinkGives c.args.steps c.args.stats ms) (g.O.Sink.held c.args.out.now) (Rose (g.O.Sink.faults c.args.out.now) (g.O.Sink.faults c.args.out.now)) c.no_linked_run.result
    (c.no_linked_run.ensures ms c.args.steps c.args.stats c.in-Err.ensures.links)
