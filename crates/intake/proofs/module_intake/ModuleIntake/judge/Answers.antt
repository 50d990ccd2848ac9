use Rattle.intake.proofs.ModulesInPieces.{answers_for}
use Rattle.replies.proofs.Refusals.{refuses_as, malformed_due}
use Rattle.intake.proofs.module_intake.ModuleIntake.judge.Goals as goal

pub accept_rest-requires : goal.accept_rest-requires
accept_rest-requires c =
    let b = c.requires.0 in
    let h = c.requires.1 in
    answers_for c.args.self.decoder c.args.self.gradual b c.in-Ok.candidate h (c.in-Ok.ensures.ok b h.decoder)

pub returns-in-Err : goal.returns-in-Err
returns-in-Err c = record {
  spelled = λ b h. tt;
  within = tt;
  valid = tt;
  refused = λ b h. refuses_as (malformed_due b c.in-Err.fault (c.in-Err.ensures.err b h.decoder)) c.malformed_refusal.result c.malformed_refusal.ensures;
}
