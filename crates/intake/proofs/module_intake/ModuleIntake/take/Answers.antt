use Rattle.std.proofs.Common.{◌++◌}
use Rattle.std.proofs.lemmas.Result.{on_ok_weaker}
use Rattle.intake.proofs.ModulesInPieces.{piece_more}
use Rattle.intake.proofs.module_intake.ModuleIntake.take.Goals as goal

pub returns-in-Ok : goal.returns-in-Ok
returns-in-Ok c =
    let old = c.args.self.now in
    let x = c.args.piece.now in
    on_ok_weaker c.judge_bodies.result (λ more b h. more (b ++ x) (piece_more old.decoder c.feed.new.self old.gradual b x h (c.in-Ok.ensures.stands b h.decoder))) c.judge_bodies.ensures

pub returns-in-Err : goal.returns-in-Err
returns-in-Err c = λ b h. piece_more c.args.self.now.decoder c.feed.new.self c.args.self.now.gradual b c.args.piece.now h (c.in-Err.ensures.stands b h.decoder)
