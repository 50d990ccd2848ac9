use Rattle.std.proofs.Common.{◌∙◌, [], false, Bool, sym, ap, refl, subst}
use Rattle.w_segment.specs.Link.{with_top}
use Rattle.w_segment.specs.Shape.{Shape}
use Rattle.w_stands.specs.declared.did.Did.TheVariants as did
use Rattle.w_plain.specs.Meets.{Applies}
use Rattle.w_plain.specs.Stepped.{Takes}
use Rattle.w_configuration.specs.Parts.{parts}
use Rattle.w_configuration.specs.declared.hastened.Hastened.{Hastened}
use Rattle.w_configuration.specs.CommonReductions.{AttemptsOne}
use Rattle.w_configuration.proofs.PartsOfRuns.{known_sound}
use Rattle.w_configuration.proofs.CommonReductions.{applies_at_branch, attempts_within, branch_taken, in_run_in_branch}
use Rattle.w_configuration.proofs.common.go_on_elsewhere.Goals as goal

pub branch_of_suspend-requires-clause-applies : goal.branch_of_suspend-requires-clause-applies
branch_of_suspend-requires-clause-applies c =
    let sound = known_sound c.args.program.known c.module-module.ensures.sound in
    let left = ap (λ (s : Shape). s.stage) (sym c.stack.ensures.value) ∙ sym c.stage.ensures.value ∙ c.in-Branch.is in
    subst (λ (s : Shape). Applies c.args.program.source.now c.args.configuration.now.store s) (sym c.stack_mut-stack.ensures.value)
    (applies_at_branch c.args.configuration.now sound left (c.requires.stands (in_run_in_branch c.args.configuration.now sound left)))

pub returns-in-Branch : goal.returns-in-Branch
returns-in-Branch c =
    let m = c.args.program.source.now in
    let x = c.args.configuration.now in
    let sound = known_sound c.args.program.known c.module-module.ensures.sound in
    let left = ap (λ (s : Shape). s.stage) (sym c.stack.ensures.value) ∙ sym c.stage.ensures.value ∙ c.in-Branch.is in
    let u = c.branch_of_suspend.new.store in
    let s = c.branch_of_suspend.new.stack in
    let takes = subst (λ (y : Shape). Takes did.Went m [] x.store y u s) c.stack_mut-stack.ensures.value c.branch_of_suspend.ensures.step in
    let after = parts u (with_top s x.chain) x.conts in
    let one = attempts_within {m = m} {x = x} {x' = after} _ 0 refl (branch_taken x sound left u s _ refl takes) in
    subst (λ (quiet : Bool). AttemptsOne c.within_frames.result.then quiet 0 c.within_frames.result.taken m x after) (sym c.if-not-quiet.true)
    (subst (λ (done : Hastened). AttemptsOne done.then false 0 done.taken m x after) (sym c.within_frames.ensures) one)
