use Rattle.std.proofs.Common.{◌∙◌, Bool, false, refl, sym, ap, subst}
use Rattle.w_segment.specs.Link.{with_top}
use Rattle.w_segment.specs.Shape.{Shape}
use Rattle.w_stands.specs.Code.{instrs}
use Rattle.w_plain.specs.declared.progress.Progress.{Progress}
use Rattle.w_configuration.specs.Parts.{parts}
use Rattle.w_configuration.specs.declared.hastened.Hastened.{Hastened}
use Rattle.w_configuration.specs.CommonReductions.{HastensParts, RunsInBody}
use Rattle.w_configuration.proofs.CommonReductions.{body_of, ends_called, ends_left, ends_moved, ends_on, hastens_one, long_there, many_there, run_there, stands_there, top_of}
use Rattle.w_configuration.proofs.common.go_on_in_body.Goals as goal

pub switch_there-requires-clause-stands : goal.switch_there-requires-clause-stands
switch_there-requires-clause-stands c =
    let run = run_there c.args.program.known.runnable_is c.args.configuration.now c.stack_mut.result.now c.stack_mut.ensures.value c.requires.stands c.run_in_body-taken.result.1 c.run_in_body-taken.result.0
    c.run_in_body-taken.new.store c.run_in_body-taken.new.stack c.run_in_body-taken.ensures.runs in
    stands_there c.run_in_body-taken.result.1 c.in-NotAttempted.is run

pub switch_there-requires-clause-body : goal.switch_there-requires-clause-body
switch_there-requires-clause-body c =
    let stays = c.run_in_body-taken.ensures.stays c.in-NotAttempted.is in
    body_of c.run_in_body-taken.new.stack c.args.configuration.now.chain (long_there c.requires.stands) (stays.1 ∙ ap (λ (s : Shape). s.stage) c.stack_mut.ensures.value ∙ c.requires.body)

pub switch_there-requires-clause-code : goal.switch_there-requires-clause-code
switch_there-requires-clause-code c =
    let stays = c.run_in_body-taken.ensures.stays c.in-NotAttempted.is in
    let same = ap (λ (s : Shape). s.func) (top_of c.run_in_body-taken.new.stack c.args.configuration.now.chain (long_there c.requires.stands)) ∙ stays.0 ∙ ap (λ (s : Shape). s.func) c.stack_mut.ensures.value in
    c.requires.code ∙ ap (instrs c.args.program.source.now) (sym same)

pub returns-in-Went-clause-hastens : goal.returns-in-Went-clause-hastens
returns-in-Went-clause-hastens c =
    let run = run_there c.args.program.known.runnable_is c.args.configuration.now c.stack_mut.result.now c.stack_mut.ensures.value c.requires.stands c.run_in_body-taken.result.1 c.run_in_body-taken.result.0
    c.run_in_body-taken.new.store c.run_in_body-taken.new.stack c.run_in_body-taken.ensures.runs in
    ends_on c.args.quiet c.run_in_body-taken.result.0 c.args.most
    (subst (λ (a : Progress). RunsInBody a c.run_in_body-taken.result.0 c.args.program.source.now c.args.configuration.now (parts c.run_in_body-taken.new.store (with_top c.run_in_body-taken.new.stack c.args.configuration.now.chain) c.args.configuration.now.conts)) c.in-Went.is run)

pub returns-in-Moved-clause-hastens : goal.returns-in-Moved-clause-hastens
returns-in-Moved-clause-hastens c =
    let run = run_there c.args.program.known.runnable_is c.args.configuration.now c.stack_mut.result.now c.stack_mut.ensures.value c.requires.stands c.run_in_body-taken.result.1 c.run_in_body-taken.result.0
    c.run_in_body-taken.new.store c.run_in_body-taken.new.stack c.run_in_body-taken.ensures.runs in
    ends_moved c.args.quiet c.run_in_body-taken.result.0 c.args.most
    (subst (λ (a : Progress). RunsInBody a c.run_in_body-taken.result.0 c.args.program.source.now c.args.configuration.now (parts c.run_in_body-taken.new.store (with_top c.run_in_body-taken.new.stack c.args.configuration.now.chain) c.args.configuration.now.conts)) c.in-Moved.is run)

pub returns-in-Entered-clause-hastens : goal.returns-in-Entered-clause-hastens
returns-in-Entered-clause-hastens c =
    let run = run_there c.args.program.known.runnable_is c.args.configuration.now c.stack_mut.result.now c.stack_mut.ensures.value c.requires.stands c.run_in_body-taken.result.1 c.run_in_body-taken.result.0
    c.run_in_body-taken.new.store c.run_in_body-taken.new.stack c.run_in_body-taken.ensures.runs in
    let after = parts c.run_in_body-taken.new.store (with_top c.run_in_body-taken.new.stack c.args.configuration.now.chain) c.args.configuration.now.conts in
    subst (λ (done : Hastened). HastensParts c.args.quiet done c.args.program.source.now c.args.configuration.now after) (sym c.within_frames.ensures)
    (ends_called c.args.quiet c.run_in_body-taken.result.0 c.args.most (subst (λ (a : Progress). RunsInBody a c.run_in_body-taken.result.0 c.args.program.source.now c.args.configuration.now after) c.in-Entered.is run) _ refl)

pub returns-in-NotAttempted-clause-hastens : goal.returns-in-NotAttempted-clause-hastens
returns-in-NotAttempted-clause-hastens c =
    let run = run_there c.args.program.known.runnable_is c.args.configuration.now c.stack_mut.result.now c.stack_mut.ensures.value c.requires.stands c.run_in_body-taken.result.1 c.run_in_body-taken.result.0
    c.run_in_body-taken.new.store c.run_in_body-taken.new.stack c.run_in_body-taken.ensures.runs in
    subst (λ (quiet : Bool). HastensParts quiet c.switch_there.result c.args.program.source.now c.args.configuration.now c.switch_there.new.configuration) (sym c.if-not-quiet.true)
    (hastens_one {quiet = false} c.run_in_body-taken.result.0 c.switch_there.result.taken c.switch_there.result.then (many_there c.run_in_body-taken.result.1 c.in-NotAttempted.is run false) c.switch_there.ensures)

pub returns-in-Trapped-clause-hastens : goal.returns-in-Trapped-clause-hastens
returns-in-Trapped-clause-hastens c =
    let run = run_there c.args.program.known.runnable_is c.args.configuration.now c.stack_mut.result.now c.stack_mut.ensures.value c.requires.stands c.run_in_body-taken.result.1 c.run_in_body-taken.result.0
    c.run_in_body-taken.new.store c.run_in_body-taken.new.stack c.run_in_body-taken.ensures.runs in
    ends_left c.args.quiet c.run_in_body-taken.result.0 c.args.most c.run_in_body-taken.result.1 c.in-Trapped.is run

pub returns-in-Trapped-2-clause-hastens : goal.returns-in-Trapped-2-clause-hastens
returns-in-Trapped-2-clause-hastens c =
    let run = run_there c.args.program.known.runnable_is c.args.configuration.now c.stack_mut.result.now c.stack_mut.ensures.value c.requires.stands c.run_in_body-taken.result.1 c.run_in_body-taken.result.0
    c.run_in_body-taken.new.store c.run_in_body-taken.new.stack c.run_in_body-taken.ensures.runs in
    ends_left c.args.quiet c.run_in_body-taken.result.0 c.args.most c.run_in_body-taken.result.1 c.in-Trapped.is run
