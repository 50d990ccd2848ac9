use Rattle.std.proofs.Common.{◌∙◌, ap, sym}
use Rattle.w_segment.specs.Shape.{Shape}
use Rattle.w_configuration.specs.CommonReductions.{nothing}
use Rattle.w_configuration.proofs.CommonReductions.{hastens_one, in_run_in_body, one_at_most}
use Rattle.w_configuration.proofs.common.go_on.Goals as goal

pub go_on_in_body-requires-clause-stands : goal.go_on_in_body-requires-clause-stands
go_on_in_body-requires-clause-stands c =
    let body = ap (λ (s : Shape). s.stage) (sym c.stack.ensures.value) ∙ sym c.stage.ensures.value ∙ c.in-Body.is in
    c.requires.stands (in_run_in_body c.args.configuration.now.chain body)

pub returns-in_default : goal.returns-in_default
returns-in_default c = record {
  hastens = hastens_one 0 c.go_on_elsewhere.result.taken c.go_on_elsewhere.result.then nothing c.go_on_elsewhere.ensures;
  most = one_at_most c.args.quiet c.args.program.source.now c.args.configuration.now c.go_on_elsewhere.new.configuration c.go_on_elsewhere.result.taken c.args.most c.go_on_elsewhere.result.then c.requires.more c.go_on_elsewhere.ensures;
}
