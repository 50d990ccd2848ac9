use Rattle.std.proofs.Common.{refl}
use Rattle.w_syntax.specs.declared.instructions.Instr.TheVariants as flat
use Rattle.w_vplain.specs.Prefixes.{follow}
use Rattle.w_vplain.proofs.CallsAnswered.{answers_packed}
use Rattle.w_vplain.proofs.checker.Checker.end.Goals as goal

pub returns-clause-answers : goal.returns-clause-answers
returns-clause-answers c = answers_packed c.call.result c.args.self.now c.call.new.self _ (follow flat.End) c.call.ensures.steps c.call.ensures.body refl (λ w. refl)
