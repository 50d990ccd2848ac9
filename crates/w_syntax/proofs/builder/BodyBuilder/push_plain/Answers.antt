use Rattle.std.proofs.Common.{[], ◌∷◌, ◌++◌, ap, ◌∙◌}
use Rattle.w_syntax.specs.declared.instructions.Instr.{Instr}
use Rattle.w_syntax.specs.Packed.{unpacked_all}
use Rattle.w_syntax.proofs.PackedLists.{unpacked_push}
use Rattle.w_syntax.proofs.Steps.{plain_laid}
use Rattle.w_syntax.proofs.builder.BodyBuilder.push_plain.Goals as goal

pub returns : goal.returns
returns c = λ p d o s e.
    let put = unpacked_push _ _ _ c.in_ok-push.ensures.items ∙ ap (λ (i : Instr). unpacked_all c.args.self.now.code.items ++ i ∷ []) e in
    record { code = put ∙ plain_laid p d o (unpacked_all c.args.self.now.code.items) s.code; opens = s.opens }
