use Rattle.std.proofs.Common.{ap, ◌∙◌}
use Rattle.w_syntax.specs.Packed.{unpacked_all}
use Rattle.w_syntax.proofs.Whole.{flat_is, tree_is}
use Rattle.w_syntax.proofs.builder.BodyBuilder.into_body.Goals as goal

pub new-requires : goal.new-requires
new-requires c = flat_is c.requires.0 _ (ap unpacked_all c.in_ok-code.ensures ∙ c.requires.1.code)

pub returns : goal.returns
returns c = λ d h. c.new.ensures ∙ tree_is d _ (ap unpacked_all c.in_ok-code.ensures ∙ h.code)
