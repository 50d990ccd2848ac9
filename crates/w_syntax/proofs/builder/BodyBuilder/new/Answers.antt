use Rattle.w_syntax.proofs.Whole.{starts}
use Rattle.w_syntax.proofs.builder.BodyBuilder.new.Goals as goal

pub returns : goal.returns
returns c = starts _ c.in_ok-code.ensures.items c.new.ensures.items
