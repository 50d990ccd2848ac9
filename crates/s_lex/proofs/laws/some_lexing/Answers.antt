use Rattle.std.proofs.Common.{refl}
use Rattle.s_lex.proofs.SomeWay.{lexed, no_want}
use Rattle.s_lex.proofs.laws.some_lexing.Goals as goal

pub returns : goal.returns
returns c = record { some = λ bytes. lexed bytes; memory = λ bytes h. no_want h refl }
