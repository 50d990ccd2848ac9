use Rattle.s_lex.proofs.BytesIntoTokens as cutting
use Rattle.s_lex.proofs.laws.one_lexing.Goals as goal

pub returns : goal.returns
returns c = record { one = λ bytes r s h k. cutting.one_lexing h k }
