use Rattle.w_decode.proofs.AnswersOfDecode.{ok_means, err_means, only_ok, only_err}
use Rattle.w_decode.proofs.pieces.Decoder.finish.Goals as goal

pub returns-clause-ok : goal.returns-clause-ok
returns-clause-ok c = λ b h. ok_means b c.finish_exactly.result (c.finish_exactly.ensures.gives b h)

pub returns-clause-err : goal.returns-clause-err
returns-clause-err c = λ b h. err_means b c.finish_exactly.result (c.finish_exactly.ensures.gives b h)

pub returns-clause-only_ok : goal.returns-clause-only_ok
returns-clause-only_ok c = λ b m h. only_ok b c.finish_exactly.result (c.finish_exactly.ensures.gives b h) m

pub returns-clause-only_err : goal.returns-clause-only_err
returns-clause-only_err c = λ b e h. only_err b c.finish_exactly.result (c.finish_exactly.ensures.gives b h) e
