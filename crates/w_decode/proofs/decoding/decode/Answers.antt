use Rattle.w_decode.proofs.AnswersOfDecode.{ok_means, err_means, only_ok, only_err}
use Rattle.w_decode.proofs.decoding.decode.Goals as goal

pub returns-clause-ok : goal.returns-clause-ok
returns-clause-ok c = ok_means c.args.bytes.now c.decode_whole.result c.decode_whole.ensures

pub returns-clause-err : goal.returns-clause-err
returns-clause-err c = err_means c.args.bytes.now c.decode_whole.result c.decode_whole.ensures

pub returns-clause-only_ok : goal.returns-clause-only_ok
returns-clause-only_ok c = only_ok c.args.bytes.now c.decode_whole.result c.decode_whole.ensures

pub returns-clause-only_err : goal.returns-clause-only_err
returns-clause-only_err c = only_err c.args.bytes.now c.decode_whole.result c.decode_whole.ensures
