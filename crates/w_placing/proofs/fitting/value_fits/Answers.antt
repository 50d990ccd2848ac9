use Rattle.w_placing.proofs.ByClasses.{const_fits}
use Rattle.w_placing.proofs.fitting.value_fits.Goals as goal

pub returns-in-Const-Const : goal.returns-in-Const-Const
returns-in-Const-Const c = λ gs is. const_fits gs c.args.classes.now is c.args.wanted c.args.mutability c.args.kind c.args.actual c.matches_val.result c.in-Const-Const.is-0 c.in-Const-Const.is-1 c.matches_val.ensures.computed
