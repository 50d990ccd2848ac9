use Rattle.w_types.specs.declared.types.CompType.TheVariants as comp
use Rattle.w_canon.proofs.MatchingTests.{comp_decided}
use Rattle.w_canon.proofs.classes.Classes.matches_comp.Goals as goal

pub returns-in-Func-Func-clause-related : goal.returns-in-Func-Func-clause-related
returns-in-Func-Func-clause-related c = λ gs h.
    rw (c.in-Func-Func.is-0) (rw (c.in-Func-Func.is-1) (rw (c.matches_func.ensures.computed)
    (comp_decided gs c.args.self.now h (comp.Func c.in-Func-Func.one) (comp.Func c.in-Func-Func.other))))

pub returns-in-Cont-Cont-clause-related : goal.returns-in-Cont-Cont-clause-related
returns-in-Cont-Cont-clause-related c = λ gs h.
    rw (c.in-Cont-Cont.is-0) (rw (c.in-Cont-Cont.is-1) (rw (c.matches_index.ensures.computed)
    (comp_decided gs c.args.self.now h (comp.Cont c.in-Cont-Cont.one) (comp.Cont c.in-Cont-Cont.other))))
