use Rattle.std.proofs.Common.{[]}
use Rattle.w_stands.specs.declared.did.Did.TheVariants as did
use Rattle.w_plain.proofs.Steps.{takes_alone, takes_stack}
use Rattle.w_plain.proofs.values.reference.Goals as goal

pub returns-in-Null : goal.returns-in-Null
returns-in-Null c =
    record { step = takes_alone did.Went c.args.program.now c.args.store.now c.args.stack.now c.ref_null.new.stack c.ref_null.ensures.goes c.ref_null.ensures.keeps }

pub returns-in-IsNull : goal.returns-in-IsNull
returns-in-IsNull c =
    record { step = takes_alone did.Went c.args.program.now c.args.store.now c.args.stack.now c.ref_is_null.new.stack c.ref_is_null.ensures.goes c.ref_is_null.ensures.keeps }

pub returns-in-Func : goal.returns-in-Func
returns-in-Func c =
    record { step = takes_stack did.Went c.args.program.now [] c.args.store.now c.args.stack.now c.ref_func.new.stack c.ref_func.ensures.goes c.ref_func.ensures.keeps }

pub returns-in-AsNonNull : goal.returns-in-AsNonNull
returns-in-AsNonNull c =
    record { step = takes_alone c.ref_as_non_null.result c.args.program.now c.args.store.now c.args.stack.now c.ref_as_non_null.new.stack c.ref_as_non_null.ensures.goes c.ref_as_non_null.ensures.keeps }
