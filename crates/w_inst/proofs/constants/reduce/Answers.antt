use Rattle.w_syntax.specs.declared.instructions.Op.TheVariants as op
use Rattle.w_inst.proofs.Operands.{leaves_as, always_leaves}
use Rattle.w_inst.proofs.constants.reduce.Goals as goal

pub returns-in-Numeric : goal.returns-in-Numeric
returns-in-Numeric c = record {
  leaves = leaves_as c.args.globals.now c.args.functions (op.Numeric c.in-Numeric.number) c.args.op.now c.args.operands.now.items c.reduce_number.new.operands.items c.reduce_number.result c.in-Numeric.is (always_leaves c.args.globals.now c.args.functions (op.Numeric c.in-Numeric.number) c.args.operands.now.items c.reduce_number.new.operands.items c.reduce_number.result c.reduce_number.ensures.leaves);
}

pub returns-in-Reference : goal.returns-in-Reference
returns-in-Reference c = record {
  leaves = leaves_as c.args.globals.now c.args.functions (op.Reference c.in-Reference.reference) c.args.op.now c.args.operands.now.items c.reduce_reference.new.operands.items c.reduce_reference.result c.in-Reference.is c.reduce_reference.ensures.leaves;
}

pub returns-in-Variable : goal.returns-in-Variable
returns-in-Variable c = record {
  leaves = leaves_as c.args.globals.now c.args.functions (op.Variable c.in-Variable.variable) c.args.op.now c.args.operands.now.items c.reduce_variable.new.operands.items c.reduce_variable.result c.in-Variable.is c.reduce_variable.ensures.leaves;
}
