use Rattle.std.proofs.Common.{ap, sym, subst, arith, drop, ◌+◌, List}
use Rattle.std.specs.Prelude.{Bool}
use Rattle.std.proofs.lemmas.List.{drop_all}
use Rattle.w_types.specs.declared.value.Value.{Value}
use Rattle.w_syntax.specs.Packed.{unpacked}
use Rattle.w_inst.specs.Constants.{LeavesAt}
use Rattle.w_inst.proofs.ConstantCode.{Evaluates, code_in, stands_here, evaluates_first, may_be, evaluates_on, evaluates_to_none, evaluates_all}
use Rattle.w_inst.proofs.constants.constant.Goals as goal

pub loop-packed-init : goal.loop-packed-init
loop-packed-init c =
    let a = c.args in
    let P : List Value → Type 0 = λ vs. Evaluates a.globals.now a.functions a.code.now vs (code_in c.instrs-packed-items.result.now) in
    subst P (sym c.new-operands.ensures.items) (evaluates_first a.globals.now a.functions a.code.now c.instrs-packed-items.result.now c.requires.constant c.instrs-packed-items.ensures)

pub reduce_packed-requires : goal.reduce_packed-requires
reduce_packed-requires c =
    let a = c.args in
    record {
      constant = may_be a.globals.now a.functions a.code.now c.loop-packed.operands.items (unpacked c.packed-item.result) (code_in (drop (c.loop-packed.packed-index + 1) c.instrs-packed-items.result.now))
          (stands_here a.globals.now a.functions a.code.now c.loop-packed.operands.items c.instrs-packed-items.result.now c.loop-packed.packed-index c.packed-item.result c.loop-packed-test.true c.packed-item.is c.loop-packed.invariant);
    }

pub returns-then-not-branch : goal.returns-then-not-branch
returns-then-not-branch c =
    let a = c.args in
    let P : Bool → Type 0 = λ went. LeavesAt a.globals.now a.functions (unpacked c.packed-item.result) c.loop-packed.operands.items went c.reduce_packed.new.operands.items in
    record {
      value = evaluates_to_none a.globals.now a.functions a.code.now c.loop-packed.operands.items c.reduce_packed.new.operands.items (unpacked c.packed-item.result)
          (code_in (drop (c.loop-packed.packed-index + 1) c.instrs-packed-items.result.now))
          (stands_here a.globals.now a.functions a.code.now c.loop-packed.operands.items c.instrs-packed-items.result.now c.loop-packed.packed-index c.packed-item.result c.loop-packed-test.true c.packed-item.is c.loop-packed.invariant)
          (subst P c.if-not-branch.true c.in_ok-reduce_packed.ensures.leaves);
    }

pub loop-packed-preserved : goal.loop-packed-preserved
loop-packed-preserved c =
    let a = c.args in
    let P : Bool → Type 0 = λ went. LeavesAt a.globals.now a.functions (unpacked c.packed-item.result) c.loop-packed.operands.items went c.reduce_packed.new.operands.items in
    evaluates_on a.globals.now a.functions a.code.now c.loop-packed.operands.items c.reduce_packed.new.operands.items (unpacked c.packed-item.result)
    (code_in (drop (c.loop-packed.packed-index + 1) c.instrs-packed-items.result.now))
    (stands_here a.globals.now a.functions a.code.now c.loop-packed.operands.items c.instrs-packed-items.result.now c.loop-packed.packed-index c.packed-item.result c.loop-packed-test.true c.packed-item.is c.loop-packed.invariant)
    (subst P c.if-not-branch.false c.in_ok-reduce_packed.ensures.leaves)

pub returns : goal.returns
returns c =
    let a = c.args in
    record {
      value = evaluates_all a.globals.now a.functions a.code.now c.loop-packed.operands.items c.take_topmost.result _ c.loop-packed.invariant
          (ap code_in (drop_all c.loop-packed.packed-index c.instrs-packed-items.result.now (omega arith))) c.take_topmost.ensures;
    }
