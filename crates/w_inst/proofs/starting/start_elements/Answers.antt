use Rattle.std.proofs.Common.{◌≡◌, ◌+◌, ap, ◌∙◌, arith}
use Rattle.w_inst.specs.Segments.{element_length}
use Rattle.w_inst.proofs.RoomInModules.{element_constant}
use Rattle.w_inst.proofs.InOrder.{length_here}
use Rattle.w_inst.proofs.starting.start_elements.Goals as goal

pub start_element-requires-clause-constant : goal.start_element-requires-clause-constant
start_element-requires-clause-constant c =
    (element_constant c.args.program.now c.args.elements.now c.args.first c.loop-index.index c.index-elements-index.result c.requires.sound c.requires.part c.loop-index-test.true c.index-elements-index.is).mode

pub start_element-requires-clause-count : goal.start_element-requires-clause-count
start_element-requires-clause-count c =
    let is : c.in-Ok.segment ≡ c.args.first + c.loop-index.index = omega (arith, c.in-Ok.ensures.0, c.in-Ok.ensures.1, c.saturating_add.ensures) in
    ap (element_length c.loop-index.store) is
    ∙ length_here c.args.program.now c.args.elements.now c.args.first c.loop-index.index c.index-elements-index.result c.loop-index.store c.requires.part c.loop-index.invariant.segments
    c.loop-index-test.true c.index-elements-index.is
