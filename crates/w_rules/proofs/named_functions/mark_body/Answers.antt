use Rattle.std.proofs.Common.{List, ◌∙◌, ap}
use Rattle.std.specs.List.{flat_map}
use Rattle.std.proofs.lemmas.List.{take_all}
use Rattle.w_syntax.specs.declared.packed.PackedInstr.{PackedInstr}
use Rattle.w_syntax.proofs.PackedLists.{flat_map_unpacked}
use Rattle.w_rules.specs.Named.{named_at}
use Rattle.w_rules.specs.Spaces.{marked}
use Rattle.w_rules.proofs.Marks.{marked_more, named_packed, named_whole}
use Rattle.w_rules.proofs.named_functions.mark_body.Goals as goal

pub loop-instr-preserved : goal.loop-instr-preserved
loop-instr-preserved c =
    marked_more named_packed c.args.declared.now c.loop-instr.declared _ c.instrs-instrs.result.now c.loop-instr.instr-index c.instr-item.result c.loop-instr-test.true c.instr-item.is c.loop-instr.invariant c.mark_packed.ensures

pub returns : goal.returns
returns c =
    c.loop-instr.invariant
    ∙ ap (λ (ps : List PackedInstr). marked c.args.declared.now (flat_map named_packed ps)) (take_all c.loop-instr.instr-index c.instrs-instrs.result.now c.loop-instr-test.false)
    ∙ ap (marked c.args.declared.now) (flat_map_unpacked named_at c.instrs-instrs.result.now ∙ ap (flat_map named_at) c.instrs-instrs.ensures ∙ named_whole c.args.body.now)
