use Rattle.std.proofs.Common.{subst}
use Rattle.w_syntax.specs.declared.module.Data.{Data}
use Rattle.w_inst.specs.Segments.{IsDataConstant}
use Rattle.w_inst.proofs.RoomInModules.{offset_constant}
use Rattle.w_inst.proofs.starting.start_datas.Goals as goal

pub start_data-requires-clause-constant : goal.start_data-requires-clause-constant
start_data-requires-clause-constant c =
    let P : Data → Type 0 = λ d. IsDataConstant d.mode in
    subst P c.index-datas-index.is
    (offset_constant c.args.program.now c.args.datas.now c.args.first c.loop-index.index c.index-datas-index.result c.requires.sound c.requires.part c.loop-index-test.true c.index-datas-index.is)
