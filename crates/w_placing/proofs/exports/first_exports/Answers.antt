use Rattle.std.proofs.Common.{◌∙◌, sym, ap, refl, drop, length, ◌-◌, List}
use Rattle.w_syntax.specs.declared.module.Export.{Export}
use Rattle.lists.proofs.Lists.{cell_back}
use Rattle.w_placing.specs.Exports.{index_named}
use Rattle.w_placing.proofs.Names.{finds_more}
use Rattle.w_placing.proofs.exports.first_exports.Goals as goal

pub loop-behind-preserved : goal.loop-behind-preserved
loop-behind-preserved c x =
    let all = c.args.all.now in
    let d = c.index-all-all.result in
    finds_more c.as_bytes.result d.index d c.loop-behind.first c.insert.new.self (drop (length all - c.loop-behind.behind) all) (c.as_bytes.ensures.value ∙ c.as_str.ensures) refl c.in_ok-insert.ensures.updates.0 c.loop-behind.invariant x
    ∙ ap (λ (es : List Export). index_named es x) (sym (cell_back all c.loop-behind.behind d c.loop-behind-test.true c.index-all-all.is))
