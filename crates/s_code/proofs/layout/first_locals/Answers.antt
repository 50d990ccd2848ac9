use Rattle.std.proofs.Common.{◌∙◌, ◌-◌, List, drop, length, sym, ap}
use Rattle.s_code.specs.declared.layout.LocalName.{LocalName}
use Rattle.s_code.specs.Layouts.{local_of}
use Rattle.s_code.specs.Views.{locals_in}
use Rattle.s_code.proofs.Locals.{found_more}
use Rattle.lists.proofs.Lists.{cell_back}
use Rattle.s_code.proofs.layout.first_locals.Goals as goal

pub loop-behind-preserved : goal.loop-behind-preserved
loop-behind-preserved c x =
    let names = c.args.names.now in
    let l = c.index-names-names.result in
    found_more c.as_bytes.result l c.loop-behind.first c.insert.new.self (drop (length names - c.loop-behind.behind) names) c.as_bytes.ensures.value c.in_ok-insert.ensures.updates.0 c.loop-behind.invariant x
    ∙ ap (λ (ls : List LocalName). local_of (locals_in ls) x) (sym (cell_back names c.loop-behind.behind l c.loop-behind-test.true c.index-names-names.is))
