use Rattle.std.proofs.Common.{◌∙◌, ◌-◌, List, Bor, drop, length, sym, ap}
use Rattle.s_syntax.specs.declared.name.Name.{Name}
use Rattle.s_check.specs.Scopes.{is_among}
use Rattle.s_index.specs.Views.{names_of}
use Rattle.lists.proofs.Lists.{cell_back}
use Rattle.s_check.proofs.Names.{has_more}
use Rattle.s_index.proofs.program.set_of.Goals as goal

pub loop-behind-preserved : goal.loop-behind-preserved
loop-behind-preserved c q =
    let names = c.args.names.now in
    let x = c.index-names-names.result in
    has_more c.as_bytes.result x.now c.loop-behind.set c.insert.new.self (names_of (drop (length names - c.loop-behind.behind) names)) c.as_bytes.ensures.value c.in_ok-insert.ensures.updates.0 c.loop-behind.invariant q
    ∙ ap (λ (l : List (Bor Name)). is_among (names_of l) q) (sym (cell_back names c.loop-behind.behind x c.loop-behind-test.true c.index-names-names.is))
