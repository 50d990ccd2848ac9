use Rattle.std.proofs.Common.{◌∙◌, sym, ap, refl, drop, length, ◌-◌, List}
use Rattle.s_syntax.specs.declared.script.Declaration.{Declaration}
use Rattle.s_check.specs.Definitions.{definition_of}
use Rattle.lists.proofs.Lists.{cell_back}
use Rattle.s_check.proofs.Names.{finds_more}
use Rattle.s_check.proofs.declarations.first_definitions.Goals as goal

pub loop-behind-preserved : goal.loop-behind-preserved
loop-behind-preserved c x =
    let all = c.args.all.now in
    let d = c.index-all-all.result in
    finds_more c.as_bytes.result _ d c.loop-behind.first c.insert.new.self (drop (length all - c.loop-behind.behind) all) c.as_bytes.ensures.value refl c.in_ok-insert.ensures.updates.0 c.loop-behind.invariant x
    ∙ ap (λ (ds : List Declaration). definition_of ds x) (sym (cell_back all c.loop-behind.behind d c.loop-behind-test.true c.index-all-all.is))
