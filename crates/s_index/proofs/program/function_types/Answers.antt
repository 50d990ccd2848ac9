use Rattle.std.proofs.Common.{◌∙◌, ◌+◌, List, drop, sym, ap}
use Rattle.w_types.specs.declared.types.CompType.{CompType}
use Rattle.s_syntax.specs.declared.script.Declaration.{Declaration}
use Rattle.s_index.specs.Types.{types_for, types_for_all, with_types}
use Rattle.s_index.proofs.Lengths.{with_append}
use Rattle.lists.proofs.Lists.{cell}
use Rattle.s_index.proofs.program.function_types.Goals as goal

pub loop-declaration-preserved : goal.loop-declaration-preserved
loop-declaration-preserved c =
    let ds = c.args.all.now in
    let i = c.loop-declaration.declaration-index in
    let d = c.declaration-item.result in
    let later = types_for_all (drop (i + 1) ds) in
    ap (λ (ts : List CompType). with_types ts later) c.in_ok-add_types_for.ensures.value
    ∙ sym (with_append c.loop-declaration.types.items (types_for d.definition) later)
    ∙ ap (λ (es : List Declaration). with_types c.loop-declaration.types.items (types_for_all es)) (sym (cell ds i d c.loop-declaration-test.true c.declaration-item.is))
    ∙ c.loop-declaration.invariant
