use Rattle.std.proofs.Common.{arith, sym, ap, ◌∙◌, List, ◌++◌}
use Rattle.std.specs.Prelude.{slice_get, flat_map}
use Rattle.std.proofs.lemmas.List.{drop_all}
use Rattle.w_syntax.specs.declared.module.Import.{Import}
use Rattle.w_rules.specs.Spaces.{as_function}
use Rattle.w_inst.proofs.exports.type_index.Goals as goal

pub returns : goal.returns
returns c =
    let behind = λ (is : List Import). slice_get (flat_map (λ (i : Import). as_function i.kind) is ++ c.args.program.now.functions) c.loop-import.left in
    c.own_type_index.ensures
    ∙ ap behind (sym (drop_all c.loop-import.import-index c.as_slice-import-items.result.now (omega arith)))
    ∙ c.loop-import.invariant
