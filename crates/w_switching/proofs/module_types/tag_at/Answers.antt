use Rattle.std.proofs.Common.{◌≡◌, ◌++◌, List, [], length, drop, slice_get, ap, sym, ◌∙◌, arith}
use Rattle.std.proofs.lemmas.List.{drop_all}
use Rattle.std.specs.Prelude.{flat_map}
use Rattle.w_syntax.specs.declared.module.Import.{Import}
use Rattle.w_syntax.specs.declared.module.Tag.{Tag}
use Rattle.w_rules.specs.Spaces.{as_tag}
use Rattle.w_switching.proofs.module_types.tag_at.Goals as goal

pub returns : goal.returns
returns c =
    let m = c.args.program.now in
    let none : drop c.loop-import.import-index m.imports ≡ [] =
    drop_all c.loop-import.import-index m.imports (omega (arith, ap length c.as_slice-import-items.ensures, c.loop-import-test.false)) in
    record {
      tag = c.listed_tag.ensures.tag ∙ ap (λ (ts : List Tag). slice_get ts c.loop-import.left) c.as_slice.ensures
          ∙ ap (λ (is : List Import). slice_get (flat_map (λ (i : Import). as_tag i.kind) is ++ m.tags) c.loop-import.left) (sym none) ∙ c.loop-import.invariant;
    }
