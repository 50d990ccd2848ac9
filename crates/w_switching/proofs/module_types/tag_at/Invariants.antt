use Rattle.std.proofs.Common.{◌≡◌, ◌++◌, drop, slice_get}
use Rattle.std.specs.Prelude.{flat_map}
use Rattle.w_syntax.specs.declared.module.Import.{Import}
use Rattle.w_rules.specs.Spaces.{as_tag, tags_of}
use Rattle.w_switching.proofs.module_types.tag_at.Given as goal

abbrev pub invariant-loop-import : goal.invariant-loop-import
invariant-loop-import l = slice_get (flat_map (λ (i : Import). as_tag i.kind) (drop l.import-index l.program.imports) ++ l.program.tags) l.left
    ≡ slice_get (tags_of l.program) l.index
