use Rattle.std.proofs.Common.{◌≡◌, drop, ◌++◌}
use Rattle.std.specs.Prelude.{slice_get, flat_map}
use Rattle.w_syntax.specs.declared.module.Import.{Import}
use Rattle.w_rules.specs.Spaces.{as_function, functions_of}
use Rattle.w_inst.proofs.exports.type_index.Given as goal

-- it stands so far behind those that were passed
abbrev pub invariant-loop-import : goal.invariant-loop-import
invariant-loop-import l =
    slice_get (flat_map (λ (i : Import). as_function i.kind) (drop l.import-index l.import-items) ++ l.program.functions) l.left
    ≡ slice_get (functions_of l.program) l.function
