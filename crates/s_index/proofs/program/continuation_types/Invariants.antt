use Rattle.std.proofs.Common.{◌≡◌, ◌++◌, drop, filter}
use Rattle.s_syntax.specs.declared.script.Declaration.{Declaration}
use Rattle.s_index.specs.Handled.{handled_names, is_function_among}
use Rattle.s_index.specs.Indices.{continuations}
use Rattle.s_index.proofs.program.continuation_types.Given as goal

abbrev pub invariant-loop-declaration : goal.invariant-loop-declaration
invariant-loop-declaration l =
    l.types.items ++ continuations l.declarations (filter (λ (d : Declaration). is_function_among (handled_names l.declarations) d d.definition) (drop l.declaration-index l.declaration-items))
    ≡ continuations l.declarations (filter (λ (d : Declaration). is_function_among (handled_names l.declarations) d d.definition) l.declaration-items)
