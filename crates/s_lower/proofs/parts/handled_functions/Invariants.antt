use Rattle.std.proofs.Common.{◌≡◌, ◌++◌, drop, map, filter}
use Rattle.s_syntax.specs.declared.script.Declaration.{Declaration}
use Rattle.s_index.specs.Handled.{handled_names, is_function_among}
use Rattle.s_index.specs.Numbers.{function_index}
use Rattle.s_lower.proofs.parts.handled_functions.Given as goal

abbrev pub invariant-loop-declaration : goal.invariant-loop-declaration
invariant-loop-declaration l =
    l.all.items ++ map (λ (d : Declaration). function_index l.program d.name) (filter (λ (d : Declaration). is_function_among (handled_names l.program) d d.definition) (drop l.declaration-index l.declaration-items))
    ≡ map (λ (d : Declaration). function_index l.program d.name) (filter (λ (d : Declaration). is_function_among (handled_names l.program) d d.definition) l.declaration-items)
