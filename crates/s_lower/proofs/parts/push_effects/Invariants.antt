use Rattle.std.proofs.Common.{◌≡◌, ◌++◌, drop}
use Rattle.s_syntax.specs.declared.script.Declaration.{Declaration}
use Rattle.s_code.specs.Lowered.{for_each, tag_of}
use Rattle.s_lower.proofs.parts.push_effects.Given as goal

abbrev pub invariant-loop-declaration : goal.invariant-loop-declaration
invariant-loop-declaration l =
    l.all ++ for_each (λ (d : Declaration). tag_of l.program d.definition) (drop l.declaration-index l.declaration-items)
    ≡ l.fn.all ++ for_each (λ (d : Declaration). tag_of l.program d.definition) l.declaration-items
