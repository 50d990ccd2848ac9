use Rattle.std.proofs.Common.{◌≡◌, ◌++◌, drop}
use Rattle.s_syntax.specs.declared.script.Declaration.{Declaration}
use Rattle.s_code.specs.Lowered.{for_each, table_of}
use Rattle.s_lower.proofs.parts.push_tables.Given as goal

abbrev pub invariant-loop-declaration : goal.invariant-loop-declaration
invariant-loop-declaration l =
    l.all ++ for_each (λ (d : Declaration). table_of d.definition) (drop l.declaration-index l.declaration-items)
    ≡ l.fn.all ++ for_each (λ (d : Declaration). table_of d.definition) l.declaration-items
