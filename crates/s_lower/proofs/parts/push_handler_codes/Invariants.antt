use Rattle.std.proofs.Common.{◌≡◌, ◌≤◌, ◌++◌, drop}
use Rattle.std.specs.Prelude.{sum_by}
use Rattle.s_syntax.specs.declared.script.Declaration.{Declaration}
use Rattle.s_check.specs.Size.{definition_size, size_limit}
use Rattle.s_code.specs.Lowered.{for_each, handler_code_of}
use Rattle.s_lower.proofs.parts.push_handler_codes.Given as goal

abbrev pub invariant-loop-declaration : goal.invariant-loop-declaration
invariant-loop-declaration l = record {
  made : l.all ++ for_each (λ (d : Declaration). handler_code_of l.program d.name d.definition) (drop l.declaration-index l.declaration-items)
      ≡ l.fn.all ++ for_each (λ (d : Declaration). handler_code_of l.program d.name d.definition) l.declaration-items;
  room : sum_by (λ (d : Declaration). definition_size d.definition) (drop l.declaration-index l.declaration-items) ≤ size_limit;
}
