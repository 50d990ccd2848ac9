use Rattle.std.proofs.Common.{◌+◌, ◌≤◌, ◌∙◌, ap, arith, List}
use Rattle.s_syntax.specs.declared.script.Declaration.{Declaration}
use Rattle.s_index.specs.declared.counts.Counts.{Counts}
use Rattle.s_index.specs.Numbers.{first_handler}
use Rattle.s_index.proofs.CountedDeclarations.{few_counted}
use Rattle.s_index.proofs.declarations.NumberedDeclarations.first_handler.Goals as goal

few : (c : goal.After-self) → c.self.inside.counts.functions + 1 ≤ 50001
few c =
    let e = ap (λ (n : Counts). n.functions) c.self.invariant.1 in
    let q = few_counted c.self.inside.all.now in
    let l = c.self.invariant.2 in
    omega (arith, e, q, l)

pub overflow_add-result : goal.overflow_add-result
overflow_add-result c = let f = few c in omega (arith, f)

pub returns : goal.returns
returns c = record {
  value = ap (λ (n : Counts). n.functions + 1) c.self.invariant.1 ∙ ap (λ (ds : List Declaration). first_handler ds) c.self.view_is;
  small = few c;
}
