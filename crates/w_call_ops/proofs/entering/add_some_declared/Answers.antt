use Rattle.std.proofs.Common.{◌≡◌, ◌≤◌, List, Option, Some, sym, ap, ◌∙◌, arith}
use Rattle.w_types.specs.declared.value.Value.{Value}
use Rattle.w_syntax.specs.Locals.{total}
use Rattle.w_syntax.specs.declared.module.Func.{Func}
use Rattle.w_segment.specs.Changes.{with_more}
use Rattle.w_segment.proofs.MoreLocals.{more_none}
use Rattle.w_call_ops.proofs.Runs.{first_values_none}
use Rattle.w_call_ops.proofs.entering.add_some_declared.Goals as goal

-- none is declared
pub returns-else-locals-gt0 : goal.returns-else-locals-gt0
returns-else-locals-gt0 c = record {
  after = λ f is.
      let there : Some c.requires.there.0 ≡ Some f = sym c.requires.there.1 ∙ is in
      let same : c.requires.there.0 ≡ f = cc in
      let many = c.requires.there.2 ∙ ap (λ (x : Func). total x.locals) same in
      let none : total f.locals ≤ 0 = (let few = c.if-locals-gt0.false in omega (arith, many, few)) in
      sym (ap (λ (l : List (Option Value)). with_more l c.args.stack.now) (first_values_none f.locals none) ∙ more_none c.args.stack.now);
}
