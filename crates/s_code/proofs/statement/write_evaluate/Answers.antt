use Rattle.std.proofs.Common.{◌∙◌, ◌++◌, ap}
use Rattle.std.proofs.lemmas.Result.{on_ok_weaker}
use Rattle.w_syntax.specs.Expr.{tokens}
use Rattle.s_syntax.specs.declared.statement.Use.{Use}
use Rattle.s_code.specs.Slots.{store_code, take_code}
use Rattle.s_code.specs.Statements as code
use Rattle.s_code.proofs.statement.write_evaluate.Goals as goal

pub returns-in_ok-write_expr-in-Store : goal.returns-in_ok-write_expr-in-Store
returns-in_ok-write_expr-in-Store c = record {
  writes = on_ok_weaker c.write_store.result (λ last k.
      ap (λ (u : Use). c.args.out.now.items ++ tokens (code.evaluate c.args.program.now c.args.layout.now c.args.labels u c.args.value.now k)) c.in-Store.is
      ∙ c.in_ok-write_expr-in-Store.ensures.writes (store_code c.args.program.now c.args.layout.now c.in-Store.slots c.in-Store.name k)
      ∙ last k)
      c.write_store.ensures.writes;
}

pub returns-in_ok-write_expr-in-Take : goal.returns-in_ok-write_expr-in-Take
returns-in_ok-write_expr-in-Take c = record {
  writes = on_ok_weaker c.write_take.result (λ last k.
      ap (λ (u : Use). c.args.out.now.items ++ tokens (code.evaluate c.args.program.now c.args.layout.now c.args.labels u c.args.value.now k)) c.in-Take.is
      ∙ c.in_ok-write_expr-in-Take.ensures.writes (take_code c.args.program.now c.args.layout.now c.in-Take.name c.in-Take.slots k)
      ∙ last k)
      c.write_take.ensures.writes;
}
