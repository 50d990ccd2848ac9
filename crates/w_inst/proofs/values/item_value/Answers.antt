use Rattle.std.proofs.Common.{ap, ◌∙◌, arith}
use Rattle.w_syntax.specs.Items.{code_of}
use Rattle.w_syntax.specs.declared.items.ItemView.{ItemView}
use Rattle.w_reduce.specs.Constants.{value_of}
use Rattle.w_inst.proofs.FoundValues.{value_of_null, value_of_function, value_of_no_function}
use Rattle.w_inst.proofs.values.item_value.Goals as goal

pub returns-then-function-functions : goal.returns-then-function-functions
returns-then-function-functions c = record {
  value = λ p s w. ap (λ (i : ItemView). value_of p s (code_of i)) c.in-Function.is ∙ value_of_no_function c.in-Function.function c.args.functions c.args.globals.now (omega (arith, c.if-function-functions.true)) p s w;
}

pub returns-else-function-functions : goal.returns-else-function-functions
returns-else-function-functions c = record {
  value = λ p s w. ap (λ (i : ItemView). value_of p s (code_of i)) c.in-Function.is ∙ value_of_function c.in-Function.function c.args.functions c.args.globals.now (omega (arith, c.if-function-functions.false)) p s w;
}

pub returns-in-Null : goal.returns-in-Null
returns-in-Null c = record { value = λ p s w. ap (λ (i : ItemView). value_of p s (code_of i)) c.in-Null.is ∙ value_of_null c.in-Null.field-0 p s }
