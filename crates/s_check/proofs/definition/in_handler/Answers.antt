use Rattle.std.proofs.Common.{◌<◌, inl, inr, subst}
use Rattle.s_check.proofs.Greater.{header_alone}
use Rattle.s_check.proofs.definition.in_handler.Goals as goal

pub returns-then-len-gt8 : goal.returns-then-len-gt8
returns-then-len-gt8 c = record {
  value = header_alone c.args.least c.in_header-least.result c.args.declarations.now c.args.name.now c.args.handler.now (inl (subst (λ n. 8 < n) c.len.ensures c.if-len-gt8.true)) c.in_header-least.ensures.value;
}

pub returns-then-len-gt16 : goal.returns-then-len-gt16
returns-then-len-gt16 c = record {
  value = header_alone c.args.least c.in_header-least.result c.args.declarations.now c.args.name.now c.args.handler.now (inr (subst (λ n. 16 < n) c.len-2.ensures c.if-len-gt16.true)) c.in_header-least.ensures.value;
}
