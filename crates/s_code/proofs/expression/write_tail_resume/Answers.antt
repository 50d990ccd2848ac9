use Rattle.std.proofs.lemmas.Result.{on_ok_weaker}
use Rattle.s_code.proofs.HandlesWritten.{tail_written}
use Rattle.s_code.proofs.expression.write_tail_resume.Goals as goal

pub returns : goal.returns
returns c = record {
  writes = on_ok_weaker c.write_control.result (λ last k.
      tail_written c.args.program.now c.args.layout.now c.args.labels c.args.resumption.now c.args.argument.now c.args.parameters.now _ _ _ _ _ _ _ _ _ _ _ _ _ c.temporaries.ensures.value c.temporaries-2.ensures.value c.owner_parameters.ensures.value c.owner_parameters-2.ensures.value
      c.in_ok-write_expr.ensures.writes c.in_ok-write_set.ensures.writes c.in_ok-write_args.ensures.writes c.in_ok-write_get.ensures.writes c.in_ok-write_wake.ensures.writes c.in_ok-write_set-2.ensures.writes c.in_ok-write_set_parameters.ensures.writes last k)
      c.write_control.ensures.writes;
}
