use Rattle.std.proofs.lemmas.Result.{on_ok_weaker}
use Rattle.s_code.proofs.SlotsWritten.{take_written}
use Rattle.s_code.proofs.slots.write_take.Goals as goal

pub returns : goal.returns
returns c = record {
  writes = on_ok_weaker c.write_op-4.result (λ last k.
      take_written c.args.program.now c.args.layout.now c.args.name.now c.args.slots.now _ _ _ _ _ _ _ _ _ _ _ _ _ c.temporaries-number.ensures.value c.places.ensures.value c.local_number.ensures.value c.table_index-table.ensures.value
      c.in_ok-write_to_place.ensures.writes c.in_ok-write_op.ensures.writes c.in_ok-write_op-2.ensures.writes c.in_ok-write_set.ensures.writes c.in_ok-write_get.ensures.writes c.in_ok-write_numeric.ensures.writes c.in_ok-write_op-3.ensures.writes last k)
      c.write_op-4.ensures.writes;
}
