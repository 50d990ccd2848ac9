use Rattle.std.proofs.lemmas.Result.{on_ok_weaker}
use Rattle.s_code.proofs.SlotsWritten.{store_written}
use Rattle.s_code.proofs.slots.write_store.Goals as goal

pub returns : goal.returns
returns c = record {
  writes = on_ok_weaker c.write_op.result (λ last k.
      store_written c.args.program.now c.args.layout.now c.args.slots.now c.args.name.now _ _ _ _ _ _ _ _ c.temporaries.ensures.value c.places.ensures.value c.local_number.ensures.value c.table_index.ensures.value
      c.in_ok-write_to_place.ensures.writes c.in_ok-write_get.ensures.writes last k)
      c.write_op.ensures.writes;
}
