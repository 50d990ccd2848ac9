use Rattle.w_linked.proofs.LinkedRows.{functions_read, tables_read, memories_read, globals_read, tags_read, types_read}
use Rattle.w_linked.proofs.laws.indices_are_read_through_instances.Goals as goal

pub returns : goal.returns
returns _ = record {
  functions = functions_read;
  tables = tables_read;
  memories = memories_read;
  globals = globals_read;
  tags = tags_read;
  types = types_read;
}
