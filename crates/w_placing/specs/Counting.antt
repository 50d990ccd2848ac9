-- Counts as the definition of linking has them.
use Rattle.w_linked.specs.Linked as linked
use Rattle.w_placing.specs.declared.counting.Before.{Before}

abbrev pub counts : Before → linked.Before
counts b = record {
  types = b.types;
  printers = b.printers;
  functions = b.functions;
  tables = b.tables;
  memories = b.memories;
  globals = b.globals;
  tags = b.tags;
  elements = b.elements;
  datas = b.datas;
}
