use Rattle.w_linker.proofs.LinkedProgram.{none_measured}
use Rattle.w_linker.proofs.program.Parts.none.Goals as goal

pub returns : goal.returns
returns c = record {
  imports = c.none.ensures.imports;
  types = c.none.ensures.types;
  functions = c.none.ensures.functions;
  exports = c.none.ensures.exports;
  tables = c.none-2.ensures.tables;
  memories = c.none-2.ensures.memories;
  tags = c.none-2.ensures.tags;
  globals = c.none-2.ensures.globals;
  elements = c.none-3.ensures.elements;
  codes = c.none-3.ensures.codes;
  datas = c.none-3.ensures.datas;
  measured = none_measured c.none-3.result.heights.items c.none-3.result.depths.items c.none-3.ensures.heights c.none-3.ensures.depths;
}
