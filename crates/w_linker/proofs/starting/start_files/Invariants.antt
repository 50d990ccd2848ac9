use Rattle.std.proofs.Common.{◌≡◌, ◌+◌, drop, length}
use Rattle.w_reduce.specs.Program.{Program}
use Rattle.w_stands.specs.Values.{store_of}
use Rattle.w_inst.specs.Instances.{StandsFor, SegmentsFrom}
use Rattle.w_linker.specs.Segments.{element_count, data_count, parts_copied}
use Rattle.w_linker.proofs.starting.start_files.Given as goal

-- those of the files so far are started
abbrev pub invariant-loop-file : goal.invariant-loop-file
invariant-loop-file l = record {
  elements : l.before.elements + element_count (drop l.file l.sizes) ≡ length l.program.elements;
  datas : l.before.datas + data_count (drop l.file l.sizes) ≡ length l.program.datas;
  stands : StandsFor l.program l.globals l.functions l.store;
  segments : SegmentsFrom l.program l.before.elements l.store;
  same : (p : Program) → p.source ≡ l.program → parts_copied p l.file l.before.elements l.before.datas (drop l.file l.sizes) (store_of l.store) ≡ parts_copied p 0 0 0 l.sizes (store_of l.fn.store);
}
