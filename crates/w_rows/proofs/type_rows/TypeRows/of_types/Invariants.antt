use Rattle.std.proofs.Common.{◌≡◌, length, take}
use Rattle.w_types.specs.Groups.{types_of}
use Rattle.w_rows.specs.TypeRows.{AreReadyTypes}
use Rattle.w_rows.proofs.type_rows.TypeRows.of_types.Given as goal

-- what stands ready for the types so far
abbrev pub invariant-loop-index : goal.invariant-loop-index
invariant-loop-index l = record {
  many : length l.types.items ≡ l.index;
  ready : AreReadyTypes l.classes (take l.index (types_of l.groups)) l.types.items;
}
