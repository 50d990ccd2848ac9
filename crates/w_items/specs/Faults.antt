-- What validation answers.
use Rattle.std.specs.Prelude.{◌≡◌, ◌⊎◌, Result, Err}
use Rattle.w_syntax.specs.declared.module.Module.{Module}
use Rattle.w_rules.specs.Limits.{Within, Passes}
use Rattle.w_rules.specs.Valid.{
  Item,
  TypeItem,
  ImportItem,
  TableItem,
  MemoryItem,
  TagItem,
  GlobalItem,
  ElementItem,
  DataItem,
  StartItem,
  ExportItem,
  FunctionItem,
  IsInvalidAt,
}
use Rattle.w_items.specs.declared.fault.ValidFault.{ValidFault}
use Rattle.w_items.specs.declared.fault.ValidFault.TheVariants as fault

-- the fault that names an item
abbrev pub fault_of : Item → ValidFault
fault_of (TypeItem i) = fault.TypeAt i
fault_of (ImportItem i) = fault.Import i
fault_of (TableItem i) = fault.Table i
fault_of MemoryItem = fault.Memory
fault_of (TagItem i) = fault.Tag i
fault_of (GlobalItem i) = fault.Global i
fault_of (ElementItem i) = fault.Element i
fault_of (DataItem i) = fault.Data i
fault_of StartItem = fault.Start
fault_of (ExportItem i) = fault.Export i
fault_of (FunctionItem i) = fault.Function i

-- the module keeps its limits, and this is its least item without a derivation
abbrev pub IsRefusedAt : Module → Item → Type 0
IsRefusedAt m x = Within m × IsInvalidAt m x

-- the fault is that of the module; out of memory may be told of any module
abbrev pub IsFaultOf : Module → ValidFault → Type 0
IsFaultOf m (fault.Limit name) = Passes m name
IsFaultOf m (fault.TypeAt i) = IsRefusedAt m (TypeItem i)
IsFaultOf m (fault.Import i) = IsRefusedAt m (ImportItem i)
IsFaultOf m (fault.Table i) = IsRefusedAt m (TableItem i)
IsFaultOf m fault.Memory = IsRefusedAt m MemoryItem
IsFaultOf m (fault.Tag i) = IsRefusedAt m (TagItem i)
IsFaultOf m (fault.Global i) = IsRefusedAt m (GlobalItem i)
IsFaultOf m (fault.Element i) = IsRefusedAt m (ElementItem i)
IsFaultOf m (fault.Data i) = IsRefusedAt m (DataItem i)
IsFaultOf m fault.Start = IsRefusedAt m StartItem
IsFaultOf m (fault.Export i) = IsRefusedAt m (ExportItem i)
IsFaultOf m (fault.Function i) = IsRefusedAt m (FunctionItem i)
IsFaultOf m fault.OutOfMemory = Unit {0}

-- this answer, unless memory ran out
abbrev pub IsAnswer : Result Module ValidFault → Result Module ValidFault → Type 0
IsAnswer r result = (result ≡ r) ⊎ (result ≡ Err fault.OutOfMemory)
