-- What instantiation answers, and what holds on the way.
use Rattle.std.specs.Prelude.{◌≡◌, ℕ, ◌+◌, ◌<◌, ◌≤◌, List, length, option_map, Result, Ok, Err, slice_get}
use Rattle.w_types.specs.declared.value.Value.{Value}
use Rattle.w_syntax.specs.declared.module.Elem.{Elem}
use Rattle.w_syntax.specs.declared.module.Module.{Module}
use Rattle.w_tables.specs.Store as instances
use Rattle.w_reduce.specs.Program.{Program}
use Rattle.w_reduce.specs.Start.{Start, Ready, NoPrinter, NoEntry, Exceeds, StartTraps, start_term}
use Rattle.w_stands.specs.Values.{store_of}
use Rattle.w_inst.specs.declared.instantiation.Instance.{Instance}
use Rattle.w_inst.specs.declared.instantiation.InstFault.{InstFault}
use Rattle.w_inst.specs.declared.instantiation.InstFault.TheVariants as fault
use Rattle.w_inst.specs.Constants.{Sees}
use Rattle.w_inst.specs.Segments.{element_length}

-- the store has as many of all things as the module
pub record StandsFor (m : Module) (gs : List Value) (n : ℕ) (s : instances.Store) : Type 0 where
  pub sees : Sees gs n (store_of s)
  pub tables : length s.tables ≡ length m.tables
  pub memories : length s.memories ≡ length m.memories
  pub elements : length s.elems ≡ length m.elements
  pub datas : length s.datas ≡ length m.datas

-- these are the items from this place on
abbrev pub IsPart : {A : Type 0} → ℕ → List A → List A → Type 0
IsPart first part all = (j : ℕ) → j < length part → slice_get part j ≡ slice_get all (first + j)

-- from this one on, each element segment has as many values as items
abbrev pub SegmentsFrom : Module → ℕ → instances.Store → Type 0
SegmentsFrom m i s = (j : ℕ) → i ≤ j → element_length s j ≡ option_map (λ (e : Elem). length e.items) (slice_get m.elements j)

-- the run of the program begins so; nothing is said where memory ran out
abbrev pub BeginsAs : Program → Result Instance InstFault → Type 0
BeginsAs p (Ok i) = Start p ≡ Ready (store_of i.store) (start_term p.source i.main)
BeginsAs p (Err (fault.Import i)) = Start p ≡ NoPrinter i
BeginsAs p (Err fault.NoEntry) = Start p ≡ NoEntry
BeginsAs p (Err (fault.Limit l)) = Start p ≡ Exceeds l
BeginsAs p (Err (fault.Trap t)) = Start p ≡ StartTraps t
BeginsAs p (Err fault.OutOfMemory) = Unit {0}
