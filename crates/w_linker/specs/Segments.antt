-- Active segments of several files, of which it is known how many each file has.
use Rattle.std.specs.Prelude.{◌≡◌, ℕ, suc, ◌+◌, List, [], ◌∷◌, length, slice_range, Option, Some, None, Result, Ok, Err}
use Rattle.w_syntax.specs.declared.module.Data.{Data}
use Rattle.w_syntax.specs.declared.module.Elem.{Elem}
use Rattle.w_syntax.specs.declared.module.Module.{Module}
use Rattle.w_tables.specs.declared.entries.Printer.{Printer}
use Rattle.w_tables.specs.Store as instances
use Rattle.w_reduce.specs.declared.trap.Trap.{Trap}
use Rattle.w_reduce.specs.declared.trap.Trap.TheVariants as trap
use Rattle.w_reduce.specs.Imports.{All as all_hosts, Missing, printers_of}
use Rattle.w_reduce.specs.Program.{Program}
use Rattle.w_reduce.specs.Start.{allocated, element_started, data_started, in_order}
use Rattle.w_reduce.specs.Store.{Store}
use Rattle.w_stands.specs.Values.{store_of}
use Rattle.w_linked.specs.Starting.{Copied, copied, traps, and_datas, and_elements}
use Rattle.w_types.specs.declared.value.Value.{Value}
use Rattle.w_inst.specs.Instances.{StandsFor, SegmentsFrom}
use Rattle.w_linker.specs.declared.linking.LinkFault.{LinkFault}
use Rattle.w_linker.specs.declared.linking.LinkFault.TheVariants as fault
use Rattle.w_linker.specs.declared.starting.Sizes.{Sizes}

-- how many segments a file has
abbrev pub sizes_of : Module → Sizes
sizes_of m = record { elements = length m.elements; datas = length m.datas }

-- how many all files have
abbrev pub element_count : List Sizes → ℕ
element_count [] = 0
element_count (x ∷ xs) = x.elements + element_count xs

abbrev pub data_count : List Sizes → ℕ
data_count [] = 0
data_count (x ∷ xs) = x.datas + data_count xs

-- so many element segments from this number on
abbrev pub elements_started : Program → ℕ → ℕ → Store → Option Store
elements_started p y n s = in_order (λ s y (e : Elem). element_started p s y e.mode) (Some s) y (slice_range p.source.elements y (y + n))

-- so many data segments from this number on
abbrev pub datas_started : Program → ℕ → ℕ → Store → Option Store
datas_started p z n s = in_order (λ s y (d : Data). data_started p s y d.mode) (Some s) z (slice_range p.source.datas z (z + n))

-- those of the files from number f on, which have so many each
abbrev pub parts_copied : Program → ℕ → ℕ → ℕ → List Sizes → Store → Copied
parts_copied p f y z [] s = copied s
parts_copied p f y z (x ∷ xs) s =
    and_elements f (elements_started p y x.elements s) (λ t. and_datas f (datas_started p z x.datas t) (λ u. parts_copied p (suc f) (y + x.elements) (z + x.datas) xs u))

-- the trap of a file, or the store that is left
abbrev pub copied_as : Option (ℕ × Trap) → instances.Store → Copied
copied_as (Some x) s = traps x.0 x.1
copied_as None s = copied (store_of s)

-- the segments of one file that begin with these numbers are started, or one of tables or memories passed an end
abbrev pub FileStarted : Program → ℕ → ℕ → Sizes → Store → Option Trap → instances.Store → Type 0
FileStarted p y z x s None new = (t : Store) × (elements_started p y x.elements s ≡ Some t) × (datas_started p z x.datas t ≡ Some (store_of new))
FileStarted p y z x s (Some trap.TableOutOfBounds) new = elements_started p y x.elements s ≡ None
FileStarted p y z x s (Some trap.MemoryOutOfBounds) new = (t : Store) × (elements_started p y x.elements s ≡ Some t) × (datas_started p z x.datas t ≡ None)
FileStarted p y z x s (Some _) new = ⊥

-- where no end was passed, the store has as many of all things as the module, and the segments from this number on as many values as items
pub record GoesOn (m : Module) (gs : List Value) (n y : ℕ) (s : instances.Store) : Type 0 where
  pub stands : StandsFor m gs n s
  pub segments : SegmentsFrom m y s

abbrev pub WentOn : Module → List Value → ℕ → ℕ → Option Trap → instances.Store → Type 0
WentOn m gs n y (Some t) s = Unit {0}
WentOn m gs n y None s = GoesOn m gs n y s

-- the store that the run of a module begins with, whose segments are of files which have so many each, or why there is none
abbrev pub StartsAs : Module → List Sizes → Result instances.Store LinkFault → Type 0
StartsAs m xs (Ok s) =
    (hosts : List Printer) × (printers_of m m.imports ≡ all_hosts hosts) × ((p : Program) → p.source ≡ m → parts_copied p 0 0 0 xs (allocated p hosts) ≡ copied (store_of s))
StartsAs m xs (Err (fault.Import f j)) = (f ≡ 0) × (printers_of m m.imports ≡ Missing j)
StartsAs m xs (Err (fault.Trap f t)) =
    (hosts : List Printer) × (printers_of m m.imports ≡ all_hosts hosts) × ((p : Program) → p.source ≡ m → parts_copied p 0 0 0 xs (allocated p hosts) ≡ traps f t)
StartsAs m xs (Err fault.NoEntry) = ⊥
StartsAs m xs (Err (fault.Limit f l)) = ⊥
StartsAs m xs (Err fault.OutOfMemory) = Unit {0}
