-- What linking comes to, step by step, and that a run may begin with what is linked.
use Rattle.std.proofs.Common.{◌≡◌, ℕ, List, [], ◌∷◌, map, length, Some, None, Ok, Err, refl, sym, ap, ◌∙◌, arith}
use Rattle.w_syntax.specs.declared.module.Module.{Module}
use Rattle.w_canon.specs.declared.entry.Entry.{Entry}
use Rattle.w_tables.specs.Store as instances
use Rattle.w_tables.specs.declared.entries.Printer.{Printer}
use Rattle.w_reduce.specs.declared.limit.StartLimit.{StartLimit}
use Rattle.w_reduce.specs.declared.trap.Trap.{Trap}
use Rattle.w_reduce.specs.Imports.{Found, All as all_hosts, Missing, printers_of}
use Rattle.w_reduce.specs.Program.{Program, IsProgram}
use Rattle.w_reduce.specs.Start.{exceeded, allocated, first_term}
use Rattle.w_reduce.specs.Store.{Store}
use Rattle.w_stands.specs.Values.{store_of}
use Rattle.w_link.specs.Resolved.{Instance}
use Rattle.w_linked.specs.Definitions.{definitions, hosts}
use Rattle.w_linked.specs.Imports.{TypeTests, Placed}
use Rattle.w_linked.specs.Linked.{at_first, Placing, placed, no_import, placing, all_starts, linked}
use Rattle.w_linked.specs.Starting.{Ready, NoImport, Exceeds, StartTraps, last_entry, in_last, first_exceeded, Copied, copied, traps, with_copied, with_hosts, within_limits, program_of, with_imports, with_entry, StartL}
use Rattle.w_linked.proofs.LinkedLimits.{IsWithin, all_within, linked_within}
use Rattle.w_linked.proofs.LinkedSound.{each_of_places}
use Rattle.w_linked.proofs.LinkedStart.{main_there, starts_there, linked_starts_typed}
use Rattle.w_placing.specs.Placing.{zipped}
use Rattle.w_placing.specs.Tests.{tests_of}
use Rattle.w_machine.specs.Beginning.{IsFirstStore, BeginsAt}
use Rattle.w_machine.proofs.FirstStep.{may_begin}
use Rattle.w_linker.specs.declared.linking.LinkFault.{LinkFault}
use Rattle.w_linker.specs.declared.linking.LinkFault.TheVariants as fault
use Rattle.w_linker.specs.declared.starting.Sizes.{Sizes}
use Rattle.w_linker.specs.Files.{AreLinked}
use Rattle.w_linker.specs.Links.{LinksAs}
use Rattle.w_linker.specs.Parts.{in_last_of}
use Rattle.w_linker.specs.Segments.{sizes_of, parts_copied, StartsAs}
use Rattle.w_linker.proofs.FilesCopied.{placed_sizes, parts_are_files, first_store_there}
use Rattle.w_linker.proofs.LinkedProgram.{tells, good, places, is_sound}

-- ## Files and their instances

-- the last file's instance is the last
pub in_last_is : (ms : List Module) (is : List Instance) (x : ℕ) → length is ≡ length ms → in_last_of is x ≡ in_last (zipped ms is) x
in_last_is [] [] x e = refl
in_last_is [] (i ∷ is) x e = absurd (omega (arith, e))
in_last_is (m ∷ ms) [] x e = absurd (omega (arith, e))
in_last_is (m ∷ []) (i ∷ []) x e = refl
in_last_is (m ∷ []) (i ∷ j ∷ is) x e = absurd (omega (arith, e))
in_last_is (m ∷ n ∷ ms) (i ∷ []) x e = absurd (omega (arith, e))
in_last_is (m ∷ n ∷ ms) (i ∷ j ∷ is) x e = in_last_is (n ∷ ms) (j ∷ is) x (omega (arith, e))

-- a file that is placed has the segments that it had
pub sizes_are : (ms : List Module) (is : List Instance) → length is ≡ length ms → map sizes_of ms ≡ placed_sizes (zipped ms is)
sizes_are [] is e = refl
sizes_are (m ∷ ms) [] e = absurd (omega (arith, e))
sizes_are (m ∷ ms) (i ∷ is) e = ap (λ (l : List Sizes). sizes_of m ∷ l) (sizes_are ms is (omega (arith, e)))

-- ## The first reason why there is no run

module _ (tests : TypeTests) (ms : List Module) where
  placing_found : (x : ℕ) (o : Placing) → last_entry ms ≡ Some x → placing tests (definitions ms) [] (at_first (hosts ms)) ms ≡ o → StartL tests ms ≡ with_imports tests ms x o
  placing_found x o e k = ap (with_entry tests ms) e ∙ ap (with_imports tests ms x) k

  pub without_import : (x f j : ℕ) → last_entry ms ≡ Some x → placing tests (definitions ms) [] (at_first (hosts ms)) ms ≡ no_import f j → StartL tests ms ≡ NoImport f j
  without_import x f j e k = placing_found x (no_import f j) e k

  pub too_large : (x : ℕ) (ps : List Placed) (f : ℕ) (l : StartLimit) → last_entry ms ≡ Some x → placing tests (definitions ms) [] (at_first (hosts ms)) ms ≡ placed ps
      → first_exceeded 0 ms ≡ Some (f, l) → StartL tests ms ≡ Exceeds f l
  too_large x ps f l e k h = placing_found x (placed ps) e k ∙ ap (within_limits (program_of tests (linked ps)) ps x) h

  -- none of these
  module _ (x : ℕ) (ps : List Placed) (e : last_entry ms ≡ Some x) (k : placing tests (definitions ms) [] (at_first (hosts ms)) ms ≡ placed ps) (h : first_exceeded 0 ms ≡ None) where
    abbrev P : Program
    P = program_of tests (linked ps)

    hosts_found : (o : Found) → printers_of (linked ps) (linked ps).imports ≡ o → StartL tests ms ≡ with_hosts P ps x o
    hosts_found o is = placing_found x (placed ps) e k ∙ ap (within_limits P ps x) h ∙ ap (with_hosts P ps x) is

    pub without_host : (j : ℕ) → printers_of (linked ps) (linked ps).imports ≡ Missing j → StartL tests ms ≡ NoImport 0 j
    without_host j is = hosts_found (Missing j) is

    copied_to : (hs : List Printer) (o : Copied) → printers_of (linked ps) (linked ps).imports ≡ all_hosts hs → parts_copied P 0 0 0 (placed_sizes ps) (allocated P hs) ≡ o
        → StartL tests ms ≡ with_copied P ps x o
    copied_to hs o is done = hosts_found (all_hosts hs) is ∙ ap (with_copied P ps x) (sym (parts_are_files P ps refl (allocated P hs)) ∙ done)

    pub past_an_end : (hs : List Printer) (f : ℕ) (t : Trap) → printers_of (linked ps) (linked ps).imports ≡ all_hosts hs
        → parts_copied P 0 0 0 (placed_sizes ps) (allocated P hs) ≡ traps f t → StartL tests ms ≡ StartTraps f t
    past_an_end hs f t is done = copied_to hs (traps f t) is done

    pub all_ready : (hs : List Printer) (s : Store) → printers_of (linked ps) (linked ps).imports ≡ all_hosts hs
        → parts_copied P 0 0 0 (placed_sizes ps) (allocated P hs) ≡ copied s → StartL tests ms ≡ Ready P s (first_term (all_starts ps) (in_last ps x))
    all_ready hs s is done = copied_to hs (copied s) is done

-- ## Files that are linked

module _ (es : List Entry) (ms : List Module) (is : List Instance) (a : AreLinked es ms is) (x : ℕ) (e : last_entry ms ≡ Some x) (h : first_exceeded 0 ms ≡ None) where
  abbrev ps : List Placed
  ps = zipped ms is

  abbrev L : Module
  L = linked ps

  abbrev tests : TypeTests
  tests = tests_of es

  pub is_within : exceeded L ≡ None
  is_within = linked_within ps (each_of_places IsWithin tests ms (places es ms is a) (all_within 0 ms h))

  -- why there is no store is why there is no run
  pub fault_is : (f : LinkFault) → StartsAs L (map sizes_of ms) (Err f) → LinksAs tests ms (Err f)
  fault_is fault.NoEntry k = absurd k
  fault_is (fault.Import f j) k = without_host tests ms x ps e a.placed h j k.1 ∙ ap (λ (n : ℕ). NoImport n j) (sym k.0)
  fault_is (fault.Limit f l) k = absurd k
  fault_is (fault.Trap f t) k =
      let p = program_of tests L in
      past_an_end tests ms x ps e a.placed h k.0 f t k.1 (ap (λ (l : List Sizes). parts_copied p 0 0 0 l (allocated p k.0)) (sym (sizes_are ms is a.as_many)) ∙ k.2 p refl)
  fault_is fault.OutOfMemory k = tt

  -- where there is one, a run may begin
  module _ (s : instances.Store) (k : StartsAs L (map sizes_of ms) (Ok s)) where
    all_copied_for : (p : Program) → p.source ≡ L → parts_copied p 0 0 0 (placed_sizes ps) (allocated p k.0) ≡ copied (store_of s)
    all_copied_for p source = ap (λ (l : List Sizes). parts_copied p 0 0 0 l (allocated p k.0)) (sym (sizes_are ms is a.as_many)) ∙ k.2 p source

    pub ready : StartL tests ms ≡ Ready (program_of tests L) (store_of s) (first_term (all_starts ps) (in_last ps x))
    ready = all_ready tests ms x ps e a.placed h k.0 (store_of s) k.1 (all_copied_for (program_of tests L) refl)

    its_store : (p : Program) → p.source ≡ L → IsProgram p → IsFirstStore p (store_of s)
    its_store p source program = record {
      hosts = k.0;
      imports = ap (λ (m : Module). printers_of m m.imports) source ∙ k.1;
      is = first_store_there p ps k.0 (store_of s) (is_sound es ms is a) source (sym (parts_are_files p ps source (allocated p k.0)) ∙ all_copied_for p source);
    }

    pub begins : BeginsAt L s (all_starts ps) (in_last ps x)
    begins = may_begin L s (all_starts ps) (in_last ps x)
        (starts_there ms tests ps (places es ms is a) (tells es ms is a) (good es ms is a) [] ps refl)
        (main_there ms tests ps (places es ms is a) (tells es ms is a) (good es ms is a) x e)
        (linked_starts_typed tests ms (program_of tests L) (store_of s) (first_term (all_starts ps) (in_last ps x)) (tells es ms is a) (good es ms is a) ready).typed.store
        its_store
