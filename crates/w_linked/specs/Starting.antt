-- Where a run of files begins: the first reason why it doesn't, or its store and its first term.
use Rattle.std.specs.Prelude.{ℕ, suc, ◌+◌, List, [], ◌∷◌, map, length, Option, Some, None}
use Rattle.w_syntax.specs.declared.module.Data as syntax_data
use Rattle.w_syntax.specs.declared.module.Elem as syntax_elem
use Rattle.w_syntax.specs.declared.module.Module.{Module}
use Rattle.w_reduce.specs.declared.limit.StartLimit.{StartLimit}
use Rattle.w_reduce.specs.declared.trap.Trap.{Trap}
use Rattle.w_reduce.specs.declared.trap.Trap.TheVariants as trap
use Rattle.w_reduce.specs.Imports.{Found, All, Missing, printers_of}
use Rattle.w_reduce.specs.Program.{Program}
use Rattle.w_reduce.specs.Run.{RunState, Run}
use Rattle.w_reduce.specs.Start.{entry, exceeded, allocated, element_started, data_started, in_order, first_term}
use Rattle.w_reduce.specs.Store.{Store}
use Rattle.w_reduce.specs.Terms.{Term}
use Rattle.w_link.specs.Resolved.{at}
use Rattle.w_link.specs.Items.{resolved_elem, resolved_data}
use Rattle.w_linked.specs.Definitions.{definitions, hosts}
use Rattle.w_linked.specs.Imports.{TypeTests, Placed}
use Rattle.w_linked.specs.Linked.{at_first, Placing, placed, no_import, placing, all_starts, linked}

-- what linking comes to
pub data StartedL : Type 0 where
  Ready : Program → Store → Term → StartedL
  -- the last file has no main
  NoEntry : StartedL
  NoImport : (file import : ℕ) → StartedL
  Exceeds : (file : ℕ) → StartLimit → StartedL
  StartTraps : (file : ℕ) → Trap → StartedL

-- ## main

abbrev pub last_entry : List Module → Option ℕ
last_entry [] = None
last_entry (m ∷ []) = entry m
last_entry (m ∷ n ∷ ms) = last_entry (n ∷ ms)

-- the address of function x of the last file
abbrev pub in_last : List Placed → ℕ → ℕ
in_last [] x = 0
in_last (p ∷ []) x = at p.instance.functions x
in_last (p ∷ q ∷ ps) x = in_last (q ∷ ps) x

-- ## Limits, file by file

abbrev pub or_next : ℕ → Option StartLimit → Option (ℕ × StartLimit) → Option (ℕ × StartLimit)
or_next f (Some l) o = Some (f, l)
or_next f None o = o

abbrev pub first_exceeded : ℕ → List Module → Option (ℕ × StartLimit)
first_exceeded f [] = None
first_exceeded f (m ∷ ms) = or_next f (exceeded m) (first_exceeded (suc f) ms)

-- ## Active segments, file by file

pub data Copied : Type 0 where
  copied : Store → Copied
  traps : (file : ℕ) → Trap → Copied

abbrev pub and_datas : ℕ → Option Store → (Store → Copied) → Copied
and_datas f None rest = traps f trap.MemoryOutOfBounds
and_datas f (Some s) rest = rest s

abbrev pub and_elements : ℕ → Option Store → (Store → Copied) → Copied
and_elements f None rest = traps f trap.TableOutOfBounds
and_elements f (Some s) rest = rest s

-- from file f on, whose element and data segments begin with numbers y and z
abbrev pub all_copied : Program → ℕ → ℕ → ℕ → List Placed → Store → Copied
all_copied p f y z [] s = copied s
all_copied p f y z (x ∷ xs) s =
    and_elements f (in_order (λ s y (e : syntax_elem.Elem). element_started p s y e.mode) (Some s) y (map (resolved_elem x.instance) x.source.elements)) (λ t.
    and_datas f (in_order (λ s y (d : syntax_data.Data). data_started p s y d.mode) (Some t) z (map (resolved_data x.instance) x.source.datas)) (λ u.
    all_copied p (suc f) (y + length x.source.elements) (z + length x.source.datas) xs u))

-- ## All in order

abbrev pub with_copied : Program → List Placed → ℕ → Copied → StartedL
with_copied p ps x (traps f t) = StartTraps f t
with_copied p ps x (copied s) = Ready p s (first_term (all_starts ps) (in_last ps x))

-- all imports that are left are the host's
abbrev pub with_hosts : Program → List Placed → ℕ → Found → StartedL
with_hosts p ps x (Missing j) = NoImport 0 j
with_hosts p ps x (All hs) = with_copied p ps x (all_copied p 0 0 0 ps (allocated p hs))

abbrev pub within_limits : Program → List Placed → ℕ → Option (ℕ × StartLimit) → StartedL
within_limits p ps x (Some l) = Exceeds l.0 l.1
within_limits p ps x None = with_hosts p ps x (printers_of p.source p.source.imports)

-- a module, with what is known of its types
abbrev pub program_of : TypeTests → Module → Program
program_of tests m = record { source = m; matches = tests.matches }

abbrev pub with_imports : TypeTests → List Module → ℕ → Placing → StartedL
with_imports tests ms x (no_import f j) = NoImport f j
with_imports tests ms x (placed ps) = within_limits (program_of tests (linked ps)) ps x (first_exceeded 0 ms)

-- how many functions of the host the files name
abbrev pub with_entry : TypeTests → List Module → Option ℕ → StartedL
with_entry tests ms None = NoEntry
with_entry tests ms (Some x) = with_imports tests ms x (placing tests (definitions ms) [] (at_first (hosts ms)) ms)

-- the start of a run of these files, by what is known of their types, all in one list
abbrev pub StartL : TypeTests → List Module → StartedL
StartL tests ms = with_entry tests ms (last_entry ms)

-- the run of at most n reductions
abbrev pub RunL : StartedL → ℕ → Option RunState
RunL (Ready p s t) n = Some (Run p s t n)
RunL NoEntry n = None
RunL (NoImport f j) n = None
RunL (Exceeds f l) n = None
RunL (StartTraps f t) n = None
