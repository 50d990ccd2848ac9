-- Segments in order: how far they are started.
use Rattle.std.proofs.Common.{◌≡◌, ℕ, ◌+◌, ◌<◌, List, length, drop, get_or, slice_get, sym, ap, ◌∙◌, arith}
use Rattle.std.specs.Prelude.{Option, Some, option_map}
use Rattle.std.proofs.lemmas.Option.{slice_get-get_or}
use Rattle.w_types.specs.declared.value.Value.{Value}
use Rattle.w_syntax.specs.declared.module.Data.{Data}
use Rattle.w_syntax.specs.declared.module.Elem.{Elem}
use Rattle.w_syntax.specs.declared.module.Module.{Module}
use Rattle.w_tables.specs.Store as instances
use Rattle.w_reduce.specs.Store.{Store}
use Rattle.w_reduce.specs.Program.{Program}
use Rattle.w_reduce.specs.Start.{in_order, element_started, data_started}
use Rattle.w_stands.specs.Values.{store_of}
use Rattle.w_inst.specs.Segments.{element_length}
use Rattle.w_inst.specs.Instances.{StandsFor, SegmentsFrom, IsPart}

-- a list is the part of itself that begins with its first
pub whole_part : {A : Type 0} (part all : List A) → part ≡ all → IsPart 0 part all
whole_part part all e j lt = let first : j ≡ 0 + j = omega arith in ap (λ l. slice_get l j) e ∙ ap (slice_get all) first

-- ## Element segments

-- how an element segment is started
abbrev pub by_element : Program → Store → ℕ → Elem → Option Store
by_element p s y e = element_started p s y e.mode

-- the first i of a part that begins with this number are started
pub record ElementsStarted (m : Module) (part : List Elem) (from : ℕ) (gs : List Value) (n : ℕ) (first s : instances.Store) (i : ℕ) : Type 0 where
  pub stands : StandsFor m gs n s
  pub segments : SegmentsFrom m (from + i) s
  pub same : (p : Program) → in_order (by_element p) (Some (store_of s)) (from + i) (drop i part) ≡ in_order (by_element p) (Some (store_of first)) from part

-- as many values as items
pub length_here : (m : Module) (part : List Elem) (from i : ℕ) (d : Elem) (s : instances.Store) → IsPart from part m.elements → SegmentsFrom m (from + i) s → i < length part → d ≡ get_or part i d
    → element_length s (from + i) ≡ Some (length d.items)
length_here m part from i d s is h k e =
    h (from + i) (omega arith) ∙ ap (option_map (λ (x : Elem). length x.items)) (sym (is i k) ∙ slice_get-get_or part i d k ∙ ap Some (sym e))

-- ## Data segments

-- how a data segment is started
abbrev pub by_data : Program → Store → ℕ → Data → Option Store
by_data p s y d = data_started p s y d.mode

-- the first i of a part that begins with this number are started
pub record DatasStarted (m : Module) (part : List Data) (from : ℕ) (gs : List Value) (n : ℕ) (first s : instances.Store) (i : ℕ) : Type 0 where
  pub stands : StandsFor m gs n s
  pub elements : s.elems ≡ first.elems
  pub same : (p : Program) → in_order (by_data p) (Some (store_of s)) (from + i) (drop i part) ≡ in_order (by_data p) (Some (store_of first)) from part
