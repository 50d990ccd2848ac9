-- The first store, part by part.
use Rattle.std.proofs.Common.{◌≡◌, ℕ, zero, suc, ◌+◌, List, [], ◌∷◌, length, map, refl, sym, ap, ◌∙◌, subst, arith, length-append}
use Rattle.w_types.specs.declared.value.Value.{Value}
use Rattle.w_memory.specs.Memory.{fresh}
use Rattle.w_syntax.specs.declared.module.Data as syntax_data
use Rattle.w_syntax.specs.declared.module.Elem as syntax_elem
use Rattle.w_syntax.specs.declared.module.Limits.{Limits}
use Rattle.w_syntax.specs.declared.module.Module.{Module}
use Rattle.w_tables.specs.declared.entries.FuncEntry.TheVariants as function
use Rattle.w_tables.specs.declared.entries.Printer.{Printer}
use Rattle.w_tables.specs.Store as instances
use Rattle.w_reduce.specs.Values.{val}
use Rattle.w_reduce.specs.Store.{Store}
use Rattle.w_reduce.specs.Program.{Program}
use Rattle.w_reduce.specs.Constants.{value_of}
use Rattle.w_reduce.specs.Start as start
use Rattle.w_reduce.specs.Start.{own, bare, table_of, allocated}
use Rattle.w_stands.specs.Values.{vals, store_of}
use Rattle.w_inst.specs.Adding.{with_tables, with_globals, with_elements}
use Rattle.w_inst.specs.Constants.{Sees}
use Rattle.w_inst.specs.Instances.{StandsFor, SegmentsFrom}
use Rattle.w_inst.proofs.SegmentCopies.{mapped_length}
use Rattle.w_inst.proofs.FoundValues.{having}
use Rattle.std.specs.Prelude.{Some, option_map, slice_get}
use Rattle.w_stands.specs.Values as view

-- so many functions
own_count : (n : ℕ) → length (own n) ≡ n
own_count zero = refl
own_count (suc n) = length-append (own n) (function.Own n ∷ []) ∙ ap (λ i. i + 1) (own_count n) ∙ omega arith

-- as many functions of the host
printers_count : (ps : List Printer) → length (map function.Printer ps) ≡ length ps
printers_count [] = refl
printers_count (p ∷ ps) = ap suc (printers_count ps)

-- both together
pub bare_count : (m : Module) (ps : List Printer) (n : ℕ) → n ≡ length ps + length m.functions → length (bare m ps).functions ≡ n
bare_count m ps n e = length-append (map function.Printer ps) (own (length m.functions)) ∙ omega (arith, e, own_count (length m.functions), printers_count ps)

-- with tables, and then with element segments
abbrev tabled : Program → Module → Store → Store
tabled p m s = record s { tables = map (table_of p s) m.tables }

-- the same of element segments
abbrev segmented : Program → Module → Store → Store
segmented p m s = record s { elements = map (λ (e : syntax_elem.Elem). map (value_of p s) e.items) m.elements }

-- the definition, of a module that is the program's
abbrev allocated_in : Program → Module → List Printer → Store
allocated_in p m ps = segmented p m (tabled p m (start.with_globals p (bare m ps) m.globals))

-- what is allocated, where these are the globals' values
abbrev pub made_of : Program → Module → List Printer → List Value → Store
made_of p m ps gs = segmented p m (tabled p m (having (bare m ps) gs))

-- what was made, and what of it is the definition's
pub record IsMade (p : Program) (m : Module) (ps : List Printer) (gs : List Value) (d : Store) : Type 0 where
  pub made : d ≡ made_of p m ps gs
  pub allocates : d ≡ allocated p ps

-- what asks for values, in order
pub all_made : (p : Program) (m : Module) (ps : List Printer) (gs : List Value) (n : ℕ) (a b c d : Store) → p.source ≡ m → n ≡ length ps + length m.functions
    → start.with_globals p (bare m ps) m.globals ≡ having (bare m ps) gs
    → a ≡ bare m ps
    → b ≡ with_globals a (map val gs)
    → ((s : Store) → Sees gs n s → c ≡ with_tables b (map (table_of p s) m.tables))
    → ((s : Store) → Sees gs n s → d ≡ with_elements c (map (λ (e : syntax_elem.Elem). map (value_of p s) e.items) m.elements))
    → IsMade p m ps gs d
all_made p m ps gs n a b c d e f g h i j k =
    let here = having (bare m ps) gs in
    let seen : Sees gs n here = record { count = bare_count m ps n f; values = refl } in
    let seen_too : Sees gs n (tabled p m here) = record { count = bare_count m ps n f; values = refl } in
    let globals : b ≡ here = i ∙ ap (λ (s : Store). with_globals s (map val gs)) h in
    let tables : c ≡ tabled p m here = j here seen ∙ ap (λ (s : Store). with_tables s (map (table_of p here) m.tables)) globals in
    let all : d ≡ made_of p m ps gs =
    k (tabled p m here) seen_too ∙ ap (λ (s : Store). with_elements s (map (λ (x : syntax_elem.Elem). map (value_of p (tabled p m here)) x.items) m.elements)) tables in
    record {
      made = all;
      allocates = all ∙ ap (λ (s : Store). segmented p m (tabled p m s)) (sym g) ∙ ap (λ (x : Module). allocated_in p x ps) (sym e);
    }

-- ## As many of all things as in the module

-- lists that are seen alike are equally long
same_length : {A B C : Type 0} (f : A → C) (g : B → C) (xs : List A) (ys : List B) → map f xs ≡ map g ys → length xs ≡ length ys
same_length f g xs ys e = sym (mapped_length f xs) ∙ ap length e ∙ mapped_length g ys

-- the length of an item that is seen through a map
seen_length : {A B : Type 0} (f : A → List B) (k : A → ℕ) → ((a : A) → length (f a) ≡ k a) → (xs : List A) (j : ℕ) → option_map length (slice_get (map f xs) j) ≡ option_map k (slice_get xs j)
seen_length f k h [] j = refl
seen_length f k h (x ∷ xs) zero = ap Some (h x)
seen_length f k h (x ∷ xs) (suc j) = seen_length f k h xs j

-- what was made has as many of all things as the module
pub made_stands : (p : Program) (m : Module) (ps : List Printer) (gs : List Value) (n : ℕ) (s : instances.Store) → n ≡ length ps + length m.functions → store_of s ≡ made_of p m ps gs
    → StandsFor m gs n s
made_stands p m ps gs n s f e =
    let here : Sees gs n (made_of p m ps gs) = record { count = bare_count m ps n f; values = refl } in
    record {
      sees = subst (Sees gs n) (sym e) here;
      tables = same_length view.table_of (table_of p (having (bare m ps) gs)) s.tables m.tables (ap (λ (t : Store). t.tables) e);
      memories = ap (λ (t : Store). length t.memories) e ∙ mapped_length (λ (l : Limits). fresh l.min l.max) m.memories;
      elements = same_length vals (λ (x : syntax_elem.Elem). map (value_of p (tabled p m (having (bare m ps) gs))) x.items) s.elems m.elements (ap (λ (t : Store). t.elements) e);
      datas = ap (λ (t : Store). length t.datas) e ∙ mapped_length (λ (d : syntax_data.Data). d.bytes) m.datas;
    }

-- and its element segments are as long as those of the module
pub made_segments : (p : Program) (m : Module) (ps : List Printer) (gs : List Value) (s : instances.Store) → store_of s ≡ made_of p m ps gs → SegmentsFrom m 0 s
made_segments p m ps gs s e j h =
    let value = value_of p (tabled p m (having (bare m ps) gs)) in
    sym (seen_length vals length (mapped_length val) s.elems j)
    ∙ ap (λ (t : Store). option_map length (slice_get t.elements j)) e
    ∙ seen_length (λ (x : syntax_elem.Elem). map value x.items) (λ (x : syntax_elem.Elem). length x.items) (λ x. mapped_length value x.items) m.elements j
