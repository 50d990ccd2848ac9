-- Adding to a store, item by item.
use Rattle.std.proofs.Common.{◌≡◌, ℕ, zero, suc, ◌+◌, ◌<◌, List, [], ◌∷◌, ◌++◌, length, drop, get_or, map, refl, sym, ap, ◌∙◌, add-one}
use Rattle.std.specs.Prelude.{Option, replicate}
use Rattle.std.proofs.lemmas.List.{at_drop_more, append_assoc, append-nil, map-append}
use Rattle.w_types.specs.declared.value.Value.{Value}
use Rattle.w_memory.specs.Memory.{Memory}
use Rattle.w_tables.specs.declared.entries.FuncEntry.{FuncEntry}
use Rattle.w_tables.specs.declared.entries.FuncEntry.TheVariants as function
use Rattle.w_tables.specs.Store as instances
use Rattle.w_tables.specs.Operations.{add_function, add_table, add_memory, add_global, add_tag, add_elem, add_bytes}
use Rattle.w_reduce.specs.Values.{Val, val}
use Rattle.w_reduce.specs.Store.{Store, Table}
use Rattle.w_reduce.specs.Start.{own}
use Rattle.w_stands.specs.Values.{vals, table_of, store_of}
use Rattle.w_inst.specs.Adding.{with_functions, with_tables, with_memories, with_globals, with_tags, with_elements, with_datas}

-- ## One more

-- a function
pub function_added : (s t : instances.Store) (f : FuncEntry) (at : ℕ) → add_function s f ≡ (at, t) → store_of t ≡ with_functions (store_of s) (f ∷ [])
unfolding add_function
function_added s t f at e = ap (λ (r : ℕ × instances.Store). store_of r.1) (sym e)

-- a memory
pub memory_added : (s t : instances.Store) (m : Memory) (at : ℕ) → add_memory s m ≡ (at, t) → store_of t ≡ with_memories (store_of s) (m ∷ [])
unfolding add_memory
memory_added s t m at e = ap (λ (r : ℕ × instances.Store). store_of r.1) (sym e)

-- a tag
pub tag_added : (s t : instances.Store) (x at : ℕ) → add_tag s x ≡ (at, t) → store_of t ≡ with_tags (store_of s) (x ∷ [])
unfolding add_tag
tag_added s t x at e = ap (λ (r : ℕ × instances.Store). store_of r.1) (sym e)

-- a data segment
pub bytes_added : (s t : instances.Store) (bs : List ℕ) (at : ℕ) → add_bytes s bs ≡ (at, t) → store_of t ≡ with_datas (store_of s) (bs ∷ [])
unfolding add_bytes
bytes_added s t bs at e = ap (λ (r : ℕ × instances.Store). store_of r.1) (sym e)

-- a global
pub global_added : (s t : instances.Store) (v : Value) (at : ℕ) → add_global s v ≡ (at, t) → store_of t ≡ with_globals (store_of s) (val v ∷ [])
unfolding add_global
global_added s t v at e = ap (λ (r : ℕ × instances.Store). store_of r.1) (sym e)
    ∙ ap (λ (l : List Val). record (store_of s) { globals = l }) (map-append val s.globals (v ∷ []))

-- one value many times, as it is seen
replicated : (n : ℕ) (v : Value) → vals (replicate n v) ≡ replicate n (val v)
replicated zero v = refl
replicated (suc n) v = ap (λ (l : List Val). val v ∷ l) (replicated n v)

-- a table
pub table_added : (s t : instances.Store) (n : ℕ) (max : Option ℕ) (v : Value) (at : ℕ) → add_table s n max v ≡ (at, t)
    → store_of t ≡ with_tables (store_of s) (record { elements = replicate n (val v); max = max } ∷ [])
unfolding add_table
table_added s t n max v at e = ap (λ (r : ℕ × instances.Store). store_of r.1) (sym e)
    ∙ ap (λ (l : List Table). record (store_of s) { tables = l }) (map-append table_of s.tables (record { elements = replicate n v; max = max } ∷ []))
    ∙ ap (λ (l : List Val). with_tables (store_of s) (record { elements = l; max = max } ∷ [])) (replicated n v)

-- an element segment
pub elements_added : (s t : instances.Store) (vs : List Value) (at : ℕ) → add_elem s vs ≡ (at, t) → store_of t ≡ with_elements (store_of s) (vals vs ∷ [])
unfolding add_elem
elements_added s t vs at e = ap (λ (r : ℕ × instances.Store). store_of r.1) (sym e)
    ∙ ap (λ (l : List (List Val)). record (store_of s) { elements = l }) (map-append vals s.elems (vs ∷ []))

-- ## All of them: what is still to come behind those so far

-- one kind, by how a store gets more of it
pub record Kind {B : Type 0} (add : Store → List B → Store) : Type 0 where
  pub again : (s : Store) (bs cs : List B) → add (add s bs) cs ≡ add s (bs ++ cs)
  pub none : (s : Store) → add s [] ≡ s

-- functions
pub functions_kind : Kind with_functions
functions_kind = record { again = λ s bs cs. ap (λ (l : List FuncEntry). record s { functions = l }) (append_assoc s.functions bs cs); none = λ s. ap (λ (l : List FuncEntry). record s { functions = l }) (append-nil s.functions) }

-- tables
pub tables_kind : Kind with_tables
tables_kind = record { again = λ s bs cs. ap (λ (l : List Table). record s { tables = l }) (append_assoc s.tables bs cs); none = λ s. ap (λ (l : List Table). record s { tables = l }) (append-nil s.tables) }

-- memories
pub memories_kind : Kind with_memories
memories_kind = record { again = λ s bs cs. ap (λ (l : List Memory). record s { memories = l }) (append_assoc s.memories bs cs); none = λ s. ap (λ (l : List Memory). record s { memories = l }) (append-nil s.memories) }

-- globals
pub globals_kind : Kind with_globals
globals_kind = record { again = λ s bs cs. ap (λ (l : List Val). record s { globals = l }) (append_assoc s.globals bs cs); none = λ s. ap (λ (l : List Val). record s { globals = l }) (append-nil s.globals) }

-- tags
pub tags_kind : Kind with_tags
tags_kind = record { again = λ s bs cs. ap (λ (l : List ℕ). record s { tags = l }) (append_assoc s.tags bs cs); none = λ s. ap (λ (l : List ℕ). record s { tags = l }) (append-nil s.tags) }

-- element segments
pub elements_kind : Kind with_elements
elements_kind = record { again = λ s bs cs. ap (λ (l : List (List Val)). record s { elements = l }) (append_assoc s.elements bs cs); none = λ s. ap (λ (l : List (List Val)). record s { elements = l }) (append-nil s.elements) }

-- data segments
pub datas_kind : Kind with_datas
datas_kind = record { again = λ s bs cs. ap (λ (l : List (List ℕ)). record s { datas = l }) (append_assoc s.datas bs cs); none = λ s. ap (λ (l : List (List ℕ)). record s { datas = l }) (append-nil s.datas) }

-- one more of them
pub added_more : {A B : Type 0} (add : Store → List B → Store) → Kind add → (f : A → B) (s t all : Store) (xs : List A) (i : ℕ) (d : A) (b : B) → i < length xs
    → b ≡ f (get_or xs i d) → t ≡ add s (b ∷ []) → add s (map f (drop i xs)) ≡ all → add t (map f (drop (i + 1) xs)) ≡ all
added_more {A} {B} add k f s t all xs i d b h e g w =
    ap (λ (u : Store). add u (map f (drop (i + 1) xs))) (g ∙ ap (λ (y : B). add s (y ∷ [])) e)
    ∙ k.again s (f (get_or xs i d) ∷ []) (map f (drop (i + 1) xs))
    ∙ sym (at_drop_more (λ (l : List A). add s (map f l)) xs i d h)
    ∙ w

-- none is left
pub added_all : {A B : Type 0} (add : Store → List B → Store) → Kind add → (f : A → B) (s all : Store) (xs : List A) (i : ℕ) → drop i xs ≡ []
    → add s (map f (drop i xs)) ≡ all → s ≡ all
added_all {A} add k f s all xs i e w = sym (k.none s) ∙ ap (λ (l : List A). add s (map f l)) (sym e) ∙ w

-- the module's own functions
pub own_more : (s t u : Store) (n : ℕ) → s ≡ with_functions u (own n) → t ≡ with_functions s (function.Own n ∷ []) → t ≡ with_functions u (own (n + 1))
own_more s t u n e f =
    f ∙ ap (λ (x : Store). with_functions x (function.Own n ∷ [])) e ∙ functions_kind.again u (own n) (function.Own n ∷ []) ∙ ap (λ i. with_functions u (own i)) (sym (add-one n))
