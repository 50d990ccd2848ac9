-- The numbers that the code of a script has are small: those of functions, handlers, tags, types, locals and labels, and the runs of its
-- locals are spelled.
use Rattle.std.proofs.Common.{◌≡◌, ℕ, suc, ◌+◌, ◌^◌, ◌<◌, ◌≤◌, Bool, true, false, cond, if◌then◌else◌, List, [], ◌∷◌, ◌++◌, length, Option, Some, None, refl, sym, ◌∙◌, subst, arith, length-append}
use Rattle.std.specs.Prelude.{sum_by, nat_eq}
use Rattle.std.specs.Str.{bytes_eq}
use Rattle.std.proofs.lemmas.List.{length-map}
use Rattle.std.proofs.lemmas.List.Sums.{sum_by-cons}
use Rattle.w_types.specs.declared.types.CompType.{CompType}
use Rattle.w_types.specs.declared.types.ValType.{ValType}
use Rattle.w_types.specs.declared.types.ValType.TheVariants.{I64}
use Rattle.w_syntax.specs.declared.locals.LocalRun.{LocalRun}
use Rattle.w_syntax.specs.Fields.{run as run_format}
use Rattle.w_syntax.specs.Locals.{same_kind, join, join_all, joined, total}
use Rattle.w_syntax.specs.LocalsLaws.{all_joined, joined_twice, total_joined, few_joined}
use Rattle.w_encode.specs.Canon.{run_written}
use Rattle.s_syntax.specs.declared.name.Name.{Name}
use Rattle.s_syntax.specs.declared.script.VariableType.{VariableType}
use Rattle.s_syntax.specs.declared.script.VariableType.TheVariants.{Int}
use Rattle.s_syntax.specs.declared.script.Definition.{Definition}
use Rattle.s_syntax.specs.declared.script.Definition.TheVariants as definition
use Rattle.s_syntax.specs.declared.script.Declaration.{Declaration}
use Rattle.s_syntax.specs.declared.script.Script.{Script}
use Rattle.s_check.specs.Refusal.{Good}
use Rattle.s_check.specs.Scopes.{Bound}
use Rattle.s_check.specs.Size.{definition_size, Size, size_limit}
use Rattle.s_index.specs.declared.counts.Counts.{Counts}
use Rattle.s_index.specs.Numbers.{no_counts, counted, counted_all, counts_of, number_behind, Entry, entry_behind, entry_of, index_of_function, index_of_handler, index_of_tag, index_of_table, with_entry, function_index, first_handler, handler_index, tag_index, group_tag_index, table_index}
use Rattle.s_index.specs.Types.{val_type, same_type, place}
use Rattle.s_index.specs.Indices.{type_table, type_index}
use Rattle.s_index.specs.Limits.{number_limit as limit}
use Rattle.s_code.specs.Layouts.{Local, Layout, numbered, local_of, number_in, local_number, owner_parameters}
use Rattle.s_code.specs.Places.{run, name_runs, locals_for}
use Rattle.s_valid.proofs.ManyTypes.{few_in_table}
use Rattle.w_encode.specs.Spelled.{EachSpelled, ListSpelled}
use Rattle.s_agrees.proofs.SpelledTokens.{run_spelled}

-- what is at most that can be spelled
pub fits : (n : ℕ) → n ≤ limit → n < 2 ^ 32
fits n h = omega (arith, h)

-- ## Indices

-- of functions, handlers, tags, among them that of groups, tables and types
pub record SmallIndices (ds : List Declaration) : Type 0 where
  pub function : (f : Name) → function_index ds f ≤ limit
  pub handler : (h : Name) → handler_index ds h ≤ limit
  pub tag : (o : Name) → tag_index ds o ≤ limit
  pub group : group_tag_index ds ≤ limit
  pub table : (s : Name) → table_index ds s ≤ limit
  pub type : (t : CompType) → type_index ds t ≤ limit

-- how many are counted of all kinds
abbrev all_counts : Counts → ℕ
all_counts n = n.effects + n.functions + n.handlers + n.slots

-- each declaration is counted once
counted_one : (n : Counts) (d : Definition) → all_counts (counted n d) ≡ all_counts n + 1
counted_one n (definition.Effect k) = omega arith
counted_one n (definition.Function f) = omega arith
counted_one n (definition.Handler h) = omega arith
counted_one n (definition.Slots s) = omega arith

counted_more : (n : Counts) (ds : List Declaration) → all_counts (counted_all n ds) ≡ all_counts n + length ds
counted_more n [] = omega arith
counted_more n (d ∷ ds) = let q = counted_more (counted n d.definition) ds in let r = counted_one n d.definition in omega (arith, q, r)

-- the functions are no more than all declarations, and neither are the effects
few_functions : (ds : List Declaration) → (counts_of ds).functions ≤ length ds
few_functions ds =
    let q : all_counts (counts_of ds) ≡ all_counts no_counts + length ds = counted_more no_counts ds in
    omega (arith, q)

few_effects : (ds : List Declaration) → (counts_of ds).effects ≤ length ds
few_effects ds =
    let q : all_counts (counts_of ds) ≡ all_counts no_counts + length ds = counted_more no_counts ds in
    omega (arith, q)

-- the number of a definition is at most how many stand before it
behind_small : (n : Counts) (d : Definition) → number_behind n d ≤ all_counts n
behind_small n (definition.Effect k) = omega arith
behind_small n (definition.Function f) = omega arith
behind_small n (definition.Handler h) = omega arith
behind_small n (definition.Slots s) = omega arith

-- an entry has a number that is at most k
abbrev EntrySmall : ℕ → Option Entry → Type 0
EntrySmall k None = Unit {0}
EntrySmall k (Some e) = e.number ≤ k

-- an entry's is at most how many declarations there are
entry_small : (n : Counts) (ds : List Declaration) (x : Name) (k : ℕ) → all_counts n + length ds ≤ k → EntrySmall k (entry_behind n ds x)
entry_small n [] x k h = tt
entry_small n (d ∷ ds) x k h =
    let one = counted_one n d.definition in
    let b = behind_small n d.definition in
    by (bytes_eq d.name x) (omega (arith, b, h)) (entry_small (counted n d.definition) ds x k (omega (arith, one, h)))
  where
    by : (b : Bool) → number_behind n d.definition ≤ k → EntrySmall k (entry_behind (counted n d.definition) ds x)
        → EntrySmall k (if b then Some (record { definition = d.definition; number = number_behind n d.definition }) else entry_behind (counted n d.definition) ds x)
    by true first rest = first
    by false first rest = rest

-- indices are hardly greater than numbers
function_of_entry : (k : ℕ) (d : Definition) (n : ℕ) → n ≤ k → index_of_function d n ≤ k + 1
function_of_entry k (definition.Effect e) n h = omega arith
function_of_entry k (definition.Function f) n h = omega (arith, h)
function_of_entry k (definition.Handler i) n h = omega arith
function_of_entry k (definition.Slots s) n h = omega arith

handler_of_entry : (k first : ℕ) (d : Definition) (n : ℕ) → n ≤ k → index_of_handler first d n ≤ first + k
handler_of_entry k first (definition.Effect e) n h = omega arith
handler_of_entry k first (definition.Function f) n h = omega arith
handler_of_entry k first (definition.Handler i) n h = omega (arith, h)
handler_of_entry k first (definition.Slots s) n h = omega arith

tag_of_entry : (k : ℕ) (d : Definition) (n : ℕ) → n ≤ k → index_of_tag d n ≤ k
tag_of_entry k (definition.Effect e) n h = h
tag_of_entry k (definition.Function f) n h = omega arith
tag_of_entry k (definition.Handler i) n h = omega arith
tag_of_entry k (definition.Slots s) n h = omega arith

table_of_entry : (k : ℕ) (d : Definition) (n : ℕ) → n ≤ k → index_of_table d n ≤ k
table_of_entry k (definition.Effect e) n h = omega arith
table_of_entry k (definition.Function f) n h = omega arith
table_of_entry k (definition.Handler i) n h = omega arith
table_of_entry k (definition.Slots s) n h = h

-- a name without an entry has the index 0
index_small : (index : Definition → ℕ → ℕ) (k m : ℕ) → ((d : Definition) (n : ℕ) → n ≤ k → index d n ≤ m) → (o : Option Entry) → EntrySmall k o → with_entry index o ≤ m
index_small index k m bound None h = omega arith
index_small index k m bound (Some e) h = bound e.definition e.number h

-- a type's place is at most how many types there are
pub place_small : (t : CompType) (ts : List CompType) → place t ts ≤ length ts
place_small t [] = omega arith
place_small t (u ∷ us) = by (same_type u t) (place_small t us)
  where
    by : (b : Bool) → place t us ≤ length us → (if b then 0 else suc (place t us)) ≤ suc (length us)
    by true h = omega arith
    by false h = omega (arith, h)

-- each declaration has a size
some_definition : (d : Definition) → 1 ≤ definition_size d
some_definition (definition.Effect n) = omega arith
some_definition (definition.Function f) = omega arith
some_definition (definition.Handler h) = omega arith
some_definition (definition.Slots s) = omega arith

-- so there are no more than they are large
pub few_declarations : (ds : List Declaration) → length ds ≤ sum_by (λ (d : Declaration). definition_size d.definition) ds
few_declarations [] = omega arith
few_declarations (d ∷ ds) =
    let q = few_declarations ds in
    let r = some_definition d.definition in
    let s = sum_by-cons (λ (e : Declaration). definition_size e.definition) d ds in
    omega (arith, q, r, s)

-- where declarations and types are few
indices_small : (ds : List Declaration) → length ds ≤ size_limit → length (type_table ds) ≤ 10000 → SmallIndices ds
indices_small ds few table =
    let entry : (x : Name) → EntrySmall (length ds) (entry_of ds x) = λ x. entry_small no_counts ds x (length ds) (omega arith) in
    let functions = few_functions ds in
    record {
      function = λ f. let q = index_small index_of_function (length ds) (length ds + 1) (function_of_entry (length ds)) (entry_of ds f) (entry f) in omega (arith, q, few);
      handler = λ h.
          let q = index_small (index_of_handler (first_handler ds)) (length ds) (first_handler ds + length ds) (handler_of_entry (length ds) (first_handler ds)) (entry_of ds h) (entry h) in
          omega (arith, q, few, functions);
      tag = λ o. let q = index_small index_of_tag (length ds) (length ds) (tag_of_entry (length ds)) (entry_of ds o) (entry o) in omega (arith, q, few);
      group = let q = few_effects ds in omega (arith, q, few);
      table = λ s. let q = index_small index_of_table (length ds) (length ds) (table_of_entry (length ds)) (entry_of ds s) (entry s) in omega (arith, q, few);
      type = λ t. let q = place_small t (type_table ds) in omega (arith, q, table);
    }

-- those of a script that breaks no rule and isn't too large
pub small_indices : (p : Script) → Good p → Size p ≤ size_limit → SmallIndices p.declarations
small_indices p good few =
    let q = few_declarations p.declarations in
    let t = few_in_table p good few in
    indices_small p.declarations (omega (arith, q, few)) t

-- ## Locals

-- each name's local, the temporaries, and the parameters of the handler
pub record SmallLayout (Γ : Layout) : Type 0 where
  pub name : (x : Name) → local_number Γ x ≤ limit
  pub temporaries : Γ.temporaries ≤ 100000
  pub parameters : owner_parameters Γ.owner ≤ limit

-- each of these names has a local that is at most k
abbrev LocalsSmall : ℕ → List Local → Type 0
LocalsSmall k [] = Unit {0}
LocalsSmall k (l ∷ ls) = (l.number ≤ k) × LocalsSmall k ls

-- names in order, behind one another
numbered_small : (k n : ℕ) (bs : List Bound) → n + length bs ≤ k → LocalsSmall k (numbered n bs)
numbered_small k n [] h = tt
numbered_small k n (b ∷ bs) h = (omega (arith, h), numbered_small k (n + 1) bs (omega (arith, h)))

appended_small : (k : ℕ) (ls ms : List Local) → LocalsSmall k ls → LocalsSmall k ms → LocalsSmall k (ls ++ ms)
appended_small k [] ms h i = i
appended_small k (l ∷ ls) ms h i = (h.0, appended_small k ls ms h.1 i)

-- so is the local that a name finds
local_small : (k : ℕ) (ls : List Local) (x : Name) → LocalsSmall k ls → number_in (local_of ls x) ≤ k
local_small k [] x h = omega arith
local_small k (l ∷ ls) x h = by (bytes_eq l.name x) h.0 (local_small k ls x h.1)
  where
    by : (b : Bool) → l.number ≤ k → number_in (local_of ls x) ≤ k → number_in (if b then Some l else local_of ls x) ≤ k
    by true first rest = first
    by false first rest = rest

-- the names of a function
pub names_small : (bs : List Bound) → length bs ≤ limit → (x : Name) → number_in (local_of (numbered 0 bs) x) ≤ limit
names_small bs h x = local_small limit (numbered 0 bs) x (numbered_small limit 0 bs (omega (arith, h)))

-- those of a handler's clause
pub both_small : (ps : List Bound) (n : ℕ) (bs : List Bound) → length ps ≤ limit → n + length bs ≤ limit → (x : Name) → number_in (local_of (numbered 0 ps ++ numbered n bs) x) ≤ limit
both_small ps n bs h i x =
    local_small limit (numbered 0 ps ++ numbered n bs) x
    (appended_small limit (numbered 0 ps) (numbered n bs) (numbered_small limit 0 ps (omega (arith, h))) (numbered_small limit n bs i))

-- ## Runs of locals

-- the type of each is that of a name
abbrev AreOfNames : List LocalRun → Type 0
AreOfNames [] = Unit {0}
AreOfNames (l ∷ ls) = ((t : VariableType) × (l.kind ≡ val_type t)) × AreOfNames ls

-- a run before others: whether it is of none, and whether it is like the next
two_of_names : (u v : Bool) (l m : LocalRun) (ms : List LocalRun) → ((t : VariableType) × (l.kind ≡ val_type t)) → AreOfNames (m ∷ ms)
    → AreOfNames (cond u (m ∷ ms) (cond v (record { count = l.count + m.count; kind = m.kind } ∷ ms) (l ∷ m ∷ ms)))
two_of_names true v l m ms h i = i
two_of_names false true l m ms h i = i
two_of_names false false l m ms h i = (h, i)

one_of_names : (u : Bool) (l : LocalRun) → ((t : VariableType) × (l.kind ≡ val_type t)) → AreOfNames (cond u [] (l ∷ []))
one_of_names true l h = tt
one_of_names false l h = (h, tt)

-- joining keeps that
join_of_names : (l : LocalRun) (ms : List LocalRun) → ((t : VariableType) × (l.kind ≡ val_type t)) → AreOfNames ms → AreOfNames (join l ms)
unfolding join
join_of_names l [] h i = one_of_names (nat_eq l.count 0) l h
join_of_names l (m ∷ ms) h i = two_of_names (nat_eq l.count 0) (same_kind l.kind m.kind) l m ms h i

joined_of_names : (ls : List LocalRun) → AreOfNames ls → AreOfNames (joined ls)
unfolding join_all
joined_of_names [] h = tt
joined_of_names (l ∷ ls) h = join_of_names l (joined ls) h.0 (joined_of_names ls h.1)

-- the runs of names and temporaries are such
runs_of_names : (bs : List Bound) (k : ℕ) → AreOfNames (name_runs bs ++ run I64 k ∷ [])
runs_of_names [] k = ((Int, refl), tt)
runs_of_names (b ∷ bs) k = ((b.ty, refl), runs_of_names bs k)

-- how many locals they are
total_of_names : (bs : List Bound) (k : ℕ) → total (name_runs bs ++ run I64 k ∷ []) ≡ length bs + k
unfolding total
total_of_names [] k = omega arith
total_of_names (b ∷ bs) k = let q = total_of_names bs k in omega (arith, q)

-- as many locals as there are names and temporaries
pub locals_total : (bs : List Bound) (k : ℕ) → total (locals_for bs k) ≡ length bs + k
locals_total bs k = total_joined (name_runs bs ++ run I64 k ∷ []) ∙ total_of_names bs k

-- and in no more runs
few_runs : (bs : List Bound) (k : ℕ) → length (locals_for bs k) ≤ length bs + 1
few_runs bs k =
    let q = few_joined (name_runs bs ++ run I64 k ∷ []) in
    let l = length-append (name_runs bs) (run I64 k ∷ []) in
    let m = length-map bs (λ (b : Bound). run (val_type b.ty) 1) in
    omega (arith, q, l, m)

-- a run is spelled, and so is each of several
one_run : (l : LocalRun) (t : VariableType) → l.kind ≡ val_type t → l.count < 2 ^ 32 → run_format.Spells (run_written l) l
one_run l t e h = subst (λ (k : ValType). run_format.Spells (run_written (record { count = l.count; kind = k })) (record { count = l.count; kind = k })) (sym e) (run_spelled l.count t h)

each_run : (ls : List LocalRun) → AreOfNames ls → total ls < 2 ^ 32 → EachSpelled run_format run_written ls
unfolding total
each_run [] h few = tt
each_run (l ∷ ls) h few = (one_run l h.0.0 h.0.1 (omega (arith, few)), each_run ls h.1 (omega (arith, few)))

-- the runs of names and temporaries
pub runs_spelled : (bs : List Bound) (k : ℕ) → length bs + k ≤ limit → ListSpelled run_format run_written (locals_for bs k)
runs_spelled bs k h =
    let t = locals_total bs k in
    let n = few_runs bs k in
    (omega (arith, n, h), each_run (locals_for bs k) (joined_of_names (name_runs bs ++ run I64 k ∷ []) (runs_of_names bs k)) (omega (arith, t, h)))

-- they are joined
pub runs_joined : (bs : List Bound) (k : ℕ) → joined (locals_for bs k) ≡ locals_for bs k
runs_joined bs k = joined_twice (locals_for bs k) (all_joined (name_runs bs ++ run I64 k ∷ []))
