-- Values found for globals, tables and element segments.
use Rattle.std.proofs.Common.{◌≡◌, ℕ, ◌+◌, ◌<◌, ◌≤◌, List, [], ◌∷◌, ◌++◌, length, drop, get_or, map, refl, sym, ap, ◌∙◌, arith}
use Rattle.std.specs.Prelude.{Option, Some, None, slice_get, replicate}
use Rattle.std.proofs.lemmas.List.{at_drop_more, append_assoc, append-nil, map-append}
use Rattle.std.proofs.lemmas.Option.{slice_get_past, get_or_from_slice_get}
use Rattle.w_types.specs.declared.types.HeapType.{HeapType}
use Rattle.w_types.specs.declared.value.Value.{Value}
use Rattle.w_syntax.specs.Code.{Code}
use Rattle.w_syntax.specs.Items.{reference_to, null_of}
use Rattle.w_syntax.specs.declared.module.GlobalVariable.{GlobalVariable}
use Rattle.w_syntax.specs.declared.module.Table as syntax_table
use Rattle.w_tables.specs.declared.entries.FuncEntry.{FuncEntry}
use Rattle.w_reduce.specs.Values.{Val, Null, Func, val}
use Rattle.w_reduce.specs.Store.{Store, Table}
use Rattle.w_reduce.specs.Program.{Program}
use Rattle.w_reduce.specs.Constants.{evaluated, value_of}
use Rattle.w_reduce.specs.Start.{with_globals, filling, table_of}
use Rattle.w_stands.specs.Values.{vals}
use Rattle.w_inst.specs.Constants.{Sees}
use Rattle.w_inst.proofs.Operands.{there}

-- ## Globals

-- the store with these as its globals
abbrev pub having : Store → List Value → Store
having s vs = record s { globals = vals vs }

-- the globals are found so far
abbrev pub GlobalsFound : ℕ → List GlobalVariable → List Value → List GlobalVariable → Type 0
GlobalsFound n all vs rest = (p : Program) (s : Store) → length s.functions ≡ n → s.globals ≡ [] → with_globals p s all ≡ with_globals p (having s vs) rest

-- none so far
pub globals_first : (n : ℕ) (all rest : List GlobalVariable) → rest ≡ all → GlobalsFound n all [] rest
globals_first n all rest e p s h g = ap (with_globals p s) (sym e) ∙ ap (λ (l : List Val). with_globals p (record s { globals = l }) rest) g

-- one more
pub globals_more : (n : ℕ) (all xs : List GlobalVariable) (i : ℕ) (d : GlobalVariable) (vs ws : List Value) (v : Value) → i < length xs → d ≡ get_or xs i d → ws ≡ vs ++ v ∷ []
    → ((p : Program) (s : Store) → Sees vs n s → value_of p s d.init ≡ val v) → GlobalsFound n all vs (drop i xs) → GlobalsFound n all ws (drop (i + 1) xs)
globals_more n all xs i d vs ws v h e f found w p s c g =
    let here = having s vs in
    let valued : value_of p here (get_or xs i d).init ≡ val v = ap (λ (x : GlobalVariable). value_of p here x.init) (sym e) ∙ found p here (record { count = c; values = refl }) in
    let grown : vals vs ++ value_of p here (get_or xs i d).init ∷ [] ≡ vals ws = ap (λ (y : Val). vals vs ++ y ∷ []) valued ∙ sym (map-append val vs (v ∷ [])) ∙ ap vals (sym f) in
    w p s c g ∙ at_drop_more (with_globals p here) xs i d h ∙ ap (λ (l : List Val). with_globals p (record s { globals = l }) (drop (i + 1) xs)) grown

-- all of them
pub globals_all : (n : ℕ) (all : List GlobalVariable) (vs : List Value) (rest : List GlobalVariable) → rest ≡ [] → GlobalsFound n all vs rest
    → (p : Program) (s : Store) → length s.functions ≡ n → s.globals ≡ [] → with_globals p s all ≡ having s vs
globals_all n all vs rest e w p s c g = w p s c g ∙ ap (with_globals p (having s vs)) e

-- ## Element segments

-- a null
pub value_of_null : (h : HeapType) (p : Program) (s : Store) → value_of p s (null_of h) ≡ Null
unfolding evaluated
value_of_null h p s = refl

-- a function, where it is there
function_there : (x : ℕ) (p : Program) (s : Store) (f : FuncEntry) → slice_get s.functions x ≡ Some f → value_of p s (reference_to x) ≡ Func x
unfolding evaluated
function_there x p s f e = rw e refl

-- a function below their number
pub value_of_function : (x n : ℕ) (vs : List Value) → x < n → (p : Program) (s : Store) → Sees vs n s → value_of p s (reference_to x) ≡ Func x
value_of_function x n vs h p s w =
    let at = there s.functions x (omega (arith, h, w.count)) in
    function_there x p s at.0 at.1

-- no function is there
function_missing : (x : ℕ) (p : Program) (s : Store) → slice_get s.functions x ≡ None → value_of p s (reference_to x) ≡ Null
unfolding evaluated
function_missing x p s e = rw e refl

-- a number past theirs
pub value_of_no_function : (x n : ℕ) (vs : List Value) → n ≤ x → (p : Program) (s : Store) → Sees vs n s → value_of p s (reference_to x) ≡ Null
value_of_no_function x n vs h p s w = function_missing x p s (slice_get_past s.functions x (omega (arith, h, w.count)))

-- the items are valued so far
abbrev pub ItemsFound : List Value → ℕ → List Code → List Value → List Code → Type 0
ItemsFound gs n all vs rest = (p : Program) (s : Store) → Sees gs n s → map (value_of p s) all ≡ vals vs ++ map (value_of p s) rest

-- one more
pub items_more : (gs : List Value) (n : ℕ) (xs : List Code) (i : ℕ) (k : Code) (vs ws : List Value) (v : Value) → slice_get xs i ≡ Some k → i < length xs → ws ≡ vs ++ v ∷ []
    → ((p : Program) (s : Store) → Sees gs n s → value_of p s k ≡ val v) → ItemsFound gs n xs vs (drop i xs) → ItemsFound gs n xs ws (drop (i + 1) xs)
items_more gs n xs i k vs ws v e h f found w p s c =
    let valued : value_of p s (get_or xs i k) ≡ val v = ap (value_of p s) (get_or_from_slice_get xs i k k e) ∙ found p s c in
    w p s c ∙ ap (λ (l : List Val). vals vs ++ l) (at_drop_more (map (value_of p s)) xs i k h)
    ∙ sym (append_assoc (vals vs) (value_of p s (get_or xs i k) ∷ []) (map (value_of p s) (drop (i + 1) xs)))
    ∙ ap (λ (l : List Val). l ++ map (value_of p s) (drop (i + 1) xs)) (ap (λ (y : Val). vals vs ++ y ∷ []) valued ∙ sym (map-append val vs (v ∷ [])) ∙ ap vals (sym f))

-- all of them
pub items_all : (gs : List Value) (n : ℕ) (xs : List Code) (vs : List Value) (rest : List Code) → rest ≡ [] → ItemsFound gs n xs vs rest
    → (p : Program) (s : Store) → Sees gs n s → map (value_of p s) xs ≡ vals vs
items_all gs n xs vs rest e w p s c = w p s c ∙ ap (λ (l : List Code). vals vs ++ map (value_of p s) l) e ∙ append-nil (vals vs)

-- ## Tables

-- a table of n elements, each the value that was found
pub table_made : (p : Program) (s : Store) (t : syntax_table.Table) (v : Value) (max : Option ℕ) → filling p s t.init ≡ val v → max ≡ t.kind.limits.max
    → record { elements = replicate t.kind.limits.min (val v); max = max } ≡ table_of p s t
table_made p s t v max e f =
    ap (λ (y : Val). let u : Table = record { elements = replicate t.kind.limits.min y; max = max } in u) (sym e)
    ∙ ap (λ (m : Option ℕ). let u : Table = record { elements = replicate t.kind.limits.min (filling p s t.init); max = m } in u) f
