-- Each reduction reads an index through the lists of the instance of its code (Core, execution, runtime structure: a frame names its
-- module instance). Code has addresses in the place of its indices, so here the rule of each instruction that has an index is written
-- with what its instance's list has for the index.
use Rattle.std.specs.Prelude.{◌≡◌, ℕ, ◌+◌, ◌-◌, ◌%◌, [], ◌∷◌, List, length, map, slice_get}
use Rattle.w_types.specs.declared.types.HeapType.{HeapType}
use Rattle.lists.specs.Rows.{Row, ◌▹◌, ◌⧺◌, row_of}
use Rattle.w_syntax.specs.Code.{Code, Block, IfElse}
use Rattle.w_syntax.specs.Functions.{func_type}
use Rattle.w_syntax.specs.declared.instructions.BlockKind.{BlockKind}
use Rattle.w_syntax.specs.declared.instructions.BlockKind.TheVariants as kind
use Rattle.w_syntax.specs.declared.instructions.BlockType.TheVariants as blocktype
use Rattle.w_syntax.specs.declared.instructions.Clause.{Clause}
use Rattle.w_syntax.specs.declared.instructions.ControlOp.TheVariants as control
use Rattle.w_syntax.specs.declared.instructions.Op.{Op}
use Rattle.w_syntax.specs.declared.instructions.Op.TheVariants as op
use Rattle.w_syntax.specs.declared.instructions.ReferenceOp.TheVariants as reference
use Rattle.w_syntax.specs.declared.instructions.SwitchingOp.TheVariants as switching
use Rattle.w_syntax.specs.declared.instructions.TableOp.TheVariants as table
use Rattle.w_syntax.specs.declared.instructions.VariableOp.TheVariants as variable
use Rattle.w_syntax.specs.declared.memory_instructions.LoadOp.{LoadOp}
use Rattle.w_syntax.specs.declared.memory_instructions.MemArg.{MemArg}
use Rattle.w_syntax.specs.declared.memory_instructions.MemoryOp.TheVariants as memory
use Rattle.w_syntax.specs.declared.memory_instructions.StoreOp.{StoreOp}
use Rattle.w_num.specs.Signed.{inverse}
use Rattle.w_memory.specs.Memory.{page_count, load, store, fill, init, grow}
use Rattle.w_tables.specs.Elements.{get, replaced, filled, copied, grown}
use Rattle.w_tables.specs.Outcomes.{growth}
use Rattle.w_rules.specs.Context.{cont_of, type_of_tag}
use Rattle.w_rules.specs.Spaces.{context_of}
use Rattle.w_reduce.specs.declared.trap.Trap.TheVariants as trap
use Rattle.w_reduce.specs.Values.{Val, Null, Func, Cont, I32}
use Rattle.w_reduce.specs.Store.{Store, next_cont, with_cont, without_cont}
use Rattle.w_reduce.specs.Terms.{rest_of, Branch, Handle, Context, filled as with_values, fresh_continuation, in_context}
use Rattle.w_reduce.specs.Program.{Program, function_arity}
use Rattle.w_reduce.specs.Reduce.{instruction, next}
use Rattle.w_reduce.specs.Reduced.{Reduced, Went, steps_to, ◌>>=◌, or_stuck, or_trap, take_value, take_values, take_number, take_i32, number, as_function, as_continuation}
use Rattle.w_reduce.specs.Branches.{label_of, block, chosen}
use Rattle.w_reduce.specs.Calls.{invoke, return_invoke}
use Rattle.w_reduce.specs.Control.{callee_in_table, callee_in_reference}
use Rattle.w_reduce.specs.Handlers.{label_clause, switch_clause, find}
use Rattle.w_reduce.specs.Memories.{loaded_type, loaded_size, loaded, stored_type, stored_size, with_memory, without_data}
use Rattle.w_reduce.specs.Switching.{or_unhandled, continuation_at, back_type}
use Rattle.w_reduce.specs.Tables.{with_elements, without_elements}
use Rattle.w_reduce.specs.Variable.{with_global}
use Rattle.w_link.specs.Resolved.{Instance, at, clause_resolved, op_resolved, code_resolved}

-- what an instruction goes on to: by its instance, and by the program, store, context, operands and code behind it
abbrev pub Going : Type 0
Going = Instance → Program → Store → Context → Row Val → Code → Reduced

-- an instruction of a file goes on so
abbrev pub Reads : Op → Going → Type 0
Reads o go = (i : Instance) (p : Program) (s : Store) (e : Context) (vs : Row Val) (c : Code) → instruction p s e vs (op_resolved i o) c ≡ go i p s e vs c

-- ## Functions

pub record FunctionsAreRead : Type 0 where
  pub call : (x : ℕ) → Reads (op.Control (control.Call x)) (λ i p s e vs c. invoke p s e vs (at i.functions x) (rest_of c))
  pub return_call : (x : ℕ) → Reads (op.Control (control.ReturnCall x)) (λ i p s e vs c. return_invoke p s e vs (at i.functions x))
  pub ref_func : (x : ℕ) → Reads (op.Reference (reference.Func x)) (λ i p s e vs c. do
    f ← or_stuck (slice_get s.functions (at i.functions x))
    steps_to s e (vs ▹ Func (at i.functions x)) (rest_of c))

-- ## Tables and element segments

pub record TablesAreRead : Type 0 where
  pub call_indirect : (y x : ℕ) → Reads (op.Control (control.CallIndirect y x)) (λ i p s e vs c. do
    (vs, a) ← callee_in_table p s vs (i.types + y) (at i.tables x)
    invoke p s e vs a (rest_of c))
  pub return_call_indirect : (y x : ℕ) → Reads (op.Control (control.ReturnCallIndirect y x)) (λ i p s e vs c. do
    (vs, a) ← callee_in_table p s vs (i.types + y) (at i.tables x)
    return_invoke p s e vs a)
  pub table_get : (x : ℕ) → Reads (op.Table (table.Get x)) (λ i p s e vs c. do
    (vs, k) ← take_i32 vs
    t ← or_stuck (slice_get s.tables (at i.tables x))
    v ← or_trap trap.TableOutOfBounds (get t.elements k)
    steps_to s e (vs ▹ v) (rest_of c))
  pub table_set : (x : ℕ) → Reads (op.Table (table.Set x)) (λ i p s e vs c. do
    (vs, v) ← take_value vs
    (vs, k) ← take_i32 vs
    t ← or_stuck (slice_get s.tables (at i.tables x))
    new ← or_trap trap.TableOutOfBounds (replaced t.elements k v)
    steps_to (with_elements s (at i.tables x) t new) e vs (rest_of c))
  pub table_init : (y x : ℕ) → Reads (op.Table (table.Init y x)) (λ i p s e vs c. do
    (vs, n) ← take_i32 vs
    (vs, j) ← take_i32 vs
    (vs, d) ← take_i32 vs
    t ← or_stuck (slice_get s.tables (at i.tables x))
    segment ← or_stuck (slice_get s.elements (i.elements + y))
    new ← or_trap trap.TableOutOfBounds (copied t.elements segment d j n)
    steps_to (with_elements s (at i.tables x) t new) e vs (rest_of c))
  pub elem_drop : (y : ℕ) → Reads (op.Table (table.ElemDrop y)) (λ i p s e vs c. do
    segment ← or_stuck (slice_get s.elements (i.elements + y))
    steps_to (without_elements s (i.elements + y)) e vs (rest_of c))
  pub table_copy : (x y : ℕ) → Reads (op.Table (table.Copy x y)) (λ i p s e vs c. do
    (vs, n) ← take_i32 vs
    (vs, j) ← take_i32 vs
    (vs, d) ← take_i32 vs
    t ← or_stuck (slice_get s.tables (at i.tables x))
    source ← or_stuck (slice_get s.tables (at i.tables y))
    new ← or_trap trap.TableOutOfBounds (copied t.elements source.elements d j n)
    steps_to (with_elements s (at i.tables x) t new) e vs (rest_of c))
  pub table_grow : (x : ℕ) → Reads (op.Table (table.Grow x)) (λ i p s e vs c. do
    (vs, n) ← take_i32 vs
    (vs, v) ← take_value vs
    t ← or_stuck (slice_get s.tables (at i.tables x))
    let g = growth (length t.elements) s (with_elements s (at i.tables x) t) (grown t.elements t.max v n) in
        steps_to g.1 e (vs ▹ I32 (inverse 32 g.0)) (rest_of c))
  pub table_size : (x : ℕ) → Reads (op.Table (table.Size x)) (λ i p s e vs c. do
    t ← or_stuck (slice_get s.tables (at i.tables x))
    steps_to s e (vs ▹ I32 (length t.elements)) (rest_of c))
  pub table_fill : (x : ℕ) → Reads (op.Table (table.Fill x)) (λ i p s e vs c. do
    (vs, n) ← take_i32 vs
    (vs, v) ← take_value vs
    (vs, k) ← take_i32 vs
    t ← or_stuck (slice_get s.tables (at i.tables x))
    new ← or_trap trap.TableOutOfBounds (filled t.elements k v n)
    steps_to (with_elements s (at i.tables x) t new) e vs (rest_of c))

-- ## Memories and data segments

pub record MemoriesAreRead : Type 0 where
  pub of_load : (o : LoadOp) (arg : MemArg) → Reads (op.Memory (memory.Load o arg)) (λ i p s e vs c. do
    (vs, k) ← take_i32 vs
    m ← or_stuck (slice_get s.memories (at i.memories arg.memory))
    n ← or_trap trap.MemoryOutOfBounds (load m (k + arg.offset) (loaded_size o))
    steps_to s e (vs ▹ number (loaded_type o) (loaded o n)) (rest_of c))
  pub of_store : (o : StoreOp) (arg : MemArg) → Reads (op.Memory (memory.Store o arg)) (λ i p s e vs c. do
    (vs, n) ← take_number (stored_type o) vs
    (vs, k) ← take_i32 vs
    m ← or_stuck (slice_get s.memories (at i.memories arg.memory))
    m ← or_trap trap.MemoryOutOfBounds (store m (k + arg.offset) (stored_size o) n)
    steps_to (with_memory s (at i.memories arg.memory) m) e vs (rest_of c))
  pub memory_size : (x : ℕ) → Reads (op.Memory (memory.Size x)) (λ i p s e vs c. do
    m ← or_stuck (slice_get s.memories (at i.memories x))
    steps_to s e (vs ▹ I32 (page_count m)) (rest_of c))
  pub memory_grow : (x : ℕ) → Reads (op.Memory (memory.Grow x)) (λ i p s e vs c. do
    (vs, n) ← take_i32 vs
    m ← or_stuck (slice_get s.memories (at i.memories x))
    let g = grow m n in
        steps_to (with_memory s (at i.memories x) g.1) e (vs ▹ I32 (inverse 32 g.0)) (rest_of c))
  pub memory_init : (y x : ℕ) → Reads (op.Memory (memory.Init y x)) (λ i p s e vs c. do
    (vs, n) ← take_i32 vs
    (vs, j) ← take_i32 vs
    (vs, d) ← take_i32 vs
    m ← or_stuck (slice_get s.memories (at i.memories x))
    segment ← or_stuck (slice_get s.datas (i.datas + y))
    m ← or_trap trap.MemoryOutOfBounds (init m segment d j n)
    steps_to (with_memory s (at i.memories x) m) e vs (rest_of c))
  pub data_drop : (y : ℕ) → Reads (op.Memory (memory.DataDrop y)) (λ i p s e vs c. do
    segment ← or_stuck (slice_get s.datas (i.datas + y))
    steps_to (without_data s (i.datas + y)) e vs (rest_of c))
  pub memory_copy : (x y : ℕ) → Reads (op.Memory (memory.Copy x y)) (λ i p s e vs c. do
    (vs, n) ← take_i32 vs
    (vs, j) ← take_i32 vs
    (vs, d) ← take_i32 vs
    m ← or_stuck (slice_get s.memories (at i.memories x))
    source ← or_stuck (slice_get s.memories (at i.memories y))
    m ← or_trap trap.MemoryOutOfBounds (init m source.bytes d j n)
    steps_to (with_memory s (at i.memories x) m) e vs (rest_of c))
  pub memory_fill : (x : ℕ) → Reads (op.Memory (memory.Fill x)) (λ i p s e vs c. do
    (vs, n) ← take_i32 vs
    (vs, b) ← take_i32 vs
    (vs, d) ← take_i32 vs
    m ← or_stuck (slice_get s.memories (at i.memories x))
    m ← or_trap trap.MemoryOutOfBounds (fill m d (b % 256) n)
    steps_to (with_memory s (at i.memories x) m) e vs (rest_of c))

-- ## Globals

pub record GlobalsAreRead : Type 0 where
  pub global_get : (x : ℕ) → Reads (op.Variable (variable.GlobalGet x)) (λ i p s e vs c. do
    v ← or_stuck (slice_get s.globals (at i.globals x))
    steps_to s e (vs ▹ v) (rest_of c))
  pub global_set : (x : ℕ) → Reads (op.Variable (variable.GlobalSet x)) (λ i p s e vs c. do
    old ← or_stuck (slice_get s.globals (at i.globals x))
    (vs, v) ← take_value vs
    steps_to (with_global s (at i.globals x) v) e vs (rest_of c))

-- ## Tags and types

-- a handle's clauses name tags: resume puts them where suspend and switch find them
pub record TagsAreRead : Type 0 where
  pub suspend : (x : ℕ) → Reads (op.Switching (switching.Suspend x)) (λ i p s e vs c. do
    t ← or_stuck (type_of_tag (context_of p.source) (at i.tags x))
    (below, us) ← take_values (length t.params) vs
    h ← or_unhandled (at i.tags x) (find (label_clause (at i.tags x)) e)
    steps_to (with_cont (continuation_at (length t.results) h.inner below c) s) h.outer ((h.below ⧺ us) ▹ Cont (next_cont s))
        (record { ahead = Branch h.answer ∷ []; code = h.rest }))
  pub resume : (x : ℕ) (hs : List Clause) → Reads (op.Switching (switching.Resume x hs)) (λ i p s e vs c. do
    (vs, v) ← take_value vs
    (a, k) ← as_continuation s v
    (below, us) ← take_values k.takes vs
    Went [] (without_cont a s) (in_context (Handle below (map (clause_resolved i) hs) c ∷ e) (with_values k.term us)))
  pub switch : (x y : ℕ) → Reads (op.Switching (switching.Switch x y)) (λ i p s e vs c. do
    (vs, v) ← take_value vs
    (a, k) ← as_continuation s v
    h ← or_unhandled (at i.tags y) (find (switch_clause (at i.tags y)) e)
    t ← or_stuck (cont_of (context_of p.source) (i.types + x))
    back ← or_stuck (back_type (row_of t.params))
    u ← or_stuck (cont_of (context_of p.source) back)
    (below, us) ← take_values (k.takes - 1) vs
    Went [] (with_cont (continuation_at (length u.params) h.inner below c) (without_cont a s))
        (in_context (Handle h.below h.clauses h.rest ∷ h.outer) (with_values k.term (us ▹ Cont (next_cont s)))))

-- the types of ref.null, of a reference that is called, and of a continuation that is bound or resumed decide nothing
pub record TypesAreRead : Type 0 where
  pub ref_null : (h : HeapType) → Reads (op.Reference (reference.Null h)) (λ i p s e vs c. steps_to s e (vs ▹ Null) (rest_of c))
  pub call_ref : (y : ℕ) → Reads (op.Control (control.CallRef y)) (λ i p s e vs c. do
    (vs, a) ← callee_in_reference vs
    invoke p s e vs a (rest_of c))
  pub return_call_ref : (y : ℕ) → Reads (op.Control (control.ReturnCallRef y)) (λ i p s e vs c. do
    (vs, a) ← callee_in_reference vs
    return_invoke p s e vs a)
  pub cont_new : (x : ℕ) → Reads (op.Switching (switching.ContNew x)) (λ i p s e vs c. do
    (vs, v) ← take_value vs
    f ← as_function trap.NullReference v
    t ← or_stuck (cont_of (context_of p.source) (i.types + x))
    steps_to (with_cont (fresh_continuation f (length t.params)) s) e (vs ▹ Cont (next_cont s)) (rest_of c))
  pub cont_bind : (x y : ℕ) → Reads (op.Switching (switching.ContBind x y)) (λ i p s e vs c. do
    (vs, v) ← take_value vs
    (a, k) ← as_continuation s v
    t ← or_stuck (cont_of (context_of p.source) (i.types + y))
    (below, us) ← take_values (k.takes - length t.params) vs
    steps_to (with_cont (record { takes = length t.params; term = with_values k.term us }) (without_cont a s)) e (below ▹ Cont (next_cont s)) (rest_of c))
  -- a block and a loop; an if stands for a block
  pub typed_block : (k : BlockKind) (y : ℕ) (b : Code) (i : Instance) (p : Program) (s : Store) (e : Context) (vs : Row Val) (c : Code)
      → next p s e vs [] (code_resolved i (Block k (blocktype.Index y) b c)) ≡ (do
        a ← or_stuck (function_arity (func_type p.source (i.types + y)))
        (below, us) ← take_values a.params vs
        steps_to s (label_of k (blocktype.Index (i.types + y)) a (code_resolved i b) below (code_resolved i c) e) us (rest_of (code_resolved i b)))
  pub if_else : (y : ℕ) (b d : Code) (i : Instance) (p : Program) (s : Store) (e : Context) (vs : Row Val) (c : Code)
      → next p s e vs [] (code_resolved i (IfElse (blocktype.Index y) b d c)) ≡ (do
        (vs, n) ← take_i32 vs
        block p s e vs kind.Block (blocktype.Index (i.types + y)) (chosen n (code_resolved i b) (code_resolved i d)) (code_resolved i c))
