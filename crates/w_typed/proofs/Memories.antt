-- Memory instructions of typed configurations.
use Rattle.std.proofs.Common.{◌≡◌, inr, ℕ, ◌+◌, ◌%◌, ◌^◌, IsTrue, List, [], length, get_or, Some, None, refl, sym, subst, arith}
use Rattle.std.specs.Prelude.{◌&&◌, nat_lt, nat_le, slice_get}
use Rattle.std.proofs.lemmas.Bool.{ltb-true}
use Rattle.std.proofs.lemmas.Option.{slice_get-get_or}
use Rattle.std.proofs.Math.Nat.{mod-lt}
use Rattle.w_types.specs.declared.types.ValType.TheVariants.{I32}
use Rattle.lists.specs.Rows.{Row, ε, ◌▹◌}
use Rattle.lists.proofs.Tests.{each_of}
use Rattle.w_syntax.specs.Code.{Code}
use Rattle.w_syntax.specs.declared.memory_instructions.LoadOp.{LoadOp}
use Rattle.w_syntax.specs.declared.memory_instructions.LoadOp.TheVariants as load_op
use Rattle.w_syntax.specs.declared.memory_instructions.MemoryOp.{MemoryOp}
use Rattle.w_syntax.specs.declared.memory_instructions.MemoryOp.TheVariants as memory
use Rattle.w_syntax.specs.declared.memory_instructions.StoreOp.{StoreOp}
use Rattle.w_syntax.specs.declared.memory_instructions.StoreOp.TheVariants as store_op
use Rattle.w_syntax.specs.declared.module.Data.{Data}
use Rattle.w_syntax.specs.declared.module.DataMode.TheVariants as data_mode
use Rattle.w_syntax.specs.declared.module.Limits.{Limits}
use Rattle.w_syntax.specs.declared.module.Module.{Module}
use Rattle.w_syntax.specs.declared.numeric.IntType.TheVariants as int
use Rattle.w_memory.specs.Memory.{Memory, page_count, load, store, fill, init}
use Rattle.w_canon.specs.Supertypes.{KeepsKinds}
use Rattle.w_rules.specs.InstructionTypes.{fixed, of_int, load_type, load_width, store_type, store_width, has_memory, is_access, memory_op_type}
use Rattle.w_rules.specs.Operands.{Operand}
use Rattle.w_rules.specs.Operands.{Known}
use Rattle.w_rules.specs.Spaces.{memories_of}
use Rattle.w_rules.specs.Typing.{HasInstrType}
use Rattle.w_reduce.specs.declared.trap.Trap.TheVariants as trap
use Rattle.w_reduce.specs.Numeric.{width}
use Rattle.w_reduce.specs.Values.{Val}
use Rattle.w_reduce.specs.Store.{Store}
use Rattle.w_reduce.specs.Terms.{Context}
use Rattle.w_reduce.specs.Reduced.{Reduced, take_i32, number, or_stuck}
use Rattle.w_reduce.specs.Memories.{loaded_type, loaded_size, loaded, stored_type, stored_size, with_memory, without_data, memory_op}
use Rattle.w_typed.specs.Ranges.{AreBytes, NumbersFit, IsBelow}
use Rattle.w_typed.specs.Values.{Arrows, OperandTyped, ValuesTyped, values}
use Rattle.w_typed.specs.Stores.{MemoryTyped, StoreTyped}
use Rattle.w_typed.specs.Contexts.{Scope, in_scope}
use Rattle.w_typed.specs.Configurations.{IsSafe}
use Rattle.w_typed.proofs.Subsumption.{values_sub}
use Rattle.w_typed.proofs.TypedOperands.{number_taken, number_typed, small_typed, trapped_or}
use Rattle.w_typed.proofs.Bytes.{loaded_bytes}
use Rattle.w_typed.proofs.Pages.{store_typed, fill_typed, init_typed, grow_typed, pages_below, grow_below, data_bytes}
use Rattle.w_typed.proofs.Places.{instance_at, instance_set}
use Rattle.w_typed.proofs.Ranges.{loaded_below}
use Rattle.w_typed.proofs.Onward.{Onward}
use Rattle.w_typed.proofs.References.{if_valid_has, if_valid_holds}

-- ## Types

-- a load gives its type
pub as_loaded : (o : LoadOp) → of_int (loaded_type o) ≡ load_type o
as_loaded load_op.I32Load = refl
as_loaded load_op.I64Load = refl
as_loaded load_op.I32Load8S = refl
as_loaded load_op.I32Load8U = refl
as_loaded load_op.I32Load16S = refl
as_loaded load_op.I32Load16U = refl
as_loaded load_op.I64Load8S = refl
as_loaded load_op.I64Load8U = refl
as_loaded load_op.I64Load16S = refl
as_loaded load_op.I64Load16U = refl
as_loaded load_op.I64Load32S = refl
as_loaded load_op.I64Load32U = refl

-- what it gives is of its type
pub loaded_typed : (m : Module) {K : Arrows} (o : LoadOp) (n : ℕ) → IsBelow m n (width (loaded_type o)) → OperandTyped m K (number (loaded_type o) n) (Known (load_type o))
loaded_typed m {K} o n r = subst (λ t. OperandTyped m K (number (loaded_type o) n) (Known t)) (as_loaded o) (number_typed m (loaded_type o) n r)

-- a store takes its type
pub as_stored : (o : StoreOp) → of_int (stored_type o) ≡ store_type o
as_stored store_op.I32Store = refl
as_stored store_op.I64Store = refl
as_stored store_op.I32Store8 = refl
as_stored store_op.I32Store16 = refl
as_stored store_op.I64Store8 = refl
as_stored store_op.I64Store16 = refl
as_stored store_op.I64Store32 = refl

-- ## Stores

-- another memory of the declared type may stand in one's place
pub memory_put : (m : Module) {K : Arrows} (x : ℕ) (l : Limits) (n : Memory) (s : Store) → StoreTyped m K s → slice_get (memories_of m) x ≡ Some l → MemoryTyped m n l
    → StoreTyped m K (with_memory s x n)
memory_put m x l n s u is h = record {
  functions = u.functions;
  tables = u.tables;
  memories = instance_set x n l u.memories is h;
  globals = u.globals;
  tags = u.tags;
  elements = u.elements;
  datas = u.datas;
  conts = u.conts;
}

-- a data segment may be dropped
pub data_dropped : (m : Module) {K : Arrows} (y : ℕ) (d : Data) (s : Store) → StoreTyped m K s → slice_get m.datas y ≡ Some d → StoreTyped m K (without_data s y)
data_dropped m y d s u is = record {
  functions = u.functions;
  tables = u.tables;
  memories = u.memories;
  globals = u.globals;
  tags = u.tags;
  elements = u.elements;
  datas = instance_set y [] d u.datas is (inr refl);
  conts = u.conts;
}

module _ (m : Module) {K : Arrows} (us : Row Operand) where
  -- ## What a rule takes and looks up

  -- three numbers are taken
  pub three_taken : (vs : Row Val) (beneath : Row Operand) (go : Row Val → ℕ → ℕ → ℕ → Reduced)
      → ValuesTyped m K vs (beneath ▹ Known I32 ▹ Known I32 ▹ Known I32)
      → ((below : Row Val) (d j n : ℕ) → ValuesTyped m K below beneath → IsSafe m K us (go below d j n))
      → IsSafe m K us (take_i32 vs (λ p. take_i32 p.0 (λ q. take_i32 q.0 (λ r. go r.0 r.1 q.1 p.1))))
  three_taken vs beneath go h k =
      number_taken m us int.I32 vs (beneath ▹ Known I32 ▹ Known I32) _ h (λ above n a.
      number_taken m us int.I32 above (beneath ▹ Known I32) _ a (λ middle j b.
      number_taken m us int.I32 middle beneath _ b (λ below d c. k below d j n c)))

  -- a memory of the module is there, of its declared type
  pub memory_found : (c : Scope) (x : ℕ) (s : Store) (go : Memory → Reduced) → StoreTyped m K s → IsTrue (has_memory (in_scope m c) x)
      → ((l : Limits) (n : Memory) → slice_get (memories_of m) x ≡ Some l → MemoryTyped m n l → IsSafe m K us (go n))
      → IsSafe m K us (or_stuck (slice_get s.memories x) go)
  memory_found c x s go u h k =
      let none : Limits = record { min = 0; max = None } in
      let l = get_or (memories_of m) x none in
      let is = slice_get-get_or (memories_of m) x none (ltb-true x (length (memories_of m)) h) in
      let f = instance_at x l u.memories is in
      rw (f.is) (k l f.item is f.holds)

  -- a data segment of the module is there, and has bytes where the module's are in range
  pub data_found : (y : ℕ) (s : Store) (go : List ℕ → Reduced) → StoreTyped m K s → IsTrue (nat_lt y (length m.datas))
      → ((d : Data) (bytes : List ℕ) → slice_get m.datas y ≡ Some d → (NumbersFit m → AreBytes bytes) → IsSafe m K us (go bytes))
      → IsSafe m K us (or_stuck (slice_get s.datas y) go)
  data_found y s go u h k =
      let none : Data = record { bytes = []; mode = data_mode.Passive } in
      let d = get_or m.datas y none in
      let is = slice_get-get_or m.datas y none (ltb-true y (length m.datas) h) in
      let f = instance_at y d u.datas is in
      rw (f.is) (k d f.item is (data_bytes m y d f.item is f.holds))

module _ (m : Module) (keeps : KeepsKinds m.types) {K : Arrows} (us : Row Operand) where
  -- ## The rules

  -- a memory instruction goes on, or traps
  pub memory_safe : (c : Scope) (o : MemoryOp) (ts ws : Row Operand) (s : Store) (e : Context) (vs : Row Val) (k : Code) → StoreTyped m K s
      → HasInstrType m.types (memory_op_type (in_scope m c) o) ts ws → ValuesTyped m K vs ts → Onward m K us e ws k → IsSafe m K us (memory_op s e vs o k)
  memory_safe c (memory.Load o a) ts ws s e vs k u h v go =
      let test = is_access (in_scope m c) (load_width o) a in
      let type = fixed (ε ▹ I32) (ε ▹ load_type o) in
      let fits = nat_le a.align (load_width o) && nat_lt a.offset (2 ^ 32) in
      let there = each_of (has_memory (in_scope m c) a.memory) fits (if_valid_holds m test type ts ws h) in
      let g = if_valid_has m test type ts ws h in
      number_taken m us int.I32 vs g.beneath _ (values_sub m keeps g.takes v) (λ below i b.
      memory_found m us c a.memory s _ u there.0 (λ l mem at q.
      trapped_or m us trap.MemoryOutOfBounds (load mem (i + a.offset) (loaded_size o)) _ (λ n is.
      go s _ u (values_sub m keeps g.gives (values b (loaded_typed m o (loaded o n)
      (λ f. loaded_below o n (loaded_bytes mem (i + a.offset) (loaded_size o) n is (q.bytes f)))))))))
  memory_safe c (memory.Store o a) ts ws s e vs k u h v go =
      let test = is_access (in_scope m c) (store_width o) a in
      let type = fixed (ε ▹ I32 ▹ store_type o) ε in
      let fits = nat_le a.align (store_width o) && nat_lt a.offset (2 ^ 32) in
      let there = each_of (has_memory (in_scope m c) a.memory) fits (if_valid_holds m test type ts ws h) in
      let g = if_valid_has m test type ts ws h in
      let typed = subst (λ t. ValuesTyped m K vs (g.beneath ▹ Known I32 ▹ Known t)) (sym (as_stored o)) (values_sub m keeps g.takes v) in
      number_taken m us (stored_type o) vs (g.beneath ▹ Known I32) _ typed (λ above n b.
      number_taken m us int.I32 above g.beneath _ b (λ below i d.
      memory_found m us c a.memory s _ u there.0 (λ l mem at q.
      trapped_or m us trap.MemoryOutOfBounds (store mem (i + a.offset) (stored_size o) n) _ (λ new is.
      go _ _ (memory_put m a.memory l new s u at (store_typed m l mem q (i + a.offset) (stored_size o) n new is)) (values_sub m keeps g.gives d)))))
  memory_safe c (memory.Size x) ts ws s e vs k u h v go =
      let test = has_memory (in_scope m c) x in
      let type = fixed ε (ε ▹ I32) in
      let g = if_valid_has m test type ts ws h in
      memory_found m us c x s _ u (if_valid_holds m test type ts ws h) (λ l mem at q.
      go s _ u (values_sub m keeps g.gives (values (values_sub m keeps g.takes v) (small_typed m (page_count mem) (pages_below m l mem q)))))
  memory_safe c (memory.Grow x) ts ws s e vs k u h v go =
      let test = has_memory (in_scope m c) x in
      let type = fixed (ε ▹ I32) (ε ▹ I32) in
      let g = if_valid_has m test type ts ws h in
      number_taken m us int.I32 vs g.beneath _ (values_sub m keeps g.takes v) (λ below n b.
      memory_found m us c x s _ u (if_valid_holds m test type ts ws h) (λ l mem at q.
      go _ _ (memory_put m x l _ s u at (grow_typed m l mem q n)) (values_sub m keeps g.gives (values b (small_typed m _ (grow_below m l mem q n))))))
  memory_safe c (memory.Init y x) ts ws s e vs k u h v go =
      let test = has_memory (in_scope m c) x && nat_lt y (length m.datas) in
      let type = fixed (ε ▹ I32 ▹ I32 ▹ I32) ε in
      let there = each_of (has_memory (in_scope m c) x) (nat_lt y (length m.datas)) (if_valid_holds m test type ts ws h) in
      let g = if_valid_has m test type ts ws h in
      three_taken m us vs g.beneath _ (values_sub m keeps g.takes v) (λ below d j n b.
      memory_found m us c x s _ u there.0 (λ l mem at q.
      data_found m us y s _ u there.1 (λ segment bytes from are_bytes.
      trapped_or m us trap.MemoryOutOfBounds (init mem bytes d j n) _ (λ new is.
      go _ _ (memory_put m x l new s u at (init_typed m l mem q bytes d j n new are_bytes is)) (values_sub m keeps g.gives b)))))
  memory_safe c (memory.DataDrop y) ts ws s e vs k u h v go =
      let test = nat_lt y (length m.datas) in
      let g = if_valid_has m test (fixed ε ε) ts ws h in
      data_found m us y s _ u (if_valid_holds m test (fixed ε ε) ts ws h) (λ d bytes is are_bytes.
      go _ _ (data_dropped m y d s u is) (values_sub m keeps g.gives (values_sub m keeps g.takes v)))
  memory_safe c (memory.Copy x y) ts ws s e vs k u h v go =
      let test = has_memory (in_scope m c) x && has_memory (in_scope m c) y in
      let type = fixed (ε ▹ I32 ▹ I32 ▹ I32) ε in
      let there = each_of (has_memory (in_scope m c) x) (has_memory (in_scope m c) y) (if_valid_holds m test type ts ws h) in
      let g = if_valid_has m test type ts ws h in
      three_taken m us vs g.beneath _ (values_sub m keeps g.takes v) (λ below d j n b.
      memory_found m us c x s _ u there.0 (λ l mem at q.
      memory_found m us c y s _ u there.1 (λ k source from r.
      trapped_or m us trap.MemoryOutOfBounds (init mem source.bytes d j n) _ (λ new is.
      go _ _ (memory_put m x l new s u at (init_typed m l mem q source.bytes d j n new r.bytes is)) (values_sub m keeps g.gives b)))))
  memory_safe c (memory.Fill x) ts ws s e vs k u h v go =
      let test = has_memory (in_scope m c) x in
      let type = fixed (ε ▹ I32 ▹ I32 ▹ I32) ε in
      let g = if_valid_has m test type ts ws h in
      three_taken m us vs g.beneath _ (values_sub m keeps g.takes v) (λ below d j n b.
      memory_found m us c x s _ u (if_valid_holds m test type ts ws h) (λ l mem at q.
      trapped_or m us trap.MemoryOutOfBounds (fill mem d (j % 256) n) _ (λ new is.
      go _ _ (memory_put m x l new s u at (fill_typed m l mem q d (j % 256) n new (mod-lt j (omega arith)) is)) (values_sub m keeps g.gives b))))
