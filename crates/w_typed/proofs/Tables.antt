-- Table instructions of typed configurations.
use Rattle.std.proofs.Common.{◌≡◌, ℕ, List, [], map, length, Option, Some, None, slice_get, refl}
use Rattle.w_types.specs.declared.types.RefType.{RefType}
use Rattle.w_types.specs.declared.types.ValType.TheVariants.{I32, Ref}
use Rattle.lists.specs.Rows.{Row, ◌▹◌}
use Rattle.w_syntax.specs.Code.{Code}
use Rattle.w_syntax.specs.declared.instructions.TableOp.{TableOp}
use Rattle.w_syntax.specs.declared.instructions.TableOp.TheVariants as table
use Rattle.w_syntax.specs.declared.module.Elem.{Elem}
use Rattle.w_syntax.specs.declared.module.Module.{Module}
use Rattle.w_syntax.specs.declared.module.TableType.{TableType}
use Rattle.w_syntax.specs.declared.numeric.IntType.TheVariants as int
use Rattle.w_canon.specs.Matching.{RefMatches, ref}
use Rattle.w_canon.specs.Supertypes.{KeepsKinds}
use Rattle.w_tables.specs.Elements.{get, replaced, filled, copied, grown}
use Rattle.w_tables.specs.Outcomes.{growth}
use Rattle.w_rules.specs.Conditions.{Holds, TableCondition}
use Rattle.w_rules.specs.InstructionTypes.{table_op_type, table_get_type, table_set_type, table_init_type, elem_drop_type, table_copy_type}
use Rattle.w_rules.specs.InstructionTypes.{table_grow_type, table_size_type, table_fill_type}
use Rattle.w_rules.specs.Operands.{Operand}
use Rattle.w_rules.specs.Operands.{Known}
use Rattle.w_rules.specs.Spaces.{tables_of}
use Rattle.w_rules.specs.Typing.{HasInstrType}
use Rattle.w_reduce.specs.declared.trap.Trap.TheVariants as trap
use Rattle.w_reduce.specs.Values.{Val}
use Rattle.w_reduce.specs.Store.{Store, Table}
use Rattle.w_reduce.specs.Terms.{Context}
use Rattle.w_reduce.specs.Tables.{with_elements, without_elements, table_op}
use Rattle.w_typed.specs.Values.{Arrows, a_value, ValuesTyped, values}
use Rattle.w_typed.specs.Stores.{TableTyped, StoreTyped}
use Rattle.w_typed.specs.Contexts.{Scope, in_scope}
use Rattle.w_typed.specs.Configurations.{IsSafe}
use Rattle.w_typed.proofs.Places.{instance_set}
use Rattle.w_typed.proofs.Subsumption.{values_sub}
use Rattle.w_typed.proofs.TypedOperands.{number_taken, trapped_or, small_typed}
use Rattle.w_typed.proofs.Onward.{Onward}
use Rattle.w_typed.proofs.Elements.{all_sub, all_get}
use Rattle.w_typed.proofs.SizedTables.{table_replaced, table_filled, table_copied, table_grown, elements_below, growth_below}
use Rattle.w_typed.proofs.Memories.{three_taken}
use Rattle.w_typed.proofs.Globals.{instance_found, value_taken}

-- ## Stores

-- the type of each element segment
abbrev pub segment_types : Module → List RefType
segment_types m = map (λ (e : Elem). e.kind) m.elements

module _ (m : Module) {K : Arrows} where
  -- other elements of a table's type may stand in their place
  pub elements_put : (x : ℕ) (t : TableType) (old : Table) (new : List Val) (s : Store) → StoreTyped m K s → slice_get (tables_of m) x ≡ Some t
      → TableTyped m K (record old { elements = new }) t → StoreTyped m K (with_elements s x old new)
  elements_put x t old new s u is h = record {
    functions = u.functions;
    tables = instance_set x (record old { elements = new }) t u.tables is h;
    memories = u.memories;
    globals = u.globals;
    tags = u.tags;
    elements = u.elements;
    datas = u.datas;
    conts = u.conts;
  }

  -- an element segment may be dropped
  pub elements_dropped : (y : ℕ) (r : RefType) (s : Store) → StoreTyped m K s → slice_get (segment_types m) y ≡ Some r → StoreTyped m K (without_elements s y)
  elements_dropped y r s u is = record {
    functions = u.functions;
    tables = u.tables;
    memories = u.memories;
    globals = u.globals;
    tags = u.tags;
    elements = instance_set y [] r u.elements is tt;
    datas = u.datas;
    conts = u.conts;
  }

  -- a growth leaves the store, or what it makes of it
  pub growth_typed : (n : ℕ) (s : Store) (after : List Val → Store) (o : Option (List Val)) → StoreTyped m K s
      → ((new : List Val) → o ≡ Some new → StoreTyped m K (after new)) → StoreTyped m K ((growth n s after o).1)
  growth_typed n s after (Some new) u h = h new refl
  growth_typed n s after None u h = u

module _ (m : Module) (keeps : KeepsKinds m.types) {K : Arrows} (us : Row Operand) where
  -- ## The rules, where the tables and segments are

  get_safe : (x : ℕ) (ts ws : Row Operand) (s : Store) (e : Context) (vs : Row Val) (k : Code) (y : Option TableType)
      → slice_get (tables_of m) x ≡ y → StoreTyped m K s → HasInstrType m.types (table_get_type y) ts ws → ValuesTyped m K vs ts
      → Onward m K us e ws k → IsSafe m K us (table_op s e vs (table.Get x) k)
  get_safe x ts ws s e vs k None is u h v go = absurd h
  get_safe x ts ws s e vs k (Some t) is u h v go =
      number_taken m us int.I32 vs h.beneath _ (values_sub m keeps h.takes v) (λ below i b.
      instance_found m us x t _ u.tables is (λ old q.
      trapped_or m us trap.TableOutOfBounds (get old.elements i) _ (λ w there.
      go s _ u (values_sub m keeps h.gives (values b (a_value (all_get m K (Ref t.element) i w old.elements q.elements there)))))))

  set_safe : (x : ℕ) (ts ws : Row Operand) (s : Store) (e : Context) (vs : Row Val) (k : Code) (y : Option TableType)
      → slice_get (tables_of m) x ≡ y → StoreTyped m K s → HasInstrType m.types (table_set_type y) ts ws → ValuesTyped m K vs ts
      → Onward m K us e ws k → IsSafe m K us (table_op s e vs (table.Set x) k)
  set_safe x ts ws s e vs k None is u h v go = absurd h
  set_safe x ts ws s e vs k (Some t) is u h v go =
      value_taken m us (Ref t.element) vs (h.beneath ▹ Known I32) _ (values_sub m keeps h.takes v) (λ above w a r.
      number_taken m us int.I32 above h.beneath _ a (λ below i b.
      instance_found m us x t _ u.tables is (λ old q.
      trapped_or m us trap.TableOutOfBounds (replaced old.elements i w) _ (λ new there.
      go _ _ (elements_put m x t old new s u is (table_replaced m K t old q i w new r there)) (values_sub m keeps h.gives b)))))

  init_safe : (y x : ℕ) (ts ws : Row Operand) (s : Store) (e : Context) (vs : Row Val) (k : Code) (a : Option RefType) (b : Option TableType)
      → slice_get (segment_types m) y ≡ a → slice_get (tables_of m) x ≡ b → StoreTyped m K s
      → Holds a (λ (r : RefType). Holds b (λ (t : TableType). RefMatches m.types r t.element)) → HasInstrType m.types (table_init_type a b) ts ws
      → ValuesTyped m K vs ts → Onward m K us e ws k → IsSafe m K us (table_op s e vs (table.Init y x) k)
  init_safe y x ts ws s e vs k None b from is u p h v go = absurd p
  init_safe y x ts ws s e vs k (Some r) None from is u p h v go = absurd p
  init_safe y x ts ws s e vs k (Some r) (Some t) from is u p h v go =
      three_taken m us vs h.beneath _ (values_sub m keeps h.takes v) (λ below d j n b.
      instance_found m us x t _ u.tables is (λ old q.
      instance_found m us y r _ u.elements from (λ segment w.
      trapped_or m us trap.TableOutOfBounds (copied old.elements segment d j n) _ (λ new there.
      let sub = all_sub m keeps K (Ref r) (Ref t.element) segment (ref p) w in
      go _ _ (elements_put m x t old new s u is (table_copied m K t old q d j n segment new sub there)) (values_sub m keeps h.gives b)))))

  drop_safe : (y : ℕ) (ts ws : Row Operand) (s : Store) (e : Context) (vs : Row Val) (k : Code) (a : Option RefType)
      → slice_get (segment_types m) y ≡ a → StoreTyped m K s → HasInstrType m.types (elem_drop_type a) ts ws → ValuesTyped m K vs ts
      → Onward m K us e ws k → IsSafe m K us (table_op s e vs (table.ElemDrop y) k)
  drop_safe y ts ws s e vs k None from u h v go = absurd h
  drop_safe y ts ws s e vs k (Some r) from u h v go =
      instance_found m us y r _ u.elements from (λ segment w.
      go _ _ (elements_dropped m y r s u from) (values_sub m keeps h.gives (values_sub m keeps h.takes v)))

  copy_safe : (x y : ℕ) (ts ws : Row Operand) (s : Store) (e : Context) (vs : Row Val) (k : Code) (a b : Option TableType)
      → slice_get (tables_of m) x ≡ a → slice_get (tables_of m) y ≡ b → StoreTyped m K s
      → Holds a (λ (t : TableType). Holds b (λ (r : TableType). RefMatches m.types r.element t.element))
      → HasInstrType m.types (table_copy_type a b) ts ws → ValuesTyped m K vs ts → Onward m K us e ws k → IsSafe m K us (table_op s e vs (table.Copy x y) k)
  copy_safe x y ts ws s e vs k None b is from u p h v go = absurd p
  copy_safe x y ts ws s e vs k (Some t) None is from u p h v go = absurd p
  copy_safe x y ts ws s e vs k (Some t) (Some r) is from u p h v go =
      three_taken m us vs h.beneath _ (values_sub m keeps h.takes v) (λ below d j n b.
      instance_found m us x t _ u.tables is (λ old q.
      instance_found m us y r _ u.tables from (λ source w.
      trapped_or m us trap.TableOutOfBounds (copied old.elements source.elements d j n) _ (λ new there.
      let sub = all_sub m keeps K (Ref r.element) (Ref t.element) source.elements (ref p) w.elements in
      go _ _ (elements_put m x t old new s u is (table_copied m K t old q d j n source.elements new sub there)) (values_sub m keeps h.gives b)))))

  grow_safe : (x : ℕ) (ts ws : Row Operand) (s : Store) (e : Context) (vs : Row Val) (k : Code) (y : Option TableType)
      → slice_get (tables_of m) x ≡ y → StoreTyped m K s → HasInstrType m.types (table_grow_type y) ts ws → ValuesTyped m K vs ts
      → Onward m K us e ws k → IsSafe m K us (table_op s e vs (table.Grow x) k)
  grow_safe x ts ws s e vs k None is u h v go = absurd h
  grow_safe x ts ws s e vs k (Some t) is u h v go =
      number_taken m us int.I32 vs (h.beneath ▹ Known (Ref t.element)) _ (values_sub m keeps h.takes v) (λ above n a.
      value_taken m us (Ref t.element) above h.beneath _ a (λ below w b r.
      instance_found m us x t _ u.tables is (λ old q.
      let all = growth_typed m (length old.elements) s (with_elements s x old) (grown old.elements old.max w n) u (λ new there.
      elements_put m x t old new s u is (table_grown m K t old q w n new r there)) in
      let below_there = growth_below (length old.elements) s (with_elements s x old) (grown old.elements old.max w n) (elements_below m K t old q) in
      go _ _ all (values_sub m keeps h.gives (values b (small_typed m _ below_there))))))

  size_safe : (x : ℕ) (ts ws : Row Operand) (s : Store) (e : Context) (vs : Row Val) (k : Code) (y : Option TableType)
      → slice_get (tables_of m) x ≡ y → StoreTyped m K s → HasInstrType m.types (table_size_type y) ts ws → ValuesTyped m K vs ts
      → Onward m K us e ws k → IsSafe m K us (table_op s e vs (table.Size x) k)
  size_safe x ts ws s e vs k None is u h v go = absurd h
  size_safe x ts ws s e vs k (Some t) is u h v go =
      instance_found m us x t _ u.tables is (λ old q. go s _ u (values_sub m keeps h.gives (values (values_sub m keeps h.takes v) (small_typed m (length old.elements) (elements_below m K t old q)))))

  fill_safe : (x : ℕ) (ts ws : Row Operand) (s : Store) (e : Context) (vs : Row Val) (k : Code) (y : Option TableType)
      → slice_get (tables_of m) x ≡ y → StoreTyped m K s → HasInstrType m.types (table_fill_type y) ts ws → ValuesTyped m K vs ts
      → Onward m K us e ws k → IsSafe m K us (table_op s e vs (table.Fill x) k)
  fill_safe x ts ws s e vs k None is u h v go = absurd h
  fill_safe x ts ws s e vs k (Some t) is u h v go =
      number_taken m us int.I32 vs (h.beneath ▹ Known I32 ▹ Known (Ref t.element)) _ (values_sub m keeps h.takes v) (λ above n a.
      value_taken m us (Ref t.element) above (h.beneath ▹ Known I32) _ a (λ middle w b r.
      number_taken m us int.I32 middle h.beneath _ b (λ below i d.
      instance_found m us x t _ u.tables is (λ old q.
      trapped_or m us trap.TableOutOfBounds (filled old.elements i w n) _ (λ new there.
      go _ _ (elements_put m x t old new s u is (table_filled m K t old q i w n new r there)) (values_sub m keeps h.gives d))))))

  -- a table instruction goes on, or traps
  pub table_safe : (c : Scope) (o : TableOp) (ts ws : Row Operand) (s : Store) (e : Context) (vs : Row Val) (k : Code) → StoreTyped m K s
      → TableCondition (in_scope m c) o → HasInstrType m.types (table_op_type (in_scope m c) o) ts ws → ValuesTyped m K vs ts → Onward m K us e ws k
      → IsSafe m K us (table_op s e vs o k)
  table_safe c (table.Get x) ts ws s e vs k u p h v go = get_safe x ts ws s e vs k (slice_get (tables_of m) x) refl u h v go
  table_safe c (table.Set x) ts ws s e vs k u p h v go = set_safe x ts ws s e vs k (slice_get (tables_of m) x) refl u h v go
  table_safe c (table.Init y x) ts ws s e vs k u p h v go =
      init_safe y x ts ws s e vs k (slice_get (segment_types m) y) (slice_get (tables_of m) x) refl refl u p h v go
  table_safe c (table.ElemDrop y) ts ws s e vs k u p h v go = drop_safe y ts ws s e vs k (slice_get (segment_types m) y) refl u h v go
  table_safe c (table.Copy x y) ts ws s e vs k u p h v go =
      copy_safe x y ts ws s e vs k (slice_get (tables_of m) x) (slice_get (tables_of m) y) refl refl u p h v go
  table_safe c (table.Grow x) ts ws s e vs k u p h v go = grow_safe x ts ws s e vs k (slice_get (tables_of m) x) refl u h v go
  table_safe c (table.Size x) ts ws s e vs k u p h v go = size_safe x ts ws s e vs k (slice_get (tables_of m) x) refl u h v go
  table_safe c (table.Fill x) ts ws s e vs k u p h v go = fill_safe x ts ws s e vs k (slice_get (tables_of m) x) refl u h v go
