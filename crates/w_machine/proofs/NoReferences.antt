-- Where a run begins no value refers to a continuation.
use Rattle.std.proofs.Common.{◌≡◌, true, List, [], ◌∷◌, map, refl}
use Rattle.w_types.specs.declared.types.ValType.{ValType}
use Rattle.w_types.specs.declared.types.RefType.{RefType}
use Rattle.w_types.specs.declared.value.Value.{Value}
use Rattle.w_types.specs.declared.value.Value.TheVariants as value
use Rattle.w_syntax.specs.declared.module.GlobalType.{GlobalType}
use Rattle.w_syntax.specs.declared.module.Module.{Module}
use Rattle.w_syntax.specs.declared.module.TableType.{TableType}
use Rattle.w_tables.specs.Store as instances
use Rattle.w_segment.specs.Holds.{AllOf}
use Rattle.w_reduce.specs.Values.{val}
use Rattle.w_stands.specs.Values.{vals, table_of, store_of}
use Rattle.w_stands.specs.Keeps.{TablesHold, SegmentsHold, StoreHolds}
use Rattle.w_typed.specs.Values.{ValueTyped, a_continuation, AllTyped}
use Rattle.w_typed.specs.Stores.{Instances, no_instance, instances as more_instances, TableTyped, GlobalTyped, SegmentTyped, StoreTyped}
use Rattle.w_switching.specs.Sound.{is_of}

abbrev pub IsPlain : Value → Type 0
IsPlain v = is_of (record { entries = []; spare = 0 }) v ≡ true

-- no value of a type is a continuation where there is none
value_plain : {m : Module} (v : Value) {t : ValType} → ValueTyped m [] (val v) t → IsPlain v
value_plain (value.I32 n) h = refl
value_plain (value.I64 n) h = refl
value_plain value.Null h = refl
value_plain (value.Func a) h = refl
value_plain (value.Cont r) (a_continuation k) = let none = k.is in absurd (cc)

all_plain : (m : Module) (t : ValType) (vs : List Value) → AllTyped m [] t (vals vs) → AllOf IsPlain vs
all_plain m t [] h = tt
all_plain m t (v ∷ vs) (h, k) = (value_plain v h, all_plain m t vs k)

tables_plain : {m : Module} (ts : List instances.Table) {us : List TableType} → Instances (TableTyped m []) (map table_of ts) us → TablesHold IsPlain ts
tables_plain [] no_instance = tt
tables_plain (t ∷ ts) (more_instances h k) = (all_plain _ _ t.elements h.elements, tables_plain ts k)

globals_plain : {m : Module} (vs : List Value) {gs : List GlobalType} → Instances (GlobalTyped m []) (vals vs) gs → AllOf IsPlain vs
globals_plain [] no_instance = tt
globals_plain (v ∷ vs) (more_instances h k) = (value_plain v h, globals_plain vs k)

segments_plain : {m : Module} (vss : List (List Value)) {rs : List RefType} → Instances (SegmentTyped m []) (map vals vss) rs → SegmentsHold IsPlain vss
segments_plain [] no_instance = tt
segments_plain (vs ∷ vss) (more_instances h k) = (all_plain _ _ vs h, segments_plain vss k)

-- nor of a store that is typed with no continuation
pub store_plain : {m : Module} (u : instances.Store) → StoreTyped m [] (store_of u) → StoreHolds IsPlain u
store_plain u h = record { tables = tables_plain u.tables h.tables; globals = globals_plain u.globals h.globals; segments = segments_plain u.elems h.elements }
