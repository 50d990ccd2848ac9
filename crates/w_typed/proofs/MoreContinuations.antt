-- What is typed stays typed as there are more continuations.
use Rattle.std.proofs.Common.{◌≡◌, ℕ, Bool, List, [], ◌∷◌, ◌++◌, Option, Some, slice_get, refl, sym, ap, ◌∙◌, append-nil}
use Rattle.std.proofs.lemmas.Option.{slice_get_within}
use Rattle.w_types.specs.declared.types.FuncType.{FuncType}
use Rattle.w_types.specs.declared.types.HeapType.{HeapType}
use Rattle.w_types.specs.declared.types.RefType.{RefType}
use Rattle.w_types.specs.declared.types.ValType.{ValType}
use Rattle.w_types.specs.declared.types.ValType.TheVariants.{Ref}
use Rattle.lists.specs.Rows.{Row}
use Rattle.lists.proofs.Lists.{get-front}
use Rattle.w_syntax.specs.declared.module.GlobalType.{GlobalType}
use Rattle.w_syntax.specs.declared.module.Module.{Module}
use Rattle.w_syntax.specs.declared.module.TableType.{TableType}
use Rattle.w_rules.specs.Operands.{Operand}
use Rattle.w_reduce.specs.Values.{Val}
use Rattle.w_reduce.specs.Store.{Store, Table, with_conts}
use Rattle.w_reduce.specs.Terms.{Context, Term, Continuation}
use Rattle.w_typed.specs.Values.{Arrows, Grows, ContinuationTyped, ValueTyped, an_i32, an_i64, a_null, a_function, a_continuation, OperandTyped, a_value, a_bottom, ValuesTyped, no_values, values, AllTyped}
use Rattle.w_typed.specs.Contexts.{Scope, LocalTyped, unset, held, LocalsTyped, no_locals, locals, Within, outside, label, frame, handle, HoleTyped}
use Rattle.w_typed.specs.Stores.{Instances, TableTyped, ContTyped, consumed, kept, StoreTyped}
use Rattle.w_typed.proofs.ManyInstances.{instances_each}

-- a list stays
pub grows_refl : (K : Arrows) → Grows K K
grows_refl K = record { more = []; is = sym (append-nil K) }

-- or gets one type more
pub grows_more : (K : Arrows) (t : FuncType) → Grows K (K ++ t ∷ [])
grows_more K t = record { more = t ∷ []; is = refl }

-- a continuation's type is still there
arrow_stays : {K L : Arrows} (a : ℕ) (t : FuncType) → Grows K L → slice_get K a ≡ Some t → slice_get L a ≡ Some t
arrow_stays {K} a t g is = ap (λ (l : Arrows). slice_get l a) g.is ∙ get-front K g.more a (slice_get_within K a t is) ∙ is

module _ (m : Module) {K L : Arrows} (g : Grows K L) where
  -- ## Values

  -- continuations
  continuation_grows : {a : ℕ} {h : HeapType} → ContinuationTyped m K a h → ContinuationTyped m L a h
  continuation_grows {a = a} c =
      record { arrow = c.arrow; is = arrow_stays a c.arrow g c.is; index = c.index; type = c.type; has_type = c.has_type; matches = c.matches; heap = c.heap }

  value_grows : {v : Val} {t : ValType} → ValueTyped m K v t → ValueTyped m L v t
  value_grows (an_i32 r) = an_i32 r
  value_grows (an_i64 r) = an_i64 r
  value_grows (a_null n) = a_null n
  value_grows (a_function is h) = a_function is h
  value_grows (a_continuation c) = a_continuation (continuation_grows c)

  -- operands
  operand_grows : {v : Val} {t : Operand} → OperandTyped m K v t → OperandTyped m L v t
  operand_grows (a_value h) = a_value (value_grows h)
  operand_grows (a_bottom n) = a_bottom n

  pub values_grow : {vs : Row Val} {ts : Row Operand} → ValuesTyped m K vs ts → ValuesTyped m L vs ts
  values_grow no_values = no_values
  values_grow (values h v) = values (values_grow h) (operand_grows v)

  -- values of one type
  all_grow : (t : ValType) (vs : List Val) → AllTyped m K t vs → AllTyped m L t vs
  all_grow t [] h = tt
  all_grow t (v ∷ vs) h = (value_grows h.0, all_grow t vs h.1)

  -- ## Contexts

  -- locals
  local_grows : {l : Option Val} {t : ValType} {b : Bool} → LocalTyped m K l t b → LocalTyped m L l t b
  local_grows unset = unset
  local_grows (held h) = held (value_grows h)

  locals_grow : {ls : List (Option Val)} {ts : List ValType} {s : List Bool} → LocalsTyped m K ls ts s → LocalsTyped m L ls ts s
  locals_grow no_locals = no_locals
  locals_grow (locals h k) = locals (local_grows h) (locals_grow k)

  -- contexts
  pub within_grows : {us : Row Operand} {e : Context} {c : Scope} {now : List Bool} {ts : Row Operand} → Within m K us e c now ts → Within m L us e c now ts
  within_grows (outside r) = outside r
  within_grows (label beneath r n h again k still w) = label beneath r n (values_grow h) again k still (within_grows w)
  within_grows (frame beneath f r n ls h k still w) = frame beneath f r n (locals_grow ls) (values_grow h) k still (within_grows w)
  within_grows (handle results beneath r hs tops h k still w) = handle results beneath r hs tops (values_grow h) k still (within_grows w)

  -- ## Terms and stores

  -- terms with a hole
  pub hole_grows : {ps us : Row Operand} {t : Term} → HoleTyped m K ps us t → HoleTyped m L ps us t
  hole_grows h = record {
    scope = h.scope;
    set = h.set;
    now = h.now;
    still = h.still;
    before = h.before;
    after = h.after;
    operands = values_grow h.operands;
    rest = h.rest;
    around = within_grows h.around;
  }

  -- what the store keeps of a continuation
  pub cont_grows : (k : Option Continuation) (t : FuncType) → ContTyped m K k t → ContTyped m L k t
  cont_grows _ t consumed = consumed
  cont_grows _ t (kept h) = kept (record { takes = h.takes; term = hole_grows h.term })

  -- a table
  table_grows : (t : Table) (k : TableType) → TableTyped m K t k → TableTyped m L t k
  table_grows t k q = record { max = q.max; least = q.least; most = q.most; elements = all_grow (Ref k.element) t.elements q.elements }

  -- a store with other continuations
  pub store_grows : (s : Store) (ks : List (Option Continuation)) → StoreTyped m K s → Instances (ContTyped m L) ks L → StoreTyped m L (with_conts ks s)
  store_grows s ks u h = record {
    functions = u.functions;
    tables = instances_each table_grows u.tables;
    memories = u.memories;
    globals = instances_each (λ (v : Val) (k : GlobalType) q. value_grows q) u.globals;
    tags = u.tags;
    elements = instances_each (λ (vs : List Val) (r : RefType) q. all_grow _ vs q) u.elements;
    datas = u.datas;
    conts = h;
  }
