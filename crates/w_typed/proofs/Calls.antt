-- Calls of typed configurations.
use Rattle.std.proofs.Common.{◌≡◌, ℕ, zero, suc, Bool, true, false, List, [], ◌∷◌, ◌++◌, length, map, replicate, if◌then◌else◌, Option, Some, None, slice_get, inl, refl, sym, ap, subst, ◌∙◌, arith}
use Rattle.std.proofs.lemmas.Option.{slice_get_within}
use Rattle.w_types.specs.declared.types.FuncType.{FuncType}
use Rattle.w_types.specs.declared.types.HeapType.{HeapType}
use Rattle.w_types.specs.declared.types.ValType.{ValType}
use Rattle.w_types.specs.declared.types.ValType.TheVariants as type
use Rattle.lists.specs.Rows.{Row, ε, ◌▹◌, ◌⧺◌, row_of, listed}
use Rattle.lists.proofs.Rows.{size-row_of, listed-row_of, unit_left}
use Rattle.w_syntax.specs.Code.{Done}
use Rattle.w_syntax.specs.Functions.{func_type, type_at}
use Rattle.w_syntax.specs.declared.locals.LocalRun.{LocalRun}
use Rattle.w_syntax.specs.declared.numeric.IntType.TheVariants as int
use Rattle.w_syntax.specs.declared.module.Func.{Func}
use Rattle.w_syntax.specs.declared.module.Module.{Module}
use Rattle.w_canon.specs.Matching.{IsFunc}
use Rattle.w_rules.specs.Bodies.{types_of_runs, set_first, has_default}
use Rattle.w_rules.specs.Context.{type_of_func, func_at}
use Rattle.w_rules.specs.Facts.{height_of}
use Rattle.w_rules.specs.Peak.{depth}
use Rattle.w_rules.specs.Matching.{RowMatches, known}
use Rattle.w_rules.specs.Operands.{Operand}
use Rattle.w_rules.specs.Operands.{Known}
use Rattle.w_rules.specs.Sound.{Sound}
use Rattle.w_rules.specs.Spaces.{functions_of, context_of}
use Rattle.w_rules.specs.Valid.{FunctionItem, FunctionValid}
use Rattle.w_rules.proofs.Preorder.{row_refl}
use Rattle.w_tables.specs.declared.entries.FuncEntry.{FuncEntry}
use Rattle.w_tables.specs.declared.entries.Printer.{Printer}
use Rattle.w_tables.specs.declared.entries.Printer.TheVariants as printer
use Rattle.w_reduce.specs.Values.{Val, Null, default_of}
use Rattle.w_reduce.specs.Store.{Store}
use Rattle.w_reduce.specs.Terms.{Rest, Context}
use Rattle.w_reduce.specs.Program.{Program}
use Rattle.w_reduce.specs.Printed.{printed_i32, printed_i64, printed_byte}
use Rattle.w_reduce.specs.Calls.{defaults, enter, print, invoked, invoke}
use Rattle.w_typed.specs.Values.{Arrows, ValueTyped, an_i32, an_i64, a_null, a_value, ValuesTyped, no_values, values}
use Rattle.w_typed.specs.Ranges.{ConstantsFit}
use Rattle.w_typed.specs.Stores.{StoreTyped, printed_type}
use Rattle.w_reduce.specs.Room.{most_operands, most_labels}
use Rattle.w_typed.specs.Contexts.{Scope, inside, LaterTyped, code_alone, RestTyped, Subset, LocalTyped, unset, held, LocalsTyped, no_locals, locals, Within, label, frame}
use Rattle.w_typed.specs.Configurations.{IsSafe}
use Rattle.w_typed.proofs.OneWay.{some_same}
use Rattle.w_typed.proofs.TypeKinds.{is_func}
use Rattle.w_typed.proofs.Functions.{EntryTyped, own, host, entries_typed}
use Rattle.w_typed.proofs.Places.{instance_at, all_there}
use Rattle.w_typed.proofs.TypedOperands.{values_taken, number_taken}
use Rattle.w_typed.proofs.Holes.{subset_refl}
use Rattle.w_typed.proofs.Blocks.{after_done}
use Rattle.w_typed.proofs.Low.{size_known}
use Rattle.w_typed.proofs.Onward.{goes_on, goes_printing}

-- ## The locals of a function that is entered

-- a value of each type, and what is set
pub data ListTyped (m : Module) (K : Arrows) : List Val → List ValType → Type 0 where
  no_value : ListTyped m K [] []
  a_value_more : {v : Val} {t : ValType} {vs : List Val} {ts : List ValType} → ValueTyped m K v t → ListTyped m K vs ts → ListTyped m K (v ∷ vs) (t ∷ ts)

module _ (m : Module) {K : Arrows} where
  list_end : {vs : List Val} {ts : List ValType} {v : Val} {t : ValType} → ListTyped m K vs ts → ValueTyped m K v t → ListTyped m K (vs ++ v ∷ []) (ts ++ t ∷ [])
  list_end no_value w = a_value_more w no_value
  list_end (a_value_more p h) w = a_value_more p (list_end h w)

  list_of : {vs : Row Val} (ts : Row ValType) → ValuesTyped m K vs (known ts) → ListTyped m K (listed vs) (listed ts)
  list_of ε no_values = no_value
  list_of (ts ▹ t) (values h (a_value w)) = list_end (list_of ts h) w

  null_or_unset : (n : Bool) (h : HeapType) → LocalTyped m K (if n then Some Null else None) (type.Ref (record { nullable = n; heap = h })) n
  null_or_unset true h = held (a_null refl)
  null_or_unset false h = unset

  default_typed : (t : ValType) → LocalTyped m K (default_of t) t (has_default t)
  default_typed type.I32 = held (an_i32 (λ f. omega arith))
  default_typed type.I64 = held (an_i64 (λ f. omega arith))
  default_typed (type.Ref r) = null_or_unset r.nullable r.heap

  run_typed : (n : ℕ) (t : ValType) {ls : List (Option Val)} {ts : List ValType} → LocalsTyped m K ls ts (map has_default ts)
      → LocalsTyped m K (replicate n (default_of t) ++ ls) (replicate n t ++ ts) (map has_default (replicate n t ++ ts))
  run_typed zero t h = h
  run_typed (suc n) t h = locals (default_typed t) (run_typed n t h)

  runs_typed : (runs : List LocalRun) → LocalsTyped m K (defaults runs) (types_of_runs runs) (map has_default (types_of_runs runs))
  runs_typed [] = no_locals
  runs_typed (r ∷ rs) = run_typed r.count r.kind (runs_typed rs)

  arguments_typed : {vs : List Val} {ps : List ValType} {ls : List (Option Val)} {ts : List ValType} {s : List Bool} → ListTyped m K vs ps → LocalsTyped m K ls ts s
      → LocalsTyped m K (map (λ (v : Val). Some v) vs ++ ls) (ps ++ ts) (map (λ (t : ValType). true) ps ++ s)
  arguments_typed no_value h = h
  arguments_typed (a_value_more w k) h = locals (held w) (arguments_typed k h)

  -- arguments, and locals as they begin
  pub first_locals : {args : Row Val} (params : List ValType) (runs : List LocalRun) → ValuesTyped m K args (known (row_of params))
      → LocalsTyped m K (map (λ (v : Val). Some v) (listed args) ++ defaults runs) (params ++ types_of_runs runs) (set_first params runs)
  first_locals {args} params runs h =
      arguments_typed (subst (λ (ts : List ValType). ListTyped m K (listed args) ts) (listed-row_of params) (list_of (row_of params) h)) (runs_typed runs)

-- ## Invokes

-- the index of a function of the store is that of a function type
entry_there : (m : Module) {f : FuncEntry} {x : ℕ} → Sound m → EntryTyped m f x → IsFunc m.types x
entry_there m valid (own {i = i} {x = x} there) =
    let f : FunctionValid m i = valid.items (FunctionItem i) refl (inl (slice_get_within m.functions i x there)) in
    is_func m x f.type (sym (ap (type_at m) there) ∙ f.has_type)
entry_there m valid (host {x = x} h) = is_func m x h.type h.has_type

pub function_there : (m : Module) {K : Arrows} {s : Store} (a x : ℕ) → Sound m → StoreTyped m K s → slice_get (functions_of m) a ≡ Some x → IsFunc m.types x
function_there m a x valid u is = let f = instance_at a x (entries_typed m u.functions) is in entry_there m valid f.holds

module _ (p : Program) {K : Arrows} (us : Row Operand) where
  -- a function of the module's own is entered
  entered : {s : Store} {e : Context} {vs : Row Val} {rest : Rest} {c : Scope} {set now : List Bool} {out : Row Operand} (i : ℕ) (beneath : Row Operand) (f : FunctionValid p.source i)
      → StoreTyped p.source K s → ValuesTyped p.source K vs (beneath ⧺ known (row_of f.type.params)) → RestTyped p.source c set rest.ahead rest.code (beneath ⧺ known (row_of f.type.results)) out
      → Subset set now → Within p.source K us e c now out → IsSafe p.source K us (enter p s e vs i rest)
  entered {vs = vs} i beneath f u v k still w =
      let m = p.source in
      let results = row_of f.type.results in
      let begin = set_first f.type.params f.func.locals in
      let as_many = sym (size-row_of f.type.results) in
      let nothing = subst (λ (ts : Row Operand). RowMatches m.types ts (known results)) (sym (unit_left (known results))) (row_refl m.types (known results)) in
      let behind : LaterTyped m (inside i (f.type.params ++ types_of_runs f.func.locals) results) begin Done (ε ⧺ known results) (known results) =
      record { derives = nothing; none = λ e. refl; fits = λ n. tt; low = λ own room. record { operands = room; labels = omega arith } } in
      let peak_is : most_operands m i ≡ height_of m f.type f.func = rw (f.has_type, f.has_code) refl in
      let depth_is : most_labels m i ≡ depth f.func.body = rw (f.has_type, f.has_code) refl in
      rw (f.has_type, f.has_code)
      (values_taken m us (length f.type.params) vs beneath (known (row_of f.type.params)) _ (sym (size_known (row_of f.type.params) ∙ size-row_of f.type.params)) v
      (λ below args lower taken. goes_on m us u (subset_refl begin) no_values (code_alone (record { derives = f.body; none = λ e. absurd (cc); fits = λ n. all_there (λ (g : Func). ConstantsFit g.body) m.codes i f.func n.bodies f.has_code; low = λ own. record { operands = omega (arith, peak_is); labels = omega (arith, depth_is) } }))
      (label ε (row_refl m.types (known results)) as_many no_values (rw (after_done Done) behind) behind (subset_refl begin)
      (frame beneath (record { type = f.type; func = f.func; has_type = f.has_type; has_code = f.has_code; locals_are = refl; results_are = refl })
      (row_refl m.types (known results)) as_many (first_locals m f.type.params f.func.locals taken) lower k still w))))

  -- a function of the host prints
  printed : {s : Store} {e : Context} {vs : Row Val} {rest : Rest} {c : Scope} {set now : List Bool} {out : Row Operand} (k : Printer) (beneath : Row Operand)
      → StoreTyped p.source K s → ValuesTyped p.source K vs (beneath ▹ Known (printed_type k)) → RestTyped p.source c set rest.ahead rest.code beneath out
      → Subset set now → Within p.source K us e c now out → IsSafe p.source K us (print s e vs k rest)
  printed {vs = vs} printer.I32 beneath u v k still w =
      number_taken p.source us int.I32 vs beneath _ v (λ below n b. goes_printing p.source us (printed_i32 n) u still b k w)
  printed {vs = vs} printer.I64 beneath u v k still w =
      number_taken p.source us int.I64 vs beneath _ v (λ below n b. goes_printing p.source us (printed_i64 n) u still b k w)
  printed {vs = vs} printer.Byte beneath u v k still w =
      number_taken p.source us int.I32 vs beneath _ v (λ below n b. goes_printing p.source us (printed_byte n) u still b k w)

  pub entry_invoked : {s : Store} {e : Context} {vs : Row Val} {rest : Rest} {c : Scope} {set now : List Bool} {out : Row Operand} {f : FuncEntry} {x : ℕ} (t : FuncType)
      (beneath : Row Operand) → Sound p.source → StoreTyped p.source K s → EntryTyped p.source f x → func_type p.source x ≡ Some t
      → ValuesTyped p.source K vs (beneath ⧺ known (row_of t.params)) → RestTyped p.source c set rest.ahead rest.code (beneath ⧺ known (row_of t.results)) out
      → Subset set now → Within p.source K us e c now out → IsSafe p.source K us (invoked p s e vs f rest)
  entry_invoked {vs = vs} {rest = rest} {c = c} {set = set} {out = out} t beneath valid u (own {i = i} {x = x} there) is v k still w =
      let m = p.source in
      let f : FunctionValid m i = valid.items (FunctionItem i) refl (inl (slice_get_within m.functions i x there)) in
      let same : t ≡ f.type = some_same (sym is ∙ ap (type_at m) (sym there) ∙ f.has_type) in
      entered i beneath f u (subst (λ (z : FuncType). ValuesTyped m K vs (beneath ⧺ known (row_of z.params))) same v)
      (subst (λ (z : FuncType). RestTyped m c set rest.ahead rest.code (beneath ⧺ known (row_of z.results)) out) same k) still w
  entry_invoked {vs = vs} {rest = rest} {c = c} {set = set} {out = out} t beneath valid u (host {p = by} h) is v k still w =
      let m = p.source in
      let same : t ≡ h.type = some_same (sym is ∙ h.has_type) in
      let taken : t.params ≡ printed_type by ∷ [] = ap (λ (f : FuncType). f.params) same ∙ h.params in
      let given : t.results ≡ [] = ap (λ (f : FuncType). f.results) same ∙ h.results in
      printed by beneath u (subst (λ (ts : List ValType). ValuesTyped m K vs (beneath ⧺ known (row_of ts))) taken v)
      (subst (λ (ts : List ValType). RestTyped m c set rest.ahead rest.code (beneath ⧺ known (row_of ts)) out) given k) still w

  found_invoked : {s : Store} {e : Context} {vs : Row Val} {rest : Rest} {c : Scope} {set now : List Bool} {out : Row Operand} (a : ℕ) (x : Option ℕ) (t : FuncType)
      (beneath : Row Operand) → Sound p.source → StoreTyped p.source K s → slice_get (functions_of p.source) a ≡ x → func_at (context_of p.source) x ≡ Some t
      → ValuesTyped p.source K vs (beneath ⧺ known (row_of t.params)) → RestTyped p.source c set rest.ahead rest.code (beneath ⧺ known (row_of t.results)) out
      → Subset set now → Within p.source K us e c now out → IsSafe p.source K us (invoke p s e vs a rest)
  found_invoked a None t beneath valid u there is v k still w = absurd (cc)
  found_invoked a (Some x) t beneath valid u there is v k still w =
      let f = instance_at a x (entries_typed p.source u.functions) there in
      rw (f.is) (entry_invoked t beneath valid u f.holds is v k still w)

  -- an invoke goes on in the function, or prints
  pub invoke_safe : {s : Store} {e : Context} {vs : Row Val} {rest : Rest} {c : Scope} {set now : List Bool} {out : Row Operand} (a : ℕ) (t : FuncType)
      (beneath : Row Operand) → Sound p.source → StoreTyped p.source K s → type_of_func (context_of p.source) a ≡ Some t
      → ValuesTyped p.source K vs (beneath ⧺ known (row_of t.params)) → RestTyped p.source c set rest.ahead rest.code (beneath ⧺ known (row_of t.results)) out
      → Subset set now → Within p.source K us e c now out → IsSafe p.source K us (invoke p s e vs a rest)
  invoke_safe a t beneath valid u is v k still w = found_invoked a (slice_get (functions_of p.source) a) t beneath valid u refl is v k still w
