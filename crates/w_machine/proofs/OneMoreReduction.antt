-- A machine that takes a reduction, or is stopped.
use Rattle.std.proofs.Common.{◌≡◌, ℕ, suc, ◌+◌, Bool, true, List, [], ◌∷◌, ◌++◌, None, refl, sym, ap, subst, subst₂, ◌∙◌, arith}
use Rattle.std.specs.Prelude.{Box}
use Rattle.std.specs.declared.alloc.Global.{Global}
use Rattle.lists.specs.Rows.{Row, ε, ◌▹◌, ◌⧺◌, size, row_of}
use Rattle.w_syntax.specs.Code.{Done}
use Rattle.w_syntax.specs.declared.module.Module.{Module}
use Rattle.w_canon.specs.declared.entry.Entry.{Entry}
use Rattle.w_canon.specs.IsClassesOf.{IsClassesOf}
use Rattle.w_canon.specs.Tests.{index_test}
use Rattle.w_canon.proofs.MatchingTests.{index_decided}
use Rattle.w_rules.specs.Matching.{RowMatches, known}
use Rattle.w_rules.specs.Operands.{Operand}
use Rattle.w_rules.proofs.Preorder.{row_size}
use Rattle.w_segment.specs.declared.segment.Segment.{Segment}
use Rattle.w_segment.specs.declared.entry.Stage.{Stage}
use Rattle.w_segment.specs.declared.entry.Stage.TheVariants.{Fresh, Body, Branch, Values as AtValues}
use Rattle.w_segment.specs.Link.{Link}
use Rattle.w_segment.specs.Shape.{Shape, Capacity, fresh_shape}
use Rattle.w_reduce.specs.Values.{Val}
use Rattle.w_reduce.specs.Store.{Store}
use Rattle.w_reduce.specs.Terms.{Rest, Context, Term}
use Rattle.w_reduce.specs.Program.{Program, IsProgram}
use Rattle.w_reduce.specs.Reduced.{Went}
use Rattle.w_reduce.specs.Reduce.{reduce}
use Rattle.w_reduce.specs.Start.{invokes, first_term}
use Rattle.w_reduce.specs.Run.{Running, RunState, outcome_by, state_at, after_reduction, continued, Run}
use Rattle.w_stands.specs.Stands.{StackIs, body, left, fresh, values}
use Rattle.w_typed.specs.Values.{ValuesTyped, no_values, values as more_values}
use Rattle.w_types.specs.declared.types.FuncType.{FuncType}
use Rattle.w_types.specs.declared.types.ValType.{ValType}
use Rattle.w_typed.specs.Contexts.{Scope, RestTyped, code_alone, invoke_first, Within, outside}
use Rattle.w_typed.specs.Values.{Arrows}
use Rattle.w_typed.specs.Configurations.{Typed}
use Rattle.w_configuration.specs.declared.configuration.Configuration.{Configuration as Parts}
use Rattle.w_machine.specs.Beginning.{Origin}
use Rattle.w_configuration.specs.Standing.{behind_of, MayWait, IsLast, StandsSomewhere}
use Rattle.w_machine.specs.Reached.{waiting_of, is_values, is_last, IsReached}
use Rattle.w_switching.specs.Standing.{Chained, only, around}

-- ## Where a machine stands

-- what says which of the module's types match which
abbrev pub program_by : (m : Module) → List Entry → Program
program_by m es = record { source = m; matches = index_test es }

pub is_program : (m : Module) (es : List Entry) → IsClassesOf m.types es → IsProgram (program_by m es)
is_program m es h i j = index_decided m.types es h i j

-- a machine that keeps no outcome stands for a configuration
pub stands_somewhere : {from : Origin} {functions : List ℕ} {x : Parts} {waiting : List (Box Segment Global)} {n a b : ℕ} (es : List Entry) → IsClassesOf from.source.types es
    → IsReached from functions x waiting None n a b → StandsSomewhere from.source x
stands_somewhere {from = from} {waiting = waiting} es classes h =
    let p = program_by from.source es in
    let program = is_program from.source es classes in
    let start = h.started p refl program in
    let at = h.reached p start.0 (first_term from.starts from.main) (record { source = refl; program = program; store = start.1; term = refl }) in
    record { waiting = waiting_of waiting; p = p; ks = at.ks; t = at.t; stands = at.stands }

-- ## The turn of the next one

size_beside : (xs ys : Row Operand) → size (xs ⧺ ys) ≡ size xs + size ys
size_beside xs ε = omega arith
size_beside xs (ys ▹ y) = omega (arith, size_beside xs ys)

no_operand : (m : Module) {K : Arrows} {vs : Row Val} {ts : Row Operand} → ValuesTyped m K vs ts → size ts ≡ 0 → vs ≡ ε
no_operand m no_values e = refl
no_operand m (more_values h v) e = absurd (cc)

outside_size : (m : Module) {K : Arrows} {us : Row Operand} {c : Scope} {now : List Bool} {out : Row Operand} → Within m K us [] c now out → size out ≡ size us
outside_size m {us = us} {out = out} (outside r) = row_size m.types out us r

done_size : (m : Module) {c : Scope} {set : List Bool} {ts out : Row Operand} → RestTyped m c set [] Done ts out → size ts ≡ size out
done_size m {ts = ts} {out = out} (code_alone h) = row_size m.types ts out h.derives

-- a function that takes nothing is invoked on as many operands as there are beneath
size_beneath : (m : Module) (beneath ts : Row Operand) (params : List ValType) → params ≡ [] → RowMatches m.types ts (beneath ⧺ known (row_of params)) → size ts ≡ size beneath
size_beneath m beneath ts params none takes =
    let taken : size (known (row_of params)) ≡ 0 = ap (λ (l : List ValType). size (known (row_of l))) none in
    let all = row_size m.types ts (beneath ⧺ known (row_of params)) takes in
    let split = size_beside beneath (known (row_of params)) in
    omega (arith, taken, all, split)

-- before the invokes of those that wait, with nothing around them, there are no operands
no_operands_wait : (m : Module) (us : Row Operand) {c : Scope} {set : List Bool} {ts out : Row Operand} (f : ℕ) (fs : List ℕ) → MayWait m us (f ∷ fs)
    → RestTyped m c set (invokes (f ∷ fs)) Done ts out → size out ≡ size us → size ts ≡ 0
no_operands_wait m us {ts = ts} f [] last (invoke_first {t = t} beneath is takes h) ended =
    let same : t ≡ last.type = (let one = is in let two = last.has_type in cc) in
    let results : size (known (row_of t.results)) ≡ size us = ap (λ (f : FuncType). size (known (row_of f.results))) same ∙ sym (ap size last.is) in
    let whole = size_beside beneath (known (row_of t.results)) in
    let left = done_size m h in
    let here = size_beneath m beneath ts t.params (ap (λ (f : FuncType). f.params) same ∙ last.no_params) takes in
    omega (arith, results, whole, left, ended, here)
no_operands_wait m us {ts = ts} f (g ∷ fs) (before, others) (invoke_first {t = t} beneath is takes h) ended =
    let same : t ≡ before.type = (let one = is in let two = before.has_type in cc) in
    let whole = size_beside beneath (known (row_of t.results)) in
    let left = no_operands_wait m us g fs others h ended in
    let here = size_beneath m beneath ts t.params (ap (λ (f : FuncType). f.params) same ∙ before.no_params) takes in
    omega (arith, whole, left, here)

-- ## The run goes on

-- the reduction of the configuration that the run is at
pub state_went : (p : Program) {n : ℕ} {r : RunState} {v : Store} {t : Term} {text : List ℕ} {w : Store} {x : Term} → r ≡ state_at p n r.output v t → reduce p v t ≡ Went text w x
    → (r.outcome ≡ Running) × (continued p r r.outcome ≡ state_at p (n + 1) (r.output ++ text) w x)
state_went p {n = n} {r = r} {v = v} {t = t} {text = text} {w = w} {x = x} at went =
    let running : r.outcome ≡ Running = ap (λ (q : RunState). q.outcome) at ∙ ap outcome_by went in
    let store : r.store ≡ v = ap (λ (q : RunState). q.store) at in
    let term : r.term ≡ t = ap (λ (q : RunState). q.term) at in
    let taken : suc r.taken ≡ n + 1 = (let k : r.taken ≡ n = ap (λ (q : RunState). q.taken) at in omega (arith, k)) in (
      running,
      ap (continued p r) running
          ∙ ap (λ (s : Store). after_reduction p r (reduce p s r.term)) store
          ∙ ap (λ (u : Term). after_reduction p r (reduce p v u)) term
          ∙ ap (after_reduction p r) went
          ∙ ap (λ (k : ℕ). state_at p k (r.output ++ text) w x) taken,
    )

pub next_run : (p : Program) (s₀ : Store) (t₀ : Term) (n : ℕ) → Run p s₀ t₀ (n + 1) ≡ continued p (Run p s₀ t₀ n) (Run p s₀ t₀ n).outcome
next_run p s₀ t₀ n = ap (Run p s₀ t₀) (let e : n + 1 ≡ suc n = omega arith in e)

-- ## The segment that runs next

pub fresh_in : {m : Module} (f : ℕ) (fs : List ℕ) (c : Capacity) {e : Context} {r : Rest} → e ≡ [] → r ≡ behind_of (f ∷ fs) → StackIs m [] (behind_of fs) (fresh_shape f c) e r
fresh_in {m = m} f fs c {e = e} {r = r} outer behind =
    subst (λ (x : Context). StackIs m [] (behind_of fs) (fresh_shape f c) x r) (sym outer)
    (subst (λ (x : Rest). StackIs m [] (behind_of fs) (fresh_shape f c) [] x) (sym behind) (fresh refl refl))

left_there : {m : Module} {outer : Context} {behind : Rest} {s : Shape} {e : Context} {r : Rest} → StackIs m outer behind s e r → s.stage ≡ AtValues → (e ≡ outer) × (r ≡ behind)
left_there (body h k w) b = absurd (cc)
left_there (left h k w) b = absurd (cc)
left_there (fresh h k) b = absurd (cc)
left_there (values h k) b = (refl, refl)

values_stage : (g : Stage) → is_values g ≡ true → g ≡ AtValues
values_stage AtValues e = refl
values_stage Fresh e = absurd (cc)
values_stage Body e = absurd (cc)
values_stage (Branch l) e = absurd (cc)

-- where one segment is left that is values, nothing stands around
pub last_there : {m : Module} {outer : Context} {behind : Rest} {xs : List Link} {e : Context} {vs : Row Val} {r : Rest} → Chained m outer behind xs e vs r → is_last xs ≡ true
    → (e ≡ outer) × (r ≡ behind)
last_there (only {x = x} i v) is = left_there i (values_stage x.shape.stage is)
last_there (around i v c g k) is = absurd (cc)

-- one such segment is the last one
pub is_last_true : (xs : List Link) → IsLast xs → is_last xs ≡ true
is_last_true [] h = let e = h.0 in absurd (omega (arith, e))
is_last_true (x ∷ []) h = rw (h.1) refl
is_last_true (x ∷ y ∷ ys) h = let e = h.0 in absurd (omega (arith, e))

-- and it is one
pub is_last_one : (xs : List Link) → is_last xs ≡ true → IsLast xs
is_last_one [] e = absurd (cc)
is_last_one (x ∷ []) e = (refl, values_stage x.shape.stage e)
is_last_one (x ∷ y ∷ ys) e = absurd (cc)

-- where the turn of the next one comes there are no operands
pub turn_empty : {m : Module} {K : Arrows} {us : Row Operand} {v : Store} (t : Term) (f : ℕ) (fs : List ℕ) → MayWait m us (f ∷ fs) → Typed m K us v t → t.around ≡ []
    → t.rest ≡ behind_of (f ∷ fs) → t.operands ≡ ε
turn_empty {m = m} {K = K} {us = us} {v = v} t f fs wait h outer behind =
    let at = subst₂ (λ (x : Context) (y : Rest). Typed m K us v (record { around = x; operands = t.operands; rest = y })) outer behind h in
    no_operand m at.term.operands (no_operands_wait m us f fs wait at.term.rest (outside_size m at.term.around))
