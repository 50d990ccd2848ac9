-- The answer for a body is that of every module with these lists in front of the code section and this code.
use Rattle.std.proofs.Common.{◌≡◌, ℕ, ◌+◌, ◌<◌, ◌≤◌, ◌++◌, length, List, Option, Some, None, refl, sym, ap, ◌∙◌, arith}
use Rattle.std.specs.Prelude.{slice_get}
use Rattle.w_types.specs.Groups.{types_of}
use Rattle.w_types.specs.declared.types.FuncType.{FuncType}
use Rattle.w_types.specs.declared.types.RecGroup.{RecGroup}
use Rattle.w_syntax.specs.Functions.{function_type, type_at, type_of_function, code_of_function}
use Rattle.w_syntax.specs.declared.module.Func.{Func}
use Rattle.w_syntax.specs.declared.module.Module.{Module}
use Rattle.w_rules.specs.Bodies.{types_of_runs, set_first}
use Rattle.w_rules.specs.Context.{Context}
use Rattle.w_rules.specs.DataNeeds.{needs, with_datas}
use Rattle.w_rules.specs.Limits.{Within, locals_of, params_in, locals_in, most_locals}
use Rattle.w_rules.specs.Spaces.{context_of, in_body}
use Rattle.w_rules.proofs.DataNeeds.{typed_has, typed_alike, peak_same}
use Rattle.w_valid.specs.JudgedBodies.{IsBodyAnswer}
use Rattle.w_valid.specs.Measured.{CodeValid, HasMeasure, IsCodeMeasure}
use Rattle.w_syntax.specs.SameBefore.{SameBefore}
use Rattle.w_valid.specs.declared.judged_bodies.BodyMeasure.{BodyMeasure}
use Rattle.w_valid.proofs.CodeOfFunctions.{code_valid, function_valid, measure_of}

-- ## By the data segments that it names

-- code that is valid has them
code_has : (c : Context) (n x : ℕ) (f : Func) → CodeValid (with_datas n c) x f → needs f.body ≤ n
code_has c n x f v =
    typed_has (in_body c (v.type.params ++ types_of_runs f.locals) v.type.results) n f.body (set_first v.type.params f.locals) _ _ v.body

-- and is valid with any others
code_alike : (c : Context) (n d x : ℕ) (f : Func) → needs f.body ≤ n → needs f.body ≤ d → CodeValid (with_datas n c) x f → CodeValid (with_datas d c) x f
code_alike c n d x f h k v = record {
  type = v.type;
  has_type = v.has_type;
  locals = v.locals;
  body = typed_alike (in_body c (v.type.params ++ types_of_runs f.locals) v.type.results) n d f.body (set_first v.type.params f.locals) _ _ h k v.body;
}

measure_alike : (c : Context) (n d x : ℕ) (f : Func) (q : ℕ × ℕ) → needs f.body ≤ n → needs f.body ≤ d → HasMeasure (with_datas n c) x f q → HasMeasure (with_datas d c) x f q
measure_alike c n d x f q h k m = λ t e.
    let a = m t e in
    (a.0 ∙ peak_same (in_body c (t.params ++ types_of_runs f.locals) t.results) n d f.body (set_first t.params f.locals) 0 h k, a.1)

-- what was measured with just the segments that it names
abbrev pub answer_by : ℕ → Option (ℕ × ℕ) → Option BodyMeasure
answer_by n None = None
answer_by n (Some q) = Some (record { height = q.0; depth = q.1; needs = n })

pub body_answer : (m : Module) (i x : ℕ) (f : Func) (n : ℕ) (r : Option (ℕ × ℕ)) → slice_get m.functions i ≡ Some x → code_of_function m i ≡ Some f → n ≡ needs f.body
    → IsCodeMeasure (with_datas n (context_of m)) x f r → IsBodyAnswer m i (answer_by n r)
body_answer m i x f n None is code e h = λ v.
    let c = code_valid m i x f is code v in
    let le = code_has (context_of m) (length m.datas) x f c in
    h (code_alike (context_of m) (length m.datas) n x f le (omega (arith, e)) c)
body_answer m i x f n (Some q) is code e h = (
  (
    λ v. let le = code_has (context_of m) (length m.datas) x f (code_valid m i x f is code v) in omega (arith, le, e),
    λ le. function_valid m i x f is code (code_alike (context_of m) n (length m.datas) x f (omega (arith, e)) (omega (arith, e, le)) h.0),
  ),
  λ le. measure_of m i x f q is code (measure_alike (context_of m) n (length m.datas) x f q (omega (arith, e)) (omega (arith, e, le)) h.1),
)

-- ## By the lists in front of the code section

pub function_same : {m n : Module} → SameBefore m n → (i : ℕ) (o : Option ℕ) → slice_get m.functions i ≡ o → slice_get n.functions i ≡ o
function_same s i o e = ap (λ xs. slice_get xs i) s.functions ∙ e

type_same : {m n : Module} → SameBefore m n → (i : ℕ) → type_of_function n i ≡ type_of_function m i
type_same {m} {n} s i =
    ap (type_at n) (ap (λ xs. slice_get xs i) s.functions) ∙ at (slice_get m.functions i)
  where
    at : (o : Option ℕ) → type_at n o ≡ type_at m o
    at None = refl
    at (Some x) = ap (λ (gs : List RecGroup). function_type (slice_get (types_of gs) x)) s.types

locals_same : {m n : Module} → SameBefore m n → (i : ℕ) → code_of_function m i ≡ code_of_function n i → locals_of n i ≡ locals_of m i
locals_same {m} {n} s i code =
    ap (λ (o : Option FuncType). params_in o + locals_in (code_of_function n i)) (type_same s i) ∙ ap (λ (o : Option Func). params_in (type_of_function m i) + locals_in o) (sym code)

-- a function that passes the limit on locals
pub past_locals : {m n : Module} → SameBefore m n → (i : ℕ) → code_of_function m i ≡ code_of_function n i → i < length n.codes → (locals_of m i ≤ most_locals → ⊥) → Within n → ⊥
past_locals s i code lt over w = over (let le = w.locals i lt in let e = locals_same s i code in omega (arith, le, e))
