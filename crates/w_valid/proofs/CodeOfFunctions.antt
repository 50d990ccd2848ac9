-- A function is valid where its code is, in the context of its module, and has its height and its depth.
use Rattle.std.proofs.Common.{◌≡◌, ℕ, length, Option, Some, None, Result, Ok, Err, IfOk, sym, ap, subst, ◌∙◌}
use Rattle.std.specs.Prelude.{All, slice_get}
use Rattle.w_types.specs.Groups.{types_of}
use Rattle.w_types.specs.declared.types.FuncType.{FuncType}
use Rattle.w_syntax.specs.Functions.{type_at, type_of_function, code_of_function}
use Rattle.w_syntax.specs.declared.locals.LocalRun.{LocalRun}
use Rattle.w_syntax.specs.declared.module.Func.{Func}
use Rattle.w_syntax.specs.declared.module.Module.{Module}
use Rattle.w_rules.specs.Bodies.{BodyTyped}
use Rattle.w_rules.specs.Context.{func_of}
use Rattle.w_rules.specs.Facts.{height_of}
use Rattle.w_rules.specs.Peak.{depth}
use Rattle.w_rules.specs.Spaces.{context_of}
use Rattle.w_rules.specs.Types.{IsValidType}
use Rattle.w_rules.specs.Valid.{FunctionValid}
use Rattle.w_valid.specs.Measured.{CodeValid, HasMeasure, IsCodeMeasure, IsMeasureOf, IsFunctionMeasure}

-- the type of a function is that of its index
pub type_is : (m : Module) (i x : ℕ) → slice_get m.functions i ≡ Some x → type_of_function m i ≡ func_of (context_of m) x
type_is m i x is = ap (type_at m) is

same_code : (m : Module) (i : ℕ) (f g : Func) → code_of_function m i ≡ Some f → code_of_function m i ≡ Some g → g ≡ f
same_code m i f g a b = let e : Some g ≡ Some f = sym b ∙ a in cc

pub code_valid : (m : Module) (i x : ℕ) (f : Func) → slice_get m.functions i ≡ Some x → code_of_function m i ≡ Some f → FunctionValid m i → CodeValid (context_of m) x f
code_valid m i x f is code v =
    let e = same_code m i f v.func code v.has_code in record {
      type = v.type;
      has_type = sym (type_is m i x is) ∙ v.has_type;
      locals = subst (λ (g : Func). All (λ (run : LocalRun). IsValidType (length (types_of m.types)) run.kind) g.locals) e v.locals;
      body = subst (λ (g : Func). BodyTyped (context_of m) v.type.params g.locals v.type.results g.body) e v.body;
    }

pub function_valid : (m : Module) (i x : ℕ) (f : Func) → slice_get m.functions i ≡ Some x → code_of_function m i ≡ Some f → CodeValid (context_of m) x f → FunctionValid m i
function_valid m i x f is code v = record {
  type = v.type;
  func = f;
  has_type = type_is m i x is ∙ v.has_type;
  has_code = code;
  locals = v.locals;
  body = v.body;
}

pub measure_of : (m : Module) (i x : ℕ) (f : Func) (n : ℕ × ℕ) → slice_get m.functions i ≡ Some x → code_of_function m i ≡ Some f → HasMeasure (context_of m) x f n → IsMeasureOf m i n
measure_of m i x f n is code h = λ t g a b.
    subst (λ (k : Func). (n.0 ≡ height_of m t k) × (n.1 ≡ depth k.body)) (same_code m i g f b code) (h t (sym (type_is m i x is) ∙ a))

-- the function of this index has this type and this code
pub function_measured : (m : Module) (i x : ℕ) (f : Func) (r : Option (ℕ × ℕ)) → slice_get m.functions i ≡ Some x → code_of_function m i ≡ Some f → IsCodeMeasure (context_of m) x f r
    → IsFunctionMeasure m i r
function_measured m i x f None is code h = λ v. h (code_valid m i x f is code v)
function_measured m i x f (Some n) is code h = (function_valid m i x f is code h.0, measure_of m i x f n is code h.1)

-- there is no type, or no code
pub no_type : (m : Module) (i : ℕ) → slice_get m.functions i ≡ None → FunctionValid m i → ⊥
no_type m i none v = let e : ◌≡◌ {A = Option FuncType} None (Some v.type) = sym (ap (type_at m) none) ∙ v.has_type in absurd cc

pub no_code : (m : Module) (i : ℕ) → code_of_function m i ≡ None → FunctionValid m i → ⊥
no_code m i none v = let e : ◌≡◌ {A = Option Func} None (Some v.func) = sym none ∙ v.has_code in absurd cc

-- whatever comes of measuring the code, comes of the function
pub function_answered : {E : Type 0} (result : Result (Option (ℕ × ℕ)) E) (m : Module) (i x : ℕ) (f : Func) → slice_get m.functions i ≡ Some x → code_of_function m i ≡ Some f
    → IfOk result (IsCodeMeasure (context_of m) x f) → IfOk result (IsFunctionMeasure m i)
function_answered (Ok r) m i x f is code h = function_measured m i x f r is code h
function_answered (Err e) m i x f is code h = tt
