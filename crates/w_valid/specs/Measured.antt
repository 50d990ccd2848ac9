-- What is found of functions.
use Rattle.std.specs.Prelude.{◌≡◌, ℕ, ◌<◌, All, List, ◌++◌, length, Option, Some, None, slice_get}
use Rattle.w_types.specs.declared.types.FuncType.{FuncType}
use Rattle.w_syntax.specs.Functions.{type_of_function, code_of_function}
use Rattle.w_syntax.specs.declared.module.Func.{Func}
use Rattle.w_syntax.specs.declared.module.Module.{Module}
use Rattle.w_syntax.specs.declared.locals.LocalRun.{LocalRun}
use Rattle.w_rules.specs.Bodies.{types_of_runs, set_first, BodyTyped}
use Rattle.w_rules.specs.Context.{Context, func_of, type_count}
use Rattle.w_rules.specs.Facts.{height_of}
use Rattle.w_rules.specs.Peak.{peak, depth}
use Rattle.w_rules.specs.Spaces.{in_body}
use Rattle.w_rules.specs.Types.{IsValidType}
use Rattle.w_rules.specs.Valid.{FunctionValid}

-- ## By a context and the code

-- the type of this index is a function type, the locals of the code are valid, and its body takes no operands to the type's results
pub record CodeValid (c : Context) (x : ℕ) (f : Func) : Type 0 where
  pub type : FuncType
  pub has_type : func_of c x ≡ Some type
  pub locals : All (λ (run : LocalRun). IsValidType (type_count c) run.kind) f.locals
  pub body : BodyTyped c type.params f.locals type.results f.body

-- the height and the depth of the code
abbrev pub HasMeasure : Context → ℕ → Func → ℕ × ℕ → Type 0
HasMeasure c x f n = (t : FuncType) → func_of c x ≡ Some t
    → (n.0 ≡ peak (in_body c (t.params ++ types_of_runs f.locals) t.results) (set_first t.params f.locals) f.body 0) × (n.1 ≡ depth f.body)

-- the code is valid, with this height and this depth; or it is not
abbrev pub IsCodeMeasure : Context → ℕ → Func → Option (ℕ × ℕ) → Type 0
IsCodeMeasure c x f None = CodeValid c x f → ⊥
IsCodeMeasure c x f (Some n) = CodeValid c x f × HasMeasure c x f n

-- ## By a module and an index

-- of the function of this index: its height and its depth
abbrev pub IsMeasureOf : Module → ℕ → ℕ × ℕ → Type 0
IsMeasureOf m i n = (t : FuncType) (f : Func) → type_of_function m i ≡ Some t → code_of_function m i ≡ Some f
    → (n.0 ≡ height_of m t f) × (n.1 ≡ depth f.body)

-- the function of this index is typed, with this height and this depth; or it is not
abbrev pub IsFunctionMeasure : Module → ℕ → Option (ℕ × ℕ) → Type 0
IsFunctionMeasure m i None = FunctionValid m i → ⊥
IsFunctionMeasure m i (Some n) = FunctionValid m i × IsMeasureOf m i n

-- of each function below an index, its height and its depth
pub record AreMeasuresBelow (m : Module) (n : ℕ) (hs ds : List ℕ) : Type 0 where
  pub as_many_heights : length hs ≡ n
  pub as_many_depths : length ds ≡ n
  pub heights : (i : ℕ) (t : FuncType) (f : Func) → type_of_function m i ≡ Some t → code_of_function m i ≡ Some f → i < n
      → slice_get hs i ≡ Some (height_of m t f)
  pub depths : (i : ℕ) (t : FuncType) (f : Func) → type_of_function m i ≡ Some t → code_of_function m i ≡ Some f → i < n
      → slice_get ds i ≡ Some (depth f.body)

-- of each function that has code
abbrev pub AreMeasures : Module → List ℕ → List ℕ → Type 0
AreMeasures m hs ds = AreMeasuresBelow m (length m.codes) hs ds
