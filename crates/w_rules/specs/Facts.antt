-- What is known of a module that was checked, and of one that runs.
use Rattle.std.specs.Prelude.{◌≡◌, ℕ, ◌++◌, List, length, Some, slice_get}
use Rattle.w_types.specs.declared.types.FuncType.{FuncType}
use Rattle.w_syntax.specs.Functions.{type_of_function, code_of_function}
use Rattle.w_syntax.specs.declared.module.Func.{Func}
use Rattle.w_syntax.specs.declared.module.Module.{Module}
use Rattle.w_canon.specs.IsClassesOf.{IsClassesOf}
use Rattle.w_rules.specs.declared.facts.Facts.{Facts}
use Rattle.w_rules.specs.Bodies.{types_of_runs, set_first}
use Rattle.w_rules.specs.Peak.{peak, depth}
use Rattle.w_rules.specs.Spaces.{context_of, declared_of, in_body}

-- the greatest number of operands at a counted place of a function of the module, of this type and with this code
abbrev pub height_of : Module → FuncType → Func → ℕ
height_of m t f = peak (in_body (context_of m) (t.params ++ types_of_runs f.locals) t.results) (set_first t.params f.locals) f.body 0

-- a height and a depth for each code of the module
pub record AreMeasures (m : Module) (hs ds : List ℕ) : Type 0 where
  pub as_many_heights : length hs ≡ length m.codes
  pub as_many_depths : length ds ≡ length m.codes
  pub heights : (i : ℕ) (t : FuncType) (f : Func) → type_of_function m i ≡ Some t → code_of_function m i ≡ Some f → slice_get hs i ≡ Some (height_of m t f)
  pub depths : (i : ℕ) (t : FuncType) (f : Func) → type_of_function m i ≡ Some t → code_of_function m i ≡ Some f → slice_get ds i ≡ Some (depth f.body)

-- these are the facts of the module
pub record AreFacts (m : Module) (facts : Facts) : Type 0 where
  pub measures : AreMeasures m facts.heights.items facts.depths.items
  pub declared : facts.declared.items ≡ declared_of m
  pub classes : IsClassesOf m.types facts.classes
