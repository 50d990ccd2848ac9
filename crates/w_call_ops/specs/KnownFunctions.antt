-- What is known of the functions of a module.
use Rattle.std.specs.Prelude.{◌≡◌, ◌+◌, ℕ, List, length, Some, slice_get}
use Rattle.w_types.specs.declared.types.FuncType.{FuncType}
use Rattle.w_syntax.specs.Flat.{whole}
use Rattle.w_syntax.specs.Locals.{total}
use Rattle.w_syntax.specs.declared.module.Func.{Func}
use Rattle.w_syntax.specs.declared.module.Module.{Module}
use Rattle.w_segment.specs.Shape.{Shape, Fits}
use Rattle.w_rules.specs.Facts.{height_of}
use Rattle.w_rules.specs.Peak.{depth}
use Rattle.w_call_ops.specs.Entering.{IsFunction}
use Rattle.w_call_ops.specs.declared.known_functions.FunctionFacts.{FunctionFacts}

-- of a function of this type and with this code
abbrev pub facts_of : Module → FuncType → Func → FunctionFacts
facts_of m t f = record {
  params = length t.params;
  results = length t.results;
  locals = total f.locals;
  height = height_of m t f;
  depth = depth f.body;
  end = length (whole f.body);
}

-- this is known of the module's own function i, where it is there
abbrev pub AreOf : Module → ℕ → FunctionFacts → Type 0
AreOf m i facts = (t : FuncType) (f : Func) → IsFunction m i t f → facts ≡ facts_of m t f

-- and this of each of them
pub record AreFactsOf (m : Module) (fs : List FunctionFacts) : Type 0 where
  pub as_many : length fs ≡ length m.codes
  pub each : (i : ℕ) (t : FuncType) (f : Func) → IsFunction m i t f → slice_get fs i ≡ Some (facts_of m t f)

-- there is room for the function's frame, with all that it needs
abbrev pub FrameFits : FunctionFacts → Shape → Type 0
FrameFits facts s = Fits facts.height (facts.depth + 1) (facts.params + facts.locals) s
