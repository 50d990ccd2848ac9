-- Function types and continuation types by their indices: no index has both.
use Rattle.std.proofs.Common.{◌≡◌, ℕ, Option, Some, None, slice_get, refl, ap}
use Rattle.std.specs.Prelude.{option_map}
use Rattle.w_types.specs.declared.types.CompType.{CompType}
use Rattle.w_types.specs.declared.types.CompType.TheVariants as comp
use Rattle.w_types.specs.declared.types.FuncType.{FuncType}
use Rattle.w_types.specs.declared.types.HeapType.TheVariants.{Func, Index}
use Rattle.w_types.specs.Groups.{types_of}
use Rattle.w_syntax.specs.Functions.{function_type, func_type}
use Rattle.w_syntax.specs.declared.module.Module.{Module}
use Rattle.w_canon.specs.Entries.{kind_of}
use Rattle.w_canon.specs.Matching.{IsFunc, IsCont, IndexMatches, HeapMatches, index_func}
use Rattle.w_canon.specs.Supertypes.{KeepsKinds}
use Rattle.w_canon.proofs.Supertypes.{index_kinds}
use Rattle.w_rules.specs.Context as rules
use Rattle.w_rules.specs.Context.{func_at, index_in_cont, cont_of}
use Rattle.w_rules.specs.Spaces.{context_of}

-- what has a function type is a function type
pub func_here : (o : Option CompType) (f : FuncType) → function_type o ≡ Some f → o ≡ Some (comp.Func f)
func_here (Some (comp.Func g)) f h = let e : g ≡ f = cc in ap (λ (z : FuncType). Some (comp.Func z)) e
func_here (Some (comp.Cont x)) f h = absurd (cc)
func_here None f h = absurd (cc)

-- what has the function type of a continuation type is a continuation type
cont_here : (c : rules.Context) (o : Option CompType) (f : FuncType) → func_at c (index_in_cont o) ≡ Some f → (y : ℕ) × (o ≡ Some (comp.Cont y))
cont_here c (Some (comp.Func g)) f h = absurd (cc)
cont_here c (Some (comp.Cont y)) f h = (y, refl)
cont_here c None f h = absurd (cc)

module _ (m : Module) where
  -- a type of functions is a function type
  pub is_func : (x : ℕ) (f : FuncType) → func_type m x ≡ Some f → IsFunc m.types x
  is_func x f h = (f, func_here (slice_get (types_of m.types) x) f h)

  -- a type of continuations is a continuation type
  pub is_cont : (x : ℕ) (f : FuncType) → cont_of (context_of m) x ≡ Some f → IsCont m.types x
  is_cont x f h = cont_here (context_of m) (slice_get (types_of m.types) x) f h

  -- a continuation type matches none of functions
  pub cont_no_func : (x : ℕ) (f : FuncType) → cont_of (context_of m) x ≡ Some f → HeapMatches m.types (Index x) Func → ⊥
  cont_no_func x f h (index_func g) = let e = g.1 in let c = is_cont x f h in let d = c.1 in cc

  -- nor does a function type match a continuation type
  pub func_no_cont : KeepsKinds m.types → (x y : ℕ) → IsFunc m.types x → IndexMatches m.types x y → (f : FuncType) → cont_of (context_of m) y ≡ Some f → ⊥
  func_no_cont keeps x y g s f h =
      let below = ap (option_map kind_of) g.1 in
      let above = ap (option_map kind_of) (is_cont y f h).1 in
      let one = index_kinds m.types keeps s in
      cc
