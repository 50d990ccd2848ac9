-- Where a stack stands once a function of the module was entered (Core, execution, function calls).
use Rattle.std.specs.Prelude.{◌≡◌, ◌+◌, ◌≤◌, ℕ, suc, List, [], ◌∷◌, ◌++◌, length, take, drop, map, reverse, flat_map, replicate, Option, Some}
use Rattle.w_types.specs.Values.{default_of}
use Rattle.w_types.specs.declared.types.FuncType.{FuncType}
use Rattle.w_types.specs.declared.value.Value.{Value}
use Rattle.w_syntax.specs.Flat.{whole}
use Rattle.w_syntax.specs.Functions.{type_of_function, code_of_function}
use Rattle.w_syntax.specs.declared.locals.LocalRun.{LocalRun}
use Rattle.w_syntax.specs.declared.module.Func.{Func}
use Rattle.w_syntax.specs.declared.module.Module.{Module}
use Rattle.w_segment.specs.declared.entry.Stage.TheVariants.{Body}
use Rattle.w_segment.specs.Shape.{Shape, Label, Frame, Grown, below_all}
use Rattle.w_reduce.specs.Room.{most_operands, most_labels}

-- a function of the module, by its index among its own: its type and its code
pub record IsFunction (m : Module) (i : ℕ) (kind : FuncType) (code : Func) : Type 0 where
  pub type_is : type_of_function m i ≡ Some kind
  pub code_is : code_of_function m i ≡ Some code

-- it is there, and so are its arguments
pub record CanEnter (m : Module) (i : ℕ) (given : List Value) : Type 0 where
  pub kind : FuncType
  pub code : Func
  pub there : IsFunction m i kind code
  pub some : length kind.params ≤ length given

-- what the locals of these runs begin with
abbrev pub first_values : List LocalRun → List (Option Value)
first_values = flat_map (λ (r : LocalRun). replicate r.count (default_of r.kind))

-- No capacity is lower than before, and the frame has room for what its function needs, the levels around it being those of s.
pub record HasFrameRoom (m : Module) (i : ℕ) (s s' : Shape) : Type 0 where
  pub grown : Grown s.capacity s'.capacity
  pub operands : below_all s'.levels + most_operands m i ≤ s'.capacity.operands
  pub levels : suc (length s.levels) + most_labels m i ≤ s'.capacity.levels

-- The function's arguments, the topmost of `given`, are its first locals, and it stands at its beginning, in the label
-- of its body; the function that ran before goes on at `back`.
pub record IsEntered (m : Module) (i back : ℕ) (given : List Value) (s s' : Shape) : Type 0 where
  pub kind : FuncType
  pub code : Func
  pub there : IsFunction m i kind code
  pub levels : s'.levels ≡ Label [] (length kind.results) (length (whole code.body))
      ∷ Frame (drop (length kind.params) given) (length kind.results)
      (map (λ (v : Value). Some v) (reverse (take (length kind.params) given)) ++ first_values code.locals) s.func back ∷ s.levels
  pub operands : s'.operands ≡ []
  pub func : s'.func ≡ i
  pub place : s'.place ≡ 0
  pub stage : s'.stage ≡ Body
