-- The code of the bodies of a script that breaks no rule is typed, in a context that offers what it names.
use Rattle.std.proofs.Common.{◌≡◌, true, [], ◌∷◌, ◌++◌, Some}
use Rattle.w_types.specs.declared.types.ValType.TheVariants.{I64}
use Rattle.w_rules.specs.Bodies.{BodyTyped}
use Rattle.w_rules.specs.Context.{Context}
use Rattle.s_syntax.specs.declared.name.Name.{Name}
use Rattle.s_syntax.specs.declared.script.Function.{Function}
use Rattle.s_syntax.specs.declared.script.Handler.{Handler}
use Rattle.s_syntax.specs.declared.script.Script.{Script}
use Rattle.s_check.specs.Definitions.{function_of, handler_of}
use Rattle.s_check.specs.Refusal.{Good}
use Rattle.s_index.specs.Types.{computation_type, to_continuation, val_types}
use Rattle.s_code.specs.Lowered.{function_code, handler_code}
use Rattle.s_meaning.proofs.Good.{good_typed}
use Rattle.s_valid.specs.Offers.{Offers}
use Rattle.s_valid.proofs.BoundOnce.{function_each}
use Rattle.s_valid.proofs.GoodHandlers.{good_handler}
use Rattle.s_valid.proofs.TypedBodies.{function_typed}
use Rattle.s_valid.proofs.TypedHandlers.{handler_typed}

module _ (p : Script) (C : Context) (good : Good p) (offers : Offers p.declarations C) where
  -- each function's
  pub good_function_typed : (f : Name) (g : Function) → function_of p.declarations f ≡ Some g
      → BodyTyped C (val_types g.parameters) (function_code p.declarations g).locals (I64 ∷ []) (function_code p.declarations g).body
  good_function_typed f g is = function_typed p C (good_typed p good) offers f g is (function_each p good f g is)

  -- and each handler's
  pub good_handler_typed : (h : Name) (i : Handler) → handler_of p.declarations h ≡ Some i
      → BodyTyped C (val_types i.parameters ++ to_continuation true computation_type ∷ []) (handler_code p.declarations h i).locals (I64 ∷ []) (handler_code p.declarations h i).body
  good_handler_typed h i is = handler_typed p C offers h i is (good_handler p good h i is)
