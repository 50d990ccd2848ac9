-- What bodies are judged in, where the types are those of a module.
use Rattle.std.proofs.Common.{◌≡◌, inl, ℕ, None, sym, ap, subst, arith}
use Rattle.w_syntax.specs.declared.module.Module.{Module}
use Rattle.w_canon.specs.IsClassesOf.{IsClassesOf}
use Rattle.w_canon.specs.Supertypes.{KeepsKinds}
use Rattle.w_rules.specs.declared.context.Context as rt
use Rattle.w_rules.specs.Context.{Context}
use Rattle.w_rules.specs.DataNeeds.{with_datas}
use Rattle.w_rules.specs.Spaces.{context_of}
use Rattle.w_rules.specs.Valid.{TypeItem, FunctionItem}
use Rattle.w_rules.specs.View.{context_in, HasClasses}
use Rattle.w_rules.proofs.ValidTypes.{kinds_of_valid}
use Rattle.w_items.specs.Firsts.{IsFaultBefore}

-- the classes are those of types that keep their kinds, where those of the module do
pub known_classes : (m : Module) (datas : ℕ) (cx : rt.Context) → context_in cx ≡ with_datas datas (context_of m) → IsClassesOf cx.types.now cx.classes.now
    → KeepsKinds m.types → HasClasses cx
known_classes m datas cx e classes keeps = record {
  classes = classes;
  keeps = subst KeepsKinds (sym (ap (λ (c : Context). c.types) e)) keeps;
}

-- they do where each item in front of the functions is valid
pub kinds_known : (m : Module) → IsFaultBefore m (FunctionItem 0) None → KeepsKinds m.types
kinds_known m valid = kinds_of_valid m (λ i lt. valid (TypeItem i) (inl (omega arith)) lt)
