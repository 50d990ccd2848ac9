-- The context of a module whose types were judged.
use Rattle.std.proofs.Common.{◌≡◌, inl, None, sym, ap, subst, arith}
use Rattle.w_canon.specs.IsClassesOf.{IsClassesOf}
use Rattle.w_canon.specs.Supertypes.{KeepsKinds}
use Rattle.w_rules.specs.Context.{Context}
use Rattle.w_rules.specs.Valid.{TypeItem, ExportItem}
use Rattle.w_rules.proofs.ValidTypes.{kinds_of_valid}
use Rattle.w_items.specs.declared.context.ModuleContext.{ModuleContext}
use Rattle.w_items.specs.Firsts.{IsFirst, IsFaultBefore}
use Rattle.w_items.specs.Judged.{IsContextBefore, IsContextOf}

-- where all types are valid, other items can be judged in it
pub judged_context : (cx : ModuleContext) → IsContextBefore cx → IsFirst cx.candidate.now TypeItem None → IsContextOf cx
judged_context cx before valid =
    let types : cx.context.types.now ≡ cx.candidate.now.types = ap (λ (c : Context). c.types) before.context in
    record {
      context = before.context;
      classes = record {
        classes = subst (λ gs. IsClassesOf gs cx.context.classes.now) (sym types) before.classes;
        keeps = subst KeepsKinds (sym types) (kinds_of_valid cx.candidate.now valid);
      };
    }

-- where all items before the exports are valid, so can the exports
pub judged_before : (cx : ModuleContext) → IsContextBefore cx → IsFaultBefore cx.candidate.now (ExportItem 0) None → IsContextOf cx
judged_before cx before valid = judged_context cx before (λ i lt. valid (TypeItem i) (inl (omega arith)) lt)
