use Rattle.std.proofs.Common.{ℕ, ap, sym, ◌∙◌}
use Rattle.w_tables.specs.declared.entries.FuncEntry.TheVariants as function
use Rattle.w_tables.specs.Operations.{add_function}
use Rattle.w_stands.specs.Values.{store_of}
use Rattle.w_inst.proofs.AddedItems.{own_more, function_added}
use Rattle.w_inst.proofs.allocation.add_own.Goals as goal

pub loop-index-preserved : goal.loop-index-preserved
loop-index-preserved c =
    own_more (store_of c.loop-index.store) (store_of c.add_function.new.self) (store_of c.args.store.now) c.loop-index.index c.loop-index.invariant
    (function_added c.loop-index.store c.add_function.new.self _ c.in_ok-add_function.field-0
    (ap (λ (i : ℕ). add_function c.loop-index.store (function.Own i)) (sym c.in-Ok.ensures.1) ∙ c.in_ok-add_function.ensures.added))
