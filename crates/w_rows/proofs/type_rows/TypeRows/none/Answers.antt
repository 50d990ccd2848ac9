use Rattle.std.proofs.Common.{List, sym, subst}
use Rattle.w_rows.specs.TypeRows.{AreReadyTypes}
use Rattle.w_rows.specs.declared.type_rows.ReadyType.{ReadyType}
use Rattle.w_rows.proofs.ReadyTypes.{none_ready}
use Rattle.w_rows.proofs.type_rows.TypeRows.none.Goals as goal

pub returns : goal.returns
returns c = λ es ts. subst (λ (rs : List ReadyType). AreReadyTypes es ts rs) (sym c.new.ensures.items) (none_ready es ts)
