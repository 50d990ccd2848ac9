use Rattle.w_once.proofs.EmptiedByRuns.{consumed_from, no_arrows}
use Rattle.w_linker.proofs.laws.linked_continuations_are_consumed_once.Goals as goal

pub returns : goal.returns
returns c = λ tests ms p s t tells valid ready n.
    consumed_from c.plain_reductions_go_apart.ensures p s t (no_arrows (c.linked_starts_are_typed.ensures.typed tests ms p s t tells valid ready).typed.store.conts) n
