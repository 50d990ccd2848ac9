use Rattle.std.proofs.Common.{ℕ, List, subst, sym}
use Rattle.w_syntax.specs.declared.module.Module.{Module}
use Rattle.w_rules.specs.Sound.{AreNarrow}
use Rattle.w_machine.specs.Beginning.{BeginsAt}
use Rattle.w_machine.specs.Reached.{RunsFirst}
use Rattle.w_machine.proofs.FirstStep.{begun}
use Rattle.w_machine.proofs.machine.Machine.begun.Goals as goal

pub invariant_of-result : goal.invariant_of-result
invariant_of-result c =
    let parts = c.in-Ok.field-0 in
    let first = subst (λ (fs : List ℕ). RunsFirst fs c.args.main parts.chain parts.waiting.items) c.as_slice.ensures.value c.in-Ok.ensures.first in
    begun first.segment parts.chain c.new.result (sym c.make.ensures) c.in-Ok.ensures.short (subst (λ (m : Module). AreNarrow m) (sym c.make.ensures) c.module-module.ensures.narrow)
    (subst (λ (m : Module). BeginsAt m c.args.store c.args.starts.items c.args.main) (sym c.make.ensures) c.requires) c.in-Ok.ensures.functions first.first first.alone c.new.ensures.empty
