use Rattle.std.proofs.Common.{ℕ, List, ap, sym, subst, ◌∙◌}
use Rattle.w_syntax.specs.declared.module.Module.{Module}
use Rattle.w_reduce.specs.Start.{starts_of}
use Rattle.w_machine.specs.Beginning.{BeginsWith, BeginsAt}
use Rattle.w_machine.proofs.FirstStep.{file_may_begin}
use Rattle.w_machine.proofs.machine.Machine.new.Goals as goal

pub begun-requires : goal.begun-requires
begun-requires c =
    let m = c.into_runnable-runnable.result in
    let begins = subst (λ (n : Module). BeginsWith n c.args.instance.store c.args.instance.main) (sym c.into_runnable-runnable.ensures) c.requires in
    let starts = c.in_ok-starts.ensures ∙ ap (λ (n : Module). starts_of n.start) c.module-module.ensures.same in
    subst (λ (fs : List ℕ). BeginsAt m c.args.instance.store fs c.args.instance.main) (sym starts)
    (file_may_begin m c.classes-classes.result.now c.args.instance.store c.args.instance.main c.classes-classes.ensures c.module-module.ensures.sound begins)
