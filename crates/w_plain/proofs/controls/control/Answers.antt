use Rattle.std.proofs.Common.{subst}
use Rattle.w_syntax.specs.declared.module.Module.{Module}
use Rattle.w_canon.specs.IsClassesOf.{IsClassesOf}
use Rattle.w_plain.proofs.controls.control.Goals as goal

pub callee_by_table-requires-clause-classes : goal.callee_by_table-requires-clause-classes
callee_by_table-requires-clause-classes g c = subst (λ (m : Module). IsClassesOf m.types c.classes.result.now) c.args.program.known.runnable_is c.classes.ensures
