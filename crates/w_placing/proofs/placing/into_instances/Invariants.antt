use Rattle.std.proofs.Common.{◌≡◌}
use Rattle.w_placing.specs.Files.{instances_of}
use Rattle.w_placing.proofs.placing.into_instances.Given as goal

abbrev pub invariant-loop-file : goal.invariant-loop-file
invariant-loop-file l = l.instances.items ≡ instances_of l.yielded
