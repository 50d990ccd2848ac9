use Rattle.w_link.proofs.Identity.{group_same, run_same, code_same}
use Rattle.w_link.proofs.Itself.{itself}
use Rattle.w_link.proofs.laws.whole_instances_change_nothing.Goals as goal

pub returns : goal.returns
returns _ = record {
  fit = itself;
  groups = λ i w. group_same i.types w.types;
  locals = λ i w. run_same i.types w.types;
  code = code_same;
}
