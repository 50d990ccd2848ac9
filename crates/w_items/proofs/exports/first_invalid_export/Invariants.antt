use Rattle.std.proofs.Common.{ℕ, ◌<◌}
use Rattle.w_rules.specs.Valid.{ExportValid}
use Rattle.w_items.proofs.Names.{has, HasNames}
use Rattle.w_items.proofs.exports.first_invalid_export.Given as goal

abbrev pub invariant-loop-index : goal.invariant-loop-index
invariant-loop-index l = record {
  typed : (j : ℕ) → j < l.index → ExportValid l.cx.candidate.now j;
  names : HasNames l.cx.candidate.now l.index (has l.names);
}
