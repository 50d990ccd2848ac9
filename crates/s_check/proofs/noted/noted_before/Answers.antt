use Rattle.std.proofs.Common.{◌∙◌, ap, not}
use Rattle.s_check.specs.Views.{has}
use Rattle.s_check.proofs.Clauses.{not_not}
use Rattle.s_check.proofs.Names.{has_more}
use Rattle.s_check.proofs.noted.noted_before.Goals as goal

pub returns : goal.returns
returns c = record {
  value = λ names h. ap not c.in_ok-insert.ensures.added ∙ not_not _ ∙ ap (has c.args.before.now) c.as_bytes.ensures.value ∙ h c.args.name.now;
  more = λ names h. has_more c.as_bytes.result c.args.name.now c.args.before.now c.insert.new.self names c.as_bytes.ensures.value c.in_ok-insert.ensures.updates.0 h;
}
