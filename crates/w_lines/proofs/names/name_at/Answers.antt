use Rattle.std.proofs.Common.{rules}
use Rattle.w_lines.specs.Instructions.{rows}
use Rattle.w_lines.proofs.Lookups.{text_in}
use Rattle.w_lines.proofs.names.name_at.Goals as goal

pub returns : goal.returns
unfolding rows
returns c = search (rules, text_in)
