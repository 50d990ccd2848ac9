use Rattle.std.proofs.Common.{rules}
use Rattle.w_lines.specs.Instructions.{rows}
use Rattle.w_lines.proofs.Lookups.{item_in}
use Rattle.w_lines.proofs.names.opcode_at.Goals as goal

pub returns : goal.returns
unfolding rows
returns c = search (rules, item_in)
