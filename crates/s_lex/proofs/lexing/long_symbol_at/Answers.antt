use Rattle.std.proofs.Common.{arith}
use Rattle.s_lex.proofs.Places.{no_long_symbol}
use Rattle.s_lex.proofs.lexing.long_symbol_at.Goals as goal

pub returns-else-at-bytes : goal.returns-else-at-bytes
returns-else-at-bytes c = record { value = no_long_symbol c.args.bytes.now c.args.at (omega arith) }
