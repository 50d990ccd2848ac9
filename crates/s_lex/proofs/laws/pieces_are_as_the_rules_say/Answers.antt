use Rattle.s_lex.proofs.PieceLaw.{token_from, token_to, blank_from, blank_to, bad_from, bad_to}
use Rattle.s_lex.proofs.laws.pieces_are_as_the_rules_say.Goals as goal

pub returns-clause-token : goal.returns-clause-token
returns-clause-token c = λ bytes k n. (token_from bytes k n, λ s. token_to s)

pub returns-clause-blank : goal.returns-clause-blank
returns-clause-blank c = λ bytes n. (blank_from bytes n, λ s. blank_to s)

pub returns-clause-bad : goal.returns-clause-bad
returns-clause-bad c = λ bytes. (bad_from bytes, bad_to bytes)
