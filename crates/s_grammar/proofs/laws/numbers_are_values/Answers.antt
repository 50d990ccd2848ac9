use Rattle.s_grammar.proofs.NumberTexts.{number_is_value}
use Rattle.s_grammar.proofs.laws.numbers_are_values.Goals as goal

pub returns : goal.returns
returns c = record { value = number_is_value }
