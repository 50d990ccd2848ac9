use Rattle.s_grammar.proofs.OneScript as scripts
use Rattle.s_grammar.proofs.laws.one_script.Goals as goal

pub returns : goal.returns
returns c = record { one = scripts.one_script }
