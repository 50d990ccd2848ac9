-- What the faults of each part are for a whole script.
use Rattle.s_lex.specs.declared.fault.LexFault.{LexFault}
use Rattle.s_lex.specs.declared.fault.LexFault.TheVariants as lexing
use Rattle.s_parse.specs.declared.fault.ParseFault.{ParseFault}
use Rattle.s_parse.specs.declared.fault.ParseFault.TheVariants as parsing
use Rattle.s_check.specs.declared.refused.Refused.{Refused}
use Rattle.s_check.specs.declared.refused.Refused.TheVariants as review
use Rattle.s_judge.specs.declared.fault.ScriptFault.{ScriptFault}
use Rattle.s_judge.specs.declared.fault.ScriptFault.TheVariants as fault

abbrev pub of_lexing : LexFault → ScriptFault
of_lexing (lexing.Lex at) = fault.Lex at
of_lexing lexing.OutOfMemory = fault.OutOfMemory

abbrev pub of_parsing : ParseFault → ScriptFault
of_parsing (parsing.Parse at) = fault.Parse at
of_parsing parsing.Deep = fault.Deep
of_parsing parsing.OutOfMemory = fault.OutOfMemory

abbrev pub of_review : Refused → ScriptFault
of_review (review.Rule d r) = fault.Rule d r
of_review review.OutOfMemory = fault.OutOfMemory
