-- Which bytes are a script that breaks no rule, and what each fault means.
use Rattle.std.specs.Prelude.{◌≡◌, ◌⊎◌, ℕ, ◌<◌, ◌≤◌, List, length, Result, Ok, Err}
use Rattle.s_syntax.specs.declared.script.Script.{Script}
use Rattle.s_syntax.specs.declared.token.Token.{Token}
use Rattle.s_lex.specs.Lexes.{Lexes}
use Rattle.s_lex.specs.declared.fault.LexFault.TheVariants as lexing
use Rattle.s_parse.specs.Refusal.{IsScript}
use Rattle.s_parse.specs.Refusal as refusal
use Rattle.s_parse.specs.declared.fault.ParseFault.{ParseFault}
use Rattle.s_parse.specs.declared.fault.ParseFault.TheVariants as parsing
use Rattle.s_check.specs.Refusal.{Good, Broken}
use Rattle.s_check.specs.declared.rule.Rule.{Rule}
use Rattle.s_judge.specs.declared.fault.ScriptFault.{ScriptFault}
use Rattle.s_judge.specs.declared.fault.ScriptFault.TheVariants as fault

-- the most bytes of a script
abbrev pub length_limit : ℕ
length_limit = 1048576

-- the bytes spell this script
pub record Spelled (bytes : List ℕ) (p : Script) : Type 0 where
  pub tokens : List Token
  pub lexed : Lexes 0 bytes (Ok tokens)
  pub parsed : IsScript bytes tokens p

-- their tokens have this fault
pub record Misspelled (bytes : List ℕ) (e : ParseFault) : Type 0 where
  pub tokens : List Token
  pub lexed : Lexes 0 bytes (Ok tokens)
  pub refused : refusal.HasFault bytes tokens e

-- a script breaks this rule
pub record BreaksRule (bytes : List ℕ) (d : ℕ) (r : Rule) : Type 0 where
  pub script : Script
  pub spelled : Spelled bytes script
  pub broken : Broken script d r

pub record IsGood (bytes : List ℕ) (p : Script) : Type 0 where
  pub short : length bytes ≤ length_limit
  pub spelled : Spelled bytes p
  pub good : Good p

abbrev pub HasFault : List ℕ → ScriptFault → Type 0
HasFault bytes fault.TooLong = length_limit < length bytes
HasFault bytes (fault.Lex at) = (length bytes ≤ length_limit) × Lexes 0 bytes (Err (lexing.Lex at))
HasFault bytes (fault.Parse a) = (length bytes ≤ length_limit) × Misspelled bytes (parsing.Parse a)
HasFault bytes fault.Deep = (length bytes ≤ length_limit) × Misspelled bytes parsing.Deep
HasFault bytes (fault.Rule d r) = (length bytes ≤ length_limit) × BreaksRule bytes d r
HasFault bytes fault.OutOfMemory = ⊥

-- what an answer to bytes says
abbrev pub Means : List ℕ → Result Script ScriptFault → Type 0
Means bytes (Ok p) = IsGood bytes p
Means bytes (Err e) = HasFault bytes e

-- this answer, unless memory ran out
abbrev pub IsAnswer : Result Script ScriptFault → Result Script ScriptFault → Type 0
IsAnswer r result = (result ≡ r) ⊎ (result ≡ Err fault.OutOfMemory)
