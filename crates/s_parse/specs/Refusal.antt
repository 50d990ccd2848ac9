-- Which tokens spell which script, and what each refusal means.
use Rattle.std.specs.Prelude.{◌≡◌, ℕ, suc, ◌+◌, ◌<◌, ◌≤◌, List, [], ◌∷◌, ◌++◌, length, take, Option, Some, None, Result, Ok, Err, ◌⊎◌}
use Rattle.s_syntax.specs.declared.token.Token.{Token}
use Rattle.s_syntax.specs.declared.script.Script.{Script}
use Rattle.s_grammar.specs.Kinds.{Turn, Opens, Closes, Passes, turn}
use Rattle.s_grammar.specs.Syntax.{Spells}
use Rattle.s_parse.specs.declared.fault.ParseFault.{ParseFault}
use Rattle.s_parse.specs.declared.fault.ParseFault.TheVariants as fault

-- the end of the file counts as the last token
abbrev pub with_end : List Token → List (Option Token)
with_end [] = None ∷ []
with_end (t ∷ ts) = Some t ∷ with_end ts

-- ## Nesting

abbrev pub opened_by : Turn → ℕ
opened_by Opens = 1
opened_by Closes = 0
opened_by Passes = 0

abbrev pub closed_by : Turn → ℕ
closed_by Opens = 0
closed_by Closes = 1
closed_by Passes = 0

-- how many brackets tokens open, and close
unfoldable pub opened_brackets : List Token → ℕ
opened_brackets [] = 0
opened_brackets (t ∷ ts) = opened_by (turn t.kind) + opened_brackets ts

unfoldable pub closed_brackets : List Token → ℕ
closed_brackets [] = 0
closed_brackets (t ∷ ts) = closed_by (turn t.kind) + closed_brackets ts

-- The nesting at token k is the number of brackets open there, its own included: it is at most n, or it is n.
abbrev pub NestsAtMost : List Token → ℕ → ℕ → Type 0
NestsAtMost ts n k = opened_brackets (take (suc k) ts) ≤ closed_brackets (take (suc k) ts) + n

abbrev pub Nests : List Token → ℕ → ℕ → Type 0
Nests ts n k = opened_brackets (take (suc k) ts) ≡ closed_brackets (take (suc k) ts) + n

-- d is the number of the first token of nesting 65
abbrev pub IsDeepAt : List Token → ℕ → Type 0
IsDeepAt ts d = (d < length ts) × Nests ts 65 d × ((k : ℕ) → k < d → NestsAtMost ts 64 k)

-- ## Scripts and refusals, of tokens of these bytes

module _ (bytes : List ℕ) where
  -- a script of any nesting begins with these tokens
  abbrev pub BeginsScript : List (Option Token) → Type 0
  BeginsScript q = (ts : List Token) × (p : Script) × (rest : List (Option Token)) × Spells bytes ts p × (with_end ts ≡ q ++ rest)

  -- a is the least number such that no script begins with tokens 0 to a
  abbrev pub IsWrongAt : List Token → ℕ → Type 0
  IsWrongAt ts a = (BeginsScript (take (suc a) (with_end ts)) → ⊥) × ((k : ℕ) → k < a → BeginsScript (take (suc k) (with_end ts)))

  -- the script that is spelled, where no nesting is above 64
  abbrev pub IsScript : List Token → Script → Type 0
  IsScript ts p = Spells bytes ts p × ((k : ℕ) → NestsAtMost ts 64 k)

  -- the token refused, with no nesting above 64 in front of it; or the first of nesting 65, where it can stand there
  abbrev pub HasFault : List Token → ParseFault → Type 0
  HasFault ts (fault.Parse a) = IsWrongAt ts a × ((k : ℕ) → k < a → NestsAtMost ts 64 k)
  HasFault ts fault.Deep = (d : ℕ) × IsDeepAt ts d × BeginsScript (take (suc d) (with_end ts))
  HasFault ts fault.OutOfMemory = ⊥

  -- what an answer to these tokens says
  abbrev pub Means : List Token → Result Script ParseFault → Type 0
  Means ts (Ok p) = IsScript ts p
  Means ts (Err e) = HasFault ts e

-- this answer, unless memory ran out
abbrev pub IsAnswer : Result Script ParseFault → Result Script ParseFault → Type 0
IsAnswer r result = (result ≡ r) ⊎ (result ≡ Err fault.OutOfMemory)
