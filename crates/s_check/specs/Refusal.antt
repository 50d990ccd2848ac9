-- What is refused: the least declaration that breaks a rule, and the least rule that it breaks.
use Rattle.std.specs.Prelude.{◌≡◌, ℕ, ◌<◌, List, ◌∷◌, Some, slice_get, Result, Ok, Err, ◌⊎◌}
use Rattle.s_syntax.specs.declared.script.Script.{Script}
use Rattle.s_check.specs.declared.rule.Rule.{Rule}
use Rattle.s_check.specs.declared.rule.Rule.TheVariants as rule
use Rattle.s_check.specs.declared.refused.Refused.{Refused}
use Rattle.s_check.specs.declared.refused.Refused.TheVariants as refused
use Rattle.s_check.specs.Rules.{broken_rules}

-- the numbers of the rules
abbrev pub number_of : Rule → ℕ
number_of rule.NameDeclaredTwice = 1
number_of rule.EffectOfTooMany = 2
number_of rule.TooManyParameters = 3
number_of rule.TooManyClauses = 4
number_of rule.NoHandlerOfType = 5
number_of rule.NameBoundTwice = 6
number_of rule.ClauseForEffectTwice = 7
number_of rule.ClauseForNoEffect = 8
number_of rule.OtherNumberInClause = 9
number_of rule.NameNotBound = 10
number_of rule.ResumptionElsewhere = 11
number_of rule.NoFunction = 12
number_of rule.NoEffect = 13
number_of rule.NoHandler = 14
number_of rule.OtherNumberOfArguments = 15
number_of rule.ArgumentOfOtherType = 16
number_of rule.NoResumption = 17
number_of rule.NoMain = 18
number_of rule.NoSlots = 19
number_of rule.SlotsOfOtherNumber = 20
number_of rule.StoredOfOtherType = 21
number_of rule.OtherParameters = 22
number_of rule.NoCoroutine = 23

-- the rule is one of these
pub data IsOf (r : Rule) : List Rule → Type 0 where
  first : {rs : List Rule} → IsOf r (r ∷ rs)
  later : {s : Rule} {rs : List Rule} → IsOf r rs → IsOf r (s ∷ rs)

-- of these lists, number d has the rule
pub record Has (lists : List (List Rule)) (d : ℕ) (r : Rule) : Type 0 where
  pub rules : List Rule
  pub there : slice_get lists d ≡ Some rules
  pub is : IsOf r rules

-- declaration d breaks rule r; behind the last declaration stands what the script lacks
abbrev pub Breaks : Script → ℕ → Rule → Type 0
Breaks p d r = Has (broken_rules p.declarations) d r

-- no rule is broken
pub record Good (p : Script) : Type 0 where
  pub none : (d : ℕ) (r : Rule) → Breaks p d r → ⊥

-- of these lists, number d has rule r, no list before it has a rule, and it has none of a lesser number
pub record Least (lists : List (List Rule)) (d : ℕ) (r : Rule) : Type 0 where
  pub has : Has lists d r
  pub first : (e : ℕ) (s : Rule) → e < d → Has lists e s → ⊥
  pub least : (s : Rule) → Has lists d s → number_of s < number_of r → ⊥

-- d is the first declaration that breaks a rule, and r the least rule that it breaks
abbrev pub Broken : Script → ℕ → Rule → Type 0
Broken p d r = Least (broken_rules p.declarations) d r

-- ## Answers

abbrev pub IsRefusal : Script → Refused → Type 0
IsRefusal p (refused.Rule d r) = Broken p d r
IsRefusal p refused.OutOfMemory = ⊥

-- what an answer to a script says
abbrev pub Means : Script → Result Script Refused → Type 0
Means p (Ok q) = (q ≡ p) × Good p
Means p (Err e) = IsRefusal p e

-- this answer, unless memory ran out
abbrev pub IsAnswer : Result Script Refused → Result Script Refused → Type 0
IsAnswer r result = (result ≡ r) ⊎ (result ≡ Err refused.OutOfMemory)
