-- Laws of the meaning.
use Rattle.std.specs.Prelude.{◌≡◌, ◌≢◌, ℕ, suc, List}
use Rattle.s_syntax.specs.declared.name.Name.{Name}
use Rattle.s_syntax.specs.declared.script.Script.{Script}
use Rattle.s_check.specs.Refusal.{Good}
use Rattle.s_meaning.specs.Typing.{ScriptTyped}
use Rattle.following.specs.Steps.{Goes, Returns, Faults, Wrong}
use Rattle.s_meaning.specs.Terms.{Value, TailCalling, Context, Configuration, activations, handles, acts, hands}
use Rattle.s_meaning.specs.Steps.{Step, Around, applies, step}
use Rattle.s_meaning.specs.Typed.{World, Typed}
use Rattle.s_meaning.specs.Eval.{Eval}

-- what a step of a typed configuration comes to: a typed one, or an end
pub data StepGood (p : Script) : Step → Type 0 where
  on : {o : List ℕ} {c : Configuration} (Ξ : World) → Typed p Ξ c → StepGood p (Goes o c)
  over : {n : _} → StepGood p (Returns n)
  faulty : {f : _} → StepGood p (Faults f)

abbrev pub Preserved : Type 0
Preserved = (p : Script) (Ξ : World) (c : Configuration) → ScriptTyped p → Typed p Ξ c → StepGood p (step p c)

-- a rule applies to each configuration of a good script
abbrev pub NeverWrong : Type 0
NeverWrong = (p : Script) → Good p → (n : ℕ) → step p (Eval p n).term ≢ Wrong

-- what a step leads to has as many activations and active handles as an activation of its own in this context
pub record Replaces (κ : Context) (c : Configuration) : Type 0 where
  pub acts : acts c ≡ suc (activations κ)
  pub hands : hands c ≡ handles κ

-- a tail call ends its activation, and begins one in its place
abbrev pub TailCallsKeep : Type 0
TailCallsKeep = (p : Script) (e : Around) (f : Name) (vs : List Value) (out : List ℕ) (c : Configuration) → applies p e (TailCalling f) vs ≡ Goes out c → Replaces e.outer c
