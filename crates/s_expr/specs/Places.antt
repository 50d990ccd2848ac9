-- What a reader of tokens answers, by the place where it begins.
use Rattle.std.specs.Prelude.{◌≡◌, ℕ, ◌≤◌, List, length, drop, Result, Ok, Err}
use Rattle.s_syntax.specs.declared.token.Token.{Token}
use Rattle.s_grammar.specs.Reading.{Reading, Got, Refused, Wrong, TooDeep}
use Rattle.s_expr.specs.declared.stop.Stop.{Stop}
use Rattle.s_expr.specs.declared.stop.Stop.TheVariants as stop

-- reading from the place on is refused at the place that is told, unless memory ran out
abbrev pub StopsAt : {A : Type 0} → Reading A → List Token → ℕ → Stop → Type 0
StopsAt r ts at (stop.Wrong a) = (r (drop at ts) ≡ Refused Wrong (drop a ts)) × (a ≤ length ts)
StopsAt r ts at (stop.TooDeep a) = (r (drop at ts) ≡ Refused TooDeep (drop a ts)) × (a ≤ length ts)
StopsAt r ts at stop.Memory = Unit {0}

-- what reading from the place on gives, with the place behind it
abbrev pub ReadsAt : {A : Type 0} → Reading A → List Token → ℕ → Result (A × ℕ) Stop → Type 0
ReadsAt r ts at (Ok x) = (r (drop at ts) ≡ Got x.0 (drop x.1 ts)) × (x.1 ≤ length ts)
ReadsAt r ts at (Err e) = StopsAt r ts at e

-- the same, of a value that is seen by view
abbrev pub ReadsAs : {X A : Type 0} → (X → A) → Reading A → List Token → ℕ → Result (X × ℕ) Stop → Type 0
ReadsAs view r ts at (Ok x) = (r (drop at ts) ≡ Got (view x.0) (drop x.1 ts)) × (x.1 ≤ length ts)
ReadsAs view r ts at (Err e) = StopsAt r ts at e
