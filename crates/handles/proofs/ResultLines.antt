-- The results of a run as lines.
use Rattle.std.proofs.Common.{◌≡◌, ◌≢◌, ◌≤◌, ◌∙◌, ℕ, List, [], Option, Some, None, Result, Ok, Err, Vec, Global, refl, sym, ap, flat_map, arith}
use Rattle.std.specs.Prelude.{IfOk}
use Rattle.w_types.specs.declared.value.Value.{Value}
use Rattle.w_reduce.specs.Program.{Program}
use Rattle.w_reduce.specs.Run.{Outcome, Run}
use Rattle.w_reduce.specs.Store.{Store}
use Rattle.w_reduce.specs.Terms.{Term}
use Rattle.w_reduce.specs.Values.{Val, val}
use Rattle.w_stands.specs.Values.{vals}
use Rattle.w_configuration.specs.declared.stop.RunStop.{RunStop}
use Rattle.w_configuration.specs.declared.stop.RunStop.TheVariants as run_stop
use Rattle.w_machine.specs.Beginning.{Begins}
use Rattle.w_machine.specs.Position.{Position}
use Rattle.w_machine.specs.Results.{HasResults}
use Rattle.replies.specs.Answer.{end_reply, result_line, trapped}
use Rattle.replies.specs.Pieces.{joined}
use Rattle.runs.proofs.Runs.{lines_of_vals}
use Rattle.handles.specs.HeldRuns.{HasResultLines, HasResultLinesBy}

module _ (position : Position) (values : List Value) (text : List ℕ) (is : text ≡ flat_map (λ v. result_line (val v)) values)
    (ended : position.stop ≡ Some run_stop.Ended → (p : Program) (s : Store) (t : Term) → Begins position.origin p s t → (n : ℕ) → position.taken ≤ n → HasResults (Run p s t n).outcome (vals values))
    (none : position.stop ≢ Some run_stop.Ended → values ≡ []) where
  -- of a run that has ended
  lines : (o : Outcome) → HasResults o (vals values) → text ≡ (end_reply trapped o).out
  lines o (row, came, listed) = is ∙ lines_of_vals values ∙ ap (λ (vs : List Val). flat_map result_line vs) listed ∙ sym (ap (λ (r : Outcome). (end_reply trapped r).out) came)

  no_lines : position.stop ≢ Some run_stop.Ended → text ≡ []
  no_lines other = is ∙ ap (λ (vs : List Value). flat_map (λ v. result_line (val v)) vs) (none other)

  by : (stop : Option RunStop) → position.stop ≡ stop → HasResultLinesBy stop position text
  by (Some run_stop.Ended) at = λ p s t begins. lines (Run p s t position.taken).outcome (ended at p s t begins position.taken (omega arith))
  by None at = no_lines (λ e. absurd (cc))
  by (Some (run_stop.Limit name)) at = no_lines (λ e. absurd (cc))
  by (Some (run_stop.Trapped t)) at = no_lines (λ e. absurd (cc))
  by (Some run_stop.WriteFault) at = no_lines (λ e. absurd (cc))
  by (Some run_stop.OutOfMemory) at = no_lines (λ e. absurd (cc))

  pub has_lines : HasResultLines position text
  has_lines = by position.stop refl

-- where memory sufficed for them
pub if_made : {E : Type 0} {P : Vec (Vec ℕ Global) Global → Type 0} (position : Position) (made : Result (Vec (Vec ℕ Global) Global) E) → ((lines : Vec (Vec ℕ Global) Global) → P lines → HasResultLines position (joined lines.items))
    → IfOk made P → IfOk made (λ lines. HasResultLines position (joined lines.items))
if_made position (Ok lines) next h = next lines h
if_made position (Err e) next h = tt
