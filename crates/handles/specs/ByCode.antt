-- The same where the answer is a number: the status's, or one of these.
use Rattle.std.specs.Prelude.{◌≡◌, ◌⊎◌, ◌+◌, ◌<◌, ◌≤◌, ℕ, List, Option, Some, None}
use Rattle.w_machine.specs.Position.{most_reductions}
use Rattle.replies.specs.declared.status.Status.{Status}
use Rattle.replies.specs.Status.{code_of}
use Rattle.handing.specs.Handed.{Untouched}
use Rattle.handles.specs.declared.held_run.HeldRun.{HeldRun}
use Rattle.handles.specs.HeldRuns.{AreCounts, BeginsBy, ReadGives, ResultsGive, StepsTo}

-- more reductions are asked for than are taken at most; the handle holds no run; it holds one
abbrev pub too_many_steps : ℕ
too_many_steps = 14

abbrev pub no_run : ℕ
no_run = 15

abbrev pub has_run : ℕ
has_run = 16

abbrev pub BeginsByCode : List ℕ → (old : Option HeldRun) → ℕ → (new : Option HeldRun) → (before now : List ℕ) (told : ℕ) → Type 0
BeginsByCode bytes None code new before now told = (ended : Status) × (code ≡ code_of ended) × BeginsBy bytes ended new before now told
BeginsByCode bytes (Some run) code new before now told = (code ≡ has_run) × (new ≡ Some run) × Untouched before now told

abbrev pub StepsByCode : (old : Option HeldRun) → ℕ → ℕ → (new : Option HeldRun) → (before now : List ℕ) (told : ℕ) → Type 0
StepsByCode None steps code new before now told = (code ≡ no_run) × (new ≡ None) × Untouched before now told
StepsByCode (Some run) steps code new before now told =
    ((run.machine.taken + steps ≤ most_reductions) × ((ended : Status) × (code ≡ code_of ended) × StepsTo run steps ended new before now told))
    ⊎ ((most_reductions < run.machine.taken + steps) × (code ≡ too_many_steps) × (new ≡ Some run) × Untouched before now told)

abbrev pub ReadsByCode : (old : Option HeldRun) → ℕ → (new : Option HeldRun) → (before now : List ℕ) (count : ℕ) → Type 0
ReadsByCode None code new before now count = (code ≡ no_run) × (new ≡ None) × Untouched before now count
ReadsByCode (Some run) code new before now count = (code ≡ 0) × ReadGives (Some run) (Some count) new before now

abbrev pub ResultsByCode : (old : Option HeldRun) → ℕ → (new : Option HeldRun) → (before now : List ℕ) (told : ℕ) → Type 0
ResultsByCode None code new before now told = (code ≡ no_run) × (new ≡ None) × Untouched before now told
ResultsByCode (Some run) code new before now told = (ended : Status) × (code ≡ code_of ended) × ResultsGive (Some run) (Some ended) new before now told

abbrev pub CountsByCode : (old : Option HeldRun) → ℕ → (new : Option HeldRun) → (taken made consumed live : ℕ) → Type 0
CountsByCode None code new taken made consumed live = (code ≡ no_run) × (new ≡ None) × (taken ≡ 0) × (made ≡ 0) × (consumed ≡ 0) × (live ≡ 0)
CountsByCode (Some run) code new taken made consumed live =
    (code ≡ 0) × (new ≡ Some run) × AreCounts run.machine (record { taken = taken; made = made; consumed = consumed; live = live })

abbrev pub EndsByCode : (old : Option HeldRun) → ℕ → (new : Option HeldRun) → Type 0
EndsByCode None code new = (code ≡ no_run) × (new ≡ None)
EndsByCode (Some run) code new = (code ≡ 0) × (new ≡ None)
