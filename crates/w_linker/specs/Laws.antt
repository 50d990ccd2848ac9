-- What holds of the runs of linked files.
use Rattle.std.specs.Prelude.{◌≡◌, ℕ, List}
use Rattle.w_syntax.specs.declared.module.Module.{Module}
use Rattle.w_reduce.specs.Program.{Program}
use Rattle.w_reduce.specs.Run.{Run}
use Rattle.w_reduce.specs.Store.{Store}
use Rattle.w_reduce.specs.Terms.{Term}
use Rattle.w_once.specs.Consumptions.{AreConsumedOnce, Consumptions}
use Rattle.w_linked.specs.Definitions.{definitions}
use Rattle.w_linked.specs.Imports.{TypeTests}
use Rattle.w_linked.specs.Laws.{AreTestsOf, AreValid}
use Rattle.w_linked.specs.Starting.{Ready, StartL}

-- each continuation that a run of valid files consumes it consumes once, whichever file made it, and it stays consumed
abbrev pub LinkedConsumeOnce : Type 0
LinkedConsumeOnce = (tests : TypeTests) (ms : List Module) (p : Program) (s : Store) (t : Term) → AreTestsOf (definitions ms).types tests → AreValid ms
    → StartL tests ms ≡ Ready p s t → (n : ℕ) → AreConsumedOnce (Consumptions p s t n) (Run p s t n).store
