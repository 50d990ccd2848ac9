-- Where a run of a module begins, and what of it a machine stands for.
use Rattle.std.specs.Prelude.{◌≡◌, ◌≤◌, ℕ, false, Option, Some, None}
use Rattle.w_syntax.specs.declared.module.Module.{Module}
use Rattle.w_reduce.specs.Program.{Program, IsProgram}
use Rattle.w_reduce.specs.Start.{Start, Ready}
use Rattle.w_reduce.specs.Store.{Store}
use Rattle.w_reduce.specs.Terms.{Term}
use Rattle.w_machine.specs.Beginning.{Begins}
use Rattle.w_configuration.specs.declared.stop.RunStop.{RunStop}
use Rattle.w_machine.specs.Position.{Position, is_fault}
use Rattle.replies.specs.Answer.{Reply, TrapReply, StartGives, ProgramGives}

-- no reduction was taken, and no outcome is kept
abbrev pub IsFirst : Position → Type 0
IsFirst position = position ≡ record { origin = position.origin; taken = 0; stop = None }

-- so many reductions were taken, or what isn't a fault stopped the machine before
abbrev pub IsAfterBy : Option RunStop → ℕ → ℕ → Type 0
IsAfterBy None taken steps = taken ≡ steps
IsAfterBy (Some k) taken steps = (taken ≤ steps) × (is_fault k ≡ false)

abbrev pub IsAfter : Position → ℕ → Type 0
IsAfter position steps = IsAfterBy position.stop position.taken steps

-- ## Whether a module has a run

-- it has one, at whose begin the machine stands
pub record BeginsRunOf (m : Module) (machine : Position) : Type 0 where
  pub first : IsFirst machine
  pub program : Program
  pub source : program.source ≡ m
  pub known : IsProgram program
  pub store : Store
  pub term : Term
  pub start : Start program ≡ Ready store term
  pub begins : Begins machine.origin program store term

-- a program gives this and has no run
abbrev pub HasNoStart : TrapReply → Program → Reply → Type 0
HasNoStart on_trap p reply = StartGives on_trap (λ s t r. ⊥) (Start p) reply

-- and so a module
abbrev pub HasNoRun : TrapReply → Module → Reply → Type 0
HasNoRun on_trap = ProgramGives on_trap (λ p s t r. ⊥)
