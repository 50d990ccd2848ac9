-- The state of the machine over lines that an assembly stands for.
use Rattle.std.specs.Prelude.{◌≡◌, ℕ, Bool, true, false, List, Option, Some, None}
use Rattle.w_types.specs.declared.types.RecGroup.{RecGroup}
use Rattle.w_syntax.specs.declared.module.Module.{Module}
use Rattle.w_syntax.specs.Module.{empty_module}
use Rattle.w_text.specs.declared.assembly.Assembly.{Assembly}
use Rattle.w_text.specs.Machine.{Between, State, Fresh, Reading, finished}
use Rattle.w_text.specs.Standing.{IsOpen}
use Rattle.w_text.specs.Text.{Text, IsWrongAt}

-- the module, with its groups
abbrev pub so_far : Module → List RecGroup → Module
so_far m gs = record m { types = gs }

abbrev pub Stands : State → Assembly → Type 0
Stands Fresh a = (a.begun ≡ false) × (0 ≡ a.place) × (empty_module ≡ so_far a.program a.groups.items) × IsOpen Between a.opened
Stands (Reading k m o) a = (a.begun ≡ true) × (k ≡ a.place) × (m ≡ so_far a.program a.groups.items) × IsOpen o a.opened

-- what came of a line
abbrev pub SteppedTo : Option State → Bool → Assembly → Type 0
SteppedTo (Some s) r a = (r ≡ true) × Stands s a
SteppedTo None r a = r ≡ false

-- All lines of t were taken, n of them: the module that they make, if they do, has this text, and else the line of the end is wrong.
pub record Ended (t : List ℕ) (n : ℕ) (a : Assembly) : Type 0 where
  pub state : State
  pub stands : Stands state a
  pub whole : (m : Module) → finished state ≡ Some m → Text t m
  pub open_yet : finished state ≡ None → IsWrongAt t n
