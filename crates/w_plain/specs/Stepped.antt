-- What a call comes to that takes one reduction.
use Rattle.std.specs.Prelude.{◌≡◌, ℕ, List, [], Result, Ok, Err}
use Rattle.std.specs.declared.alloc.AllocError.{AllocError}
use Rattle.w_syntax.specs.declared.module.Module.{Module}
use Rattle.w_segment.specs.Shape.{Shape}
use Rattle.w_tables.specs.Store as instances
use Rattle.w_stands.specs.declared.did.Did.{Did}
use Rattle.w_stands.specs.Keeps.{KeepsAll}
use Rattle.w_stands.specs.Steps.{Follows}
use Rattle.w_plain.specs.Plainness.{MayTake}

-- It did what the rules do, printing these bytes, and what held of every value still holds.
pub record Takes (d : Did) (m : Module) (text : List ℕ) (u : instances.Store) (s : Shape) (u' : instances.Store) (s' : Shape) : Type 0 where
  pub goes : Follows d m text u s u' s'
  pub keeps : KeepsAll u s u' s'

-- it took its reduction, which prints nothing, or memory ran out, which that may take, and all is as it was
abbrev pub HasStepped : Result Did AllocError → Module → instances.Store → Shape → instances.Store → Shape → Type 0
HasStepped (Ok d) m u s u' s' = Takes d m [] u s u' s'
HasStepped (Err e) m u s u' s' = (u' ≡ u) × (s' ≡ s) × MayTake m s
