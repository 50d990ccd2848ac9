-- What a call that may print leaves in its sink.
use Rattle.std.specs.Prelude.{◌≡◌, ◌⊎◌, ℕ, List, Option, Result, Ok, Err, ⊤}
use Rattle.w_outside.specs.Outside.{Grew, GrewByFront}
use Rattle.w_syntax.specs.declared.module.Module.{Module}
use Rattle.w_segment.specs.Shape.{Shape, SameParts}
use Rattle.w_tables.specs.Store as instances
use Rattle.w_reduce.specs.Store.{Store}
use Rattle.w_reduce.specs.Terms.{Rest, Context, Term}
use Rattle.w_reduce.specs.Program.{Program}
use Rattle.w_reduce.specs.Reduced.{Went}
use Rattle.w_stands.specs.declared.did.Did.{Did}
use Rattle.w_stands.specs.Steps.{Outside, Configured, next_of}
use Rattle.std.specs.declared.alloc.AllocError.{AllocError}
use Rattle.w_plain.specs.declared.stop.Stop.{Stop}
use Rattle.w_plain.specs.declared.stop.Stop.TheVariants as stop
use Rattle.w_plain.specs.Plainness.{MayTake}
use Rattle.w_plain.specs.Stepped.{Takes}

-- the reduction prints these bytes, in each configuration in which the stack stands
abbrev pub Prints : List ℕ → Module → instances.Store → Shape → Type 0
Prints text m u s = (p : Program) (o : Outside) (e : Context) (r : Rest) → Configured m u s p o e r → (v : Store) × (t : Term) × (next_of p u s e r ≡ Went text v t)

-- what the sink held before and holds now: a first part of what the reduction prints, or nothing more
abbrev pub Began : Option (List ℕ) → Option (List ℕ) → Module → instances.Store → Shape → Type 0
Began before now m u s = (now ≡ before) ⊎ ((text : List ℕ) × Prints text m u s × GrewByFront before now text)

-- want of memory stops nothing but a reduction that may take some
abbrev pub MayStop : Stop → Module → Shape → Type 0
MayStop stop.OutOfMemory m s = MayTake m s
MayStop stop.WriteFault m s = ⊤

-- It took its reduction, and the sink has what that prints; or it stopped, all is as it was but for room, and the sink has a first part.
abbrev pub Printed : Result Did Stop → Option (List ℕ) → Option (List ℕ) → Module → instances.Store → Shape → instances.Store → Shape → Type 0
Printed (Ok d) before now m u s u' s' = (text : List ℕ) × Takes d m text u s u' s' × Grew before now text
Printed (Err e) before now m u s u' s' = (u' ≡ u) × SameParts s s' × Began before now m u s × MayStop e m s

-- what a call that prints nothing comes to, as one that may print
abbrev pub widened : Result Did AllocError → Result Did Stop
widened (Ok d) = Ok d
widened (Err e) = Err stop.OutOfMemory
