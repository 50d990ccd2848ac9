-- Reductions of what stands for a configuration, one after another, with no sink at hand.
use Rattle.std.specs.Prelude.{◌≡◌, ◌≢◌, ◌+◌, ◌<◌, ◌≤◌, ℕ, nat_le, Bool, true, false, List, length, Option, Some, None}
use Rattle.w_syntax.specs.declared.module.Module.{Module}
use Rattle.w_segment.specs.declared.entry.Stage.TheVariants.{Body, Values}
use Rattle.w_segment.specs.Shape.{Shape}
use Rattle.w_segment.specs.Link.{Link, top, with_top}
use Rattle.w_tables.specs.Store as instances
use Rattle.w_chain.specs.Counts.{frames_in_all}
use Rattle.w_conts.specs.Conts.{Conts, live_of}
use Rattle.w_switching.specs.declared.stored.Stored.{Stored}
use Rattle.w_reduce.specs.Limits.{most_frames}
use Rattle.w_plain.specs.declared.progress.Progress.{Progress}
use Rattle.w_plain.specs.declared.progress.Progress.TheVariants as progress
use Rattle.w_stands.specs.Room.{Roomier}
use Rattle.w_reduce.specs.declared.limit.RunLimit.TheVariants.{Frames}
use Rattle.w_configuration.specs.declared.stop.RunStop.{RunStop}
use Rattle.w_configuration.specs.declared.stop.RunStop.TheVariants as run_stop
use Rattle.w_configuration.specs.declared.hastened.Hastened.{Hastened}
use Rattle.w_configuration.specs.declared.hastened.Then.{Then}
use Rattle.w_configuration.specs.declared.hastened.Then.TheVariants as then
use Rattle.w_configuration.specs.Parts.{Parts, parts}
use Rattle.w_configuration.specs.NextEvents.{TellsEvent}
use Rattle.w_configuration.specs.Reducing.{PartsReduce}
use Rattle.w_configuration.specs.Standing.{StandsSomewhere}

-- None was taken: all is as it was but for room in the innermost segment, and that only where one was attempted.
pub record LeavesAlone (x x' : Parts) : Type 0 where
  pub shape : Shape
  pub same : Roomier (top x.chain).shape shape
  pub is : x' ≡ parts x.store (with_top shape x.chain) x.conts
  pub outside : (top x.chain).shape.stage ≢ Body → x' ≡ x

-- where values are left, another segment waits for them, and no other's turn comes
abbrev pub IsInRun : List Link → Type 0
IsInRun chain = (top chain).shape.stage ≡ Values → 1 < length chain

-- it was taken in a body, and does nothing with continuations
pub record IsQuiet (m : Module) (x x' : Parts) : Type 0 where
  pub body : (top x.chain).shape.stage ≡ Body
  pub silent : TellsEvent None m x
  pub conts : x'.conts ≡ x.conts

-- One was taken, which prints nothing, or stopped the run by this; where they are to be quiet it is.
pub record TakesOne (quiet : Bool) (stop : Option RunStop) (m : Module) (x x' : Parts) : Type 0 where
  pub inside : IsInRun x.chain
  pub quietly : quiet ≡ true → IsQuiet m x x'
  pub no_fault : stop ≢ Some run_stop.WriteFault
  pub reduces : (held : Option (List ℕ)) → PartsReduce stop m x x' held held

-- so many were taken, each within the limits
pub data TakesMany (quiet : Bool) (m : Module) (x : Parts) : ℕ → Parts → Type 0 where
  nothing : TakesMany quiet m x 0 x
  one_more : {n : ℕ} {y z : Parts} → TakesMany quiet m x n y → TakesOne quiet None m y z → TakesMany quiet m x (n + 1) z

-- what is behind them
abbrev pub EndsBy : Then → Bool → Module → Parts → Parts → Type 0
EndsBy then.On quiet m y x' = x' ≡ y
EndsBy then.Left quiet m y x' = LeavesAlone y x'
EndsBy (then.Stopped stop made live) quiet m y x' = TakesOne quiet (Some stop) m y x' × (made ≡ length y.conts.entries) × (live ≡ live_of y.conts)

pub record HastensParts (quiet : Bool) (done : Hastened) (m : Module) (x x' : Parts) : Type 0 where
  pub between : Parts
  pub many : TakesMany quiet m x done.taken between
  pub last : EndsBy done.then quiet m between x'

-- at most so many were taken, where more than none were to be some, and fewer where one more stopped the run
abbrev pub TakesAtMost : Then → ℕ → ℕ → Type 0
TakesAtMost then.On taken most = (taken ≤ most) × (0 < most → 0 < taken)
TakesAtMost then.Left taken most = taken ≤ most
TakesAtMost (then.Stopped stop made live) taken most = taken < most

-- behind n of them one more was taken, or what is there then
abbrev pub AttemptsOne : Then → Bool → ℕ → ℕ → Module → Parts → Parts → Type 0
AttemptsOne then.On quiet n taken m x x' = (taken ≡ n + 1) × TakesOne quiet None m x x'
AttemptsOne then.Left quiet n taken m x x' = (taken ≡ n) × LeavesAlone x x'
AttemptsOne (then.Stopped stop made live) quiet n taken m x x' = (taken ≡ n) × EndsBy (then.Stopped stop made live) quiet m x x'

-- whether the frames of a result are within the limit
abbrev pub frames_stop : Bool → Option RunStop
frames_stop true = None
frames_stop false = Some (run_stop.Limit Frames)

-- one more than n, or what stopped the run at a limit on frames
abbrev pub within_frames : Bool → ℕ → Conts Stored → Hastened
within_frames true n conts = record { taken = n + 1; then = then.On }
within_frames false n conts = record { taken = n; then = then.Stopped (run_stop.Limit Frames) (length conts.entries) (live_of conts) }

-- ## In one body

-- some configuration in which the stack stands innermost
pub record RunsIn (m : Module) (u : instances.Store) (s : Shape) : Type 0 where
  pub chain : List Link
  pub conts : Conts Stored
  pub some : 0 < length chain
  pub stands : StandsSomewhere m (parts u (with_top s chain) conts)

-- what the last attempt in a body came to; a call's result is within the limits or not
abbrev pub LastIn : Progress → Module → Parts → Parts → Type 0
LastIn progress.Went m y x' = x' ≡ y
LastIn progress.Moved m y x' = TakesOne true None m y x'
LastIn progress.Entered m y x' = (within : Bool) → within ≡ nat_le (frames_in_all x'.chain) most_frames → TakesOne true (frames_stop within) m y x'
LastIn progress.Trapped m y x' = LeavesAlone y x'
LastIn progress.NotAttempted m y x' = x' ≡ y
LastIn progress.NoRoom m y x' = LeavesAlone y x'

-- so many were taken in a body, and then the last attempt came to this
pub record RunsInBody (last : Progress) (n : ℕ) (m : Module) (x x' : Parts) : Type 0 where
  pub between : Parts
  pub many : TakesMany true m x n between
  pub stands : StandsSomewhere m between
  pub ends : LastIn last m between x'
