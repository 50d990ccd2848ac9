-- What a machine keeps of its parts: they stand for the run after the reductions that it took.
use Rattle.std.specs.Prelude.{◌≡◌, ◌<◌, ◌≤◌, ℕ, ⊤, Bool, true, false, List, [], ◌∷◌, ◌++◌, length, map, reverse, All, Option, Some, None, Box}
use Rattle.std.specs.declared.alloc.Global.{Global}
use Rattle.w_syntax.specs.declared.module.Module.{Module}
use Rattle.w_rules.specs.Spaces.{functions_of}
use Rattle.w_segment.specs.declared.entry.Stage.{Stage}
use Rattle.w_segment.specs.declared.entry.Stage.TheVariants.{Fresh, Body, Branch, Values as AtValues}
use Rattle.w_segment.specs.Link.{Link, IsNew, top, one}
use Rattle.w_segment.specs.declared.segment.Segment.{Segment}
use Rattle.w_segment.specs.Shape.{Capacity, fresh_shape}
use Rattle.w_reduce.specs.Store.{Store, made, live}
use Rattle.w_reduce.specs.Terms.{Term, Continuation}
use Rattle.w_reduce.specs.Program.{Program, IsProgram}
use Rattle.w_reduce.specs.Run.{Outcome, Values, RunState, state_at, Run}
use Rattle.w_stands.specs.Values.{stack}
use Rattle.w_configuration.specs.declared.stop.RunStop.{RunStop}
use Rattle.w_configuration.specs.declared.stop.RunStop.TheVariants as run_stop
use Rattle.w_configuration.specs.declared.configuration.Configuration.{Configuration as Parts}
use Rattle.w_configuration.specs.Parts.{whole}
use Rattle.w_configuration.specs.Standing.{Stands}
use Rattle.w_machine.specs.Beginning.{Origin, IsFirstStore, Begins}
use Rattle.w_machine.specs.Position.{StopsWith, most_reductions}

-- ## The segments that wait

-- the function that a segment invokes
abbrev pub function_of : Box Segment Global → ℕ
function_of b = (top b.value).shape.func

-- those that they invoke, in the order in which they run: the last segment runs next
abbrev pub waiting_of : List (Box Segment Global) → List ℕ
waiting_of waiting = reverse (map function_of waiting)

-- nothing of it has run
abbrev pub IsFresh : Box Segment Global → Type 0
IsFresh b = (f : ℕ) × (c : Capacity) × (b.value ≡ one (fresh_shape f c) 0)

abbrev pub is_values : Stage → Bool
is_values AtValues = true
is_values Fresh = false
is_values Body = false
is_values (Branch l) = false

-- whether one segment is left, and it is values
abbrev pub is_last : List Link → Bool
is_last [] = false
is_last (x ∷ []) = is_values x.shape.stage
is_last (x ∷ y ∷ ys) = false

-- where it is the turn of the next one, it runs in place of the other
pub data IsTurned (waiting : List (Box Segment Global)) (chain after : List Link) (waiting' : List (Box Segment Global)) : Type 0 where
  none_waits : waiting ≡ [] → waiting' ≡ [] → after ≡ chain → IsTurned waiting chain after waiting'
  next_runs : (b : Box Segment Global) → waiting ≡ waiting' ++ b ∷ [] → after ≡ b.value → IsTurned waiting chain after waiting'

-- the segment that runs first, and those that wait: of the functions that run before main, and main
pub record AreFirst (starts : List ℕ) (main : ℕ) (segment : Box Segment Global) (waiting : List (Box Segment Global)) : Type 0 where
  pub function : ℕ
  pub new : IsNew function 0 segment.value
  pub fresh : All IsFresh waiting
  pub order : function ∷ waiting_of waiting ≡ starts ++ main ∷ []

-- the same where the segment that runs first is there alone
pub record RunsFirst (starts : List ℕ) (main : ℕ) (chain : List Link) (waiting : List (Box Segment Global)) : Type 0 where
  pub segment : Box Segment Global
  pub first : AreFirst starts main segment waiting
  pub alone : chain ≡ top segment.value ∷ []

-- ## The run

-- the run went on for n reductions, to the configuration that the parts stand for
pub record IsReachedAt (m : Module) (waiting : List ℕ) (x : Parts) (n : ℕ) (p : Program) (r : RunState) : Type 0 where
  pub ks : List (Option Continuation)
  pub t : Term
  pub stands : Stands m waiting x p ks t
  pub is : r ≡ state_at p n r.output (whole x.store ks) t

-- where the run ended, the operands are its results
abbrev pub EndsAt : RunStop → List Link → Outcome → Type 0
EndsAt run_stop.Ended chain o = o ≡ Values (stack (top chain).shape.operands)
EndsAt k chain o = StopsWith k o

-- the run has so many continuations, so many of which aren't consumed
pub record Counts (r : RunState) (made_then live_then : ℕ) : Type 0 where
  pub made : made r.store ≡ made_then
  pub live : live r.store ≡ live_then

-- where something stopped it, the run has as many continuations as before what stopped it
abbrev pub IsReachedBy : Option RunStop → Module → List ℕ → Parts → ℕ → ℕ → ℕ → Program → RunState → Type 0
IsReachedBy None m waiting x n made_then live_then p r = IsReachedAt m waiting x n p r
IsReachedBy (Some k) m waiting x n made_then live_then p r = EndsAt k x.chain r.outcome × (r.taken ≡ n) × Counts r made_then live_then

-- a run of the module begins, whatever tells which types match which
abbrev pub IsStarted : Module → Type 0
IsStarted m = (p : Program) → p.source ≡ m → IsProgram p → (s : Store) × IsFirstStore p s

-- A machine that goes on has segments, and made no more continuations than it took reductions; one whose run ended has a segment.
abbrev pub IsUsable : Option RunStop → Parts → ℕ → Type 0
IsUsable None x n = (0 < length x.chain) × (length x.conts.entries ≤ n)
IsUsable (Some run_stop.Ended) x n = 0 < length x.chain
IsUsable (Some k) x n = ⊤

pub record IsReached (o : Origin) (functions : List ℕ) (x : Parts) (waiting : List (Box Segment Global)) (stop : Option RunStop) (n made_then live_then : ℕ) : Type 0 where
  pub functions_are : functions ≡ functions_of o.source
  pub fresh : All IsFresh waiting
  pub bound : n ≤ most_reductions
  pub usable : IsUsable stop x n
  pub started : IsStarted o.source
  pub fewer : live_then ≤ made_then
  pub reached : (p : Program) (s₀ : Store) (t₀ : Term) → Begins o p s₀ t₀ → IsReachedBy stop o.source (waiting_of waiting) x n made_then live_then p (Run p s₀ t₀ n)
