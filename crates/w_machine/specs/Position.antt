-- The machine as contracts see it: where its run begins, how many reductions it took, and what stopped it, if anything did. It stands for
-- that run after so many reductions.
use Rattle.std.specs.Prelude.{◌≡◌, ◌+◌, ◌^◌, ◌<◌, ◌≤◌, ℕ, List, ◌++◌, Bool, true, false, ⊤, Option, Some, None, refl}
use Rattle.std.specs.Coded.{Coded, code_by, coded×, coded_ℕ, coded_list, coded_option}
use Rattle.lists.specs.Rows.{Row}
use Rattle.w_outside.specs.Outside.{Grew, GrewByFront}
use Rattle.w_syntax.specs.declared.module.Module.{Module}
use Rattle.w_syntax.specs.contracts.module.Module as module_contract
use Rattle.w_reduce.specs.Values.{Val}
use Rattle.w_reduce.specs.Store.{Store}
use Rattle.w_reduce.specs.Terms.{Term}
use Rattle.w_reduce.specs.Program.{Program}
use Rattle.w_reduce.specs.Room.{may_take_memory}
use Rattle.w_reduce.specs.Run.{Outcome, Running, Values, Traps, Limit, RunState, Run}
use Rattle.w_configuration.specs.declared.stop.RunStop.{RunStop}
use Rattle.w_configuration.specs.declared.stop.RunStop.TheVariants as run_stop
use Rattle.w_configuration.specs.contracts.stop.RunStop as run_stop_contract
use Rattle.w_machine.specs.Beginning.{Origin, Begins}

pub record Position : Type 0 where
  pub origin : Origin
  pub taken : ℕ
  pub stop : Option RunStop

-- each is stored as the tuple of its fields
abbrev pub origin_code : Coded Origin
origin_code = code_by (Module × (List ℕ × ℕ)) (coded× module_contract.the_row.coded (coded× (coded_list coded_ℕ) coded_ℕ))
    (λ o. (o.source, (o.starts, o.main))) (λ q. record { source = q.0; starts = q.1.0; main = q.1.1 }) (λ _. refl)

abbrev pub position_code : Coded Position
position_code = code_by (Origin × (ℕ × Option RunStop)) (coded× origin_code (coded× coded_ℕ (coded_option run_stop_contract.the_row.coded)))
    (λ p. (p.origin, (p.taken, p.stop))) (λ q. record { origin = q.0; taken = q.1.0; stop = q.1.1 }) (λ _. refl)

-- the most reductions that a machine takes
abbrev pub most_reductions : ℕ
most_reductions = 2 ^ 40

-- ## What stops a machine

-- what the run came to, where a machine stopped so
abbrev pub StopsWith : RunStop → Outcome → Type 0
StopsWith run_stop.Ended o = (vs : Row Val) × (o ≡ Values vs)
StopsWith (run_stop.Limit name) o = o ≡ Limit name
StopsWith (run_stop.Trapped t) o = o ≡ Traps t
StopsWith run_stop.WriteFault o = ⊤
StopsWith run_stop.OutOfMemory o = ⊤

-- a reduction that passes a limit or traps counts
abbrev pub counted : RunStop → ℕ
counted (run_stop.Limit name) = 1
counted (run_stop.Trapped t) = 1
counted k = 0

-- the sink failed, or memory ran out
abbrev pub is_fault : RunStop → Bool
is_fault run_stop.WriteFault = true
is_fault run_stop.OutOfMemory = true
is_fault k = false

-- ## What was printed

-- from one state of a run to a later one: the sink grew by it
pub record PrintedBetween (r r' : RunState) (before now : Option (List ℕ)) : Type 0 where
  pub text : List ℕ
  pub is : r'.output ≡ r.output ++ text
  pub grew : Grew before now text

-- or by a first part of it
pub record PrintedAtMost (r r' : RunState) (before now : Option (List ℕ)) : Type 0 where
  pub text : List ℕ
  pub is : r'.output ≡ r.output ++ text
  pub grew : GrewByFront before now text

abbrev pub PrintedIf : Bool → RunState → RunState → Option (List ℕ) → Option (List ℕ) → Type 0
PrintedIf true r r' before now = PrintedAtMost r r' before now
PrintedIf false r r' before now = PrintedBetween r r' before now

abbrev pub PrintedBy : RunStop → RunState → RunState → Option (List ℕ) → Option (List ℕ) → Type 0
PrintedBy k r r' before now = PrintedIf (is_fault k) r r' before now

-- ## One step, where nothing stopped it

abbrev pub after_step : Position → Option RunStop → Position
after_step old None = record old { taken = old.taken + 1 }
after_step old (Some k) = record old { taken = old.taken + counted k; stop = Some k }

-- want of memory stops nothing but a reduction that may take some
abbrev pub MayStopAt : RunStop → Term → Type 0
MayStopAt run_stop.OutOfMemory t = may_take_memory t.rest.ahead t.rest.code ≡ true
MayStopAt k t = ⊤

-- of a run: it was running, or what it came to; and what was printed
abbrev pub StepsOn : (ℕ → RunState) → ℕ → Option RunStop → Option (List ℕ) → Option (List ℕ) → Type 0
StepsOn run n None before now = ((run n).outcome ≡ Running) × PrintedBetween (run n) (run (n + 1)) before now
StepsOn run n (Some k) before now = StopsWith k (run (n + counted k)).outcome × PrintedBy k (run n) (run (n + 1)) before now × MayStopAt k (run n).term

-- one that is stopped answers the same again, and nothing changes
abbrev pub StepsFrom : Option RunStop → Position → Option RunStop → Position → Option (List ℕ) → Option (List ℕ) → Type 0
StepsFrom (Some k) old result new before now = (result ≡ Some k) × (new ≡ old) × (now ≡ before)
StepsFrom None old result new before now =
    (new ≡ after_step old result) × ((p : Program) (s : Store) (t : Term) → Begins old.origin p s t → StepsOn (Run p s t) old.taken result before now)

abbrev pub Steps : Position → Option RunStop → Position → Option (List ℕ) → Option (List ℕ) → Type 0
Steps old result new before now = StepsFrom old.stop old result new before now

-- ## Whether it has ended, with no reduction taken, where nothing stopped it

abbrev pub with_stop : Position → Option RunStop → Position
with_stop old None = old
with_stop old (Some k) = record old { stop = Some k }

abbrev pub IsStoppedBy : RunState → Option RunStop → Type 0
IsStoppedBy r None = r.outcome ≡ Running
IsStoppedBy r (Some k) = StopsWith k r.outcome

abbrev pub IsNoFault : Option RunStop → Type 0
IsNoFault None = ⊤
IsNoFault (Some k) = is_fault k ≡ false

abbrev pub StopsIfEnded : Position → Option RunStop → Position → Type 0
StopsIfEnded old result new =
    (new ≡ with_stop old result) × IsNoFault result × ((p : Program) (s : Store) (t : Term) → Begins old.origin p s t → IsStoppedBy (Run p s t old.taken) result)

-- ## A run of so many reductions at most

-- where n of them were taken
abbrev pub after_run : Position → ℕ → Option RunStop → Position
after_run old n None = record old { taken = old.taken + n }
after_run old n (Some k) = record old { taken = old.taken + n; stop = Some k }

-- from one state of a run to a later one: the sink grew by all that the reductions between print, and then by a first part of what the
-- next one prints
pub record PrintedUpTo (run : ℕ → RunState) (from to : ℕ) (before now : Option (List ℕ)) : Type 0 where
  pub between : Option (List ℕ)
  pub whole : PrintedBetween (run from) (run to) before between
  pub begun : PrintedAtMost (run to) (run (to + 1)) between now

-- a fault keeps back no more than a part of the reduction that it stops, the one behind the n that were taken
abbrev pub RunPrints : Bool → (ℕ → RunState) → (from n steps : ℕ) → Option (List ℕ) → Option (List ℕ) → Type 0
RunPrints true run from n steps before now = PrintedUpTo run from (from + n) before now
RunPrints false run from n steps before now = PrintedBetween (run from) (run (from + steps)) before now

abbrev pub RunsOn : (ℕ → RunState) → (from n steps : ℕ) → Option RunStop → Option (List ℕ) → Option (List ℕ) → Type 0
RunsOn run from n steps None before now = ((run (from + steps)).outcome ≡ Running) × PrintedBetween (run from) (run (from + steps)) before now
RunsOn run from n steps (Some k) before now = StopsWith k (run (from + steps)).outcome × RunPrints (is_fault k) run from n steps before now

-- at most all of them, and fewer where a fault stopped it
abbrev pub HasTakenBy : Bool → ℕ → ℕ → Type 0
HasTakenBy true n steps = n < steps
HasTakenBy false n steps = n ≤ steps

abbrev pub HasTaken : ℕ → ℕ → Option RunStop → Type 0
HasTaken n steps None = n ≡ steps
HasTaken n steps (Some k) = HasTakenBy (is_fault k) n steps

-- where want of memory stopped it, what comes next there may take some
abbrev pub StopsAt : Option RunStop → Term → Type 0
StopsAt None t = ⊤
StopsAt (Some k) t = MayStopAt k t

abbrev pub RunsFrom : Option RunStop → Position → ℕ → Option RunStop → Position → Option (List ℕ) → Option (List ℕ) → Type 0
RunsFrom (Some k) old steps result new before now = (result ≡ Some k) × (new ≡ old) × (now ≡ before)
RunsFrom None old steps result new before now =
    (n : ℕ) × HasTaken n steps result × (new ≡ after_run old n result)
    × ((p : Program) (s : Store) (t : Term) → Begins old.origin p s t → RunsOn (Run p s t) old.taken n steps result before now)
    × ((p : Program) (s : Store) (t : Term) → Begins old.origin p s t → StopsAt result (Run p s t (old.taken + n)).term)

abbrev pub Runs : Position → ℕ → Option RunStop → Position → Option (List ℕ) → Option (List ℕ) → Type 0
Runs old steps result new before now = RunsFrom old.stop old steps result new before now
