-- Runs: what at most n reductions come to.
use Rattle.std.specs.Prelude.{ℕ, zero, suc, List, [], ◌++◌}
use Rattle.lists.specs.Rows.{Row, listed}
use Rattle.w_reduce.specs.declared.limit.RunLimit.{RunLimit}
use Rattle.w_reduce.specs.declared.trap.Trap.{Trap}
use Rattle.w_reduce.specs.Values.{Val}
use Rattle.w_reduce.specs.Store.{Store}
use Rattle.w_reduce.specs.Terms.{Term}
use Rattle.w_reduce.specs.Program.{Program}
use Rattle.w_reduce.specs.Reduced.{Reduced, Went, Trapped, Limited, Ended, Stuck}
use Rattle.w_reduce.specs.Reduce.{reduce}

pub data Outcome : Type 0 where
  -- a rule applies
  Running : Outcome
  -- the term is values
  Values : Row Val → Outcome
  -- the last reduction trapped
  Traps : Trap → Outcome
  -- the last reduction's result passed this limit
  Limit : RunLimit → Outcome
  -- no rule applies to a term that isn't values
  NoRule : Outcome

-- A run: the reductions taken, what they printed, the store and the term that they led to, and what is told of these.
pub record RunState : Type 0 where
  pub taken : ℕ
  pub output : List ℕ
  pub store : Store
  pub term : Term
  pub outcome : Outcome

-- what is told without a further reduction
abbrev pub outcome_by : Reduced → Outcome
outcome_by (Went out s t) = Running
outcome_by (Trapped t) = Running
outcome_by (Limited name) = Running
outcome_by (Ended vs) = Values vs
outcome_by Stuck = NoRule

-- a run that came to this output, store and term
abbrev pub state_at : Program → ℕ → List ℕ → Store → Term → RunState
state_at p n out s t = record { taken = n; output = out; store = s; term = t; outcome = outcome_by (reduce p s t) }

-- a run with one reduction more; one that traps, or whose result passes a limit, counts, and changes nothing else
abbrev pub after_reduction : Program → RunState → Reduced → RunState
after_reduction p r (Went out s t) = state_at p (suc r.taken) (r.output ++ out) s t
after_reduction p r (Trapped t) = record r { taken = suc r.taken; outcome = Traps t }
after_reduction p r (Limited name) = record r { taken = suc r.taken; outcome = Limit name }
after_reduction p r (Ended vs) = r
after_reduction p r Stuck = r

-- a run goes on while it is running
abbrev pub continued : Program → RunState → Outcome → RunState
continued p r Running = after_reduction p r (reduce p r.store r.term)
continued p r (Values vs) = r
continued p r (Traps t) = r
continued p r (Limit name) = r
continued p r NoRule = r

-- the run of at most n reductions from this store and term
abbrev pub Run : Program → Store → Term → ℕ → RunState
Run p s t zero = state_at p 0 [] s t
Run p s t (suc n) = continued p (Run p s t n) (Run p s t n).outcome

-- the values of a run that ended, in order, and else none
abbrev pub results_of : Outcome → List Val
results_of Running = []
results_of (Values vs) = listed vs
results_of (Traps t) = []
results_of (Limit name) = []
results_of NoRule = []
