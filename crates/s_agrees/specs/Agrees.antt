-- What a script's module keeps of the script: when the two agree.
use Rattle.std.specs.Prelude.{◌≡◌, ℕ, ◌≤◌, List, [], ◌∷◌, ◌++◌, length, slice_get, Option, Some, None, option_map}
use Rattle.following.specs.Follows.{Going, Value, Fault as Faulted, Is, Limit}
use Rattle.std.specs.Int.{w64, cast_signed}
use Rattle.lists.specs.Rows.{Row, ε, ◌▹◌}
use Rattle.w_syntax.specs.declared.module.Module.{Module}
use Rattle.w_syntax.specs.Spells.{Spells}
use Rattle.w_encode.specs.Canon.{Canon}
use Rattle.w_rules.specs.Limits.{Within}
use Rattle.w_rules.specs.Valid.{Valid}
use Rattle.w_reduce.specs.declared.limit.RunLimit.{RunLimit}
use Rattle.w_reduce.specs.declared.limit.RunLimit.TheVariants as limit
use Rattle.w_reduce.specs.declared.trap.Trap.{Trap}
use Rattle.w_reduce.specs.declared.trap.Trap.TheVariants as trap
use Rattle.w_reduce.specs.Program.{Program}
use Rattle.w_reduce.specs.Start.{Start, Ready}
use Rattle.w_reduce.specs.Values.{Val, I64}
use Rattle.w_reduce.specs.Run.{Outcome, Running, Values, Traps, Limit as LimitMet, NoRule, Run}
use Rattle.s_syntax.specs.declared.name.Name.{Name}
use Rattle.s_syntax.specs.declared.script.Definition.{Definition}
use Rattle.s_syntax.specs.declared.script.Definition.TheVariants as definition
use Rattle.s_syntax.specs.declared.script.Declaration.{Declaration}
use Rattle.s_syntax.specs.declared.script.Script.{Script}
use Rattle.s_check.specs.Refusal.{Good}
use Rattle.s_check.specs.Size.{Size, size_limit}
use Rattle.s_meaning.specs.Numbers.{Fault, DivZero, Overflow, Failed, Reused, Empty, Unhandled}
use Rattle.s_meaning.specs.Eval.{Ended, Frames, Handles, Conts, Follows}
use Rattle.s_code.specs.Lowered.{lowered}
use Rattle.s_valid.specs.Beginning.{first_store, first_term}
use Rattle.s_meaning.specs.Eval as script
use Rattle.s_meaning.specs.Steps.{group_name}

-- the names of the effects, in their order: so tags are numbered
abbrev pub effect_of : Name → Definition → List Name
effect_of x (definition.Effect n) = x ∷ []
effect_of x (definition.Function f) = []
effect_of x (definition.Handler h) = []
effect_of x (definition.Slots s) = []

abbrev pub effect_names : List Declaration → List Name
effect_names [] = []
effect_names (d ∷ ds) = effect_of d.name d.definition ++ effect_names ds

-- the names that are told of what isn't handled, by tag: behind the effects comes the tag of groups
abbrev pub tag_names : List Declaration → List Name
tag_names ds = effect_names ds ++ group_name ∷ []

-- the fault that a trap stands for; other traps stand for none
abbrev pub fault_of : List Declaration → Trap → Option Fault
fault_of ds trap.Unreachable = Some Failed
fault_of ds trap.DivideByZero = Some DivZero
fault_of ds trap.IntegerOverflow = Some Overflow
fault_of ds trap.ConsumedContinuation = Some Reused
fault_of ds trap.TableOutOfBounds = Some Empty
fault_of ds trap.NullReference = Some Empty
fault_of ds (trap.Unhandled e) = option_map Unhandled (slice_get (tag_names ds) e)
fault_of ds t = None

abbrev pub limit_of : RunLimit → script.RunLimit
limit_of limit.Frames = Frames
limit_of limit.Handles = Handles
limit_of limit.Conts = Conts

abbrev pub end_of_fault : Option Fault → Option Ended
end_of_fault None = None
end_of_fault (Some f) = Some (Is (Faulted f))

-- the value of a script that its module's results are
abbrev pub end_of_values : Row Val → Option Ended
end_of_values (ε ▹ I64 n) = Some (Is (Value (cast_signed w64 n)))
end_of_values vs = None

-- what a run of the module has come to, where that stands for anything of the script's
abbrev pub end_of : List Declaration → Outcome → Option Ended
end_of ds Running = Some (Is Going)
end_of ds (Values vs) = end_of_values vs
end_of ds (Traps t) = end_of_fault (fault_of ds t)
end_of ds (LimitMet name) = Some (Limit (limit_of name))
end_of ds NoRule = None

-- for each number of reductions a run has come to what the script may come to, or to a limit, and follows the script
abbrev pub RunFollows : Script → Program → Type 0
RunFollows p program =
    (N : ℕ) → let r = Run program (first_store p.declarations) (first_term p.declarations) N in
    (e : Ended) × (end_of p.declarations r.outcome ≡ Some e) × Follows p N r.output e

-- What the compiler promises of a script and its module: the module's canonical spelling is one, and a file has room for it; the module is
-- valid and within its limits; and its runs begin and follow the script, whatever tells which types match which.
pub record Agrees (p : Script) (m : Module) : Type 0 where
  pub spelled : Spells (Canon m) m
  pub short : length (Canon m) ≤ 16777216
  pub valid : Valid m
  pub within : Within m
  pub begins : (program : Program) → program.source ≡ m → Start program ≡ Ready (first_store p.declarations) (first_term p.declarations)
  pub follows : (program : Program) → program.source ≡ m → RunFollows p program

-- so the runs follow of each script that breaks no rule
abbrev pub RunsFollow : Type 0
RunsFollow = (p : Script) → Good p → (program : Program) → program.source ≡ lowered p → RunFollows p program

-- and all of it holds where the script isn't too large
abbrev pub ScriptsAgree : Type 0
ScriptsAgree = (p : Script) → Good p → Size p ≤ size_limit → Agrees p (lowered p)
