-- Typed configurations, and what one reduction makes of them (Core, appendix, soundness: configuration validity and theorems).
use Rattle.std.specs.Prelude.{◌≡◌, ◌≢◌, ◌+◌, ℕ, false, List, [], Some}
use Rattle.w_types.specs.declared.types.FuncType.{FuncType}
use Rattle.lists.specs.Rows.{Row, row_of, size}
use Rattle.w_syntax.specs.declared.module.Module.{Module}
use Rattle.w_rules.specs.Context.{type_of_func}
use Rattle.w_rules.specs.Matching.{known}
use Rattle.w_rules.specs.Operands.{Operand}
use Rattle.w_rules.specs.Sound.{Sound}
use Rattle.w_rules.specs.Spaces.{context_of}
use Rattle.w_reduce.specs.declared.limit.RunLimit.{RunLimit}
use Rattle.w_reduce.specs.declared.trap.Trap.{Trap}
use Rattle.w_reduce.specs.Values.{Val}
use Rattle.w_reduce.specs.Store.{Store}
use Rattle.w_reduce.specs.Room.{function_in, more_operands, more_labels, FrameHolds, invokes_next}
use Rattle.w_reduce.specs.Terms.{Term}
use Rattle.w_reduce.specs.Program.{Program, IsProgram}
use Rattle.w_reduce.specs.Reduced.{Reduced, Went, Trapped, Limited, Ended}
use Rattle.w_reduce.specs.Reduce.{next, reduce}
use Rattle.w_reduce.specs.Run.{RunState, NoRule, Run}
use Rattle.w_reduce.specs.Start.{Start, Ready, start_term}
use Rattle.w_typed.specs.Values.{Arrows, Grows, ValuesTyped}
use Rattle.w_typed.specs.Stores.{StoreTyped}
use Rattle.w_typed.specs.Contexts.{HoleTyped, TermTyped}

-- a store of the module's types, whose continuations have the function types K, and a term of results us
pub record Typed (m : Module) (K : Arrows) (us : Row Operand) (s : Store) (t : Term) : Type 0 where
  pub store : StoreTyped m K s
  pub term : TermTyped m K us t

-- What a reduction of a typed configuration comes to: one that is typed, where the continuations may be more, a trap, a limit, or values
-- of the results' types. It is never stuck.
pub data IsSafe (m : Module) (K : Arrows) (us : Row Operand) : Reduced → Type 0 where
  goes : {L : Arrows} {out : List ℕ} {s : Store} {t : Term} → Grows K L → Typed m L us s t → IsSafe m K us (Went out s t)
  traps : {t : Trap} → IsSafe m K us (Trapped t)
  is_limited : {l : RunLimit} → IsSafe m K us (Limited l)
  ends : {vs : Row Val} → ValuesTyped m K vs us → IsSafe m K us (Ended vs)

-- ## Laws

-- preservation and progress
abbrev pub ReductionsAreSafe : Type 0
ReductionsAreSafe = (p : Program) (K : Arrows) (us : Row Operand) (s : Store) (t : Term) → IsProgram p → Sound p.source → Typed p.source K us s t → IsSafe p.source K us (reduce p s t)

-- also where the result passes a limit
abbrev pub NextsAreSafe : Type 0
NextsAreSafe = (p : Program) (K : Arrows) (us : Row Operand) (s : Store) (t : Term) → IsProgram p → Sound p.source → Typed p.source K us s t
    → IsSafe p.source K us (next p s t.around t.operands t.rest.ahead t.rest.code)

-- a run stays typed, and is never stuck: a rule applies wherever its term isn't values
pub record RunIsTyped (p : Program) (us : Row Operand) (r : RunState) : Type 0 where
  pub arrows : Arrows
  pub typed : Typed p.source arrows us r.store r.term
  pub never_stuck : r.outcome ≢ NoRule

abbrev pub RunsAreTyped : Type 0
RunsAreTyped = (p : Program) (K : Arrows) (us : Row Operand) (s : Store) (t : Term) → IsProgram p → Sound p.source → Typed p.source K us s t → (n : ℕ) → RunIsTyped p us (Run p s t n)

-- where a run of a sound module begins, the configuration is typed, and its results are those of main, which takes nothing
pub record StartsTyped (m : Module) (s : Store) (t : Term) : Type 0 where
  pub main : ℕ
  pub type : FuncType
  pub has_type : type_of_func (context_of m) main ≡ Some type
  pub no_params : type.params ≡ []
  pub begins : t ≡ start_term m main
  pub typed : Typed m [] (known (row_of type.results)) s t

abbrev pub StartsAreTyped : Type 0
StartsAreTyped = (p : Program) (s : Store) (t : Term) → IsProgram p → Sound p.source → Start p ≡ Ready s t → StartsTyped p.source s t

-- where no function is invoked next, what the innermost frame holds fits, with what the hole takes
abbrev pub FramesHoldNoMore : Type 0
FramesHoldNoMore = (m : Module) (K : Arrows) (ps us : Row Operand) (t : Term) → HoleTyped m K ps us t → (f : ℕ) → function_in t.around ≡ Some f
    → invokes_next t.rest.ahead ≡ false → FrameHolds m f t.around (size t.operands + size ps) 0

-- before an instruction, what it gives and enters fits too
abbrev pub NextHasRoom : Type 0
NextHasRoom = (m : Module) (K : Arrows) (us : Row Operand) (t : Term) → TermTyped m K us t → (f : ℕ) → function_in t.around ≡ Some f → t.rest.ahead ≡ []
    → FrameHolds m f t.around (size t.operands + more_operands t.rest.code) (more_labels t.rest.code)
