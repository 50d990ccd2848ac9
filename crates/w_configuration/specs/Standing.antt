-- Where a run stands: its parts, read as a configuration.
use Rattle.std.specs.Prelude.{◌≡◌, ℕ, ⊤, true, List, [], ◌∷◌, length, Option, Some}
use Rattle.w_types.specs.declared.types.FuncType.{FuncType}
use Rattle.lists.specs.Rows.{Row, row_of}
use Rattle.w_syntax.specs.Code.{Done}
use Rattle.w_syntax.specs.declared.module.Module.{Module}
use Rattle.w_rules.specs.Context.{type_of_func}
use Rattle.w_rules.specs.Matching.{known}
use Rattle.w_rules.specs.Operands.{Operand}
use Rattle.w_rules.specs.Spaces.{context_of}
use Rattle.w_segment.specs.declared.entry.Stage.TheVariants.{Values}
use Rattle.w_segment.specs.Link.{Link, top}
use Rattle.w_reduce.specs.Limits.{IsWithin}
use Rattle.w_reduce.specs.Terms.{Rest, Term, Continuation}
use Rattle.w_reduce.specs.Program.{Program}
use Rattle.w_reduce.specs.Start.{invokes}
use Rattle.w_stands.specs.Keeps.{StoreHolds}
use Rattle.w_typed.specs.Values.{Arrows}
use Rattle.w_typed.specs.Configurations.{Typed}
use Rattle.w_switching.specs.Standing.{Stand}
use Rattle.w_switching.specs.Sound.{is_of, Sound, Roomy}
use Rattle.w_configuration.specs.Parts.{Parts, whole}

-- what comes behind the outermost frame: the invokes of the functions that wait, in the order in which they run
abbrev pub behind_of : List ℕ → Rest
behind_of waiting = record { ahead = invokes waiting; code = Done }

-- a function that takes nothing and gives nothing: it may run before main
pub record RunsBefore (m : Module) (a : ℕ) : Type 0 where
  pub type : FuncType
  pub has_type : type_of_func (context_of m) a ≡ Some type
  pub no_params : type.params ≡ []
  pub no_results : type.results ≡ []

-- the run ends with the results of main, which takes nothing
pub record EndsWith (m : Module) (us : Row Operand) (main : ℕ) : Type 0 where
  pub type : FuncType
  pub has_type : type_of_func (context_of m) main ≡ Some type
  pub no_params : type.params ≡ []
  pub is : us ≡ known (row_of type.results)

-- what is known of those that wait: main is the last of them, and the others take nothing and give nothing
abbrev pub MayWait : Module → Row Operand → List ℕ → Type 0
MayWait m us [] = ⊤
MayWait m us (f ∷ []) = EndsWith m us f
MayWait m us (f ∷ g ∷ fs) = RunsBefore m f × MayWait m us (g ∷ fs)

-- one segment is left, and it is values
abbrev pub IsLast : List Link → Type 0
IsLast chain = (length chain ≡ 1) × ((top chain).shape.stage ≡ Values)

-- The parts stand for this configuration, where `waiting` are the functions that are invoked once all segments are left. It is typed and
-- passes no limit; each reference to a continuation, also in tables and globals, is of the store; and each frame has room for what its
-- function needs.
pub record Stands (m : Module) (waiting : List ℕ) (x : Parts) (p : Program) (ks : List (Option Continuation)) (t : Term) : Type 0 where
  pub stand : Stand m (behind_of waiting) x.chain x.conts p (whole x.store ks) t
  pub results : Row Operand
  pub arrows : Arrows
  pub typed : Typed m arrows results (whole x.store ks) t
  pub ends : MayWait m results waiting
  pub within : IsWithin (whole x.store ks) t.around
  pub sound : Sound x.chain x.conts
  pub room : Roomy m x.chain x.conts
  pub held : StoreHolds (λ v. is_of x.conts v ≡ true) x.store
  pub done : IsLast x.chain → waiting ≡ []

-- they stand for some configuration
pub record StandsSomewhere (m : Module) (x : Parts) : Type 0 where
  pub waiting : List ℕ
  pub p : Program
  pub ks : List (Option Continuation)
  pub t : Term
  pub stands : Stands m waiting x p ks t
