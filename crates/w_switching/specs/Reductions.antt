-- What a call that switches stacks does: just the reduction of each configuration in which chain and store stand (stack-switching
-- explainer, execution).
use Rattle.std.specs.Prelude.{◌≡◌, ◌≢◌, ℕ, ◌≤◌, List, [], ◌∷◌, length, Option, Some}
use Rattle.w_types.specs.declared.types.FuncType.{FuncType}
use Rattle.w_types.specs.declared.value.ContRef.{ContRef}
use Rattle.w_types.specs.declared.value.Value.{Value}
use Rattle.w_types.specs.declared.value.Value.TheVariants as value
use Rattle.w_syntax.specs.Code.{Code, Plain, Done}
use Rattle.w_syntax.specs.declared.instructions.Instr.TheVariants as flat
use Rattle.w_syntax.specs.declared.instructions.Op.TheVariants as op
use Rattle.w_syntax.specs.declared.instructions.SwitchingOp.{SwitchingOp}
use Rattle.w_syntax.specs.declared.module.Module.{Module}
use Rattle.w_rules.specs.Context.{cont_of}
use Rattle.w_rules.specs.Spaces.{context_of}
use Rattle.w_segment.specs.declared.entry.Stage.TheVariants.{Body}
use Rattle.w_segment.specs.Link.{Link, top}
use Rattle.w_conts.specs.Conts.{Conts, kept_at}
use Rattle.w_reduce.specs.Terms.{Rest, rest_of, Term, Continuation}
use Rattle.w_reduce.specs.Store.{Store, with_conts}
use Rattle.w_reduce.specs.Program.{Program}
use Rattle.w_reduce.specs.Reduced.{Reduced, Went, Trapped, Stuck}
use Rattle.w_reduce.specs.Room.{HoldsAfter}
use Rattle.w_reduce.specs.Switching.{switching_op}
use Rattle.w_reduce.specs.Exits.{leave}
use Rattle.w_stands.specs.Code.{instr_of}
use Rattle.w_stands.specs.declared.did.Did.{Did}
use Rattle.w_stands.specs.declared.did.Did.TheVariants as did
use Rattle.w_switching.specs.declared.stored.Stored.{Stored}
use Rattle.w_switching.specs.Standing.{Stand}

-- the reduction of a configuration at the instruction, with the code c behind it
abbrev pub switched : SwitchingOp → Program → Store → Term → Code → Reduced
switched o p s t c = switching_op p s t.around t.operands o c

-- a configuration in which they stand at the instruction, with the code c behind it, and to which a rule applies
pub record StandsAt (o : SwitchingOp) (m : Module) (behind : Rest) (chain : List Link) (conts : Conts Stored) (p : Program) (s : Store) (t : Term) (c : Code) : Type 0 where
  pub stand : Stand m behind chain conts p s t
  pub comes : t.rest ≡ rest_of (Plain (op.Switching o) c)
  pub applies : switched o p s t c ≢ Stuck

-- some such configuration, after which no frame holds more than its function has anywhere
pub record SwitchesAt (o : SwitchingOp) (m : Module) (chain : List Link) (conts : Conts Stored) : Type 0 where
  pub here : instr_of m (top chain).shape.func (top chain).shape.place ≡ Some (flat.Plain (op.Switching o))
  pub stage : (top chain).shape.stage ≡ Body
  pub behind : Rest
  pub p : Program
  pub s : Store
  pub t : Term
  pub c : Code
  pub at : StandsAt o m behind chain conts p s t c
  pub holds : HoldsAfter m (switched o p s t c)

-- it goes on, printing nothing, where chain and store stand; of the definitions' store only continuations change
pub record WentTo (m : Module) (behind : Rest) (chain : List Link) (conts : Conts Stored) (p : Program) (s : Store) (d : Reduced) : Type 0 where
  pub conts_after : List (Option Continuation)
  pub t : Term
  pub is : d ≡ Went [] (with_conts conts_after s) t
  pub stand : Stand m behind chain conts p (with_conts conts_after s) t

-- it did what the rules do; a trap changed nothing
abbrev pub Switches : Did → SwitchingOp → Module → List Link → Conts Stored → List Link → Conts Stored → Type 0
Switches did.Went o m chain conts chain' conts' = (behind : Rest) (p : Program) (s : Store) (t : Term) (c : Code) → StandsAt o m behind chain conts p s t c →
    WentTo m behind chain' conts' p s (switched o p s t c)
Switches (did.Trapped x) o m chain conts chain' conts' = (chain' ≡ chain) × (conts' ≡ conts)
    × ((behind : Rest) (p : Program) (s : Store) (t : Term) (c : Code) → StandsAt o m behind chain conts p s t c → switched o p s t c ≡ Trapped x)

-- the innermost segment, which is values, left the handle around it
abbrev pub Exits : List Link → Conts Stored → List Link → Conts Stored → Type 0
Exits chain conts chain' conts' = (m : Module) (behind : Rest) (p : Program) (s : Store) (t : Term) → Stand m behind chain conts p s t →
    (t.rest ≡ rest_of Done) × WentTo m behind chain' conts' p s (leave s t.around t.operands)

-- ## What types of continuations tell

-- the continuation that the topmost operand refers to, where it isn't consumed, takes so many values or more
abbrev pub TakesAtLeast : ℕ → List Link → Conts Stored → Type 0
TakesAtLeast n chain conts = (r : ContRef) (vs : List Value) (b : Stored) → (top chain).shape.operands ≡ value.Cont r ∷ vs →
    kept_at conts r.serial ≡ Some b → n ≤ b.takes

-- it takes as many values as the continuation type y has parameters, or more
abbrev pub TakesParams : ℕ → Module → List Link → Conts Stored → Type 0
TakesParams y m chain conts = (t : FuncType) → cont_of (context_of m) y ≡ Some t → TakesAtLeast (length t.params) chain conts
