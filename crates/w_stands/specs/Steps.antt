-- What a call that takes a reduction does: just the one of the configuration in which the segment stands, whatever stands around it.
use Rattle.std.specs.Prelude.{◌≡◌, ◌≢◌, ℕ, List, [], Some}
use Rattle.w_syntax.specs.declared.instructions.Instr.{Instr}
use Rattle.w_syntax.specs.declared.module.Module.{Module}
use Rattle.w_segment.specs.declared.entry.Stage.TheVariants.{Body}
use Rattle.w_segment.specs.Shape.{Shape}
use Rattle.w_tables.specs.Store as instances
use Rattle.w_reduce.specs.Terms.{Rest, Context}
use Rattle.w_reduce.specs.Program.{Program, IsProgram}
use Rattle.w_reduce.specs.Reduced.{Reduced, Went, Trapped, Stuck}
use Rattle.w_reduce.specs.Reduce.{next}
use Rattle.w_stands.specs.declared.did.Did.{Did}
use Rattle.w_stands.specs.declared.did.Did.TheVariants as did
use Rattle.w_stands.specs.Values.{stack, store_of}
use Rattle.w_stands.specs.Code.{instr_of, AllShort, AreNarrow}
use Rattle.w_stands.specs.Stands.{StackIs}
use Rattle.w_stands.specs.Room.{HasRoom, NextFits}

-- what stands around a segment, and what comes behind its outermost frame
pub record Outside : Type 0 where
  pub outer : Context
  pub behind : Rest

-- the reduction of the configuration in which the stack stands
abbrev pub next_of : Program → instances.Store → Shape → Context → Rest → Reduced
next_of p u s e r = next p (store_of u) e (stack s.operands) r.ahead r.code

-- a configuration in which the stack stands, with room, and to which a rule applies
pub record Configured (m : Module) (u : instances.Store) (s : Shape) (p : Program) (o : Outside) (e : Context) (r : Rest) : Type 0 where
  pub source : p.source ≡ m
  pub program : IsProgram p
  pub short : AllShort m
  pub narrow : AreNarrow m
  pub stands : StackIs m o.outer o.behind s e r
  pub applies : next_of p u s e r ≢ Stuck
  pub room : HasRoom m s
  pub fits : NextFits m s

-- it goes on, printing these bytes, with the store u and where the stack s stands, in which frames have room
pub record LeadsTo (m : Module) (o : Outside) (out : List ℕ) (u : instances.Store) (s : Shape) (d : Reduced) : Type 0 where
  pub around : Context
  pub rest : Rest
  pub is : d ≡ Went out (store_of u) (record { around = around; operands = stack s.operands; rest = rest })
  pub stands : StackIs m o.outer o.behind s around rest
  pub room : HasRoom m s

-- some configuration in which the stack stands at the instruction, and to which a rule applies
pub record MovesAt (i : Instr) (m : Module) (u : instances.Store) (s : Shape) : Type 0 where
  pub here : instr_of m s.func s.place ≡ Some i
  pub stage : s.stage ≡ Body
  pub p : Program
  pub o : Outside
  pub e : Context
  pub r : Rest
  pub at : Configured m u s p o e r

-- it did what the rules do, printing these bytes; a trap changed nothing
abbrev pub Follows : Did → Module → List ℕ → instances.Store → Shape → instances.Store → Shape → Type 0
Follows did.Went m out u s u' s' = (p : Program) (o : Outside) (e : Context) (r : Rest) → Configured m u s p o e r → LeadsTo m o out u' s' (next_of p u s e r)
Follows (did.Trapped t) m out u s u' s' = ((p : Program) (o : Outside) (e : Context) (r : Rest) → Configured m u s p o e r → next_of p u s e r ≡ Trapped t)
    × (out ≡ []) × (u' ≡ u) × (s' ≡ s)

-- the stack stands in the same function, and in its body if it did
abbrev pub Stays : Shape → Shape → Type 0
Stays s s' = (s'.func ≡ s.func) × (s'.stage ≡ s.stage)

-- ## Calls that touch the stack alone: the same with every store

-- some configuration in which the stack stands at the instruction, and to which a rule applies
pub record MovesAlone (i : Instr) (m : Module) (s : Shape) : Type 0 where
  pub u : instances.Store
  pub moves : MovesAt i m u s

abbrev pub FollowsAlone : Did → Module → Shape → Shape → Type 0
FollowsAlone d m s s' = (u : instances.Store) → Follows d m [] u s u s'
