-- A configuration in which a stack stands at an instruction that takes operands: what its rule goes on with, in which code and levels.
use Rattle.std.proofs.Common.{◌≡◌, ℕ, suc, List, ◌++◌, Some, ◌∙◌, ap}
use Rattle.w_types.specs.declared.value.Value.{Value}
use Rattle.w_syntax.specs.Code.{Code}
use Rattle.w_syntax.specs.declared.instructions.Instr.TheVariants as flat
use Rattle.w_syntax.specs.declared.instructions.Op.{Op}
use Rattle.w_syntax.specs.declared.module.Module.{Module}
use Rattle.w_segment.specs.declared.entry.Stage.TheVariants.{Body}
use Rattle.w_segment.specs.Shape.{Shape}
use Rattle.w_tables.specs.Store as instances
use Rattle.w_reduce.specs.Terms.{Rest, Context}
use Rattle.w_reduce.specs.Program.{Program}
use Rattle.w_stands.specs.Values.{stack, store_of}
use Rattle.w_stands.specs.Code.{instrs, instr_of, Reads}
use Rattle.w_stands.specs.Stands.{LevelsAre}
use Rattle.w_stands.specs.Steps.{Outside, next_of, Configured}
use Rattle.w_stands.specs.Taking.{Kind, taking, Going, IsTaking, AreOf, taken_of}
use Rattle.w_stands.proofs.AtInstructions.{here, shows_plain}
use Rattle.w_stands.proofs.PlainSteps.{next_is}
use Rattle.w_stands.proofs.TakenOperands.{all_taken}

-- the code behind the instruction, the levels around it, and what the rule comes to
pub record Arrives (m : Module) (u : instances.Store) (s : Shape) (p : Program) (o : Outside) (e : Context) (r : Rest) (ks : List Kind) (go : Going) (args rest : List Value) : Type 0 where
  pub end : ℕ
  pub following : Code
  pub reads : Reads (instrs m s.func) (suc s.place) following end
  pub around : LevelsAre m o.outer o.behind s.func end s.levels e
  pub is : next_of p u s e r ≡ go p (store_of u) e following (taken_of ks args) (stack rest)

-- each configuration in which it stands is such a one
pub arrives : (m : Module) (u : instances.Store) (s : Shape) (p : Program) (o : Outside) (e : Context) (r : Rest) (i : Op) (ks : List Kind) (go : Going) → IsTaking i ks go →
    Configured m u s p o e r → s.stage ≡ Body → instr_of m s.func s.place ≡ Some (flat.Plain i) → (args rest : List Value) → s.operands ≡ args ++ rest → AreOf ks args →
    Arrives m u s p o e r ks go args rest
arrives m u s p o e r i ks go rule a stage at args rest is of =
    let h = here a.stands stage in
    let w = shows_plain i h.reads at in
    record {
      end = h.end;
      following = w.following;
      reads = w.reads;
      around = h.around;
      is =
          next_is m u s p o e r i a stage at
          ∙ rule p (store_of u) e (stack s.operands) w.following
          ∙ ap (λ (l : List Value). taking ks (stack l) (go p (store_of u) e w.following)) is
          ∙ all_taken ks args rest (go p (store_of u) e w.following) of;
    }
