-- Reductions of an instruction that holds no others, and goes on to the next one.
use Rattle.std.proofs.Common.{◌≡◌, ℕ, suc, ◌+◌, ◌<◌, List, [], Some, length, ap, ◌∙◌, arith, add-one}
use Rattle.std.specs.Prelude.{◌≢◌, ◌^◌}
use Rattle.std.proofs.lemmas.Option.{slice_get_within}
use Rattle.w_syntax.specs.Code.{Code}
use Rattle.w_syntax.specs.declared.instructions.Instr.{Instr}
use Rattle.w_syntax.specs.declared.instructions.Instr.TheVariants as flat
use Rattle.w_syntax.specs.declared.instructions.Op.{Op}
use Rattle.w_syntax.specs.declared.module.Module.{Module}
use Rattle.w_segment.specs.declared.entry.Stage.TheVariants.{Body}
use Rattle.w_segment.specs.Shape.{Shape}
use Rattle.w_tables.specs.Store as instances
use Rattle.w_reduce.specs.Terms.{Rest, rest_of, Context}
use Rattle.w_reduce.specs.Program.{Program}
use Rattle.w_reduce.specs.Reduced.{Went, Stuck}
use Rattle.w_reduce.specs.Reduce.{next, instruction}
use Rattle.w_stands.specs.Values.{stack, store_of}
use Rattle.w_stands.specs.Code.{instrs, instr_of}
use Rattle.w_stands.specs.Steps.{Outside, next_of, Configured, LeadsTo}
use Rattle.w_stands.proofs.RoomOfFrames.{same_room}
use Rattle.w_stands.proofs.AtInstructions.{Here, here, ShowsPlain, shows_plain, onward}

-- to the next instruction, in the same levels
pub record Next (s s' : Shape) : Type 0 where
  pub levels : s'.levels ≡ s.levels
  pub func : s'.func ≡ s.func
  pub place : s'.place ≡ s.place + 1
  pub stage : s'.stage ≡ Body
  pub capacity : s'.capacity ≡ s.capacity

-- there is a place behind each instruction
pub place_fits : (m : Module) (f p : ℕ) (i : Instr) → length (instrs m f) < 2 ^ 32 → instr_of m f p ≡ Some i → p + 1 < 2 ^ 32
place_fits m f p i l h = let w = slice_get_within (instrs m f) p i h in omega (arith, w, l)

module _ (m : Module) (u : instances.Store) (s : Shape) (p : Program) (o : Outside) (e : Context) (r : Rest) (op : Op)
    (a : Configured m u s p o e r) (stage : s.stage ≡ Body) (at : instr_of m s.func s.place ≡ Some (flat.Plain op)) where
  abbrev pub there : Here m o.outer o.behind s e r
  there = here a.stands stage

  abbrev pub shown : ShowsPlain (instrs m s.func) s.place there.code there.end op
  shown = shows_plain op there.reads at

  -- the code behind the instruction
  abbrev pub following : Code
  following = shown.following

  -- what the reduction is
  pub next_is : next_of p u s e r ≡ instruction p (store_of u) e (stack s.operands) op following
  next_is =
      ap (λ (x : Rest). next p (store_of u) e (stack s.operands) x.ahead x.code) there.rest
      ∙ ap (λ (x : Code). next p (store_of u) e (stack s.operands) [] x) shown.is

  -- a rule applies
  pub applies : instruction p (store_of u) e (stack s.operands) op following ≢ Stuck
  applies = λ q. a.applies (next_is ∙ q)

  -- it goes on behind the instruction, with other operands and perhaps another store
  pub went : (out : List ℕ) (u' : instances.Store) (s' : Shape) → Next s s' →
      instruction p (store_of u) e (stack s.operands) op following ≡ Went out (store_of u') (record { around = e; operands = stack s'.operands; rest = rest_of following }) →
      LeadsTo m o out u' s' (next_of p u s e r)
  went out u' s' n g = record {
    around = e;
    rest = rest_of following;
    is = next_is ∙ g;
    stands = onward s.func (suc s.place) s.levels shown.reads there.around n.stage n.func (n.place ∙ add-one s.place) n.levels;
    room = same_room m s s' n.levels n.func n.capacity a.room;
  }
