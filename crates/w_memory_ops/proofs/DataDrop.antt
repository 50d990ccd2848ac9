-- What `data.drop` needs, and where it goes.
use Rattle.std.proofs.Common.{◌≡◌, ℕ, ◌<◌, List, [], Option, Some, length, slice_get, refl, sym, ap, subst}
use Rattle.w_syntax.specs.declared.instructions.Instr.TheVariants as flat
use Rattle.w_syntax.specs.declared.instructions.Op.TheVariants as op
use Rattle.w_syntax.specs.declared.memory_instructions.MemoryOp.TheVariants as memory
use Rattle.w_syntax.specs.declared.module.Module.{Module}
use Rattle.w_segment.specs.Shape.{Shape}
use Rattle.w_tables.specs.Store as instances
use Rattle.w_tables.specs.Operations.{data_drop}
use Rattle.w_reduce.specs.Terms.{rest_of}
use Rattle.w_reduce.specs.Reduced.{steps_to, or_stuck}
use Rattle.w_reduce.specs.Memories.{without_data}
use Rattle.w_stands.specs.Values.{stack, store_of}
use Rattle.w_stands.specs.declared.did.Did.TheVariants as did
use Rattle.w_stands.specs.Steps.{MovesAt, Follows}
use Rattle.w_stands.specs.GoingOn.{dropped}
use Rattle.w_stands.proofs.NextInstructions.{Needs, take_needs, take_follows, dropped_behind}
use Rattle.w_stands.proofs.LookedUp.{found}
use Rattle.std.proofs.lemmas.Option.{slice_get_within}
use Rattle.w_memory_ops.proofs.Rules.{dropping, drop_rule}

-- the data segment
pub record DropNeeds (m : Module) (u : instances.Store) (s : Shape) (y : ℕ) : Type 0 where
  pub operands : Needs m u s [] (dropping y)
  pub bytes : List ℕ
  pub is : slice_get u.datas y ≡ Some bytes
  pub segment : y < length u.datas

module _ {m : Module} {u : instances.Store} {s : Shape} (y : ℕ) (k : MovesAt (flat.Plain (op.Memory (memory.DataDrop y))) m u s) where
  -- it is there where its rule applies
  pub drop_needs : DropNeeds m u s y
  drop_needs =
      let n = take_needs m u s (op.Memory (memory.DataDrop y)) [] (dropping y) (drop_rule y) k in
      let r = found (slice_get u.datas y) (λ (bytes : List ℕ). steps_to (without_data (store_of u) y) n.e (stack s.operands) (rest_of n.c)) (n.applies [] s.operands refl tt) in
      record { operands = n; bytes = r.item; is = r.is; segment = slice_get_within u.datas y r.item r.is }

  -- the segment is empty behind it
  pub drop_follows : (u' : instances.Store) (s' : Shape) → u' ≡ data_drop u y → s' ≡ dropped 0 s → Follows did.Went m [] u s u' s'
  drop_follows u' s' now after =
      subst (λ (v : instances.Store). Follows did.Went m [] u s v s') (sym now)
      (take_follows m u s (op.Memory (memory.DataDrop y)) [] (dropping y) (drop_rule y) k.stage k.here [] s.operands refl tt [] (data_drop u y) s' []
      (dropped_behind 0 s s' after)
      (λ p e c source program.
      ap (λ (o : Option (List ℕ)). or_stuck o (λ (bytes : List ℕ). steps_to (without_data (store_of u) y) e (stack s.operands) (rest_of c))) drop_needs.is))
