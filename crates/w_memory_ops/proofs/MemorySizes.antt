-- What instructions on a memory's size need, and where they go.
use Rattle.std.proofs.Common.{◌≡◌, ℕ, ◌<◌, List, [], ◌∷◌, Option, Some, length, slice_get, refl, sym, ap, ◌∙◌}
use Rattle.std.proofs.lemmas.Option.{slice_get_within}
use Rattle.lists.specs.Rows.{◌▹◌}
use Rattle.w_types.specs.declared.value.Value.{Value}
use Rattle.w_types.specs.declared.value.Value.TheVariants as value
use Rattle.w_memory.specs.Memory.{Memory, page_count, grow}
use Rattle.std.specs.Prelude.{ℤ}
use Rattle.w_num.specs.Signed.{inverse}
use Rattle.w_syntax.specs.declared.instructions.Instr.TheVariants as flat
use Rattle.w_syntax.specs.declared.instructions.Op.TheVariants as op
use Rattle.w_syntax.specs.declared.memory_instructions.MemoryOp.TheVariants as memory
use Rattle.w_syntax.specs.declared.module.Module.{Module}
use Rattle.w_segment.specs.Shape.{Shape}
use Rattle.w_tables.specs.Store as instances
use Rattle.w_tables.specs.Operations.{with_memory}
use Rattle.w_reduce.specs.Values.{I32}
use Rattle.w_reduce.specs.Terms.{rest_of}
use Rattle.w_reduce.specs.Reduced.{steps_to, or_stuck}
use Rattle.w_reduce.specs.Memories.{with_memory as with_memory_in}
use Rattle.w_stands.specs.Numbers.{bits_in}
use Rattle.w_stands.specs.Values.{stack, store_of}
use Rattle.w_stands.specs.declared.did.Did.TheVariants as did
use Rattle.w_stands.specs.Steps.{MovesAt, Follows}
use Rattle.w_stands.specs.GoingOn.{replaced, IsPushedNext}
use Rattle.w_stands.proofs.NextInstructions.{Needs, take_needs, take_follows, replaced_behind, pushed_behind}
use Rattle.w_stands.proofs.LookedUp.{Found, found}
use Rattle.w_memory_ops.proofs.Operands.{on_operands}
use Rattle.w_memory_ops.proofs.Rules.{one, sizing, size_rule, growing, grow_rule}

-- ## memory.size

-- the memory
pub record SizeNeeds (m : Module) (u : instances.Store) (s : Shape) (x : ℕ) : Type 0 where
  pub operands : Needs m u s [] (sizing x)
  pub there : Found (slice_get u.memories x) (λ (y : Memory). steps_to (store_of u) operands.e (stack s.operands ▹ I32 (page_count y)) (rest_of operands.c))
  pub memory : x < length u.memories

module _ {m : Module} {u : instances.Store} {s : Shape} (x : ℕ) (k : MovesAt (flat.Plain (op.Memory (memory.Size x))) m u s) where
  -- it has it where its rule applies
  pub size_needs : SizeNeeds m u s x
  size_needs =
      let n = take_needs m u s (op.Memory (memory.Size x)) [] (sizing x) (size_rule x) k in
      let r = found (slice_get u.memories x) (λ (y : Memory). steps_to (store_of u) n.e (stack s.operands ▹ I32 (page_count y)) (rest_of n.c)) (n.applies [] s.operands refl tt) in
      record { operands = n; there = r; memory = slice_get_within u.memories x r.item r.is }

  -- the number of pages is pushed
  pub size_follows : (from : Memory) (count : ℕ) (s' : Shape) → slice_get u.memories x ≡ Some from → count ≡ page_count from →
      IsPushedNext (value.I32 count) s s' → Follows did.Went m [] u s u s'
  size_follows from count s' there is after =
      take_follows m u s (op.Memory (memory.Size x)) [] (sizing x) (size_rule x) k.stage k.here [] s.operands refl tt [] u s' (value.I32 count ∷ [])
      (pushed_behind (value.I32 count) s s' after)
      (λ p e c source program.
      ap (λ (o : Option Memory). or_stuck o (λ (y : Memory). steps_to (store_of u) e (stack s.operands ▹ I32 (page_count y)) (rest_of c))) there
      ∙ ap (λ (n : ℕ). steps_to (store_of u) e (stack s.operands ▹ I32 n) (rest_of c)) (sym is))

-- ## memory.grow

-- its operand and the memory
pub record GrowNeeds (m : Module) (u : instances.Store) (s : Shape) (x : ℕ) : Type 0 where
  pub operands : Needs m u s one (growing x)
  pub there : Memory
  pub is : slice_get u.memories x ≡ Some there
  pub memory : x < length u.memories

module _ {m : Module} {u : instances.Store} {s : Shape} (x : ℕ) (k : MovesAt (flat.Plain (op.Memory (memory.Grow x))) m u s) where
  -- it has them where its rule applies
  pub grow_needs : GrowNeeds m u s x
  grow_needs =
      let n = take_needs m u s (op.Memory (memory.Grow x)) one (growing x) (grow_rule x) k in
      let a = on_operands m u s one (growing x) n in
      let r : Found (slice_get u.memories x) _ = found (slice_get u.memories x) _ a.applies in
      record { operands = n; there = r.item; is = r.is; memory = slice_get_within u.memories x r.item r.is }

  -- the answer stands in place of its operand, and the store has the memory that growing left
  pub grow_follows : (top : Value) (rest : List Value) (from from' : Memory) (answer : ℤ) (bits : ℕ) (s' : Shape) → s.operands ≡ top ∷ rest →
      slice_get u.memories x ≡ Some from → grow from (bits_in top) ≡ (answer, from') → bits ≡ inverse 32 answer → s' ≡ replaced 1 (value.I32 bits) s →
      Follows did.Went m [] u s (with_memory u x from') s'
  grow_follows top rest from from' answer bits s' is there grown told after =
      take_follows m u s (op.Memory (memory.Grow x)) one (growing x) (grow_rule x) k.stage k.here (top ∷ []) rest is
      (grow_needs.operands.of (top ∷ []) rest is refl) [] (with_memory u x from') s' (value.I32 bits ∷ []) (replaced_behind 1 (value.I32 bits) s s' after)
      (λ p e c source program.
      let go = λ (z : ℕ) (g : ℤ × Memory). steps_to (with_memory_in (store_of u) z g.1) e (stack rest ▹ I32 (inverse 32 g.0)) (rest_of c) in
      ap (λ (o : Option Memory). or_stuck o (λ (y : Memory). go x (grow y (bits_in top)))) there
      ∙ ap (go x) grown
      ∙ ap (λ (n : ℕ). steps_to (with_memory_in (store_of u) x from') e (stack rest ▹ I32 n) (rest_of c)) (sym told))
