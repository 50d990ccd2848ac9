-- What a load needs, and where it goes.
use Rattle.std.proofs.Common.{◌≡◌, ℕ, ◌+◌, ◌<◌, List, [], ◌∷◌, Option, Some, None, length, slice_get, refl, sym, ap, ◌∙◌}
use Rattle.std.proofs.lemmas.Option.{slice_get_within}
use Rattle.lists.specs.Rows.{◌▹◌}
use Rattle.w_types.specs.declared.value.Value.{Value}
use Rattle.w_memory.specs.Memory.{Memory, load}
use Rattle.w_syntax.specs.declared.instructions.Instr.TheVariants as flat
use Rattle.w_syntax.specs.declared.instructions.Op.TheVariants as op
use Rattle.w_syntax.specs.declared.memory_instructions.LoadOp.{LoadOp}
use Rattle.w_syntax.specs.declared.memory_instructions.MemArg.{MemArg}
use Rattle.w_syntax.specs.declared.memory_instructions.MemoryOp.TheVariants as memory
use Rattle.w_syntax.specs.declared.module.Module.{Module}
use Rattle.w_segment.specs.Shape.{Shape}
use Rattle.w_tables.specs.Store as instances
use Rattle.w_reduce.specs.Values.{Val, val}
use Rattle.w_reduce.specs.Terms.{rest_of}
use Rattle.w_reduce.specs.Reduced.{steps_to, or_stuck, or_trap, number}
use Rattle.w_reduce.specs.Memories.{loaded, loaded_size, loaded_type}
use Rattle.w_reduce.specs.declared.trap.Trap.TheVariants as trap
use Rattle.w_stands.specs.Numbers.{bits_in, value_of}
use Rattle.w_stands.specs.Values.{stack, store_of}
use Rattle.w_stands.specs.declared.did.Did.TheVariants as did
use Rattle.w_stands.specs.Steps.{MovesAt, Follows}
use Rattle.w_stands.specs.GoingOn.{replaced}
use Rattle.w_stands.proofs.Numbers.{number_val}
use Rattle.w_stands.proofs.NextInstructions.{Needs, take_needs, take_follows, take_traps, replaced_behind}
use Rattle.w_stands.proofs.LookedUp.{Found, found}
use Rattle.w_memory_ops.proofs.Operands.{on_operands}
use Rattle.w_memory_ops.proofs.Rules.{one, loading, load_rule}

-- its operand and the memory
pub record LoadNeeds (m : Module) (u : instances.Store) (s : Shape) (o : LoadOp) (x offset : ℕ) : Type 0 where
  pub operands : Needs m u s one (loading o x offset)
  pub memory : x < length u.memories

module _ {m : Module} {u : instances.Store} {s : Shape} (o : LoadOp) (arg : MemArg) (k : MovesAt (flat.Plain (op.Memory (memory.Load o arg))) m u s) where
  -- it has them where its rule applies
  pub load_needs : LoadNeeds m u s o arg.memory arg.offset
  load_needs =
      let n = take_needs m u s (op.Memory (memory.Load o arg)) one (loading o arg.memory arg.offset) (load_rule o arg) k in
      let a = on_operands m u s one (loading o arg.memory arg.offset) n in
      let r : Found (slice_get u.memories arg.memory) _ = found (slice_get u.memories arg.memory) _ a.applies in
      record { operands = n; memory = slice_get_within u.memories arg.memory r.item r.is }

  module _ (top : Value) (rest : List Value) (is : s.operands ≡ top ∷ rest) (from : Memory) (there : slice_get u.memories arg.memory ≡ Some from) where
    -- it reads a number
    pub load_follows : (n : ℕ) (v : Value) (s' : Shape) → load from (bits_in top + arg.offset) (loaded_size o) ≡ Some n → v ≡ value_of (loaded_type o) (loaded o n) →
        s' ≡ replaced 1 v s → Follows did.Went m [] u s u s'
    load_follows n v s' reads made after =
        take_follows m u s (op.Memory (memory.Load o arg)) one (loading o arg.memory arg.offset) (load_rule o arg) k.stage k.here (top ∷ []) rest is
        (load_needs.operands.of (top ∷ []) rest is refl) [] u s' (v ∷ []) (replaced_behind 1 v s s' after)
        (λ p e c source program.
        let go = λ (x : ℕ). steps_to (store_of u) e (stack rest ▹ number (loaded_type o) (loaded o x)) (rest_of c) in
        ap (λ (x : Option Memory). or_stuck x (λ (y : Memory). or_trap trap.MemoryOutOfBounds (load y (bits_in top + arg.offset) (loaded_size o)) go)) there
        ∙ ap (λ (x : Option ℕ). or_trap trap.MemoryOutOfBounds x go) reads
        ∙ ap (λ (x : Val). steps_to (store_of u) e (stack rest ▹ x) (rest_of c)) (sym (ap val made ∙ number_val (loaded_type o) (loaded o n))))

    -- it reads past the end
    pub load_traps : load from (bits_in top + arg.offset) (loaded_size o) ≡ None → Follows (did.Trapped trap.MemoryOutOfBounds) m [] u s u s
    load_traps reads =
        take_traps m u s (op.Memory (memory.Load o arg)) one (loading o arg.memory arg.offset) (load_rule o arg) k.stage k.here (top ∷ []) rest is
        (load_needs.operands.of (top ∷ []) rest is refl) trap.MemoryOutOfBounds s refl
        (λ p e c source program.
        let go = λ (x : ℕ). steps_to (store_of u) e (stack rest ▹ number (loaded_type o) (loaded o x)) (rest_of c) in
        ap (λ (x : Option Memory). or_stuck x (λ (y : Memory). or_trap trap.MemoryOutOfBounds (load y (bits_in top + arg.offset) (loaded_size o)) go)) there
        ∙ ap (λ (x : Option ℕ). or_trap trap.MemoryOutOfBounds x go) reads)
