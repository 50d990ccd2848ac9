-- What instructions need that change the memory and give nothing, and where they go.
use Rattle.std.proofs.Common.{◌≡◌, ℕ, ◌<◌, List, [], ◌++◌, Option, Some, None, length, slice_get, sym, ap, ◌∙◌, subst}
use Rattle.std.specs.Prelude.{IfNone}
use Rattle.std.proofs.lemmas.Option.{slice_get_within}
use Rattle.lists.specs.Rows.{Row}
use Rattle.w_types.specs.declared.value.Value.{Value}
use Rattle.w_memory.specs.Memory.{Memory, left_by}
use Rattle.w_syntax.specs.Code.{Code}
use Rattle.w_syntax.specs.declared.instructions.Instr.TheVariants as flat
use Rattle.w_syntax.specs.declared.instructions.Op.{Op}
use Rattle.w_syntax.specs.declared.module.Module.{Module}
use Rattle.w_segment.specs.Shape.{Shape}
use Rattle.w_tables.specs.Store as instances
use Rattle.w_tables.specs.Operations.{with_memory}
use Rattle.w_reduce.specs.Values.{Val}
use Rattle.w_reduce.specs.Store.{Store}
use Rattle.w_reduce.specs.Terms.{rest_of, Context}
use Rattle.w_reduce.specs.Program.{Program}
use Rattle.w_reduce.specs.Reduced.{Reduced, Went, steps_to, or_stuck, or_trap}
use Rattle.w_reduce.specs.Memories.{with_memory as with_memory_in}
use Rattle.w_reduce.specs.declared.trap.Trap.TheVariants as trap
use Rattle.w_stands.specs.Values.{stack, store_of}
use Rattle.w_stands.specs.declared.did.Did.{Did}
use Rattle.w_stands.specs.declared.did.Did.TheVariants as did
use Rattle.w_stands.specs.Steps.{MovesAt, Follows}
use Rattle.w_stands.specs.Taking.{Kind, Taken, Going, IsTaking, AreOf, taken_of}
use Rattle.w_stands.proofs.NextInstructions.{Needs, take_needs, take_follows, take_traps, dropped_behind}
use Rattle.w_memory_ops.specs.Changing.{Source, source_of, reading, Change, changing, did_of, finished}
use Rattle.w_stands.proofs.LookedUp.{found}
use Rattle.w_memory_ops.proofs.Parts.{IsThere, read, reads, source_there, same_memory}
use Rattle.w_memory_ops.proofs.Operands.{on_operands}

-- ## The rule, from its end on

module _ (x : ℕ) (y : Source) (f : Change) (s : Store) (e : Context) (c : Code) (seen : List Taken) (rest : Row Val) where
  -- with the memory that it left
  abbrev left : Memory → Reduced
  left m = steps_to (with_memory_in s x m) e rest (rest_of c)

  -- with the bytes that it reads
  abbrev changed : Memory → List ℕ → Reduced
  changed m bytes = or_trap trap.MemoryOutOfBounds (f bytes seen m) left

  -- with the memory that it finds
  abbrev sourced : Memory → Reduced
  sourced m = reading s y (changed m)

-- ## What it needs

-- its operands, the memory, and what it reads
pub record ChangeNeeds (m : Module) (u : instances.Store) (s : Shape) (ks : List Kind) (x : ℕ) (y : Source) (go : Going) : Type 0 where
  pub operands : Needs m u s ks go
  pub memory : x < length u.memories
  pub source : IsThere u y

module _ (m : Module) (u : instances.Store) (s : Shape) (i : Op) (ks : List Kind) (x : ℕ) (y : Source) (f : Change)
    (rule : IsTaking i ks (changing x y f)) (k : MovesAt (flat.Plain i) m u s) where
  abbrev needs : Needs m u s ks (changing x y f)
  needs = take_needs m u s i ks (changing x y f) rule k

  -- it has them where its rule applies
  pub change_needs : ChangeNeeds m u s ks x y (changing x y f)
  change_needs =
      let a = on_operands m u s ks (changing x y f) needs in
      let r = found (slice_get u.memories x) (sourced x y f (store_of u) needs.e needs.c a.seen (stack a.rest)) a.applies in
      let b = read (store_of u) y (changed x y f (store_of u) needs.e needs.c a.seen (stack a.rest) r.item) r.applies in
      record { operands = needs; memory = slice_get_within u.memories x r.item r.is; source = source_there u y b.bytes b.is }

  -- ## Where it goes

  module _ (args rest : List Value) (is : s.operands ≡ args ++ rest) (long : length args ≡ length ks)
      (memory memory' : Memory) (there : slice_get u.memories x ≡ Some memory) (bytes : List ℕ) (source : source_of (store_of u) y ≡ Some bytes) where
    abbrev of : AreOf ks args
    of = needs.of args rest is long

    abbrev seen : List Taken
    seen = taken_of ks args

    -- what the rule comes to in any configuration, until it changes the memory
    comes_to : (p : Program) (e : Context) (c : Code) →
        changing x y f p (store_of u) e c seen (stack rest) ≡ or_trap trap.MemoryOutOfBounds (f bytes seen memory) (left x y f (store_of u) e c seen (stack rest))
    comes_to p e c =
        ap (λ (o : Option Memory). or_stuck o (sourced x y f (store_of u) e c seen (stack rest))) there
        ∙ reads (store_of u) y (changed x y f (store_of u) e c seen (stack rest) memory) bytes source

    -- and goes on
    changes : (p : Program) (e : Context) (c : Code) → f bytes seen memory ≡ Some memory' →
        changing x y f p (store_of u) e c seen (stack rest) ≡ Went [] (store_of (with_memory u x memory')) (record { around = e; operands = stack rest; rest = rest_of c })
    changes p e c made = comes_to p e c ∙ ap (λ (o : Option Memory). or_trap trap.MemoryOutOfBounds o (left x y f (store_of u) e c seen (stack rest))) made

    -- by whether it traps
    by_outcome : (done : Option (Unit {0})) (s' : Shape) → f bytes seen memory ≡ left_by done memory' → IfNone done (memory' ≡ memory) → s' ≡ finished done (length args) s →
        Follows (did_of done) m [] u s (with_memory u x memory') s'
    by_outcome (Some done) s' made unchanged after =
        take_follows m u s i ks (changing x y f) rule k.stage k.here args rest is of [] (with_memory u x memory') s' []
        (dropped_behind (length args) s s' after) (λ p e c from program. changes p e c made)
    by_outcome None s' made unchanged after =
        let same : with_memory u x memory' ≡ u = ap (with_memory u x) unchanged ∙ same_memory u x memory there in
        subst (λ (v : instances.Store). Follows (did.Trapped trap.MemoryOutOfBounds) m [] u s v s') (sym same)
        (take_traps m u s i ks (changing x y f) rule k.stage k.here args rest is of trap.MemoryOutOfBounds s' after
        (λ p e c from program. comes_to p e c ∙ ap (λ (o : Option Memory). or_trap trap.MemoryOutOfBounds o (left x y f (store_of u) e c seen (stack rest))) made))

    -- the same of what the call answers
    pub change_follows : (done : Option (Unit {0})) (d : Did) (s' : Shape) → f bytes seen memory ≡ left_by done memory' →
        IfNone done (memory' ≡ memory) → d ≡ did_of done → s' ≡ finished done (length args) s → Follows d m [] u s (with_memory u x memory') s'
    change_follows done d s' made unchanged told after =
        subst (λ (z : Did). Follows z m [] u s (with_memory u x memory') s') (sym told) (by_outcome done s' made unchanged after)
