use Rattle.std.proofs.Common.{◌≡◌, [], ◌∷◌, drop, refl, sym, ap, ◌∙◌, Result, Ok, Err, arith, rules}
use Rattle.std.specs.Prelude.{ℤ, pos, negsuc, OnErr}
use Rattle.std.proofs.lemmas.Int.{to_z-of_z}
use mir.Syntax.{w32}
use mir.Val.{of_z, SFits}
use Rattle.w_num.specs.Signed.{inverse}
use Rattle.w_memory.specs.Memory.{grow}
use Rattle.w_tables.specs.Operations.{with_memory}
use Rattle.w_memory_ops.proofs.Parts.{same_memory}
use Rattle.w_memory_ops.proofs.MemorySizes.{grow_needs, grow_follows}
use Rattle.w_memory_ops.proofs.sizes.grow.Goals as goal

pub peek-requires : goal.peek-requires
peek-requires c = record { some = (grow_needs c.args.index c.requires.moves).operands.some }

pub i32_of-pages-requires : goal.i32_of-pages-requires
i32_of-pages-requires c = ((grow_needs c.args.index c.requires.moves).operands.of (c.peek.result ∷ []) (drop 1 c.args.stack.now.operands) c.peek.ensures.value refl).0

pub memory_with-memory-requires-clause-memory : goal.memory_with-memory-requires-clause-memory
memory_with-memory-requires-clause-memory c = (grow_needs c.args.index c.requires.moves).memory

pub replace-requires-clause-place : goal.replace-requires-clause-place
replace-requires-clause-place c = (grow_needs c.args.index c.requires.moves).operands.place

-- the bits of a signed number are those of its reading
bits_are : (z : ℤ) → of_z w32 z ≡ inverse 32 z
bits_are (pos n) = refl
bits_are (negsuc n) = omega arith

-- what holds anyway holds where there is an error
always : {T E P : Type 0} (r : Result T E) → P → OnErr r P
always (Ok x) p = tt
always (Err e) p = p

pub returns-in_err-answer-clause-store : goal.returns-in_err-answer-clause-store
returns-in_err-answer-clause-store c =
    always c.from_residual.result
    (ap (with_memory c.args.store.now c.args.index) c.in_err-answer.ensures.err ∙ same_memory c.args.store.now c.args.index c.memory_with-memory.result.0.now c.memory_with-memory.ensures.memory)

pub returns-clause-goes : goal.returns-clause-goes
returns-clause-goes c =
    let fits : SFits w32 c.in_ok-answer.answer = search rules in
    grow_follows c.args.index c.requires.moves c.peek.result (drop 1 c.args.stack.now.operands) c.memory_with-memory.result.0.now c.grow.new.self
    c.in_ok-answer.answer c.cast_unsigned.result c.replace.new.stack c.peek.ensures.value c.memory_with-memory.ensures.memory
    (ap (grow c.memory_with-memory.result.0.now) (sym c.i32_of-pages.ensures) ∙ c.in_ok-answer.ensures.grown)
    (c.cast_unsigned.ensures ∙ ap (of_z w32) (to_z-of_z w32 c.in_ok-answer.answer fits) ∙ bits_are c.in_ok-answer.answer) c.replace.ensures.after
