-- The rules of memory instructions, by the operands that they take.
use Rattle.std.proofs.Common.{ℕ, ◌+◌, ◌%◌, List, [], ◌∷◌, slice_get, refl}
use Rattle.lists.specs.Rows.{◌▹◌}
use Rattle.w_memory.specs.Memory.{page_count, load, store, fill, init, grow}
use Rattle.w_num.specs.Signed.{inverse}
use Rattle.w_syntax.specs.declared.numeric.IntType.TheVariants as int
use Rattle.w_syntax.specs.declared.instructions.Op.TheVariants as op
use Rattle.w_syntax.specs.declared.memory_instructions.LoadOp.{LoadOp}
use Rattle.w_syntax.specs.declared.memory_instructions.StoreOp.{StoreOp}
use Rattle.w_syntax.specs.declared.memory_instructions.MemArg.{MemArg}
use Rattle.w_syntax.specs.declared.memory_instructions.MemoryOp.TheVariants as memory
use Rattle.w_reduce.specs.declared.trap.Trap.TheVariants as trap
use Rattle.w_reduce.specs.Values.{I32}
use Rattle.w_reduce.specs.Terms.{rest_of}
use Rattle.w_reduce.specs.Reduced.{steps_to, or_stuck, or_trap, number, ◌>>=◌}
use Rattle.w_reduce.specs.Memories.{loaded, loaded_size, loaded_type, stored_size, stored_type, with_memory, without_data}
use Rattle.w_stands.specs.Taking.{Kind, Number, Going, IsTaking}
use Rattle.w_memory_ops.specs.Changing.{bits_at, Nowhere, InSegment, InMemory, Change, changing}

-- ## The operands

-- an i32
abbrev pub one : List Kind
one = Number int.I32 ∷ []

-- three of them
abbrev pub three : List Kind
three = Number int.I32 ∷ Number int.I32 ∷ Number int.I32 ∷ []

-- the number to be stored, and the address beneath
abbrev pub two : StoreOp → List Kind
two o = Number (stored_type o) ∷ Number int.I32 ∷ []

-- ## Instructions that change the memory and give nothing

-- t.storeN
abbrev pub storing : StoreOp → ℕ → Change
storing o offset bytes xs m = store m (bits_at 1 xs + offset) (stored_size o) (bits_at 0 xs)

pub store_rule : (o : StoreOp) (arg : MemArg) → IsTaking (op.Memory (memory.Store o arg)) (two o) (changing arg.memory Nowhere (storing o arg.offset))
store_rule o arg = λ p s e vs c. refl

-- memory.init and memory.copy
abbrev pub initialising : Change
initialising bytes xs m = init m bytes (bits_at 2 xs) (bits_at 1 xs) (bits_at 0 xs)

pub init_rule : (y x : ℕ) → IsTaking (op.Memory (memory.Init y x)) three (changing x (InSegment y) initialising)
init_rule y x = λ p s e vs c. refl

pub copy_rule : (x y : ℕ) → IsTaking (op.Memory (memory.Copy x y)) three (changing x (InMemory y) initialising)
copy_rule x y = λ p s e vs c. refl

-- memory.fill
abbrev pub filling : Change
filling bytes xs m = fill m (bits_at 2 xs) (bits_at 1 xs % 256) (bits_at 0 xs)

pub fill_rule : (x : ℕ) → IsTaking (op.Memory (memory.Fill x)) three (changing x Nowhere filling)
fill_rule x = λ p s e vs c. refl

-- ## The others

-- t.loadN_sx
abbrev pub loading : LoadOp → ℕ → ℕ → Going
loading o x offset p s e c xs rest = do
  m ← or_stuck (slice_get s.memories x)
  n ← or_trap trap.MemoryOutOfBounds (load m (bits_at 0 xs + offset) (loaded_size o))
  steps_to s e (rest ▹ number (loaded_type o) (loaded o n)) (rest_of c)

pub load_rule : (o : LoadOp) (arg : MemArg) → IsTaking (op.Memory (memory.Load o arg)) one (loading o arg.memory arg.offset)
load_rule o arg = λ p s e vs c. refl

-- memory.size
abbrev pub sizing : ℕ → Going
sizing x p s e c xs rest = do
  m ← or_stuck (slice_get s.memories x)
  steps_to s e (rest ▹ I32 (page_count m)) (rest_of c)

pub size_rule : (x : ℕ) → IsTaking (op.Memory (memory.Size x)) [] (sizing x)
size_rule x = λ p s e vs c. refl

-- memory.grow
abbrev pub growing : ℕ → Going
growing x p s e c xs rest = do
  m ← or_stuck (slice_get s.memories x)
  let g = grow m (bits_at 0 xs) in
      steps_to (with_memory s x g.1) e (rest ▹ I32 (inverse 32 g.0)) (rest_of c)

pub grow_rule : (x : ℕ) → IsTaking (op.Memory (memory.Grow x)) one (growing x)
grow_rule x = λ p s e vs c. refl

-- data.drop
abbrev pub dropping : ℕ → Going
dropping y p s e c xs rest = do
  segment ← or_stuck (slice_get s.datas y)
  steps_to (without_data s y) e rest (rest_of c)

pub drop_rule : (y : ℕ) → IsTaking (op.Memory (memory.DataDrop y)) [] (dropping y)
drop_rule y = λ p s e vs c. refl
