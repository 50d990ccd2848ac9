-- Rules of instructions that change the memory and give nothing, and where they leave a stack.
use Rattle.std.specs.Prelude.{ℕ, zero, suc, List, [], ◌∷◌, Option, Some, None, option_map, slice_get}
use Rattle.w_memory.specs.Memory.{Memory}
use Rattle.w_segment.specs.Shape.{Shape}
use Rattle.w_reduce.specs.declared.trap.Trap.TheVariants as trap
use Rattle.w_reduce.specs.Terms.{rest_of}
use Rattle.w_reduce.specs.Reduced.{Reduced, steps_to, or_stuck, or_trap, ◌>>=◌}
use Rattle.w_reduce.specs.Store.{Store}
use Rattle.w_reduce.specs.Memories.{with_memory}
use Rattle.w_stands.specs.declared.did.Did.{Did}
use Rattle.w_stands.specs.declared.did.Did.TheVariants as did
use Rattle.w_stands.specs.GoingOn.{dropped}
use Rattle.w_stands.specs.Taking.{Taken, Bits, Is, Going}

-- the bits of the operand so many below the topmost
abbrev pub bits_at : ℕ → List Taken → ℕ
bits_at k [] = 0
bits_at zero (Bits n ∷ xs) = n
bits_at zero (Is v ∷ xs) = 0
bits_at (suc k) (x ∷ xs) = bits_at k xs

-- where the bytes stand that an instruction reads beside its operands: nowhere, in a data segment, or in a memory
pub data Source : Type 0 where
  Nowhere : Source
  InSegment : ℕ → Source
  InMemory : ℕ → Source

-- these bytes
abbrev pub source_of : Store → Source → Option (List ℕ)
source_of s Nowhere = Some []
source_of s (InSegment y) = slice_get s.datas y
source_of s (InMemory y) = option_map (λ (m : Memory). m.bytes) (slice_get s.memories y)

-- going on with them
abbrev pub reading : Store → Source → (List ℕ → Reduced) → Reduced
reading s Nowhere go = go []
reading s (InSegment y) go = or_stuck (slice_get s.datas y) go
reading s (InMemory y) go = or_stuck (slice_get s.memories y) (λ (m : Memory). go m.bytes)

-- what an instruction makes of the memory, by those bytes and its operands; none where it traps
abbrev pub Change : Type 0
Change = List ℕ → List Taken → Memory → Option Memory

-- the rule of one that changes memory x
abbrev pub changing : ℕ → Source → Change → Going
changing x y f p s e c xs rest = do
  m ← or_stuck (slice_get s.memories x)
  bytes ← reading s y
  m ← or_trap trap.MemoryOutOfBounds (f bytes xs m)
  steps_to (with_memory s x m) e rest (rest_of c)

-- ## Behind an operation that may trap

-- what it did
abbrev pub did_of : Option (Unit {0}) → Did
did_of (Some done) = did.Went
did_of None = did.Trapped trap.MemoryOutOfBounds

-- so many operands are gone where there was no trap
abbrev pub finished : Option (Unit {0}) → ℕ → Shape → Shape
finished (Some done) n s = dropped n s
finished None n s = s
