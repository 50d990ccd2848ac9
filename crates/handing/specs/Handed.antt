-- What is handed over of an answer.
use Rattle.std.specs.Prelude.{◌≡◌, ◌⊎◌, ℕ, List, ◌++◌, length, take, drop, min}
use Rattle.fronts.specs.Fronts.{most_counted}
use Rattle.replies.specs.declared.status.Status.{Status}
use Rattle.replies.specs.declared.status.Status.TheVariants as status
use Rattle.replies.specs.declared.stop.Stop.{Stop}
use Rattle.replies.specs.declared.stop.Stop.TheVariants.{Refused, WriteFault, OutOfMemory}
use Rattle.replies.specs.Answer.{Reply}
use Rattle.replies.specs.Pieces.{joined}
use Rattle.replies.specs.Status.{code_of}

-- a buffer took as much of a text as it holds, behind which it is what it was, and the text's length was told
pub record Handed (text before now : List ℕ) (told : ℕ) : Type 0 where
  pub told_is : told ≡ min (length text) most_counted
  pub content : now ≡ take (length before) text ++ drop (length text) before

-- two buffers and the lengths that were told of their texts
pub record Buffers : Type 0 where
  pub out : List ℕ
  pub out_length : ℕ
  pub err : List ℕ
  pub err_length : ℕ

-- a reply that is due was handed over
pub record HandsOver (Due : Reply → Type 0) (ended : Status) (before now : Buffers) : Type 0 where
  pub reply : Reply
  pub due : Due reply
  pub out : Handed reply.out before.out now.out now.out_length
  pub err : Handed reply.err before.err now.err now.err_length
  pub status_is : reply.status ≡ code_of ended

-- memory ran out, and nothing was
pub record HandsNothing (before now : Buffers) : Type 0 where
  pub out : now.out ≡ before.out
  pub out_length : now.out_length ≡ 0
  pub err : now.err ≡ before.err
  pub err_length : now.err_length ≡ 0

-- Two texts were handed over, where a call that wrote them ended so; or memory ran out, and nothing was.
pub data HandsTexts (text told : List ℕ) (ended result : Status) (before now : Buffers) : Type 0 where
  both : (ended ≡ status.OutOfMemory → ⊥) → result ≡ ended → Handed text before.out now.out now.out_length → Handed told before.err now.err now.err_length
      → HandsTexts text told ended result before now
  nothing : result ≡ status.OutOfMemory → HandsNothing before now → HandsTexts text told ended result before now

-- by how the call ended; no write fails
abbrev pub Hands : (Reply → Type 0) → Status → Buffers → Buffers → Type 0
Hands Due status.WriteFault before now = ⊥
Hands Due status.OutOfMemory before now = HandsNothing before now
Hands Due ended before now = HandsOver Due ended before now

-- the same by the status's number
abbrev pub HandsByCode : (Reply → Type 0) → ℕ → Buffers → Buffers → Type 0
HandsByCode Due code before now = (ended : Status) × (code ≡ code_of ended) × Hands Due ended before now

-- ## Refusals, in one buffer

-- nothing was handed over
abbrev pub Untouched : (before now : List ℕ) (told : ℕ) → Type 0
Untouched before now told = (now ≡ before) × (told ≡ 0)

-- a refusal that is due was, with its status
pub record HandsRefusal (Due : Reply → Type 0) (ended : Status) (before now : List ℕ) (told : ℕ) : Type 0 where
  pub reply : Reply
  pub due : Due reply
  pub err : Handed reply.err before now told
  pub status_is : reply.status ≡ code_of ended

-- why there is no answer was handed over, where memory sufficed
abbrev pub HandsStop : Stop → Status → (before now : List ℕ) (told : ℕ) → Type 0
HandsStop (Refused refusal) ended before now told =
    ((ended ≡ refusal.status) × Handed (joined refusal.lines.items) before now told) ⊎ ((ended ≡ status.OutOfMemory) × Untouched before now told)
HandsStop WriteFault ended before now told = (ended ≡ status.WriteFault) × Untouched before now told
HandsStop OutOfMemory ended before now told = (ended ≡ status.OutOfMemory) × Untouched before now told
