-- What reading a file comes to.
use Rattle.std.specs.Prelude.{◌≡◌, ◌⊎◌, ◌+◌, ◌<◌, ◌≤◌, ℕ, List, [], length, ⊤, Option, Some, Result, Ok, Err}
use Rattle.std.specs.Io.KnownBytes.{prepend_known}
use Rattle.w_outside.specs.Outside.{Known, untold, missing, holds}
use Rattle.intake.specs.declared.input.InputFault.{InputFault}
use Rattle.intake.specs.declared.input.InputFault.TheVariants.{TooLong}
use Rattle.w_syntax.specs.Spells.{Spells}
use Rattle.w_syntax.specs.declared.module.Module.{Module}
use Rattle.replies.specs.Answer.{Reply, BytesRefusal, in_file, read_fault, limit_input, input_limit}

-- the name may give these bytes, by what is told of it
abbrev pub MayHold : Known → List ℕ → Type 0
MayHold untold bytes = ⊤
MayHold missing bytes = ⊥
MayHold (holds known) bytes = bytes ≡ known

-- the name may give too many bytes
abbrev pub IsTooLong : Known → Type 0
IsTooLong known = (bytes : List ℕ) × MayHold known bytes × (input_limit < length bytes)

-- why a file gives no bytes to judge, where one that is too long gives this
abbrev pub FileRefusalOr : Reply → Known → Type 0 → Reply → Type 0
FileRefusalOr too_long known failed reply = ((known ≡ missing) × (reply ≡ read_fault))
    ⊎ ((IsTooLong known × (reply ≡ too_long)) ⊎ (failed × (reply ≡ read_fault)))

abbrev pub FileRefusal : Known → Type 0 → Reply → Type 0
FileRefusal = FileRefusalOr limit_input

-- ## Files of several, each a module

-- the name may give bytes that aren't too many and spell this module
abbrev pub MayBe : Known → Module → Type 0
MayBe known m = (bytes : List ℕ) × MayHold known bytes × (length bytes ≤ input_limit) × Spells bytes m

-- the name may give bytes that aren't too many and are refused
abbrev pub JudgedRefusal : ℕ → Known → Reply → Type 0
JudgedRefusal f known reply =
    (bytes : List ℕ) × MayHold known bytes × (length bytes ≤ input_limit) × ((refused : Reply) × BytesRefusal bytes refused × (reply ≡ in_file f refused))

-- why file f gives no module
abbrev pub ModuleFileRefusal : ℕ → Known → Type 0 → Reply → Type 0
ModuleFileRefusal f known failed reply = FileRefusalOr (in_file f limit_input) known failed reply ⊎ JudgedRefusal f known reply

-- what was left is a first part, of at most so many bytes, and what is left
pub record TakesPart (most : ℕ) (before now : Option (List ℕ)) : Type 0 where
  pub part : List ℕ
  pub taken : before ≡ prepend_known part now
  pub short : length part ≤ most

-- of a file whose bytes are told, at most one byte more than the limit was taken
abbrev pub LeavesRest : Known → Option (List ℕ) → Type 0
LeavesRest (holds bytes) left = TakesPart (input_limit + 1) (Some bytes) left
LeavesRest untold left = ⊤
LeavesRest missing left = ⊤

-- so it is after each reading, where not a call failed that leaves nothing open
abbrev pub ReadsPart : {T : Type 0} → Known → Option (List ℕ) → Result T InputFault → Type 0
ReadsPart known left (Ok bytes) = LeavesRest known left
ReadsPart known left (Err TooLong) = LeavesRest known left
ReadsPart known left (Err fault) = (left ≡ Some []) ⊎ LeavesRest known left
