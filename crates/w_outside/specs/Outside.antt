-- What a program is told of the files, streams and sinks that it is lent.
use Rattle.std.specs.Prelude.{◌≡◌, ◌+◌, ◌-◌, ◌^◌, ◌<◌, ◌≤◌, ℕ, Bool, true, false, List, [], ◌++◌, length, take, min, ⊤, Option, Some, None, Result, Ok, Err, IsErrOf, OnOk}
use Rattle.std.specs.Io.KnownBytes.{append_known, prepend_known, IsAtEnd}
use Rattle.w_outside.specs.declared.traits.Fault.{Fault}
use Rattle.w_outside.specs.declared.traits.Fault.TheVariants.{Failed}

-- what is told of a name: nothing, that no file has it, or the bytes of its file
pub data Known : Type 0 where
  untold : Known
  missing : Known
  holds : List ℕ → Known

-- a count of faults rose, or stands at its type's end
abbrev pub Rose : ℕ → ℕ → Type 0
Rose before now = min (before + 1) (2 ^ 64 - 1) ≤ now

-- the count didn't fall, it stands where the call came to its end, and `Failed` was answered only where it rose
pub record HasCause {T : Type 0} (before now : ℕ) (result : Result T Fault) : Type 0 where
  pub later : before ≤ now
  pub stays : OnOk result (now ≡ before)
  pub failed : IsErrOf result Failed → Rose before now

-- what an opened name leaves to be read
abbrev pub Opens : Known → Option (List ℕ) → Type 0
Opens untold left = ⊤
Opens missing left = ⊥
Opens (holds bytes) left = left ≡ Some bytes

-- `open` opens a file that may be there, and says that there is none only where that is told; else nothing is open, and
-- nothing is left to read
abbrev pub OpenLeaves : Known → Option (List ℕ) → Result Bool Fault → Type 0
OpenLeaves known left (Ok true) = Opens known left
OpenLeaves known left (Ok false) = (known ≡ missing) × (left ≡ Some [])
OpenLeaves known left (Err fault) = left ≡ Some []

-- `read` gives the next n bytes, none only at the end or with no room, and a failed one gives nothing
abbrev pub ReadGives : Option (List ℕ) → Option (List ℕ) → List ℕ → Result ℕ Fault → Type 0
ReadGives before now buffer (Ok n) =
    (before ≡ prepend_known (take n buffer) now) × (n ≡ 0 → 0 < length buffer → IsAtEnd now)
ReadGives before now buffer (Err fault) = now ≡ before

-- a `read` fills the buffer, or gives all that is left
abbrev pub ReadsWhole : Option (List ℕ) → List ℕ → Result ℕ Fault → Type 0
ReadsWhole (Some left) buffer (Ok n) = n ≡ min (length buffer) (length left)
ReadsWhole (Some left) buffer (Err fault) = ⊤
ReadsWhole None buffer result = ⊤

-- `write` takes the first n bytes of the piece, at least one where there is one, and a failed one takes nothing
abbrev pub WriteTakes : Option (List ℕ) → Option (List ℕ) → List ℕ → Result ℕ Fault → Type 0
WriteTakes before now piece (Ok n) =
    (n ≤ length piece) × (0 < length piece → 0 < n) × (now ≡ append_known before (take n piece))
WriteTakes before now piece (Err fault) = now ≡ before

-- the bytes that a sink holds, where they are told, grew by these
abbrev pub Grew : Option (List ℕ) → Option (List ℕ) → List ℕ → Type 0
Grew before now added = now ≡ append_known before added

-- the first part of a text
pub record IsFront (part whole : List ℕ) : Type 0 where
  pub rest : List ℕ
  pub joined : part ++ rest ≡ whole

-- the sink grew by a first part of the text
pub record GrewByFront (before now : Option (List ℕ)) (text : List ℕ) : Type 0 where
  pub part : List ℕ
  pub front : IsFront part text
  pub grew : Grew before now part

-- nothing is left where nothing is open, and else it is not told
abbrev pub told_where_closed : {X : Type 0} → Option X → Option (List ℕ)
told_where_closed None = Some []
told_where_closed (Some file) = None
