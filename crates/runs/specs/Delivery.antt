-- What a call of the program, or a part of one, wrote of a reply, and how it ended.
use Rattle.std.specs.Prelude.{◌≡◌, ◌⊎◌, ℕ, List, [], ⊤, Result, Ok, Err}
use Rattle.w_outside.specs.Outside.{IsFront}
use Rattle.w_outside.specs.declared.traits.Fault.{Fault}
use Rattle.w_outside.specs.declared.traits.Fault.TheVariants.{Failed, OutOfMemory}
use Rattle.replies.specs.Status.{code_of}
use Rattle.replies.specs.declared.status.Status.{Status}
use Rattle.replies.specs.declared.status.Status.TheVariants as status
use Rattle.replies.specs.Answer.{Reply, read_fault}
use Rattle.replies.specs.Stop.{Ends}

-- what is due, or where reading failed the line `read fault`
abbrev pub MayFail : Type 0 → (Reply → Type 0) → Reply → Type 0
MayFail failed Due reply = Due reply ⊎ (failed × (reply ≡ read_fault))

-- Below, OutGrew and ErrGrew say by what bytes out and err grew in the call.

-- all of a reply was written
abbrev pub WroteAll : Reply → (List ℕ → Type 0) → (List ℕ → Type 0) → Type 0
WroteAll reply OutGrew ErrGrew = OutGrew reply.out × ErrGrew reply.err

-- a first part of a text was written
abbrev pub WroteFront : List ℕ → (List ℕ → Type 0) → Type 0
WroteFront text Grew = (part : List ℕ) × IsFront part text × Grew part

-- a first part of a reply was written: err is begun when out is whole
abbrev pub WrotePart : Reply → (List ℕ → Type 0) → (List ℕ → Type 0) → Type 0
WrotePart reply OutGrew ErrGrew =
    (WroteFront reply.out OutGrew × ErrGrew []) ⊎ (OutGrew reply.out × WroteFront reply.err ErrGrew)

-- a reply that is due was written whole, and the status is the reply's
abbrev pub Answers : (Reply → Type 0) → Status → (List ℕ → Type 0) → (List ℕ → Type 0) → Type 0
Answers Due status OutGrew ErrGrew =
    (reply : Reply) × Due reply × WroteAll reply OutGrew ErrGrew × (reply.status ≡ code_of status)

-- a first part of a reply that is due was written
abbrev pub Begins : (Reply → Type 0) → (List ℕ → Type 0) → (List ℕ → Type 0) → Type 0
Begins Due OutGrew ErrGrew = (reply : Reply) × Due reply × WrotePart reply OutGrew ErrGrew

-- nothing was written, or a first part of a reply that is due
abbrev pub BeginsAtMost : (Reply → Type 0) → (List ℕ → Type 0) → (List ℕ → Type 0) → Type 0
BeginsAtMost Due OutGrew ErrGrew = (OutGrew [] × ErrGrew []) ⊎ Begins Due OutGrew ErrGrew

-- what writing an answer did: it ends with a status, or stops where a sink failed or memory ran out
abbrev pub Replies : (Reply → Type 0) → Result Status Fault → (List ℕ → Type 0) → (List ℕ → Type 0) → Type 0 → Type 0
Replies Due (Ok status) OutGrew ErrGrew rose = Ends status × Answers Due status OutGrew ErrGrew
Replies Due (Err Failed) OutGrew ErrGrew rose = Begins Due OutGrew ErrGrew × rose
Replies Due (Err OutOfMemory) OutGrew ErrGrew rose = BeginsAtMost Due OutGrew ErrGrew

-- ---- the program's promise, by the status that it ends with

-- with any status but the two below, all of a reply that is due was written
abbrev pub Answered : Status → (Reply → Type 0) → (List ℕ → Type 0) → (List ℕ → Type 0) → Type 0
Answered status.WriteFault Due OutGrew ErrGrew = ⊤
Answered status.OutOfMemory Due OutGrew ErrGrew = ⊤
Answered status Due OutGrew ErrGrew = Answers Due status OutGrew ErrGrew

-- after a write fault or want of memory, a first part was, and nothing more
abbrev pub Stopped : Status → (Reply → Type 0) → (List ℕ → Type 0) → (List ℕ → Type 0) → Type 0
Stopped status.WriteFault Due OutGrew ErrGrew = Begins Due OutGrew ErrGrew
Stopped status.OutOfMemory Due OutGrew ErrGrew = BeginsAtMost Due OutGrew ErrGrew
Stopped status Due OutGrew ErrGrew = ⊤
