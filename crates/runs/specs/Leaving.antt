-- What an action wrote to out, and what of its answer is left to write.
use Rattle.std.specs.Prelude.{◌≡◌, ◌⊎◌, ℕ, List, [], Result, Ok, Err}
use Rattle.w_outside.specs.declared.traits.Fault.{Fault}
use Rattle.w_outside.specs.declared.traits.Fault.TheVariants as fault
use Rattle.replies.specs.declared.output.Output.{Output}
use Rattle.replies.specs.declared.status.Status.{Status}
use Rattle.replies.specs.declared.stop.Stop.{Stop}
use Rattle.replies.specs.declared.stop.Stop.TheVariants.{Refused, WriteFault, OutOfMemory}
use Rattle.replies.specs.Answer.{Reply, behind}
use Rattle.runs.specs.Delivery.{WroteFront, Replies}
use Rattle.replies.specs.Stop.{Ends, reply_with, reply_of_refusal}

-- Below, OutGrew and ErrGrew say by what bytes out and err grew, and rose that a count of faults did.

-- out grew by a text, behind which the reply that is left is due
abbrev pub IsLeft : (Reply → Type 0) → Reply → (List ℕ → Type 0) → Type 0
IsLeft Due left OutGrew = (text : List ℕ) × OutGrew text × Due (behind text left)

-- out grew by a first part of what a reply that is due writes to it
abbrev pub IsBegun : (Reply → Type 0) → (List ℕ → Type 0) → Type 0
IsBegun Due OutGrew = (reply : Reply) × Due reply × WroteFront reply.out OutGrew

-- what an action wrote, and what it leaves to write
abbrev pub Leaves : (Reply → Type 0) → Result Output Stop → (List ℕ → Type 0) → Type 0 → Type 0
Leaves Due (Ok output) OutGrew rose = IsLeft Due (reply_with output) OutGrew
Leaves Due (Err (Refused refusal)) OutGrew rose = Ends refusal.status × IsLeft Due (reply_of_refusal refusal) OutGrew
Leaves Due (Err WriteFault) OutGrew rose = IsBegun Due OutGrew × rose
Leaves Due (Err OutOfMemory) OutGrew rose = OutGrew [] ⊎ IsBegun Due OutGrew

-- what was left of an answer is written; behind a fault nothing more is
abbrev pub Delivers : Result Output Stop → Result Status Fault → (List ℕ → Type 0) → (List ℕ → Type 0) → Type 0 → Type 0
Delivers (Ok output) result OutGrew ErrGrew rose = Replies (λ reply. reply ≡ reply_with output) result OutGrew ErrGrew rose
Delivers (Err (Refused refusal)) result OutGrew ErrGrew rose = Replies (λ reply. reply ≡ reply_of_refusal refusal) result OutGrew ErrGrew rose
Delivers (Err WriteFault) result OutGrew ErrGrew rose = (result ≡ Err fault.Failed) × OutGrew [] × ErrGrew []
Delivers (Err OutOfMemory) result OutGrew ErrGrew rose = (result ≡ Err fault.OutOfMemory) × OutGrew [] × ErrGrew []
