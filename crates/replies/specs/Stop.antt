-- The reply that an answer is: an output, or a refusal. A fault is no reply.
use Rattle.std.specs.Prelude.{◌≡◌, List, ℕ, [], ⊤, Result, Ok, Err}
use Rattle.replies.specs.declared.output.Output.{Output}
use Rattle.replies.specs.declared.status.Status.{Status}
use Rattle.replies.specs.declared.status.Status.TheVariants as status
use Rattle.replies.specs.declared.stop.Refusal.{Refusal}
use Rattle.replies.specs.declared.stop.Stop.{Stop}
use Rattle.replies.specs.declared.stop.Stop.TheVariants.{Refused, WriteFault, OutOfMemory}
use Rattle.replies.specs.Answer.{Reply, in_file, with_err}
use Rattle.replies.specs.Pieces.{joined}
use Rattle.replies.specs.Status.{code_of}

abbrev pub reply_with : Output → Reply
reply_with output = record { out = joined output.pieces.items; err = joined output.err.items; status = 0 }

abbrev pub reply_of_refusal : Refusal → Reply
reply_of_refusal refusal = record { out = []; err = joined refusal.lines.items; status = code_of refusal.status }

-- a status with which a call ends by itself
abbrev pub Ends : Status → Type 0
Ends status.WriteFault = ⊥
Ends status.OutOfMemory = ⊥
Ends _ = ⊤

-- what is refused is so by a reply that is due; nothing was written yet
abbrev pub Refuses : (Reply → Type 0) → Stop → Type 0
Refuses Due (Refused refusal) = Ends refusal.status × Due (reply_of_refusal refusal)
Refuses Due WriteFault = ⊥
Refuses Due OutOfMemory = ⊤

-- an answer is a reply that is due
abbrev pub Gives : (Reply → Type 0) → Result Output Stop → Type 0
Gives Due (Ok output) = Due (reply_with output)
Gives Due (Err stop) = Refuses Due stop

-- an answer comes with a status by which a call ends by itself
abbrev pub EndsByItself : Result Output Stop → Type 0
EndsByItself (Ok output) = ⊤
EndsByItself (Err (Refused refusal)) = Ends refusal.status
EndsByItself (Err WriteFault) = ⊤
EndsByItself (Err OutOfMemory) = ⊤

-- an answer that is a reply
abbrev pub IsReply : Result Output Stop → Type 0
IsReply (Ok output) = ⊤
IsReply (Err (Refused refusal)) = ⊤
IsReply (Err WriteFault) = ⊥
IsReply (Err OutOfMemory) = ⊥

-- an answer that writes a line more to err than the old one; memory may run out
abbrev pub WritesMore : List ℕ → Result Output Stop → Result Output Stop → Type 0
WritesMore text old (Ok output) = (before : Output) × (old ≡ Ok before) × (reply_with output ≡ with_err text (reply_with before))
WritesMore text old (Err (Refused refusal)) =
    (before : Refusal) × (old ≡ Err (Refused before)) × (refusal.status ≡ before.status)
    × (reply_of_refusal refusal ≡ with_err text (reply_of_refusal before))
WritesMore text old (Err WriteFault) = old ≡ Err WriteFault
WritesMore text old (Err OutOfMemory) = ⊤

-- the refusal of a file of several, with the file's number before its lines; memory may run out
abbrev pub IsOfFile : ℕ → Stop → Stop → Type 0
IsOfFile f stop (Refused refusal) =
    (before : Refusal) × (stop ≡ Refused before) × (refusal.status ≡ before.status)
    × (reply_of_refusal refusal ≡ in_file f (reply_of_refusal before))
IsOfFile f stop WriteFault = stop ≡ WriteFault
IsOfFile f stop OutOfMemory = ⊤
