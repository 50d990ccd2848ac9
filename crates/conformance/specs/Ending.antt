-- What a call of the program may come to.
use Rattle.std.specs.Prelude.{◌≡◌, ℕ, List, [], Some}
use Rattle.w_outside.specs.Outside.{Known, Rose, Grew}
use Rattle.words.specs.Line.{Line}
use Rattle.replies.specs.Status.{code_of}
use Rattle.replies.specs.declared.status.Status.{Status}
use Rattle.replies.specs.Answer.{Answer}
use Rattle.runs.specs.Delivery.{MayFail, Answered}

-- over files of which so much is told, a call with this line wrote these bytes to out and to err, and ended with this code:
-- all of the answer, or where some call on the files failed the line `read fault`; nothing is said of a write fault and of
-- want of memory
pub record IsEndingOf (line : Line) (told : List ℕ → Known) (code : ℕ) (out err : List ℕ) : Type 0 where
  pub status : Status
  pub file : List ℕ → Known
  pub before : ℕ
  pub after : ℕ
  pub coded : code ≡ code_of status
  pub same : (name : List ℕ) → file name ≡ told name
  pub answered : Answered status (MayFail (Rose before after) (Answer line file)) (Grew (Some []) (Some out)) (Grew (Some []) (Some err))
