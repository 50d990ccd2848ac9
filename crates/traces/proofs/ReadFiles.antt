-- From a file that was read, or wasn't, to what is due of it.
use Rattle.std.proofs.Common.{◌≡◌, ◌≤◌, ◌<◌, inl, inr, subst, List, ℕ, length}
use Rattle.w_outside.specs.Outside.{Known, untold, missing, holds}
use Rattle.replies.specs.Answer.{OnFileOr, OnBytesOr, Reply, input_limit, read_fault}
use Rattle.runs.specs.Delivery.{MayFail}
use Rattle.intake.specs.Reading.{FileRefusalOr, IsTooLong, MayHold}

-- a file that was read, where one that is too long gives this
module _ (too_long : Reply) (Gives : List ℕ → Reply → Type 0) where
  pub on_file : (known : Known) (bytes : List ℕ) (r : Reply) → MayHold known bytes → length bytes ≤ input_limit → Gives bytes r → OnFileOr too_long known Gives r
  on_file untold bytes r may short gives = (bytes, inl (short, gives))
  on_file missing bytes r may short gives = absurd may
  on_file (holds c) bytes r may short gives = subst (λ (b : List ℕ). OnBytesOr too_long Gives b r) may (inl (short, gives))

  on_missing : (k : Known) (r : Reply) → k ≡ missing → r ≡ read_fault → OnFileOr too_long k Gives r
  on_missing untold r e is = absurd (cc)
  on_missing missing r e is = is
  on_missing (holds c) r e is = absurd (cc)

  on_long : (k : Known) (r : Reply) → IsTooLong k → r ≡ too_long → OnFileOr too_long k Gives r
  on_long untold r h is = (h.0, inr (h.2, is))
  on_long missing r h is = absurd h.1
  on_long (holds c) r h is = inr (subst (λ (l : List ℕ). input_limit < length l) h.1 h.2, is)

  -- one that was refused
  pub refusal_on_file : (known : Known) (failed : Type 0) (r : Reply) → FileRefusalOr too_long known failed r → MayFail failed (OnFileOr too_long known Gives) r
  refusal_on_file known failed r (inl gone) = inl (on_missing known r gone.0 gone.1)
  refusal_on_file known failed r (inr (inl long)) = inl (on_long known r long.0 long.1)
  refusal_on_file known failed r (inr (inr f)) = inr f
