-- Statistics behind an answer.
use Rattle.std.proofs.Common.{◌≡◌, ◌⊎◌, ℕ, refl, Bool, true, false, List, [], Result, Ok, Err, inl, inr, sym, ap, subst, ◌∙◌}
use Rattle.std.specs.Prelude.{IsErrAnd}
use Rattle.w_reduce.specs.Run.{RunState}
use Rattle.replies.specs.declared.output.Output.{Output}
use Rattle.replies.specs.declared.stop.Stop.{Stop}
use Rattle.replies.specs.declared.stop.Stop.TheVariants.{Refused, WriteFault, OutOfMemory}
use Rattle.replies.specs.Answer.{Reply, TrapReply, behind, stats_line, with_err, run_reply}
use Rattle.runs.specs.Leaving.{IsLeft, IsBegun, Leaves}
use Rattle.replies.specs.Stop.{Ends, IsReply, WritesMore, reply_with, reply_of_refusal}
use Rattle.runs.proofs.Replies.{front_first}

-- ## Where memory ran out

pub not_reply : (answer : Result Output Stop) → IsErrAnd answer (λ e. e ≡ OutOfMemory) → IsReply answer → ⊥
not_reply (Ok output) is h = is
not_reply (Err stop) is h = subst (λ (e : Stop). IsReply (Err e)) is h

pub more_unwritten : (text : List ℕ) (old answer : Result Output Stop) → IsErrAnd answer (λ e. e ≡ OutOfMemory) → WritesMore text old answer
more_unwritten text old (Ok output) is = absurd is
more_unwritten text old (Err stop) is = subst (λ (e : Stop). WritesMore text old (Err e)) (sym is) tt

-- what isn't a reply writes nothing more
pub more_same : (one other : List ℕ) (old answer : Result Output Stop) → (IsReply old → one ≡ other) → WritesMore one old answer → WritesMore other old answer
more_same one other old (Ok output) same h =
    (h.0, h.1, h.2 ∙ ap (λ (l : List ℕ). with_err l (reply_with h.0)) (same (subst IsReply (sym h.1) tt)))
more_same one other old (Err (Refused refusal)) same h =
    (h.0, h.1, h.2, h.3 ∙ ap (λ (l : List ℕ). with_err l (reply_of_refusal h.0)) (same (subst IsReply (sym h.1) tt)))
more_same one other old (Err WriteFault) same h = h
more_same one other old (Err OutOfMemory) same h = tt

-- ## What is left of an answer, with statistics

module _ (say : TrapReply) (r : RunState) (OutGrew : List ℕ → Type 0) (rose : Type 0) where
  abbrev Plain : Reply → Type 0
  Plain reply = reply ≡ run_reply say false r

  abbrev WithStats : Reply → Type 0
  WithStats reply = reply ≡ run_reply say true r

  more_with_stats : (reply : Reply) → Plain reply → WithStats (with_err (stats_line r) reply)
  more_with_stats reply is = ap (with_err (stats_line r)) is

  more_begun : IsBegun Plain OutGrew → IsBegun WithStats OutGrew
  more_begun h = (with_err (stats_line r) h.0, more_with_stats h.0 h.1, h.2)

  more_left : (before left : Reply) → left ≡ with_err (stats_line r) before → IsLeft Plain before OutGrew → IsLeft WithStats left OutGrew
  more_left before left is h = (h.0, h.1, ap (behind h.0) is ∙ more_with_stats (behind h.0 before) h.2)

  left_begun : (left : Reply) → IsLeft Plain left OutGrew → IsBegun WithStats OutGrew
  left_begun left h = more_begun (behind h.0 left, h.2, (h.0, front_first h.0 left.out, h.1))

  begun : (old : Result Output Stop) → Leaves Plain old OutGrew rose → OutGrew [] ⊎ IsBegun WithStats OutGrew
  begun (Ok output) h = inr (left_begun (reply_with output) h)
  begun (Err (Refused refusal)) h = inr (left_begun (reply_of_refusal refusal) h.1)
  begun (Err WriteFault) h = inr (more_begun h.0)
  begun (Err OutOfMemory) (inl h) = inl h
  begun (Err OutOfMemory) (inr h) = inr (more_begun h)

  pub leaves_more : (old answer : Result Output Stop) → Leaves Plain old OutGrew rose → WritesMore (stats_line r) old answer → Leaves WithStats answer OutGrew rose
  leaves_more old (Ok output) h is =
      more_left (reply_with is.0) (reply_with output) is.2 (subst (λ (a : Result Output Stop). Leaves Plain a OutGrew rose) is.1 h)
  leaves_more old (Err (Refused refusal)) h is =
      let l = subst (λ (a : Result Output Stop). Leaves Plain a OutGrew rose) is.1 h in
      (subst Ends (sym is.2) l.0, more_left (reply_of_refusal is.0) (reply_of_refusal refusal) is.3 l.1)
  leaves_more old (Err WriteFault) h is =
      let l = subst (λ (a : Result Output Stop). Leaves Plain a OutGrew rose) is h in (more_begun l.0, l.1)
  leaves_more old (Err OutOfMemory) h is = begun old h

  -- where they are asked for
  pub leaves_with : (stats : Bool) (old answer : Result Output Stop) → Leaves Plain old OutGrew rose → (stats ≡ true → WritesMore (stats_line r) old answer)
      → (stats ≡ false → answer ≡ old) → Leaves (λ reply. reply ≡ run_reply say stats r) answer OutGrew rose
  leaves_with true old answer h told untold = leaves_more old answer h (told refl)
  leaves_with false old answer h told untold = subst (λ (a : Result Output Stop). Leaves Plain a OutGrew rose) (sym (untold refl)) h
