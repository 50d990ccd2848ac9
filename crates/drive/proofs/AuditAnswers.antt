-- What an audit of bytes gives: there is one reply at most, and there can't be none.
use Rattle.std.proofs.Common.{◌≡◌, ℕ, List, inl, inr, refl, sym, ap, subst, ◌∙◌}
use Rattle.w_reduce.specs.Program.{Program}
use Rattle.w_reduce.specs.Run.{Run}
use Rattle.w_reduce.specs.Store.{Store}
use Rattle.w_reduce.specs.Terms.{Term}
use Rattle.w_words.proofs.Pieces.{text_is_right, least_is_one}
use Rattle.w_trace.specs.declared.trace.Trace.{Trace}
use Rattle.w_trace.specs.Lines.{IsText}
use Rattle.w_trace.specs.Traces.{trace_of}
use Rattle.w_trace.proofs.Differences.{one_difference, no_difference, one_or_differ}
use Rattle.w_trace.proofs.OneAnswer.{one_unsound, not_both, one_shot_or_unsound}
use Rattle.w_trace.proofs.Texts.{one_trace, text_or_wrong}
use Rattle.replies.specs.Answer.{Reply, no_trace, unsound, differs, ComparedGives, JudgedGives, AuditGives}

-- ## One at most

module _ (y : Trace) (s : Store) (x : Trace) where
  compared_once : (q r : Reply) → ComparedGives y s x q → ComparedGives y s x r → q ≡ r
  compared_once q r (inl h) (inl k) = h.2 ∙ ap differs (one_difference x y h.0 k.0 h.1 k.1) ∙ sym k.2
  compared_once q r (inl h) (inr k) = absurd (no_difference x y h.0 k.0 h.1)
  compared_once q r (inr h) (inl k) = absurd (no_difference x y k.0 h.0 k.1)
  compared_once q r (inr h) (inr k) = h.1 ∙ sym k.1

  judged_once : (q r : Reply) → JudgedGives y s x q → JudgedGives y s x r → q ≡ r
  judged_once q r (inl h) (inl k) = h.2 ∙ ap unsound (one_unsound x.events h.0 k.0 h.1 k.1) ∙ sym k.2
  judged_once q r (inl h) (inr k) = absurd (not_both x.events h.0 k.0 h.1)
  judged_once q r (inr h) (inl k) = absurd (not_both x.events k.0 h.0 k.1)
  judged_once q r (inr h) (inr k) = compared_once q r h.1 k.1

module _ (steps : ℕ) (p : Program) (s : Store) (t : Term) (bytes : List ℕ) where
  pub audited_once : (q r : Reply) → AuditGives steps p s t bytes q → AuditGives steps p s t bytes r → q ≡ r
  audited_once q r (inl h) (inl k) = h.2 ∙ ap no_trace (least_is_one IsText bytes h.0 k.0 h.1 k.1) ∙ sym k.2
  audited_once q r (inl h) (inr k) = absurd (text_is_right IsText bytes h.0 (k.0, k.1) h.1)
  audited_once q r (inr h) (inl k) = absurd (text_is_right IsText bytes k.0 (h.0, h.1) k.1)
  audited_once q r (inr h) (inr k) =
      let y = trace_of p s t steps in
      let now = (Run p s t steps).store in
      judged_once y now h.0 q r h.2 (subst (λ (x : Trace). JudgedGives y now x r) (one_trace k.0 h.0 bytes k.1 h.1) k.2)

-- ## There can't be none

abbrev NotNone : (Reply → Type 0) → Type 0
NotNone Due = ((r : Reply) → Due r → ⊥) → ⊥

compared_total : (y : Trace) (s : Store) (x : Trace) → NotNone (ComparedGives y s x)
compared_total y s x none = one_or_differ x y (λ l d. none _ (inl (l, d, refl))) (λ e. none _ (inr (e, refl)))

judged_total : (y : Trace) (s : Store) (x : Trace) → NotNone (JudgedGives y s x)
judged_total y s x none = elim (one_shot_or_unsound x.events) [
  | inl one ↦ compared_total y s x (λ r h. none r (inr (one, h)))
  | inr h ↦ none _ (inl (h.0, h.1, refl))
]

pub audited_total : (steps : ℕ) (p : Program) (s : Store) (t : Term) (bytes : List ℕ) → NotNone (AuditGives steps p s t bytes)
audited_total steps p s t bytes none = elim (text_or_wrong bytes) [
  | inl h ↦ judged_total (trace_of p s t steps) (Run p s t steps).store h.0 (λ r k. none r (inr (h.0, h.1, k)))
  | inr h ↦ none _ (inl (h.0, h.1, refl))
]
