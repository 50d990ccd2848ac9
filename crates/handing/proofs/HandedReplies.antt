-- What was written is handed over.
use Rattle.std.proofs.Common.{◌≡◌, ◌⊎◌, inl, inr, ℕ, List, [], Some, refl, sym, subst, arith}
use Rattle.w_outside.specs.Outside.{Grew, Rose}
use Rattle.replies.specs.declared.status.Status.{Status}
use Rattle.replies.specs.declared.status.Status.TheVariants as status
use Rattle.replies.specs.Answer.{Reply}
use Rattle.runs.specs.Delivery.{Answers, Answered}
use Rattle.handing.specs.Handed.{Buffers, Handed, HandsOver, HandsTexts, Hands, both, nothing}

-- what an empty sink grew by is what it holds
grew_to : (first text added : List ℕ) → first ≡ [] → Grew (Some first) (Some text) added → text ≡ added
grew_to first text added empty h = let e : Some text ≡ Some added = subst (λ (l : List ℕ). Grew (Some l) (Some text) added) empty h in cc

-- a count that stands still doesn't rise
pub none_rose : Rose 0 0 ⊎ Rose 0 0 → ⊥
none_rose (inl h) = absurd (omega (arith, h))
none_rose (inr h) = absurd (omega (arith, h))

-- by how a call ended that wrote all of a reply that is due, and no write failed
module _ (Due : Reply → Type 0) (no_out no_err out err : List ℕ) (out_empty : no_out ≡ []) (err_empty : no_err ≡ []) (before now : Buffers) where
  module _ (to_out : Handed out before.out now.out now.out_length) (to_err : Handed err before.err now.err now.err_length) where
    over : (s : Status) → Answers Due s (Grew (Some no_out) (Some out)) (Grew (Some no_err) (Some err)) → HandsOver Due s before now
    over s (reply, due, written, code) = record {
      reply = reply;
      due = due;
      out = subst (λ (text : List ℕ). Handed text before.out now.out now.out_length) (grew_to no_out out reply.out out_empty written.0) to_out;
      err = subst (λ (text : List ℕ). Handed text before.err now.err now.err_length) (grew_to no_err err reply.err err_empty written.1) to_err;
      status_is = code;
    }

    over_by : (s : Status) → (s ≡ status.OutOfMemory → ⊥) → (s ≡ status.WriteFault → ⊥) → Answered s Due (Grew (Some no_out) (Some out)) (Grew (Some no_err) (Some err)) → Hands Due s before now
    over_by status.Done memory fault h = over status.Done h
    over_by status.Trap memory fault h = over status.Trap h
    over_by status.Usage memory fault h = over status.Usage h
    over_by status.Malformed memory fault h = over status.Malformed h
    over_by status.Invalid memory fault h = over status.Invalid h
    over_by status.BadScript memory fault h = over status.BadScript h
    over_by status.ReadFault memory fault h = over status.ReadFault h
    over_by status.WriteFault memory fault h = absurd (fault refl)
    over_by status.OutOfMemory memory fault h = absurd (memory refl)
    over_by status.Limit memory fault h = over status.Limit h
    over_by status.Running memory fault h = over status.Running h
    over_by status.BadText memory fault h = over status.BadText h
    over_by status.BadTrace memory fault h = over status.BadTrace h

  pub handed : (ended result : Status) → (ended ≡ status.WriteFault → ⊥) → Answered ended Due (Grew (Some no_out) (Some out)) (Grew (Some no_err) (Some err)) → HandsTexts out err ended result before now
      → Hands Due result before now
  handed ended result fault h (both memory is to_out to_err) = subst (λ (s : Status). Hands Due s before now) (sym is) (over_by to_out to_err ended memory fault h)
  handed ended result fault h (nothing is none) = subst (λ (s : Status). Hands Due s before now) (sym is) none
