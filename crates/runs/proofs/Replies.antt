-- What a part of a call did, from what its own parts did.
use Rattle.std.proofs.Common.{◌≡◌, ◌⊎◌, ◌≤◌, inl, inr, ℕ, List, [], ◌++◌, Option, Result, Ok, Err, Vec, Global, refl, sym, ap, ◌∙◌, subst, append_assoc, append-nil, arith}
use Rattle.std.specs.Prelude.{IsErrAnd}
use Rattle.w_outside.specs.Outside.{Grew, GrewByFront, IsFront, Rose}
use Rattle.w_outside.proofs.Growth.{grew_more, grew_nothing}
use Rattle.w_outside.specs.declared.traits.Fault.{Fault}
use Rattle.w_outside.specs.declared.traits.Fault.TheVariants.{Failed, OutOfMemory}
use Rattle.replies.specs.declared.status.Status.{Status}
use Rattle.replies.specs.Answer.{Reply, behind}
use Rattle.replies.specs.declared.output.Output.{Output}
use Rattle.replies.specs.declared.stop.Refusal.{Refusal}
use Rattle.replies.specs.declared.stop.Stop.{Stop}
use Rattle.replies.specs.declared.stop.Stop.TheVariants.{Refused}
use Rattle.replies.specs.declared.stop.Stop.TheVariants as stop
use Rattle.replies.specs.Pieces.{joined}
use Rattle.replies.specs.Status.{code_of}
use Rattle.replies.specs.Stop.{Ends, EndsByItself, Gives, Refuses, reply_with, reply_of_refusal}
use Rattle.runs.specs.Delivery.{WroteFront, WrotePart, Begins, BeginsAtMost, Replies}
use Rattle.runs.specs.Leaving.{IsBegun, Leaves, Delivers}

-- ---- fronts

pub front_nothing : (whole : List ℕ) → IsFront [] whole
front_nothing whole = record { rest = whole; joined = refl }

pub front_first : (xs ys : List ℕ) → IsFront xs (xs ++ ys)
front_first xs ys = record { rest = ys; joined = refl }

pub front_next : (xs part ys : List ℕ) → IsFront part ys → IsFront (xs ++ part) (xs ++ ys)
front_next xs part ys front = record { rest = front.rest; joined = simp append_assoc (ap (λ l. xs ++ l) front.joined) }

pub wrote_front : (before now : Option (List ℕ)) (text : List ℕ) → GrewByFront before now text → WroteFront text (Grew before now)
wrote_front before now text grew = (grew.part, grew.front, grew.grew)

-- ---- a call that fails

module _ {Due : Reply → Type 0} {OutGrew ErrGrew : List ℕ → Type 0} {rose : Type 0} where
  -- a fault of a sink, with a first part written
  pub fault_replies : (result : Result Status Fault) (fault : Fault) → IsErrAnd result (λ e. e ≡ fault)
      → Begins Due OutGrew ErrGrew → (fault ≡ Failed → rose) → Replies Due result OutGrew ErrGrew rose
  fault_replies (Ok status) fault is begins cause = absurd is
  fault_replies (Err Failed) fault is begins cause = (begins, cause (sym is))
  fault_replies (Err OutOfMemory) fault is begins cause = inr begins

module _ {Due : Reply → Type 0} {OutGrew ErrGrew : List ℕ → Type 0} where
  -- memory ran out, with a first part written at most
  pub memory_replies : (rose : Type 0) (result : Result Status Fault) → IsErrAnd result (λ e. e ≡ OutOfMemory)
      → BeginsAtMost Due OutGrew ErrGrew → Replies Due result OutGrew ErrGrew rose
  memory_replies rose (Ok status) is begins = absurd is
  memory_replies rose (Err Failed) is begins = absurd (cc)
  memory_replies rose (Err OutOfMemory) is begins = begins

-- ---- answers of which nothing was written

-- an answer that is due ends a call by itself
pub leaves_ends : (Due : Reply → Type 0) (answer : Result Output Stop) (OutGrew : List ℕ → Type 0) (rose : Type 0) → Leaves Due answer OutGrew rose → EndsByItself answer
leaves_ends Due (Ok output) OutGrew rose h = tt
leaves_ends Due (Err (Refused refusal)) OutGrew rose h = h.0
leaves_ends Due (Err stop.WriteFault) OutGrew rose h = tt
leaves_ends Due (Err stop.OutOfMemory) OutGrew rose h = tt

module _ (Due : Reply → Type 0) (a : Option (List ℕ)) (rose : Type 0) where
  -- a refusal leaves its line to write
  pub refusal_left : (s : Stop) → Refuses Due s → Leaves Due (Err s) (Grew a a) rose
  refusal_left (Refused refusal) h = (h.0, ([], grew_nothing a, h.1))
  refusal_left stop.WriteFault h = absurd h
  refusal_left stop.OutOfMemory h = inl (grew_nothing a)

  -- all of an answer is left
  pub all_left : (answer : Result Output Stop) → Gives Due answer → Leaves Due answer (Grew a a) rose
  all_left (Ok output) h = ([], grew_nothing a, h)
  all_left (Err s) h = refusal_left s h

  -- a call stops where a part of it does
  pub stop_left : (answer : Result Output Stop) (s : Stop) → IsErrAnd answer (λ e. e ≡ s) → Refuses Due s → Leaves Due answer (Grew a a) rose
  stop_left (Ok output) s is h = absurd is
  stop_left (Err other) s is h = refusal_left other (subst (Refuses Due) (sym is) h)

-- ---- what is due of a part of a call

module _ {Due Due' : Reply → Type 0} (due : (r : Reply) → Due r → Due' r) (OutGrew : List ℕ → Type 0) (rose : Type 0) where
  begun_as : IsBegun Due OutGrew → IsBegun Due' OutGrew
  begun_as h = (h.0, due h.0 h.1, h.2)

  pub leaves_as : (answer : Result Output Stop) → Leaves Due answer OutGrew rose → Leaves Due' answer OutGrew rose
  leaves_as (Ok output) h = (h.0, h.1, due _ h.2)
  leaves_as (Err (Refused refusal)) h = (h.0, (h.1.0, h.1.1, due _ h.1.2))
  leaves_as (Err stop.WriteFault) h = (begun_as h.0, h.1)
  leaves_as (Err stop.OutOfMemory) (inl h) = inl h
  leaves_as (Err stop.OutOfMemory) (inr h) = inr (begun_as h)

-- ---- writing what is left

-- an answer is delivered by what is written of its output, or of its refusal
module _ (OutGrew ErrGrew : List ℕ → Type 0) (rose : Type 0) (answer : Result Output Stop) (result : Result Status Fault) where
  pub output_delivered : (output : Output) → answer ≡ Ok output → Replies (λ reply. reply ≡ reply_with output) result OutGrew ErrGrew rose → Delivers answer result OutGrew ErrGrew rose
  output_delivered output is h = subst (λ (a : Result Output Stop). Delivers a result OutGrew ErrGrew rose) (sym is) h

  pub refusal_delivered : (refusal : Refusal) → answer ≡ Err (Refused refusal) → Replies (λ reply. reply ≡ reply_of_refusal refusal) result OutGrew ErrGrew rose
      → Delivers answer result OutGrew ErrGrew rose
  refusal_delivered refusal is h = subst (λ (a : Result Output Stop). Delivers a result OutGrew ErrGrew rose) (sym is) h

-- what is written is the reply
pub output_is : (output : Output) (pieces err : List (Vec ℕ Global)) → pieces ≡ output.pieces.items → err ≡ output.err.items
    → ◌≡◌ {A = Reply} (record { out = joined pieces; err = joined err; status = 0 }) (reply_with output)
output_is output pieces err same err_same =
    ap (λ (p : List (Vec ℕ Global)). let reply : Reply = record { out = joined p; err = joined err; status = 0 } in reply) same
    ∙ ap (λ (l : List (Vec ℕ Global)). let reply : Reply = record { out = joined output.pieces.items; err = joined l; status = 0 } in reply) err_same

pub refusal_is : (refusal : Refusal) (lines : List (Vec ℕ Global)) → lines ≡ refusal.lines.items
    → ◌≡◌ {A = Reply} (record { out = []; err = joined lines; status = code_of refusal.status }) (reply_of_refusal refusal)
refusal_is refusal lines same =
    ap (λ (l : List (Vec ℕ Global)). let reply : Reply = record { out = []; err = joined l; status = code_of refusal.status } in reply) same

pub refusal_ends : (answer : Result Output Stop) (refusal : Refusal) → answer ≡ Err (Refused refusal) → EndsByItself answer → Ends refusal.status
refusal_ends answer refusal is h = subst EndsByItself is h

module _ (Due : Reply → Type 0) (a b c : Option (List ℕ)) (ErrGrew : List ℕ → Type 0) {one two rose : Type 0} (first : one → rose) (second : two → rose) where
  -- out grew by a text, and then by nothing
  same_growth : (text : List ℕ) → Grew a b text → Grew b c [] → Grew a c text
  same_growth text g n = subst (Grew a c) (append-nil text) (grew_more a b c text [] g n)

  begun_before : IsBegun Due (Grew a b) → Grew b c [] → ErrGrew [] → Begins Due (Grew a c) ErrGrew
  begun_before h n e = (h.0, h.1, inl ((h.2.0, h.2.1, same_growth h.2.0 h.2.2 n), e))

  -- what is left is written behind the text that was printed
  module _ (text : List ℕ) (left : Reply) (grew : Grew a b text) (due : Due (behind text left)) where
    due_behind : (r : Reply) → r ≡ left → Due (behind text r)
    due_behind r is = subst (λ (x : Reply). Due (behind text x)) (sym is) due

    part_behind : (r : Reply) → WrotePart r (Grew b c) ErrGrew → WrotePart (behind text r) (Grew a c) ErrGrew
    part_behind r (inl h) = inl ((text ++ h.0.0, front_next text h.0.0 r.out h.0.1, grew_more a b c text h.0.0 grew h.0.2), h.1)
    part_behind r (inr h) = inr (grew_more a b c text r.out grew h.0, h.1)

    begins_behind : Begins (λ r. r ≡ left) (Grew b c) ErrGrew → Begins Due (Grew a c) ErrGrew
    begins_behind h = (behind text h.0, due_behind h.0 h.1, part_behind h.0 h.2)

    most_behind : BeginsAtMost (λ r. r ≡ left) (Grew b c) ErrGrew → BeginsAtMost Due (Grew a c) ErrGrew
    most_behind (inl h) = inr (behind text left, due, inl ((text, front_first text left.out, same_growth text grew h.0), h.1))
    most_behind (inr h) = inr (begins_behind h)

    replies_behind : (result : Result Status Fault) → Replies (λ r. r ≡ left) result (Grew b c) ErrGrew two → Replies Due result (Grew a c) ErrGrew rose
    replies_behind (Ok status) h =
        (h.0, (behind text h.1.0, due_behind h.1.0 h.1.1, (grew_more a b c text h.1.0.out grew h.1.2.0, h.1.2.1), h.1.3))
    replies_behind (Err Failed) h = (begins_behind h.0, second h.1)
    replies_behind (Err OutOfMemory) h = most_behind h

  -- so what is due is written, or a first part of it
  pub delivered : (answer : Result Output Stop) (result : Result Status Fault) → Leaves Due answer (Grew a b) one → Delivers answer result (Grew b c) ErrGrew two
      → Replies Due result (Grew a c) ErrGrew rose
  delivered (Ok output) result h d = replies_behind h.0 (reply_with output) h.1 h.2 result d
  delivered (Err (Refused refusal)) result h d = replies_behind h.1.0 (reply_of_refusal refusal) h.1.1 h.1.2 result d
  delivered (Err stop.WriteFault) result h d =
      subst (λ (r : Result Status Fault). Replies Due r (Grew a c) ErrGrew rose) (sym d.0) (begun_before h.0 d.1 d.2, first h.1)
  delivered (Err stop.OutOfMemory) result h d =
      subst (λ (r : Result Status Fault). Replies Due r (Grew a c) ErrGrew rose) (sym d.0) (at_most h)
    where
      at_most : Grew a b [] ⊎ IsBegun Due (Grew a b) → BeginsAtMost Due (Grew a c) ErrGrew
      at_most (inl g) = inl (same_growth [] g d.1, d.2)
      at_most (inr g) = inr (begun_before g d.1 d.2)

-- a count rose in the one part, or in the other
pub rose_first : (before between now : ℕ) → between ≤ now → Rose before between → Rose before now
rose_first before between now later h = omega (arith, later, h)

pub rose_either : (before between now : ℕ) {P : Type 0} → before ≤ between → Rose between now ⊎ P → Rose before now ⊎ P
rose_either before between now later (inl h) = inl (omega (arith, later, h))
rose_either before between now later (inr p) = inr p
