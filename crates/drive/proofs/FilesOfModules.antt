-- What a file of a valid module gives, by its bytes or by its text: just what the module gives.
use Rattle.std.proofs.Common.{◌≡◌, ◌≤◌, ℕ, List, length, inl, inr, Result, Ok, Err, sym, subst, ◌∙◌, arith}
use Rattle.std.specs.Prelude.{◌↔◌}
use Rattle.words.specs.Request.{taken_by}
use Rattle.w_outside.specs.Outside.{holds}
use Rattle.w_syntax.specs.declared.module.Module.{Module}
use Rattle.w_syntax.specs.Spells.{Spells}
use Rattle.w_decode.specs.declared.fault.DecodeFault.{DecodeFault}
use Rattle.w_decode.proofs.ReadingExact.{spelled_exactly, fault_exactly, one_module}
use Rattle.w_rules.specs.Limits.{Within}
use Rattle.w_rules.specs.Valid.{Valid}
use Rattle.w_items.specs.declared.fault.ValidFault.{ValidFault}
use Rattle.w_items.proofs.Faults.{no_fault as no_fault_of}
use Rattle.w_text.specs.Text.{Text, IsText}
use Rattle.w_words.proofs.Pieces.{text_is_right}
use Rattle.w_text.proofs.Least.{one_module as one_text_module}
use Rattle.words.specs.declared.request.Action.{Action}
use Rattle.replies.specs.declared.file_kind.FileKind.TheVariants as file
use Rattle.replies.specs.Answer.{Reply, OnFile, GivenOf, BytesGive, TextGives, NotSpelled, NoText, ActionGives, gives, kind_of, input_limit, HasModuleFault}
use Rattle.drive.proofs.WhatActionsGive.{given_as, given_of}

-- a valid module within its limits has no fault
pub no_fault : (m : Module) (f : ValidFault) → Within m → Valid m → HasModuleFault m f → ⊥
no_fault m f w v h = no_fault_of m f w v h.0 h.1

module _ (m : Module) (within : Within m) (v : Valid m) (Accepted : Module → Reply → Type 0) (reply : Reply) where
  -- where m alone is read, and nothing is wrong
  only_accepted : (Reads : Module → Type 0) (NoModule : Reply → Type 0) → ((n : Module) → Reads n → n ≡ m) → ((r : Reply) → NoModule r → ⊥) → GivenOf Reads NoModule Accepted reply → Accepted m reply
  only_accepted Reads NoModule one right (inl h) = subst (λ (n : Module). Accepted n reply) (one h.0 h.1) h.4
  only_accepted Reads NoModule one right (inr (inl h)) = absurd (no_fault m h.2.0 within v (subst (λ (n : Module). HasModuleFault n h.2.0) (one h.0 h.1) h.2.1))
  only_accepted Reads NoModule one right (inr (inr h)) = absurd (right reply h)

  -- bytes that spell it
  module _ (bytes : List ℕ) (spelled : Spells bytes m) where
    not_malformed : (r : Reply) → NotSpelled bytes r → ⊥
    not_malformed r h = let e : ◌≡◌ {A = Result Module DecodeFault} (Ok m) (Err h.0) = sym ((spelled_exactly bytes m).1 spelled) ∙ (fault_exactly bytes h.0).1 h.1 in absurd cc

    pub only_gives : BytesGive Accepted bytes reply → Accepted m reply
    only_gives h = only_accepted (Spells bytes) (NotSpelled bytes) (λ n s. one_module bytes n m s spelled) not_malformed h

  -- its text
  only_given : (t : List ℕ) → Text t m → TextGives Accepted t reply → Accepted m reply
  only_given t text h = only_accepted (Text t) (NoText t) (λ n s. one_text_module t n m s text) (λ r k. text_is_right IsText t k.0 (m, text) k.1) h

module _ (m : Module) (within : Within m) (v : Valid m) (action : Action) (reply : Reply) where
  module _ (bytes : List ℕ) (spelled : Spells bytes m) (kind : kind_of (taken_by action) bytes ≡ file.Module) where
    of_file : length bytes ≤ input_limit → OnFile (holds bytes) (ActionGives action) reply → gives action m reply
    of_file short (inl h) = only_gives m within v (gives action) reply bytes spelled (given_of action bytes file.Module kind reply h.1)
    of_file short (inr h) = absurd (omega (arith, short, h.0))

    -- a file that is one of a module to the action
    pub file_gives : length bytes ≤ input_limit → OnFile (holds bytes) (ActionGives action) reply ↔ gives action m reply
    file_gives short = (of_file short, λ g. inl (short, given_as action bytes file.Module kind reply (inl (m, spelled, within, v, g))))

  module _ (t : List ℕ) (text : Text t m) (kind : kind_of (taken_by action) t ≡ file.Text) where
    of_text_file : length t ≤ input_limit → OnFile (holds t) (ActionGives action) reply → gives action m reply
    of_text_file short (inl h) = only_given m within v (gives action) reply t text (given_of action t file.Text kind reply h.1)
    of_text_file short (inr h) = absurd (omega (arith, short, h.0))

    -- a file that is a text to the action
    pub text_file_gives : length t ≤ input_limit → OnFile (holds t) (ActionGives action) reply ↔ gives action m reply
    text_file_gives short = (of_text_file short, λ g. inl (short, given_as action t file.Text kind reply (inl (m, text, within, v, g))))
