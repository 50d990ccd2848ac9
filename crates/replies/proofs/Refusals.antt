-- Refusals by their lines.
use Rattle.std.proofs.Common.{◌≡◌, ◌∙◌, inr, ℕ, List, [], Result, Ok, Err, refl, sym, ap, subst}
use Rattle.std.specs.Prelude.{◌≢◌, IfOk, IfErr, IsErrAnd}
use Rattle.w_syntax.specs.declared.module.Module.{Module}
use Rattle.w_syntax.specs.Spells.{Spells}
use Rattle.w_decode.specs.Faults.{HasFault}
use Rattle.w_decode.specs.declared.fault.DecodeFault.{DecodeFault}
use Rattle.w_decode.specs.declared.fault.DecodeFault.TheVariants as decode
use Rattle.w_items.specs.declared.fault.ValidFault.{ValidFault}
use Rattle.w_items.specs.declared.fault.ValidFault.TheVariants as valid
use Rattle.replies.specs.declared.output.Output.{Output}
use Rattle.replies.specs.declared.stop.Stop.{Stop}
use Rattle.replies.specs.declared.stop.Stop.TheVariants.{Refused, WriteFault, OutOfMemory}
use Rattle.replies.specs.Answer.{Reply, BytesRefusal, in_file, invalid, malformed}
use Rattle.replies.specs.Stop.{Ends, Refuses, Gives, IsOfFile, reply_of_refusal}

-- a line that is a text, and a code
pub same_refusal : (written text : List ℕ) (status code : ℕ) → written ≡ text → status ≡ code
    → ◌≡◌ {A = Reply} (record { out = []; err = written; status = status }) (record { out = []; err = text; status = code })
same_refusal written text status code same code_is =
    ap (λ (l : List ℕ). let reply : Reply = record { out = []; err = l; status = status } in reply) same
    ∙ ap (λ (n : ℕ). let reply : Reply = record { out = []; err = text; status = n } in reply) code_is

invalid_alone : (fault : ValidFault) → ◌≡◌ {A = Reply} (record { out = []; err = (invalid fault).err; status = (invalid fault).status }) (invalid fault)
invalid_alone (valid.Limit name) = refl
invalid_alone (valid.TypeAt i) = refl
invalid_alone (valid.Import i) = refl
invalid_alone (valid.Table i) = refl
invalid_alone valid.Memory = refl
invalid_alone (valid.Tag i) = refl
invalid_alone (valid.Global i) = refl
invalid_alone (valid.Element i) = refl
invalid_alone (valid.Data i) = refl
invalid_alone valid.Start = refl
invalid_alone (valid.Export i) = refl
invalid_alone (valid.Function i) = refl
invalid_alone valid.OutOfMemory = refl

-- the line and the status of a module's fault are what the module gives
pub same_invalid : (fault : ValidFault) (line : List ℕ) (code : ℕ) → line ≡ (invalid fault).err → code ≡ (invalid fault).status
    → ◌≡◌ {A = Reply} (record { out = []; err = line; status = code }) (invalid fault)
same_invalid fault line code line_is code_is = same_refusal line (invalid fault).err code (invalid fault).status line_is code_is ∙ invalid_alone fault

module _ {Due Due' : Reply → Type 0} (due : (r : Reply) → Due r → Due' r) where
  -- what is refused by a reply that is due is refused by one that is due of more
  pub refuses_as : (stop : Stop) → Refuses Due stop → Refuses Due' stop
  refuses_as (Refused refusal) h = (h.0, due _ h.1)
  refuses_as WriteFault h = absurd h
  refuses_as OutOfMemory h = tt

  pub gives_as : (answer : Result Output Stop) → Gives Due answer → Gives Due' answer
  gives_as (Ok output) h = due _ h
  gives_as (Err stop) h = refuses_as stop h

  -- a call stops where a part of it does
  pub gives_stop : (answer : Result Output Stop) (stop : Stop) → IsErrAnd answer (λ e. e ≡ stop) → Refuses Due stop → Gives Due' answer
  gives_stop (Ok output) stop is h = absurd is
  gives_stop (Err other) stop is h = subst (λ (s : Stop). Refuses Due' s) (sym is) (refuses_as stop h)

  pub judged_as : (judged : Result Module Stop) → IfErr judged (Refuses Due) → IfErr judged (Refuses Due')
  judged_as (Ok m) h = tt
  judged_as (Err stop) h = refuses_as stop h

-- two replies that are the same
pub refuses_same : {one other : Reply} (stop : Stop) → one ≡ other → Refuses (λ reply. reply ≡ one) stop → Refuses (λ reply. reply ≡ other) stop
refuses_same (Refused refusal) e h = (h.0, h.1 ∙ e)
refuses_same WriteFault e h = absurd h
refuses_same OutOfMemory e h = tt

pub gives_same : {one other : Reply} (answer : Result Output Stop) → one ≡ other → Gives (λ reply. reply ≡ one) answer → Gives (λ reply. reply ≡ other) answer
gives_same (Ok output) e h = h ∙ e
gives_same (Err stop) e h = refuses_same stop e h

-- what was accepted is what the bytes spell
pub spelled_same : (bytes : List ℕ) (candidate : Module) (judged : Result Module Stop) → IfOk judged (λ m. m ≡ candidate) → Spells bytes candidate → IfOk judged (λ m. Spells bytes m)
spelled_same bytes candidate (Ok m) is spells = subst (Spells bytes) (sym is) spells
spelled_same bytes candidate (Err stop) is spells = tt

-- the fault of bytes that spell no module is why they are refused
pub malformed_due : (bytes : List ℕ) (fault : DecodeFault) → (fault ≢ decode.OutOfMemory → HasFault bytes fault) → (r : Reply) → (fault ≢ decode.OutOfMemory) × (r ≡ malformed fault) → BytesRefusal bytes r
malformed_due bytes fault has r due = inr (fault, has due.0, due.1)

-- ## Files of several

module _ (f : ℕ) (Due : Reply → Type 0) where
  -- a refusal that is told of file f
  pub refuses_in : (stop told : Stop) → Refuses Due stop → IsOfFile f stop told → Refuses (λ reply. (r : Reply) × Due r × (reply ≡ in_file f r)) told
  refuses_in stop (Refused refusal) h is =
      let g = subst (Refuses Due) is.1 h in
      (subst Ends (sym is.2) g.0, (reply_of_refusal is.0, g.1, is.3))
  refuses_in stop WriteFault h is = absurd (subst (Refuses Due) is h)
  refuses_in stop OutOfMemory h is = tt

-- one that is a reply
pub refuses_one_in : (f : ℕ) (one : Reply) (stop told : Stop) → Refuses (λ reply. reply ≡ one) stop → IsOfFile f stop told → Refuses (λ reply. reply ≡ in_file f one) told
refuses_one_in f one stop told h is =
    refuses_as {Due = λ reply. (r : Reply) × (r ≡ one) × (reply ≡ in_file f r)} (λ r k. k.2 ∙ ap (in_file f) k.1) told (refuses_in f (λ reply. reply ≡ one) stop told h is)
