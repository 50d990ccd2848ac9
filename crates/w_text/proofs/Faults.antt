-- What an answer that is right says of all others.
use Rattle.std.proofs.Common.{◌≡◌, ℕ, inl, inr, List, Result, Ok, Err, IfOk, refl, ap, arith}
use Rattle.std.specs.Prelude.{IfErr}
use Rattle.std.proofs.lemmas.Bool.{cases_lt}
use Rattle.w_syntax.specs.declared.module.Module.{Module}
use Rattle.w_text.specs.declared.fault.TextFault.{TextFault}
use Rattle.w_text.specs.declared.fault.TextFault.TheVariants as fault
use Rattle.w_words.proofs.Pieces.{text_is_right, least_is_one}
use Rattle.w_text.specs.Text.{Text, IsText, IsWrongAt}
use Rattle.w_text.specs.Answers.{IsAnswer}
use Rattle.w_text.proofs.Least.{one_module}

abbrev Right : List ℕ → TextFault → Type 0
Right t e = (l : ℕ) → e ≡ fault.Line l → IsWrongAt t l

pub only_ok : (t : List ℕ) (r : Result Module TextFault) → IfOk r (λ m. Text t m) → IfErr r (Right t) → (m : Module) → Text t m → IsAnswer (Ok m) r
only_ok t (Ok n) o e m h = inl (ap (λ (x : Module). Ok x) (one_module t n m o h))
only_ok t (Err (fault.Line l)) o e m h = absurd (text_is_right IsText t l (m, h) (e l refl))
only_ok t (Err fault.OutOfMemory) o e m h = inr refl

pub only_err : (t : List ℕ) (r : Result Module TextFault) → IfOk r (λ m. Text t m) → IfErr r (Right t) → (l : ℕ) → IsWrongAt t l → IsAnswer (Err (fault.Line l)) r
only_err t (Ok n) o e l w = absurd (text_is_right IsText t l (n, o) w)
only_err t (Err (fault.Line k)) o e l w = inl (ap (λ (x : ℕ). Err (fault.Line x)) (least_is_one IsText t k l (e k refl) w))
only_err t (Err fault.OutOfMemory) o e l w = inr refl
