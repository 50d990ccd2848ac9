-- What the reading of a whole list of tokens says.
use Rattle.std.proofs.Common.{◌≡◌, ◌≢◌, ℕ, ◌-◌, ◌<◌, ◌≤◌, inl, inr, List, [], ◌∷◌, length, drop, Result, Ok, Err, refl, sym, ap, subst, ◌∙◌, arith, length-drop}
use Rattle.std.specs.Prelude.{IfOk, IfErr}
use Rattle.s_syntax.specs.declared.script.Script.{Script}
use Rattle.s_syntax.specs.declared.token.Token.{Token}
use Rattle.s_grammar.specs.Reading.{Got, Refused, Wrong, TooDeep}
use Rattle.s_grammar.specs.Reads.{script}
use Rattle.s_parse.specs.Parsed.{verdict, parsed}
use Rattle.s_parse.specs.Refusal.{IsAnswer, IsScript, Means, HasFault}
use Rattle.s_parse.specs.declared.fault.ParseFault.{ParseFault}
use Rattle.s_parse.specs.declared.fault.ParseFault.TheVariants as fault
use Rattle.s_parse.proofs.Exact.{parsed_means}
use Rattle.s_parse.proofs.OneAnswer.{one_answer}

module _ (bytes : List ℕ) where
  -- tokens are left
  more_left : (n : ℕ) (p : Script) (l : List Token) → 0 < length l → verdict n (Got p l) ≡ Err (fault.Parse (n - length l))
  more_left n p [] h = absurd (omega arith)
  more_left n p (t ∷ l) h = refl

  -- none are
  none_left : (n : ℕ) (p : Script) (l : List Token) → length l ≡ 0 → verdict n (Got p l) ≡ Ok p
  none_left n p [] h = refl
  none_left n p (t ∷ l) h = absurd (omega (arith, h))

  -- the place of what is left
  pub place : (ts : List Token) (at : ℕ) → at ≤ length ts → length ts - length (drop at ts) ≡ at
  place ts at h = omega (arith, length-drop at ts)

  -- the fault of that place
  at_place : (ts : List Token) (at : ℕ) → at ≤ length ts → ◌≡◌ {A = Result (Script) ParseFault} (Err (fault.Parse (length ts - length (drop at ts)))) (Err (fault.Parse at))
  at_place ts at h = ap (λ (i : ℕ). Err (fault.Parse i)) (place ts at h)

  -- a script that is whole
  pub whole : (ts : List Token) (p : Script) (at : ℕ) → script bytes 64 (drop 0 ts) ≡ Got p (drop at ts) → at ≤ length ts → length ts ≤ at → parsed bytes ts ≡ Ok p
  unfolding parsed
  whole ts p at e l h = ap (verdict (length ts)) e ∙ none_left (length ts) p (drop at ts) (omega (arith, length-drop at ts))

  -- a script that tokens follow
  pub not_whole : (ts : List Token) (p : Script) (at : ℕ) → script bytes 64 (drop 0 ts) ≡ Got p (drop at ts) → at < length ts → parsed bytes ts ≡ Err (fault.Parse at)
  unfolding parsed
  not_whole ts p at e l = ap (verdict (length ts)) e ∙ more_left (length ts) p (drop at ts) (omega (arith, length-drop at ts)) ∙ at_place ts at (omega arith)

  -- a token is wrong
  pub wrong : (ts : List Token) (at : ℕ) → script bytes 64 (drop 0 ts) ≡ Refused Wrong (drop at ts) → at ≤ length ts → parsed bytes ts ≡ Err (fault.Parse at)
  unfolding parsed
  wrong ts at e l = ap (verdict (length ts)) e ∙ at_place ts at l

  -- a bracket is one too many
  pub deep : (ts : List Token) (at : ℕ) → script bytes 64 (drop 0 ts) ≡ Refused TooDeep (drop at ts) → parsed bytes ts ≡ Err fault.Deep
  unfolding parsed
  deep ts at e = ap (verdict (length ts)) e

  -- a script that is answered is spelled
  pub means_ok : (ts : List Token) (r : Result (Script) ParseFault) → IsAnswer (parsed bytes ts) r → IfOk r (λ p. IsScript bytes ts p)
  means_ok ts (Ok p) (inl e) = subst (Means bytes ts) (sym e) (parsed_means bytes ts)
  means_ok ts (Ok p) (inr e) = absurd (cc (e))
  means_ok ts (Err f) h = tt

  -- a fault that is answered has its cause
  pub means_err : (ts : List Token) (r : Result (Script) ParseFault) → IsAnswer (parsed bytes ts) r → IfErr r (λ e. e ≢ fault.OutOfMemory → HasFault bytes ts e)
  means_err ts (Ok p) h = tt
  means_err ts (Err f) (inl e) = λ n. subst (Means bytes ts) (sym e) (parsed_means bytes ts)
  means_err ts (Err f) (inr e) = λ n. absurd (n cc)

  -- what the tokens mean is answered
  pub means_only : (ts : List Token) (r s : Result (Script) ParseFault) → IsAnswer (parsed bytes ts) s → Means bytes ts r → IsAnswer r s
  means_only ts r s (inl e) h = inl (e ∙ one_answer bytes ts (parsed bytes ts) r (parsed_means bytes ts) h)
  means_only ts r s (inr e) h = inr e
