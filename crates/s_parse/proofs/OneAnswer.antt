-- Tokens have one answer.
use Rattle.std.proofs.Common.{◌≡◌, ℕ, suc, ◌<◌, ◌≤◌, inl, inr, List, ◌++◌, take, drop, Option, Result, Ok, Err, refl, ap, ◌∙◌, arith}
use Rattle.std.proofs.lemmas.Bool.{cases_lt}
use Rattle.s_syntax.specs.declared.script.Script.{Script}
use Rattle.s_syntax.specs.declared.token.Token.{Token}
use Rattle.s_grammar.specs.Syntax.{Spells}
use Rattle.s_grammar.proofs.OneScript.{one_script}
use Rattle.s_parse.specs.Refusal.{BeginsScript, with_end, IsScript, HasFault, opened_brackets, closed_brackets, Means}
use Rattle.s_parse.specs.declared.fault.ParseFault.{ParseFault}
use Rattle.s_parse.specs.declared.fault.ParseFault.TheVariants as fault
use Rattle.s_parse.proofs.Fronts.{take_take, opt_assoc, take_drop, above, not_below}

module _ (bytes : List ℕ) where
  -- what begins a script begins it with fewer tokens too
  begin_less : (k j : ℕ) (q : List (Option Token)) → k ≤ j → BeginsScript bytes (take j q) → BeginsScript bytes (take k q)
  begin_less k j q l b = (b.0, b.1, drop k (take j q) ++ b.2, b.3, b.4 ∙ ap (λ (r : List (Option Token)). r ++ b.2) (take_take k j q l) ∙ opt_assoc (take k q) (drop k (take j q)) b.2)

  -- a script begins with each of its fronts
  begin_whole : (ts : List Token) (p : Script) → Spells bytes ts p → (k : ℕ) → BeginsScript bytes (take k (with_end ts))
  begin_whole ts p s k = (ts, p, drop k (with_end ts), s, take_drop k (with_end ts))

  -- no token of a script is wrong
  script_or_wrong : (ts : List Token) (p : Script) (a : ℕ) → IsScript bytes ts p → HasFault bytes ts (fault.Parse a) → ⊥
  script_or_wrong ts p a s f = f.0.0 (begin_whole ts p s.0 (suc a))

  -- and none is too deep
  script_or_deep : (ts : List Token) (p : Script) → IsScript bytes ts p → HasFault bytes ts fault.Deep → ⊥
  script_or_deep ts p s f = above (opened_brackets (take (suc f.0) ts)) (closed_brackets (take (suc f.0) ts)) f.1.1 (s.1 f.0)

  -- no tokens have both faults
  wrong_or_deep : (ts : List Token) (a : ℕ) → HasFault bytes ts (fault.Parse a) → HasFault bytes ts fault.Deep → ⊥
  wrong_or_deep ts a f g = elim (cases_lt g.0 a) [ inl l ↦ above (opened_brackets (take (suc g.0) ts)) (closed_brackets (take (suc g.0) ts)) g.1.1 (f.1 g.0 l) | inr l ↦ f.0.0 (begin_less (suc a) (suc g.0) (with_end ts) (omega arith) g.2) ]

  -- no earlier token is wrong
  one_wrong : (ts : List Token) (a b : ℕ) → HasFault bytes ts (fault.Parse a) → HasFault bytes ts (fault.Parse b) → a < b → ⊥
  one_wrong ts a b f g l = f.0.0 (g.0.1 a l)

  -- these tokens have one answer
  pub one_answer : (ts : List Token) (r s : Result (Script) ParseFault) → Means bytes ts r → Means bytes ts s → r ≡ s
  one_answer ts (Ok p) (Ok q) h k = ap (λ (x : Script). Ok x) (one_script bytes ts p q h.0 k.0)
  one_answer ts (Ok p) (Err (fault.Parse a)) h k = absurd (script_or_wrong ts p a h k)
  one_answer ts (Ok p) (Err fault.Deep) h k = absurd (script_or_deep ts p h k)
  one_answer ts (Ok p) (Err fault.OutOfMemory) h k = absurd k
  one_answer ts (Err (fault.Parse a)) (Ok p) h k = absurd (script_or_wrong ts p a k h)
  one_answer ts (Err (fault.Parse a)) (Err (fault.Parse b)) h k = ap (λ (i : ℕ). Err (fault.Parse i)) (not_below a b (one_wrong ts a b h k) (one_wrong ts b a k h))
  one_answer ts (Err (fault.Parse a)) (Err fault.Deep) h k = absurd (wrong_or_deep ts a h k)
  one_answer ts (Err (fault.Parse a)) (Err fault.OutOfMemory) h k = absurd k
  one_answer ts (Err fault.Deep) (Ok p) h k = absurd (script_or_deep ts p k h)
  one_answer ts (Err fault.Deep) (Err (fault.Parse a)) h k = absurd (wrong_or_deep ts a k h)
  one_answer ts (Err fault.Deep) (Err fault.Deep) h k = refl
  one_answer ts (Err fault.Deep) (Err fault.OutOfMemory) h k = absurd k
  one_answer ts (Err fault.OutOfMemory) s h k = absurd h
