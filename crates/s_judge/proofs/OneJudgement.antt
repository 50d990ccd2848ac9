-- Bytes have just one judgement.
use Rattle.std.proofs.Common.{◌≡◌, ◌≢◌, ℕ, ◌<◌, ◌≤◌, inl, inr, Bool, true, false, cond, List, length, Option, Some, None, Result, Ok, Err, refl, sym, ap, ◌∙◌, arith}
use Rattle.std.proofs.lemmas.Bool.Decides.{nat_tests}
use Rattle.std.specs.Prelude.{nat_lt, IfOk, IfErr}
use Rattle.s_syntax.specs.declared.script.Script.{Script}
use Rattle.s_syntax.specs.declared.token.Token.{Token}
use Rattle.s_lex.specs.Lexes.{Lexed, Lexes}
use Rattle.s_lex.specs.declared.fault.LexFault.TheVariants as lexing
use Rattle.s_lex.proofs.BytesIntoTokens.{one_lexing}
use Rattle.s_lex.proofs.SomeWay.{lexed, no_want}
use Rattle.s_parse.specs.Parsed.{parsed}
use Rattle.s_parse.specs.Refusal as refusal
use Rattle.s_parse.specs.declared.fault.ParseFault.{ParseFault}
use Rattle.s_parse.specs.declared.fault.ParseFault.TheVariants as parsing
use Rattle.s_parse.proofs.Exact.{parsed_means}
use Rattle.s_parse.proofs.OneAnswer.{one_answer}
use Rattle.s_check.specs.Least.{first_broken}
use Rattle.s_check.specs.Rules.{broken_rules}
use Rattle.s_check.specs.declared.rule.Rule.{Rule}
use Rattle.s_check.proofs.Firsts.{good, broken, good_first, broken_first}
use Rattle.s_judge.specs.Faults.{of_lexing, of_parsing}
use Rattle.s_judge.specs.Judgements.{length_limit, Spelled, Misspelled, IsGood, HasFault, Means, IsAnswer}
use Rattle.s_judge.specs.declared.fault.ScriptFault.{ScriptFault}
use Rattle.s_judge.specs.declared.fault.ScriptFault.TheVariants as fault

-- ## The judgement, computed

after_review : Script → Option (ℕ × Rule) → Result Script ScriptFault
after_review p None = Ok p
after_review p (Some b) = Err (fault.Rule b.0 b.1)

after_parsing : Result Script ParseFault → Result Script ScriptFault
after_parsing (Ok p) = after_review p (first_broken 0 (broken_rules p.declarations))
after_parsing (Err e) = Err (of_parsing e)

after_lexing : List ℕ → Lexed → Result Script ScriptFault
after_lexing bytes (Ok ts) = after_parsing (parsed bytes ts)
after_lexing bytes (Err e) = Err (of_lexing e)

judged : List ℕ → Result Script ScriptFault
judged bytes = cond (nat_lt length_limit (length bytes)) (Err fault.TooLong) (after_lexing bytes (lexed bytes).0)

module _ (bytes : List ℕ) where
  is_long : length_limit < length bytes → nat_lt length_limit (length bytes) ≡ true
  is_long h = grind (arith, nat_tests)

  is_short : length bytes ≤ length_limit → nat_lt length_limit (length bytes) ≡ false
  is_short h = grind (arith, nat_tests)

  -- bytes that are not too many, cut so
  module _ (short : length bytes ≤ length_limit) where
    cut_so : (r : Lexed) → Lexes 0 bytes r → judged bytes ≡ after_lexing bytes r
    unfolding judged
    cut_so r h =
        ap (λ (b : Bool). cond b (Err fault.TooLong) (after_lexing bytes (lexed bytes).0)) (is_short short)
        ∙ ap (after_lexing bytes) (one_lexing (lexed bytes).1 h)

    spelled_so : (p : Script) → Spelled bytes p → judged bytes ≡ after_review p (first_broken 0 (broken_rules p.declarations))
    unfolding after_lexing after_parsing
    spelled_so p s = cut_so (Ok s.tokens) s.lexed ∙ ap after_parsing (one_answer bytes s.tokens (parsed bytes s.tokens) (Ok p) (parsed_means bytes s.tokens) s.parsed)

    misspelled_so : (e : ParseFault) → Misspelled bytes e → judged bytes ≡ Err (of_parsing e)
    unfolding after_lexing after_parsing
    misspelled_so e s = cut_so (Ok s.tokens) s.lexed ∙ ap after_parsing (one_answer bytes s.tokens (parsed bytes s.tokens) (Err e) (parsed_means bytes s.tokens) s.refused)

  -- whatever the bytes mean is what is computed
  is_judged : (r : Result Script ScriptFault) → Means bytes r → judged bytes ≡ r
  unfolding judged after_lexing after_review
  is_judged (Ok p) m = spelled_so m.short p m.spelled ∙ ap (after_review p) (good_first p m.good)
  is_judged (Err fault.TooLong) m = ap (λ (b : Bool). cond b (Err fault.TooLong) (after_lexing bytes (lexed bytes).0)) (is_long m)
  is_judged (Err (fault.Lex at)) m = cut_so m.0 (Err (lexing.Lex at)) m.1
  is_judged (Err (fault.Parse a)) m = misspelled_so m.0 (parsing.Parse a) m.1
  is_judged (Err fault.Deep) m = misspelled_so m.0 parsing.Deep m.1
  is_judged (Err (fault.Rule d r)) m = spelled_so m.0 m.1.script m.1.spelled ∙ ap (after_review m.1.script) (broken_first m.1.script d r m.1.broken)
  is_judged (Err fault.OutOfMemory) m = absurd m

  pub one_judgement : (r s : Result Script ScriptFault) → Means bytes r → Means bytes s → r ≡ s
  one_judgement r s h k = sym (is_judged r h) ∙ is_judged s k

  -- ## There is one

  review_means : (p : Script) → length bytes ≤ length_limit → Spelled bytes p → (o : Option (ℕ × Rule)) → first_broken 0 (broken_rules p.declarations) ≡ o → Means bytes (after_review p o)
  unfolding after_review
  review_means p short s None e = record { short = short; spelled = s; good = good p e }
  review_means p short s (Some b) e = (short, record { script = p; spelled = s; broken = broken p b.0 b.1 e })

  parse_means : (ts : List Token) → length bytes ≤ length_limit → Lexes 0 bytes (Ok ts) → (o : Result Script ParseFault) → refusal.Means bytes ts o → Means bytes (after_parsing o)
  unfolding after_parsing
  parse_means ts short l (Ok p) m = review_means p short (record { tokens = ts; lexed = l; parsed = m }) (first_broken 0 (broken_rules p.declarations)) refl
  parse_means ts short l (Err (parsing.Parse a)) m = (short, record { tokens = ts; lexed = l; refused = m })
  parse_means ts short l (Err parsing.Deep) m = (short, record { tokens = ts; lexed = l; refused = m })
  parse_means ts short l (Err parsing.OutOfMemory) m = absurd m

  lex_means : length bytes ≤ length_limit → (r : Lexed) → Lexes 0 bytes r → Means bytes (after_lexing bytes r)
  unfolding after_lexing
  lex_means short (Ok ts) l = parse_means ts short l (parsed bytes ts) (parsed_means bytes ts)
  lex_means short (Err (lexing.Lex at)) l = (short, l)
  lex_means short (Err lexing.OutOfMemory) l = absurd (no_want l refl)

  pub some_judgement : (r : Result Script ScriptFault) × Means bytes r
  some_judgement = by (nat_lt length_limit (length bytes)) refl
    where
      by : (b : Bool) → nat_lt length_limit (length bytes) ≡ b → (r : Result Script ScriptFault) × Means bytes r
      by true e = (Err fault.TooLong, (let h : length_limit < length bytes = grind (arith, nat_tests) in h))
      by false e = (after_lexing bytes (lexed bytes).0, (let h : length bytes ≤ length_limit = grind (arith, nat_tests) in lex_means h (lexed bytes).0 (lexed bytes).1))

-- ## Answers

-- what is answered rightly is all that can be
pub only_answer : (bytes : List ℕ) (result : Result Script ScriptFault) → IfOk result (IsGood bytes) → IfErr result (λ e. e ≢ fault.OutOfMemory → HasFault bytes e)
    → (r : Result Script ScriptFault) → Means bytes r → IsAnswer r result
only_answer bytes (Ok p) ok err r m = inl (one_judgement bytes (Ok p) r ok m)
only_answer bytes (Err fault.TooLong) ok err r m = inl (one_judgement bytes (Err fault.TooLong) r (err (λ e. absurd (cc))) m)
only_answer bytes (Err (fault.Lex at)) ok err r m = inl (one_judgement bytes (Err (fault.Lex at)) r (err (λ e. absurd (cc))) m)
only_answer bytes (Err (fault.Parse a)) ok err r m = inl (one_judgement bytes (Err (fault.Parse a)) r (err (λ e. absurd (cc))) m)
only_answer bytes (Err fault.Deep) ok err r m = inl (one_judgement bytes (Err fault.Deep) r (err (λ e. absurd (cc))) m)
only_answer bytes (Err (fault.Rule d q)) ok err r m = inl (one_judgement bytes (Err (fault.Rule d q)) r (err (λ e. absurd (cc))) m)
only_answer bytes (Err fault.OutOfMemory) ok err r m = inr refl
