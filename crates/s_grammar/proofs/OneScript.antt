-- Tokens spell one script at most.
use Rattle.std.proofs.Common.{◌≡◌, ℕ, ◌+◌, ◌⊎◌, inl, inr, List, [], refl, sym, ap, subst, ◌∙◌, arith}
use Rattle.s_syntax.specs.declared.script.Script.{Script}
use Rattle.s_syntax.specs.declared.token.Token.{Token}
use Rattle.s_grammar.specs.Reading.{Answer, Got, Refused}
use Rattle.s_grammar.specs.Reads.{script}
use Rattle.s_grammar.specs.Syntax.{ScriptOf, Spells}
use Rattle.s_grammar.proofs.DeclarationLaws.{script_laws}
use Rattle.s_grammar.proofs.ReadingLaws.{IsDeep}
use Rattle.s_grammar.proofs.NamedStatements.{append_none}
use Rattle.s_grammar.proofs.SyntaxAgreement.{script_agree}

-- readings that agree are the same where no bracket is too many
pub agree_not : {A : Type 0} (a b : Answer A) → IsDeep a ⊎ (a ≡ b) → (IsDeep a → ⊥) → a ≡ b
agree_not a b (inl d) h = absurd (h d)
agree_not a b (inr e) h = e

-- what is got is not too deep
not_deep : {A : Type 0} (a : Answer A) (x : A) (l : List Token) → a ≡ Got x l → IsDeep a → ⊥
not_deep (Got y m) x l e d = d
not_deep (Refused w m) x l e d = cc (e)

-- equal answers have equal parts
pub got_parts : {A : Type 0} (x y : A) (k l : List Token) → ◌≡◌ {A = Answer A} (Got x k) (Got y l) → (x ≡ y) × (k ≡ l)
got_parts x y k l e = (cc, cc)

module _ (bytes : List ℕ) where
  -- what is spelled is read
  reads_script : (m : ℕ) (ts : List Token) (p : Script) → ScriptOf bytes m ts p → script bytes m ts ≡ Got p []
  reads_script m ts p g = ap (script bytes m) (sym (append_none ts)) ∙ (script_laws bytes m).only ts p [] g refl

  -- where reading with 64 brackets is not too deep, it reads any script that is spelled
  pub settled : (m : ℕ) (ts : List Token) (p : Script) → ScriptOf bytes m ts p → (a : Answer (Script)) → script bytes 64 ts ≡ a → (IsDeep a → ⊥) → a ≡ Got p []
  settled m ts p g a e h =
      let wide = agree_not (script bytes m ts) (script bytes (m + 64) ts) (script_agree bytes m (m + 64) (omega arith) ts) (not_deep (script bytes m ts) p [] (reads_script m ts p g)) in
      let narrow = agree_not (script bytes 64 ts) (script bytes (m + 64) ts) (script_agree bytes 64 (m + 64) (omega arith) ts) (λ d. h (subst IsDeep e d)) in
      sym e ∙ narrow ∙ sym wide ∙ reads_script m ts p g

  -- tokens spell one script at most
  pub one_script : (ts : List Token) (p q : Script) → Spells bytes ts p → Spells bytes ts q → p ≡ q
  one_script ts p q s t =
      let wide = agree_not (script bytes s.0 ts) (script bytes (s.0 + t.0) ts) (script_agree bytes s.0 (s.0 + t.0) (omega arith) ts) (not_deep (script bytes s.0 ts) p [] (reads_script s.0 ts p s.1)) in
      let other = agree_not (script bytes t.0 ts) (script bytes (s.0 + t.0) ts) (script_agree bytes t.0 (s.0 + t.0) (omega arith) ts) (not_deep (script bytes t.0 ts) q [] (reads_script t.0 ts q t.1)) in
      (got_parts p q [] [] (sym (reads_script s.0 ts p s.1) ∙ wide ∙ sym other ∙ reads_script t.0 ts q t.1)).0
