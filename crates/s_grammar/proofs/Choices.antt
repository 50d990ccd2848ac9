-- A choice by the first token keeps the laws.
use Rattle.std.proofs.Common.{◌≡◌, ℕ, ◌+◌, ◌≤◌, false, List, [], ◌∷◌, ◌++◌, refl, sym, ap, subst, ◌∙◌, append_assoc, arith}
use Rattle.std.specs.Prelude.{IsTrue}
use Rattle.s_syntax.specs.declared.token.Kind.{Kind}
use Rattle.s_syntax.specs.declared.token.Token.{Token}
use Rattle.s_grammar.specs.Grammar.{Grammar, Choice}
use Rattle.s_grammar.specs.Kinds.{kind_of, Kinds}
use Rattle.s_grammar.specs.Reading.{Why, Wrong, TooDeep, Reading, Answer, choice, Got, Refused}
use Rattle.s_grammar.proofs.InTurn.{no_tokens}
use Rattle.s_grammar.proofs.ReadingLaws.{Begins, must, Known, Laws}
use Rattle.s_grammar.proofs.Walks.{front_kind}

-- what the first token's grammar spells is spelled by the choice
choice_spelled : {A : Type 0} (g : Kind → Grammar A) (front ts rest : List Token) (x : A) → ts ≡ front ++ rest → (g (kind_of ts) [] x → ⊥) → g (kind_of ts) front x → Choice g front x
choice_spelled g [] ts rest x e solid h = absurd (solid h)
choice_spelled g (t ∷ f) ts rest x e solid h = subst (λ (k : Kind). g k (t ∷ f) x) (ap kind_of e) h

-- and so is what begins so
choice_begins : {A : Type 0} (g : Kind → Grammar A) (q ts rest : List Token) → ts ≡ q ++ rest → Begins (Choice g) [] → Begins (g (kind_of ts)) q → Begins (Choice g) q
choice_begins g [] ts rest e sample h = sample
choice_begins g (t ∷ q) ts rest e sample h = (h.0, h.1, subst (λ (k : Kind). g k ((t ∷ q) ++ h.0) h.1) (ap kind_of e) h.2)

-- the tokens behind the bracket that is told
beyond : Why → List Token → List Token
beyond Wrong rest = rest
beyond TooDeep [] = []
beyond TooDeep (t ∷ ts) = ts

-- with that bracket they are the rest
must_beyond : (w : Why) (rest : List Token) → rest ≡ must w rest ++ beyond w rest
unfolding beyond
must_beyond Wrong rest = refl
must_beyond TooDeep [] = refl
must_beyond TooDeep (t ∷ ts) = refl

-- what reading by the first token tells
choice_known : {A : Type 0} (n : ℕ) (G : Kind → ℕ → Grammar A) (r : Kind → Reading A) (ts : List Token) → ((m : ℕ) (x : A) → G (kind_of ts) m [] x → ⊥) → ((m : ℕ) → n + 3 ≤ m → Begins (Choice (λ k. G k m)) [])
    → (o : Answer A) → Known n (G (kind_of ts)) (r (kind_of ts)) ts o → Known n (λ m. Choice (λ k. G k m)) (choice r) ts o
choice_known n G r ts solid sample (Got x rest) t = record {
  front = t.front;
  parts = t.parts;
  spelled = λ m l. choice_spelled (λ k. G k m) t.front ts rest x t.parts (solid m x) (t.spelled m l);
  level = t.level;
  again = λ s k. ap (λ (j : Kind). r j (t.front ++ s)) (front_kind t.front s rest k ∙ ap kind_of (sym t.parts)) ∙ t.again s k;
}
choice_known n G r ts solid sample (Refused w rest) t = record {
  front = t.front;
  parts = t.parts;
  begins = λ m l. choice_begins (λ k. G k m) (t.front ++ must w rest) ts (beyond w rest) (t.parts ∙ ap (λ (u : List Token). t.front ++ u) (must_beyond w rest) ∙ sym (append_assoc t.front (must w rest) (beyond w rest))) (sample m l) (t.begins m l);
  left = t.left;
  level = t.level;
  cause = t.cause;
  again = λ s k. ap (λ (j : Kind). r j (t.front ++ s)) (front_kind t.front s rest k ∙ ap kind_of (sym t.parts)) ∙ t.again s k;
}

-- what is spelled is read
choice_only : {A : Type 0} (n d : ℕ) (first stops : Kinds) (G : Kind → ℕ → Grammar A) (r : Kind → Reading A) → ((k : Kind) → Laws n d false first stops (G k) (r k))
    → (b : List Token) (x : A) (s : List Token) → Choice (λ k. G k n) b x → IsTrue (stops (kind_of s)) → choice r (b ++ s) ≡ Got x s
choice_only n d first stops G r p [] x s g k = absurd g
choice_only n d first stops G r p (t ∷ b) x s g k = (p t.kind).only (t ∷ b) x s g k

-- no tokens spell nothing
choice_empties : {A : Type 0} (g : Kind → Grammar A) (x : A) → Choice g [] x → ⊥
choice_empties g x h = h

-- the laws of a choice
pub choice_laws : {A : Type 0} (n d j : ℕ) (first stops : Kinds) (G : Kind → ℕ → Grammar A) (r : Kind → Reading A) → d ≤ 3 → ((k : Kind) → Laws n j false first stops (G k) (r k))
    → ((m : ℕ) → d ≤ m → Begins (Choice (λ k. G k m)) []) → Laws n d false first stops (λ m. Choice (λ k. G k m)) (choice r)
choice_laws n d j first stops G r small p sample = record {
  known = λ ts. choice_known n G r ts (no_tokens (p (kind_of ts))) (λ m l. sample m (omega arith)) (r (kind_of ts) ts) ((p (kind_of ts)).known ts);
  only = choice_only n j first stops G r p;
  sample = sample;
  starts = λ m t b x g. (p t.kind).starts m t b x g;
  empties = λ m x g. absurd (choice_empties (λ k. G k m) x g);
}
