-- One token keeps the laws.
use Rattle.std.proofs.Common.{◌≡◌, ℕ, Bool, true, false, not, ◌&&◌, if◌then◌else◌, List, [], ◌∷◌, ◌++◌, Some, refl, ap, subst, ◌∙◌}
use Rattle.std.specs.Prelude.{IsTrue}
use Rattle.s_syntax.specs.declared.token.Kind.{Kind}
use Rattle.s_syntax.specs.declared.token.Kind.TheVariants as kind
use Rattle.s_syntax.specs.declared.token.Token.{Token}
use Rattle.s_grammar.specs.Grammar.{One}
use Rattle.s_grammar.specs.Kinds.{Kinds, kind_of, turn, Passes, Turn, is}
use Rattle.s_grammar.specs.Reading.{one, Got, Refused, Wrong}
use Rattle.s_grammar.proofs.KindSets.{Within, plain, within, is_pass, passes_is, any_kind}
use Rattle.s_grammar.proofs.ReadingLaws.{Begins, Known, Laws}
use Rattle.s_grammar.proofs.Walks.{walk, walk_by}

-- a token of the set is read
pub one_got : {A : Type 0} (ks : Kinds) (f : Token → A) (t : Token) (s : List Token) → IsTrue (ks t.kind) → one ks f (t ∷ s) ≡ Got (f t) s
one_got ks f t s h = ap (λ (v : Bool). if v then Got (f t) s else Refused Wrong (t ∷ s)) h

-- any other is refused
pub one_refused : {A : Type 0} (ks : Kinds) (f : Token → A) (s : List Token) → ks (kind_of s) ≡ false → one ks f s ≡ Refused Wrong s
one_refused ks f [] h = refl
one_refused ks f (t ∷ s) h = ap (λ (v : Bool). if v then Got (f t) s else Refused Wrong (t ∷ s)) h

-- a token of a kind
abbrev pub token_of : Kind → Token
token_of k = record { kind = k; start = 0; end = 0 }

-- a token is spelled
one_sample : {A : Type 0} (ks : Kinds) (f : Token → A) (k : Kind) → IsTrue (ks k) → Begins (One ks f) []
one_sample ks f k h = (token_of k ∷ [], f (token_of k), (token_of k, refl, h, refl))

-- it leaves the brackets as they are
walk_one : (n : ℕ) (t : Token) → turn t.kind ≡ Passes → walk n (t ∷ []) ≡ Some n
walk_one n t e = ap (λ (u : Turn). walk_by u n (λ j. Some j)) e

-- what is told by whether the token is of the set
one_known : {A : Type 0} (n : ℕ) (ks : Kinds) (f : Token → A) → ks kind.End ≡ false → ((k : Kind) → IsTrue (ks k) → turn k ≡ Passes) → (k : Kind) → IsTrue (ks k)
    → (t : Token) (ts : List Token) (v : Bool) → ks t.kind ≡ v → Known n (λ m. One ks f) (one ks f) (t ∷ ts) (if v then Got (f t) ts else Refused Wrong (t ∷ ts))
one_known n ks f no_end flat k h t ts true e = record {
  front = t ∷ [];
  parts = refl;
  spelled = λ m l. (t, refl, e, refl);
  level = walk_one n t (flat t.kind e);
  again = λ s same. one_got ks f t s e;
}
one_known n ks f no_end flat k h t ts false e = record {
  front = [];
  parts = refl;
  begins = λ m l. one_sample ks f k h;
  left = n;
  level = refl;
  cause = tt;
  again = λ s same. one_refused ks f s (ap ks same ∙ e);
}

-- what reading tells
one_known_at : {A : Type 0} (n : ℕ) (ks : Kinds) (f : Token → A) → ks kind.End ≡ false → ((k : Kind) → IsTrue (ks k) → turn k ≡ Passes) → (k : Kind) → IsTrue (ks k)
    → (ts : List Token) → Known n (λ m. One ks f) (one ks f) ts (one ks f ts)
one_known_at n ks f no_end flat k h [] = record {
  front = [];
  parts = refl;
  begins = λ m l. one_sample ks f k h;
  left = n;
  level = refl;
  cause = tt;
  again = λ s same. one_refused ks f s (ap ks same ∙ no_end);
}
one_known_at n ks f no_end flat k h (t ∷ ts) = one_known n ks f no_end flat k h t ts (ks t.kind) refl

-- what is spelled is read
one_only : {A : Type 0} (ks : Kinds) (f : Token → A) (b : List Token) (x : A) (s : List Token) → One ks f b x → one ks f (b ++ s) ≡ Got x s
one_only ks f b x s h = ap (λ (l : List Token). one ks f (l ++ s)) h.1 ∙ one_got ks f h.0 s h.2 ∙ ap (λ (y : _). Got y s) h.3

-- it begins with its token
one_starts : {A : Type 0} (ks : Kinds) (f : Token → A) (t : Token) (b : List Token) (x : A) → One ks f (t ∷ b) x → IsTrue (ks t.kind)
one_starts ks f t b x h = let e : h.0 ≡ t = cc (h.1) in subst (λ (u : Token). IsTrue (ks u.kind)) e h.2

-- no tokens spell nothing
one_empties : {A : Type 0} (ks : Kinds) (f : Token → A) (x : A) → One ks f [] x → ⊥
one_empties ks f x h = cc (h.1)

-- kinds of the set are no brackets
plain_turn : (ks : Kinds) → Within ks plain → (k : Kind) → IsTrue (ks k) → turn k ≡ Passes
plain_turn ks h k p = plain_passes (is kind.End k) (turn k) (within ks plain h k p)
  where
    plain_passes : (v : Bool) (t : Turn) → IsTrue (not v && is_pass t) → t ≡ Passes
    plain_passes true t q = absurd cc
    plain_passes false t q = passes_is t q

-- what is never so is false
not_true : (v : Bool) → (IsTrue v → ⊥) → v ≡ false
not_true true h = absurd (h refl)
not_true false h = refl

-- the laws of one token
pub one_laws : {A : Type 0} (n : ℕ) (ks : Kinds) (f : Token → A) (k : Kind) → Within ks plain → IsTrue (ks k) → Laws n 0 false ks any_kind (λ m. One ks f) (one ks f)
one_laws n ks f k w h = record {
  known = one_known_at n ks f (not_true (ks kind.End) (λ p. absurd (let q : false ≡ true = within ks plain w kind.End p in cc))) (plain_turn ks w) k h;
  only = λ b x s g p. one_only ks f b x s g;
  sample = λ m l. one_sample ks f k h;
  starts = λ m t b x g. one_starts ks f t b x g;
  empties = λ m x g. absurd (one_empties ks f x g);
}
