-- Where tokens stand, and their texts.
use Rattle.std.proofs.Common.{◌≡◌, ℕ, ◌+◌, ◌-◌, ◌<◌, ◌≤◌, inl, List, [], ◌∷◌, length, take, drop, Ok, Err, refl, ap, subst, ◌∙◌, arith, length-drop}
use Rattle.std.specs.Prelude.{IfOk, All, slice_range}
use Rattle.std.proofs.lemmas.List.{drop-drop}
use Rattle.std.proofs.lemmas.List.Elements.{All-nil, All-cons}
use Rattle.s_syntax.specs.declared.token.Kind.{Kind}
use Rattle.s_syntax.specs.declared.token.Token.{Token}
use Rattle.s_lex.specs.Texts.{IsText}
use Rattle.s_lex.specs.Texts as text
use Rattle.s_lex.specs.Stands.{TokenStands, word, number, symbol}
use Rattle.s_lex.specs.Lexes.{Lexed, with_token, Lexes, ended, blank, token, bad, AreInOrder, IsAnswer}
use Rattle.s_lex.proofs.PieceLaw.{token_from, blank_from}
use Rattle.s_lex.proofs.BytesIntoTokens.{token_takes, blank_takes, one_lexing}

-- what stands in front is a text
text_of : {bs : List ℕ} {k : Kind} {n : ℕ} → TokenStands bs k n → IsText k (take n bs)
text_of (word a) = text.word a.passes
text_of (number a v f) = text.number a.passes v
text_of (symbol a e) = text.symbol e

-- a token's text in all the bytes
abbrev HasText : List ℕ → Token → Type 0
HasText all t = IsText t.kind (slice_range all t.start t.end)

abbrev HaveTexts : List ℕ → Lexed → Type 0
HaveTexts all r = IfOk r (λ ts. All (HasText all) ts)

more_texts : (all : List ℕ) (t : Token) (r : Lexed) → HasText all t → HaveTexts all r → HaveTexts all (with_token t r)
more_texts all t (Ok ts) h a = All-cons (HasText all) t ts h a
more_texts all t (Err e) h a = tt

text_at : (all : List ℕ) (at n : ℕ) (l : List ℕ) (k : Kind) → l ≡ drop at all → IsText k (take n l) → HasText all (record { kind = k; start = at; end = at + n })
text_at all at n l k e h =
    let m : n ≡ at + n - at = omega arith in
    subst (λ (i : ℕ). IsText k (take i (drop at all))) m (subst (λ (x : List ℕ). IsText k (take n x)) e h)

behind : (all : List ℕ) (at n : ℕ) (l : List ℕ) → l ≡ drop at all → drop n l ≡ drop (at + n) all
behind all at n l e = ap (drop n) e ∙ drop-drop n at all

have_texts : (all : List ℕ) {at : ℕ} {l : List ℕ} {r : Lexed} → Lexes at l r → l ≡ drop at all → HaveTexts all r
have_texts all ended e = All-nil (HasText all)
have_texts all {at = at} (blank {n = n} {b = b} {bs = bs} p h) e = have_texts all h (behind all at n (b ∷ bs) e)
have_texts all {at = at} (token {n = n} {b = b} {bs = bs} {k = k} {r = r} p h) e =
    more_texts all (record { kind = k; start = at; end = at + n }) r (text_at all at n (b ∷ bs) k e (text_of (token_from (b ∷ bs) k n p))) (have_texts all h (behind all at n (b ∷ bs) e))
have_texts all (bad p) e = tt

pub texts : (all : List ℕ) (ts : List Token) → Lexes 0 all (Ok ts) → All (HasText all) ts
texts all ts h = have_texts all h refl

-- ## Order

abbrev InOrder : ℕ → ℕ → Lexed → Type 0
InOrder from to r = IfOk r (λ ts. AreInOrder from to ts)

earlier : (i j to : ℕ) (ts : List Token) → i ≤ j → AreInOrder j to ts → AreInOrder i to ts
earlier i j to [] h a = omega (arith, h, a)
earlier i j to (t ∷ ts) h a = (omega (arith, h, a.0), a.1, a.2)

all_earlier : (i j to : ℕ) (r : Lexed) → i ≤ j → InOrder j to r → InOrder i to r
all_earlier i j to (Ok ts) h a = earlier i j to ts h a
all_earlier i j to (Err e) h a = tt

one_first : (at n to : ℕ) (k : Kind) (r : Lexed) → 0 < n → InOrder (at + n) to r → InOrder at to (with_token (record { kind = k; start = at; end = at + n }) r)
one_first at n to k (Ok ts) h a = (omega arith, omega (arith, h), a)
one_first at n to k (Err e) h a = tt

left : (at n : ℕ) (l : List ℕ) → n ≤ length l → at + n + length (drop n l) ≡ at + length l
left at n l h = omega (arith, h, length-drop n l)

in_order : {at : ℕ} {l : List ℕ} {r : Lexed} → Lexes at l r → InOrder at (at + length l) r
in_order ended = omega arith
in_order {at = at} (blank {n = n} {b = b} {bs = bs} {r = r} p h) =
    let t = blank_takes (blank_from (b ∷ bs) n p) in
    all_earlier at (at + n) (at + length (b ∷ bs)) r (omega arith) (subst (λ (to : ℕ). InOrder (at + n) to r) (left at n (b ∷ bs) t.1) (in_order h))
in_order {at = at} (token {n = n} {b = b} {bs = bs} {k = k} {r = r} p h) =
    let t = token_takes (token_from (b ∷ bs) k n p) in
    one_first at n (at + length (b ∷ bs)) k r t.0 (subst (λ (to : ℕ). InOrder (at + n) to r) (left at n (b ∷ bs) t.1) (in_order h))
in_order (bad p) = tt

pub order : (all : List ℕ) (ts : List Token) → Lexes 0 all (Ok ts) → AreInOrder 0 (length all) ts
order all ts h = let e : 0 + length all ≡ length all = omega arith in subst (λ (to : ℕ). AreInOrder 0 to ts) e (in_order h)

-- the answer is the one that the bytes have
pub only : (bs : List ℕ) (result r : Lexed) → Lexes 0 bs result → Lexes 0 bs r → IsAnswer r result
only bs result r h k = inl (one_lexing h k)
