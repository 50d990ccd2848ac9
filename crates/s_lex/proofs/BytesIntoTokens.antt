-- Cutting bytes into tokens, piece by piece.
use Rattle.std.proofs.Common.{◌≡◌, ℕ, ◌+◌, ◌<◌, ◌≤◌, List, [], ◌∷◌, ◌++◌, length, drop, get_or, Ok, Err, refl, sym, ap, subst, ◌∙◌, arith, length-drop, append_assoc}
use Rattle.std.proofs.lemmas.List.{drop-drop}
use Rattle.s_syntax.specs.declared.token.Kind.{Kind}
use Rattle.s_syntax.specs.declared.token.Token.{Token}
use Rattle.s_lex.specs.declared.fault.LexFault.TheVariants as fault
use Rattle.s_lex.specs.declared.piece.Piece.TheVariants as piece
use Rattle.s_lex.specs.Stands.{TokenStands, word, number, symbol, BlankStands, separator, comment}
use Rattle.s_lex.specs.Texts.{is_word, is_number, is_symbol, is_comment}
use Rattle.s_lex.specs.Pieces.{piece_of}
use Rattle.s_lex.specs.Lexes.{Lexed, with_token, Lexes, ended, blank, token, bad}
use Rattle.s_lex.proofs.Runs.{cell}
use Rattle.s_lex.proofs.Longest.{longest_some}
use Rattle.s_lex.proofs.PieceLaw.{token_from, blank_from}

-- ## A piece takes a byte at least, and no more than there are

pub token_takes : {bs : List ℕ} {k : Kind} {n : ℕ} → TokenStands bs k n → (0 < n) × (n ≤ length bs)
token_takes {bs = bs} {n = n} (word a) = (longest_some is_word bs n refl a, a.within)
token_takes {bs = bs} {n = n} (number a v f) = (longest_some is_number bs n refl a, a.within)
token_takes {bs = bs} {n = n} (symbol a e) = (longest_some is_symbol bs n refl a, a.within)

pub blank_takes : {bs : List ℕ} {n : ℕ} → BlankStands bs n → (0 < n) × (n ≤ length bs)
blank_takes (separator {bs = bs} e) = (omega arith, omega arith)
blank_takes {bs = bs} {n = n} (comment a) = (longest_some is_comment bs n refl a, a.within)

pub token_fits : (bs : List ℕ) (at n : ℕ) (k : Kind) → at < length bs → piece.Token k n ≡ piece_of (drop at bs) → (0 < n) × (at + n ≤ length bs)
token_fits bs at n k h e = let t = token_takes (token_from (drop at bs) k n (sym e)) in (t.0, omega (arith, t.1, length-drop at bs))

pub blank_fits : (bs : List ℕ) (at n : ℕ) → at < length bs → piece.Blank n ≡ piece_of (drop at bs) → (0 < n) × (at + n ≤ length bs)
blank_fits bs at n h e = let t = blank_takes (blank_from (drop at bs) n (sym e)) in (t.0, omega (arith, t.1, length-drop at bs))

-- ## What is cut so far

-- tokens before what follows
abbrev with_tokens : List Token → Lexed → Lexed
with_tokens ts (Ok us) = Ok (ts ++ us)
with_tokens ts (Err e) = Err e

-- the tokens so far, and whatever the bytes from the place on give
abbrev pub SoFar : List ℕ → List Token → ℕ → Type 0
SoFar bs ts at = (r : Lexed) → Lexes at (drop at bs) r → Lexes 0 bs (with_tokens ts r)

none_before : (r : Lexed) → with_tokens [] r ≡ r
none_before (Ok ts) = refl
none_before (Err e) = refl

pub so_far_begins : (bs : List ℕ) → SoFar bs [] 0
so_far_begins bs r h = subst (Lexes 0 bs) (sym (none_before r)) h

blank_at : (l bs m : List ℕ) (b at n : ℕ) (r : Lexed) → l ≡ b ∷ bs → piece_of l ≡ piece.Blank n → drop n l ≡ m → Lexes (at + n) m r → Lexes at l r
blank_at l bs m b at n r e p q h =
    subst (λ (k : List ℕ). Lexes at k r) (sym e) (blank (ap piece_of (sym e) ∙ p) (subst (λ (k : List ℕ). Lexes (at + n) k r) (sym q ∙ ap (drop n) e) h))

-- a separator or a comment more
pub so_far_blank : (bs : List ℕ) (ts : List Token) (at n : ℕ) → at < length bs → piece.Blank n ≡ piece_of (drop at bs) → SoFar bs ts at → SoFar bs ts (at + n)
so_far_blank bs ts at n h p f r l =
    f r (blank_at (drop at bs) (drop (at + 1) bs) (drop (at + n) bs) (get_or bs at 0) at n r (cell bs at h) (sym p) (drop-drop n at bs) l)

token_at : (l bs m : List ℕ) (b at n : ℕ) (k : Kind) (r : Lexed) → l ≡ b ∷ bs → piece_of l ≡ piece.Token k n → drop n l ≡ m → Lexes (at + n) m r → Lexes at l (with_token (record { kind = k; start = at; end = at + n }) r)
token_at l bs m b at n k r e p q h =
    subst (λ (j : List ℕ). Lexes at j (with_token (record { kind = k; start = at; end = at + n }) r)) (sym e) (token (ap piece_of (sym e) ∙ p) (subst (λ (j : List ℕ). Lexes (at + n) j r) (sym q ∙ ap (drop n) e) h))

one_more : (ts : List Token) (t : Token) (r : Lexed) → with_tokens ts (with_token t r) ≡ with_tokens (ts ++ t ∷ []) r
one_more ts t (Ok us) = ap (λ (l : List Token). Ok l) (sym (append_assoc ts (t ∷ []) us))
one_more ts t (Err e) = refl

-- a token more
pub so_far_token : (bs : List ℕ) (ts us : List Token) (at n : ℕ) (k : Kind) → at < length bs → piece.Token k n ≡ piece_of (drop at bs) → us ≡ ts ++ record { kind = k; start = at; end = at + n } ∷ [] → SoFar bs ts at → SoFar bs us (at + n)
so_far_token bs ts us at n k h p e f r l =
    let t : Token = record { kind = k; start = at; end = at + n } in
    subst (λ (x : List Token). Lexes 0 bs (with_tokens x r)) (sym e)
    (subst (Lexes 0 bs) (one_more ts t r) (f (with_token t r) (token_at (drop at bs) (drop (at + 1) bs) (drop (at + n) bs) (get_or bs at 0) at n k r (cell bs at h) (sym p) (drop-drop n at bs) l)))

bad_at : (l bs : List ℕ) (b at : ℕ) → l ≡ b ∷ bs → piece_of l ≡ piece.Bad → Lexes at l (Err (fault.Lex at))
bad_at l bs b at e p = subst (λ (k : List ℕ). Lexes at k (Err (fault.Lex at))) (sym e) (bad (ap piece_of (sym e) ∙ p))

-- no piece begins
pub so_far_bad : (bs : List ℕ) (ts : List Token) (at : ℕ) → at < length bs → piece.Bad ≡ piece_of (drop at bs) → SoFar bs ts at → Lexes 0 bs (Err (fault.Lex at))
so_far_bad bs ts at h p f = f (Err (fault.Lex at)) (bad_at (drop at bs) (drop (at + 1) bs) (get_or bs at 0) at (cell bs at h) (sym p))

ended_at : (l : List ℕ) (at : ℕ) → length l ≡ 0 → Lexes at l (Ok [])
ended_at [] at h = ended
ended_at (b ∷ l) at h = absurd (omega (arith, h))

append_none : (l : List Token) → l ++ [] ≡ l
append_none [] = refl
append_none (n ∷ l) = ap (λ (k : List Token). n ∷ k) (append_none l)

-- the bytes end
pub so_far_ends : (bs : List ℕ) (ts : List Token) (at : ℕ) → length bs ≤ at → SoFar bs ts at → Lexes 0 bs (Ok ts)
so_far_ends bs ts at h f = subst (λ (l : List Token). Lexes 0 bs (Ok l)) (append_none ts) (f (Ok []) (ended_at (drop at bs) at (omega (arith, length-drop at bs))))

-- ## Bytes are cut in one way

lexes_blank : {at n b : ℕ} {bs : List ℕ} {s : Lexed} → piece_of (b ∷ bs) ≡ piece.Blank n → Lexes at (b ∷ bs) s → Lexes (at + n) (drop n (b ∷ bs)) s
lexes_blank {at = at} {n = n} {b = b} {bs = bs} {s = s} p (blank {n = m} q k) = let e : m ≡ n = cc in subst (λ (i : ℕ). Lexes (at + i) (drop i (b ∷ bs)) s) e k
lexes_blank p (token q k) = absurd cc
lexes_blank p (bad q) = absurd cc

lexes_token : {at n b : ℕ} {bs : List ℕ} {k : Kind} {s : Lexed} → piece_of (b ∷ bs) ≡ piece.Token k n → Lexes at (b ∷ bs) s → (r : Lexed) × (with_token (record { kind = k; start = at; end = at + n }) r ≡ s) × Lexes (at + n) (drop n (b ∷ bs)) r
lexes_token p (blank q h) = absurd cc
lexes_token {at = at} {n = n} {b = b} {bs = bs} {k = k} p (token {n = m} {k = j} {r = r} q h) =
    let kinds : j ≡ k = cc in
    let ends : m ≡ n = cc in (
      r,
      ap (λ (t : Token). with_token t r) (ap (λ (i : Kind). record { kind = i; start = at; end = at + n }) (sym kinds) ∙ ap (λ (i : ℕ). record { kind = j; start = at; end = at + i }) (sym ends)),
      subst (λ (i : ℕ). Lexes (at + i) (drop i (b ∷ bs)) r) ends h,
    )
lexes_token p (bad q) = absurd cc

lexes_bad : {at b : ℕ} {bs : List ℕ} {s : Lexed} → piece_of (b ∷ bs) ≡ piece.Bad → Lexes at (b ∷ bs) s → Err (fault.Lex at) ≡ s
lexes_bad p (blank q h) = absurd cc
lexes_bad p (token q h) = absurd cc
lexes_bad p (bad q) = refl

lexes_ended : {at : ℕ} {s : Lexed} → Lexes at [] s → Ok [] ≡ s
lexes_ended ended = refl

pub one_lexing : {at : ℕ} {bs : List ℕ} {r s : Lexed} → Lexes at bs r → Lexes at bs s → r ≡ s
one_lexing ended k = lexes_ended k
one_lexing (blank p h) k = one_lexing h (lexes_blank p k)
one_lexing (token p h) k = let q = lexes_token p k in ap (with_token _) (one_lexing h q.2) ∙ q.1
one_lexing (bad p) k = lexes_bad p k
