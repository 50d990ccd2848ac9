-- Bytes are cut in some way.
use Rattle.std.proofs.Common.{◌≡◌, ◌≢◌, ℕ, zero, suc, ◌+◌, ◌≤◌, List, [], ◌∷◌, length, drop, Ok, Err, refl, arith, length-drop}
use Rattle.s_lex.specs.declared.fault.LexFault.TheVariants as fault
use Rattle.s_lex.specs.declared.piece.Piece.{Piece}
use Rattle.s_lex.specs.declared.piece.Piece.TheVariants as piece
use Rattle.s_lex.specs.Lexes.{Lexed, Lexes, with_token, ended, blank, token, bad}
use Rattle.s_lex.specs.Pieces.{piece_of}
use Rattle.s_lex.proofs.BytesIntoTokens.{token_takes, blank_takes}
use Rattle.s_lex.proofs.PieceLaw.{token_from, blank_from}

-- by so many pieces at most
cut : (n at : ℕ) (bs : List ℕ) → length bs ≤ n → (r : Lexed) × Lexes at bs r
cut n at [] short = (Ok [], ended)
cut zero at (b ∷ bs) short = absurd (omega (arith, short))
cut (suc n) at (b ∷ bs) short = by (piece_of (b ∷ bs)) refl (λ m l h. cut n m l h)
  where
    by : (p : Piece) → piece_of (b ∷ bs) ≡ p → ((m : ℕ) (l : List ℕ) → length l ≤ n → (r : Lexed) × Lexes m l r) → (r : Lexed) × Lexes at (b ∷ bs) r
    by (piece.Blank k) e rest =
        (let t = blank_takes (blank_from (b ∷ bs) k e) in
        let r = rest (at + k) (drop k (b ∷ bs)) (omega (arith, short, t.0, t.1, length-drop k (b ∷ bs))) in
        (r.0, blank e r.1))
    by (piece.Token kind k) e rest =
        (let t = token_takes (token_from (b ∷ bs) kind k e) in
        let r = rest (at + k) (drop k (b ∷ bs)) (omega (arith, short, t.0, t.1, length-drop k (b ∷ bs))) in
        (with_token (record { kind = kind; start = at; end = at + k }) r.0, token e r.1))
    by piece.Bad e rest = (Err (fault.Lex at), bad e)

pub lexed : (bs : List ℕ) → (r : Lexed) × Lexes 0 bs r
lexed bs = cut (length bs) 0 bs (omega arith)

-- want of memory is no way
pub no_want : {at : ℕ} {bs : List ℕ} {r : Lexed} → Lexes at bs r → r ≢ Err fault.OutOfMemory
no_want ended e = absurd (cc)
no_want (blank p l) e = no_want l e
no_want (token {r = Ok ts} p l) e = absurd (cc)
no_want (token {r = Err f} p l) e = no_want l e
no_want (bad p) e = absurd (cc)
