-- What stands at a place of bytes.
use Rattle.std.proofs.Common.{◌≡◌, ℕ, ◌+◌, ◌-◌, ◌<◌, ◌≤◌, Bool, true, false, not, ◌&&◌, if◌then◌else◌, List, length, take, drop, get_or, Option, Some, None, refl, sym, ap, ◌∙◌, arith, length-drop}
use Rattle.std.specs.Prelude.{nat_le}
use Rattle.std.proofs.lemmas.List.{length-take, drop-drop}
use Rattle.std.proofs.lemmas.Bool.Decides.{nat_tests}
use Rattle.s_syntax.specs.declared.token.Kind.{Kind}
use Rattle.s_syntax.specs.declared.token.Kind.TheVariants as kind
use Rattle.s_lex.specs.declared.piece.Piece.{Piece}
use Rattle.s_lex.specs.declared.piece.Piece.TheVariants as piece
use Rattle.s_lex.specs.Bytes.{is_separator, is_hash, is_digit, is_letter}
use Rattle.s_lex.specs.Texts.{kind_in, long_symbols, value, greatest}
use Rattle.s_lex.specs.Stands.{begins}
use Rattle.s_lex.specs.Pieces.{number_piece, piece_from, piece_of}
use Rattle.s_lex.proofs.Runs.{cell}
use Rattle.s_lex.proofs.Tables.{long_two}
use Rattle.s_lex.proofs.PieceLaw.{chosen, by_tests, piece_cons}

-- any other byte is no number sign
pub no_hash : (b : ℕ) → (b ≡ 35 → ⊥) → is_hash b ≡ false
no_hash b f = grind (arith, nat_tests)

-- by the tests of the byte at the place
pub piece_here : (bs : List ℕ) (at : ℕ) (s h l d : Bool) → at < length bs → is_separator (get_or bs at 0) ≡ s → is_hash (get_or bs at 0) ≡ h → is_letter (get_or bs at 0) ≡ l → is_digit (get_or bs at 0) ≡ d → piece_of (drop at bs) ≡ chosen (get_or bs at 0) (drop at bs) (drop (at + 1) bs) s h l d
piece_here bs at s h l d w p q r t =
    let b = get_or bs at 0 in
    let rest = drop (at + 1) bs in
    let e = cell bs at w in
    ap piece_of e ∙ piece_cons b rest ∙ ap (λ (all : List ℕ). piece_from b all rest) (sym e) ∙ by_tests b (drop at bs) rest s h l d p q r t

-- one byte is no symbol of two
pub no_long_symbol : (bs : List ℕ) (at : ℕ) → length bs ≤ at + 1 → None ≡ kind_in long_symbols (take 2 (drop at bs))
no_long_symbol bs at h = cases (kind_in long_symbols (take 2 (drop at bs))) refl
  where
    cases : (o : Option Kind) → kind_in long_symbols (take 2 (drop at bs)) ≡ o → None ≡ o
    cases None e = refl
    cases (Some k) e = absurd (omega (arith, h, long_two (take 2 (drop at bs)) k e, length-take 2 (drop at bs), length-drop at bs))

abbrev number_if : ℕ → Bool → Bool → Piece
number_if n u v = if u && not v then piece.Token kind.Int n else piece.Bad

-- a number of n digits, by the place where they end
pub number_here : (bs : List ℕ) (at n end : ℕ) (u v : Bool) → end ≡ at + n → u ≡ nat_le (value (take (end - at) (drop at bs))) greatest → v ≡ begins is_letter (drop end bs) → number_piece n (drop at bs) ≡ number_if (end - at) u v
number_here bs at n end u v e p q =
    let k : end - at ≡ n = omega (arith, e) in
    let d : drop n (drop at bs) ≡ drop end bs = drop-drop n at bs ∙ ap (λ (i : ℕ). drop i bs) (sym e) in
    ap (λ (l : List ℕ). number_if n (nat_le (value (take n (drop at bs))) greatest) (begins is_letter l)) d
    ∙ ap (λ (i : ℕ). number_if i (nat_le (value (take i (drop at bs))) greatest) (begins is_letter (drop end bs))) (sym k)
    ∙ ap (λ (x : Bool). number_if (end - at) x (begins is_letter (drop end bs))) (sym p)
    ∙ ap (number_if (end - at) u) (sym q)

followed_none : (n : ℕ) (u : Bool) → number_if n u true ≡ piece.Bad
followed_none n true = refl
followed_none n false = refl

-- and none where a letter stands there
pub followed_here : (bs : List ℕ) (at n end : ℕ) → end ≡ at + n → true ≡ begins is_letter (drop end bs) → number_piece n (drop at bs) ≡ piece.Bad
followed_here bs at n end e q =
    number_here bs at n end (nat_le (value (take (end - at) (drop at bs))) greatest) true e refl q ∙ followed_none (end - at) (nat_le (value (take (end - at) (drop at bs))) greatest)
