-- What stands in front of bytes, computed. The law of pieces says that it is what the rules say.
use Rattle.std.specs.Prelude.{ℕ, suc, Bool, not, ◌&&◌, nat_le, List, [], ◌∷◌, take, drop, Option, Some, None, if◌then◌else◌}
use Rattle.s_syntax.specs.declared.token.Kind.{Kind}
use Rattle.s_syntax.specs.declared.token.Kind.TheVariants as kind
use Rattle.s_lex.specs.Bytes.{is_separator, is_hash, is_in_line, is_digit, is_letter, is_letter_or_digit}
use Rattle.s_lex.specs.Texts.{kind_in, word_kind, value, greatest, long_symbols, short_symbols}
use Rattle.s_lex.specs.Stands.{begins}
use Rattle.s_lex.specs.declared.piece.Piece.{Piece}
use Rattle.s_lex.specs.declared.piece.Piece.TheVariants as piece

-- how many bytes in front pass
unfoldable pub run : (ℕ → Bool) → List ℕ → ℕ
run test [] = 0
run test (b ∷ bs) = if test b then suc (run test bs) else 0

-- n bytes that are a word
abbrev pub word_piece : ℕ → List ℕ → Piece
word_piece n bs = piece.Token (word_kind (take n bs)) n

-- n bytes that are digits, behind which no digit stands
abbrev pub number_piece : ℕ → List ℕ → Piece
number_piece n bs = if nat_le (value (take n bs)) greatest && not (begins is_letter (drop n bs)) then piece.Token kind.Int n else piece.Bad

-- the symbol of two bytes, or else that of one
abbrev pub longer_of : Option Kind → Option Kind → Piece
longer_of (Some k) o = piece.Token k 2
longer_of None (Some k) = piece.Token k 1
longer_of None None = piece.Bad

abbrev pub symbol_piece : List ℕ → Piece
symbol_piece bs = longer_of (kind_in long_symbols (take 2 bs)) (kind_in short_symbols (take 1 bs))

-- by the byte b in front, with which they are all; bs stand behind it
abbrev pub piece_from : ℕ → List ℕ → List ℕ → Piece
piece_from b all bs =
    if is_separator b then piece.Blank 1
    else if is_hash b then piece.Blank (suc (run is_in_line bs))
    else if is_letter b then word_piece (suc (run is_letter_or_digit bs)) all
    else if is_digit b then number_piece (suc (run is_digit bs)) all
    else symbol_piece all

unfoldable pub piece_of : List ℕ → Piece
piece_of [] = piece.Bad
piece_of (b ∷ bs) = piece_from b (b ∷ bs) bs
