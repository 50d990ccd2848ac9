-- What stands in front of some bytes, computed by the definition.
use Rattle.std.proofs.Common.{◌≡◌, refl}
use Rattle.std.specs.Prelude.{codes}
use Rattle.s_syntax.specs.declared.token.Kind.TheVariants as kind
use Rattle.s_lex.specs.declared.piece.Piece.TheVariants.{Blank, Token, Bad}
use Rattle.s_lex.specs.Texts.{word_kind, value_behind}
use Rattle.s_lex.specs.Pieces.{run, piece_of}

keyword : piece_of (codes "if x") ≡ Token kind.If 2
unfolding piece_of run word_kind
keyword = refl

keyword_of_slots : piece_of (codes "slots s") ≡ Token kind.Slots 5
unfolding piece_of run word_kind
keyword_of_slots = refl

keyword_of_coroutines : piece_of (codes "coro)") ≡ Token kind.Coro 4
unfolding piece_of run word_kind
keyword_of_coroutines = refl

longer_word_is_a_name : piece_of (codes "iffy") ≡ Token kind.Name 4
unfolding piece_of run word_kind
longer_word_is_a_name = refl

name_of_all_kinds : piece_of (codes "_aZ9;") ≡ Token kind.Name 4
unfolding piece_of run word_kind
name_of_all_kinds = refl

greatest_number : piece_of (codes "9223372036854775807") ≡ Token kind.Int 19
unfolding piece_of run value_behind
greatest_number = refl

zeros_in_front : piece_of (codes "0009223372036854775807)") ≡ Token kind.Int 22
unfolding piece_of run value_behind
zeros_in_front = refl

greater_number : piece_of (codes "9223372036854775808") ≡ Bad
unfolding piece_of run value_behind
greater_number = refl

letter_behind_digits : piece_of (codes "12a") ≡ Bad
unfolding piece_of run value_behind
letter_behind_digits = refl

longer_symbol : piece_of (codes "<=1") ≡ Token kind.AtMost 2
unfolding piece_of
longer_symbol = refl

first_of_three : piece_of (codes "===") ≡ Token kind.Equal 2
unfolding piece_of
first_of_three = refl

shorter_symbol : piece_of (codes "<-") ≡ Token kind.Less 1
unfolding piece_of
shorter_symbol = refl

bracket : piece_of (codes "[0]") ≡ Token kind.OpenBracket 1
unfolding piece_of
bracket = refl

half_of_a_symbol : piece_of (codes "&") ≡ Bad
unfolding piece_of
half_of_a_symbol = refl

comment_to_the_line_feed : piece_of (codes "#a\nb") ≡ Blank 2
unfolding piece_of run
comment_to_the_line_feed = refl

comment_to_the_end : piece_of (codes "#") ≡ Blank 1
unfolding piece_of run
comment_to_the_end = refl

tab_separates : piece_of (codes "\tx") ≡ Blank 1
unfolding piece_of
tab_separates = refl

other_byte : piece_of (codes "$") ≡ Bad
unfolding piece_of
other_byte = refl
