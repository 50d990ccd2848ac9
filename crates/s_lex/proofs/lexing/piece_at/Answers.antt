use Rattle.std.proofs.Common.{rules, ◌≡◌, true, false, ◌+◌, ◌-◌, suc, take, drop, get_or, sym, ap, ◌∙◌, refl, arith, ℕ}
use Rattle.s_syntax.specs.declared.token.Kind.{Kind}
use Rattle.s_lex.specs.declared.piece.Piece.TheVariants as piece
use Rattle.s_lex.specs.Bytes.{is_separator, is_hash, is_in_line, is_digit, is_letter, is_letter_or_digit}
use Rattle.s_lex.specs.Texts.{word_kind}
use Rattle.s_lex.specs.Pieces.{run}
use Rattle.s_lex.proofs.Places.{no_hash, piece_here}
use Rattle.s_lex.proofs.lexing.piece_at.Goals as goal

pub returns-then-is_separator : goal.returns-then-is_separator
returns-then-is_separator c =
    let b = get_or c.args.bytes.now c.args.at 0 in
    let s : is_separator b ≡ true = search rules in
    record { value = sym (piece_here c.args.bytes.now c.args.at true _ _ _ c.requires.within s refl refl refl) }

pub returns-then-byte-eq35 : goal.returns-then-byte-eq35
returns-then-byte-eq35 c =
    let b = get_or c.args.bytes.now c.args.at 0 in
    let s : is_separator b ≡ false = search rules in
    let h : is_hash b ≡ true = search rules in
    let n : c.end_of.result - c.args.at ≡ suc (run is_in_line (drop (c.args.at + 1) c.args.bytes.now)) = omega (arith, c.end_of.ensures.runs) in
    record { value = ap (λ (i : ℕ). piece.Blank i) n ∙ sym (piece_here c.args.bytes.now c.args.at false true _ _ c.requires.within s h refl refl) }

pub returns-then-is_letter : goal.returns-then-is_letter
returns-then-is_letter c =
    let b = get_or c.args.bytes.now c.args.at 0 in
    let all = drop c.args.at c.args.bytes.now in
    let s : is_separator b ≡ false = search rules in
    let h : is_hash b ≡ false = search rules in
    let l : is_letter b ≡ true = search rules in
    let n : c.end_of-end.result - c.args.at ≡ suc (run is_letter_or_digit (drop (c.args.at + 1) c.args.bytes.now)) = omega (arith, c.end_of-end.ensures.runs) in
    let k : c.word_kind.result ≡ word_kind (take (c.end_of-end.result - c.args.at) all) = search rules in
    record {
      value = ap (λ (x : Kind). piece.Token x (c.end_of-end.result - c.args.at)) k ∙ ap (λ (i : ℕ). piece.Token (word_kind (take i all)) i) n
          ∙ sym (piece_here c.args.bytes.now c.args.at false false true _ c.requires.within s h l refl);
    }

pub returns-then-is_digit : goal.returns-then-is_digit
returns-then-is_digit c =
    let b = get_or c.args.bytes.now c.args.at 0 in
    let s : is_separator b ≡ false = search rules in
    let h : is_hash b ≡ false = search rules in
    let l : is_letter b ≡ false = search rules in
    let d : is_digit b ≡ true = search rules in
    record { value = c.number_at.ensures.value ∙ sym (piece_here c.args.bytes.now c.args.at false false false true c.requires.within s h l d) }

pub returns : goal.returns
returns c =
    let b = get_or c.args.bytes.now c.args.at 0 in
    let s : is_separator b ≡ false = search rules in
    let h = no_hash b c.if-byte-eq35.false in
    let l : is_letter b ≡ false = search rules in
    let d : is_digit b ≡ false = search rules in
    record { value = c.symbol_at.ensures.value ∙ sym (piece_here c.args.bytes.now c.args.at false false false false c.requires.within s h l d) }
