-- What is computed to stand in front is what the rules say.
use Rattle.std.proofs.Common.{◌≡◌, ℕ, zero, suc, ◌<◌, ◌≤◌, ◌⊎◌, inl, inr, Bool, true, false, not, ◌&&◌, if◌then◌else◌, List, [], ◌∷◌, length, take, drop, Option, Some, None, refl, sym, ap, ◌∙◌, subst, arith}
use Rattle.std.specs.Prelude.{is_some, nat_le}
use Rattle.std.proofs.lemmas.Bool.{le-leb, leb-true}
use Rattle.std.proofs.lemmas.List.{length-take, length-take-le}
use Rattle.s_syntax.specs.declared.token.Kind.{Kind}
use Rattle.s_syntax.specs.declared.token.Kind.TheVariants as kind
use Rattle.s_lex.specs.declared.piece.Piece.{Piece}
use Rattle.s_lex.specs.declared.piece.Piece.TheVariants as piece
use Rattle.s_lex.specs.Bytes.{is_separator, is_hash, is_in_line, is_digit, is_letter, is_letter_or_digit}
use Rattle.s_lex.specs.Texts.{is_word, is_number, is_comment, is_symbol, word_kind, kind_in, long_symbols, short_symbols, symbol_kind, value, greatest}
use Rattle.s_lex.specs.Stands.{IsLongest, begins, TokenStands, word, number, symbol, BlankStands, separator, comment, NothingStands}
use Rattle.s_lex.specs.Pieces.{run, word_piece, number_piece, longer_of, symbol_piece, piece_from, piece_of}
use Rattle.s_lex.proofs.Tables.{long_two, short_one, symbol_begins, others_none, symbol_from_long, symbol_from_short, symbol_cases, letters_none, digits_none, hash_none}
use Rattle.s_lex.proofs.Longest.{run_is_longest, longest_is_run, none_longest}

-- ## By the tests of the first byte

abbrev pub chosen : ℕ → List ℕ → List ℕ → (s h l d : Bool) → Piece
chosen b all bs s h l d =
    if s then piece.Blank 1
    else if h then piece.Blank (suc (run is_in_line bs))
    else if l then word_piece (suc (run is_letter_or_digit bs)) all
    else if d then number_piece (suc (run is_digit bs)) all
    else symbol_piece all

pub by_tests : (b : ℕ) (all bs : List ℕ) (s h l d : Bool) → is_separator b ≡ s → is_hash b ≡ h → is_letter b ≡ l → is_digit b ≡ d → piece_from b all bs ≡ chosen b all bs s h l d
by_tests b all bs s h l d p q r t =
    ap (λ (x : Bool). chosen b all bs x (is_hash b) (is_letter b) (is_digit b)) p
    ∙ ap (λ (x : Bool). chosen b all bs s x (is_letter b) (is_digit b)) q
    ∙ ap (λ (x : Bool). chosen b all bs s h x (is_digit b)) r
    ∙ ap (λ (x : Bool). chosen b all bs s h l x) t

pub piece_cons : (b : ℕ) (bs : List ℕ) → piece_of (b ∷ bs) ≡ piece_from b (b ∷ bs) bs
unfolding piece_of
piece_cons b bs = refl

piece_nil : piece_of [] ≡ piece.Bad
unfolding piece_of
piece_nil = refl

-- ## Symbols

symbol_is : (bs : List ℕ) (n : ℕ) (k : Kind) → n ≤ length bs → symbol_kind (take n bs) ≡ Some k → ((m : ℕ) (j : Kind) → n < m → m ≤ length bs → symbol_kind (take m bs) ≡ Some j → ⊥) → TokenStands bs k n
symbol_is bs n k w e f = symbol (record { within = w; passes = ap is_some e; longest = λ m h l. none m h l (symbol_kind (take m bs)) refl }) e
  where
    none : (m : ℕ) → n < m → m ≤ length bs → (o : Option Kind) → symbol_kind (take m bs) ≡ o → is_some (symbol_kind (take m bs)) ≡ false
    none m h l None g = ap is_some g
    none m h l (Some j) g = absurd (f m j h l g)

-- what is found has as many bytes as its symbol
two_within : (bs : List ℕ) (m : ℕ) (j : Kind) → m ≤ length bs → kind_in long_symbols (take m bs) ≡ Some j → m ≡ 2
two_within bs m j l g = omega (arith, long_two (take m bs) j g, length-take-le m bs l)

one_within : (bs : List ℕ) (m : ℕ) (j : Kind) → m ≤ length bs → kind_in short_symbols (take m bs) ≡ Some j → m ≡ 1
one_within bs m j l g = omega (arith, short_one (take m bs) j g, length-take-le m bs l)

few : (bs : List ℕ) (m : ℕ) (j : Kind) → m ≤ length bs → symbol_kind (take m bs) ≡ Some j → (m ≡ 2) ⊎ (m ≡ 1)
few bs m j l g = cases (symbol_cases (take m bs) j g)
  where
    cases : (kind_in long_symbols (take m bs) ≡ Some j) ⊎ (kind_in short_symbols (take m bs) ≡ Some j) → (m ≡ 2) ⊎ (m ≡ 1)
    cases (inl h) = inl (two_within bs m j l h)
    cases (inr h) = inr (one_within bs m j l h)

long_within : (bs : List ℕ) (k : Kind) → kind_in long_symbols (take 2 bs) ≡ Some k → 2 ≤ length bs
long_within bs k e = omega (arith, long_two (take 2 bs) k e, length-take 2 bs)

short_within : (bs : List ℕ) (k : Kind) → kind_in short_symbols (take 1 bs) ≡ Some k → 1 ≤ length bs
short_within bs k e = omega (arith, short_one (take 1 bs) k e, length-take 1 bs)

token_is : (bs : List ℕ) (j k : Kind) (m n : ℕ) → piece.Token j m ≡ piece.Token k n → TokenStands bs j m → TokenStands bs k n
token_is bs j k m n e s = let p : j ≡ k = cc in let q : m ≡ n = cc in subst (λ (i : ℕ). TokenStands bs k i) q (subst (λ (i : Kind). TokenStands bs i m) p s)

symbol_stands : (bs : List ℕ) (o p : Option Kind) (k : Kind) (n : ℕ) → kind_in long_symbols (take 2 bs) ≡ o → kind_in short_symbols (take 1 bs) ≡ p → longer_of o p ≡ piece.Token k n → TokenStands bs k n
symbol_stands bs (Some j) p k n e f g = token_is bs j k 2 n g (symbol_is bs 2 j (long_within bs j e) (symbol_from_long (take 2 bs) j e) longer)
  where
    by_length : (m : ℕ) → 2 < m → (m ≡ 2) ⊎ (m ≡ 1) → ⊥
    by_length m h (inl q) = absurd (omega (arith, h, q))
    by_length m h (inr q) = absurd (omega (arith, h, q))

    longer : (m : ℕ) (i : Kind) → 2 < m → m ≤ length bs → symbol_kind (take m bs) ≡ Some i → ⊥
    longer m i h l q = by_length m h (few bs m i l q)
symbol_stands bs None (Some j) k n e f g = token_is bs j k 1 n g (symbol_is bs 1 j (short_within bs j f) (symbol_from_short (take 1 bs) j f) longer)
  where
    by_case : (m : ℕ) (i : Kind) → 1 < m → m ≤ length bs → (kind_in long_symbols (take m bs) ≡ Some i) ⊎ (kind_in short_symbols (take m bs) ≡ Some i) → ⊥
    by_case m i h l (inl q) =
        let two : m ≡ 2 = two_within bs m i l q in
        let r : kind_in long_symbols (take 2 bs) ≡ Some i = subst (λ (a : ℕ). kind_in long_symbols (take a bs) ≡ Some i) two q in
        absurd cc
    by_case m i h l (inr q) = absurd (omega (arith, h, one_within bs m i l q))

    longer : (m : ℕ) (i : Kind) → 1 < m → m ≤ length bs → symbol_kind (take m bs) ≡ Some i → ⊥
    longer m i h l q = by_case m i h l (symbol_cases (take m bs) i q)
symbol_stands bs None None k n e f g = absurd cc

-- ## From what is computed

number_stands : (bs : List ℕ) (n : ℕ) (k : Kind) (m : ℕ) (u v : Bool) → IsLongest is_number bs n → nat_le (value (take n bs)) greatest ≡ u → begins is_letter (drop n bs) ≡ v → (if u && not v then piece.Token kind.Int n else piece.Bad) ≡ piece.Token k m → TokenStands bs k m
number_stands bs n k m true false a e f g = token_is bs kind.Int k n m g (number a (leb-true (value (take n bs)) greatest e) f)
number_stands bs n k m true true a e f g = absurd cc
number_stands bs n k m false v a e f g = absurd cc

token_chosen : (b : ℕ) (bs : List ℕ) (k : Kind) (n : ℕ) (s h l d : Bool) → is_letter b ≡ l → is_digit b ≡ d → chosen b (b ∷ bs) bs s h l d ≡ piece.Token k n → TokenStands (b ∷ bs) k n
token_chosen b bs k n true h l d p q e = absurd cc
token_chosen b bs k n false true l d p q e = absurd cc
token_chosen b bs k n false false true d p q e =
    token_is (b ∷ bs) (word_kind (take (suc (run is_letter_or_digit bs)) (b ∷ bs))) k (suc (run is_letter_or_digit bs)) n e (word (run_is_longest is_letter is_letter_or_digit b bs p))
token_chosen b bs k n false false false true p q e =
    number_stands (b ∷ bs) (suc (run is_digit bs)) k n _ _ (run_is_longest is_digit is_digit b bs q) refl refl e
token_chosen b bs k n false false false false p q e = symbol_stands (b ∷ bs) _ _ k n refl refl e

blank_is : (bs : List ℕ) (m n : ℕ) → piece.Blank m ≡ piece.Blank n → BlankStands bs m → BlankStands bs n
blank_is bs m n e s = let q : m ≡ n = cc in subst (BlankStands bs) q s

symbol_no_blank : (o p : Option Kind) (n : ℕ) → longer_of o p ≡ piece.Blank n → ⊥
symbol_no_blank (Some j) p n e = absurd cc
symbol_no_blank None (Some j) n e = absurd cc
symbol_no_blank None None n e = absurd cc

number_no_blank : (v : Bool) (m n : ℕ) → (if v then piece.Token kind.Int m else piece.Bad) ≡ piece.Blank n → ⊥
number_no_blank true m n e = absurd cc
number_no_blank false m n e = absurd cc

blank_chosen : (b : ℕ) (bs : List ℕ) (n : ℕ) (s h l d : Bool) → is_separator b ≡ s → is_hash b ≡ h → chosen b (b ∷ bs) bs s h l d ≡ piece.Blank n → BlankStands (b ∷ bs) n
blank_chosen b bs n true h l d p q e = blank_is (b ∷ bs) 1 n e (separator p)
blank_chosen b bs n false true l d p q e = blank_is (b ∷ bs) (suc (run is_in_line bs)) n e (comment (run_is_longest is_hash is_in_line b bs q))
blank_chosen b bs n false false true d p q e = absurd cc
blank_chosen b bs n false false false true p q e = absurd (number_no_blank _ (suc (run is_digit bs)) n e)
blank_chosen b bs n false false false false p q e = absurd (symbol_no_blank (kind_in long_symbols (take 2 (b ∷ bs))) (kind_in short_symbols (take 1 (b ∷ bs))) n e)

pub token_from : (bs : List ℕ) (k : Kind) (n : ℕ) → piece_of bs ≡ piece.Token k n → TokenStands bs k n
token_from [] k n e = absurd (let z = piece_nil in cc)
token_from (b ∷ bs) k n e = token_chosen b bs k n (is_separator b) (is_hash b) (is_letter b) (is_digit b) refl refl (sym (piece_cons b bs) ∙ e)

pub blank_from : (bs : List ℕ) (n : ℕ) → piece_of bs ≡ piece.Blank n → BlankStands bs n
blank_from [] n e = absurd (let z = piece_nil in cc)
blank_from (b ∷ bs) n e = blank_chosen b bs n (is_separator b) (is_hash b) (is_letter b) (is_digit b) refl refl (sym (piece_cons b bs) ∙ e)

-- ## To what is computed

word_computed : (bs : List ℕ) (n : ℕ) → IsLongest is_word bs n → piece_of bs ≡ piece.Token (word_kind (take n bs)) n
word_computed [] n a = absurd (none_longest is_word n refl a)
word_computed (b ∷ bs) n a =
    let p = longest_is_run is_letter is_letter_or_digit b bs n a in
    let q = letters_none b p.0 in
    piece_cons b bs ∙ by_tests b (b ∷ bs) bs false false true (is_digit b) q.0 q.1 p.0 refl
    ∙ ap (λ (i : ℕ). word_piece i (b ∷ bs)) (sym p.1)

number_computed : (bs : List ℕ) (n : ℕ) → IsLongest is_number bs n → value (take n bs) ≤ greatest → begins is_letter (drop n bs) ≡ false → piece_of bs ≡ piece.Token kind.Int n
number_computed [] n a v f = absurd (none_longest is_number n refl a)
number_computed (b ∷ bs) n a v f =
    let p = longest_is_run is_digit is_digit b bs n a in
    let q = digits_none b p.0 in
    let u : nat_le (value (take n (b ∷ bs))) greatest ≡ true = le-leb (value (take n (b ∷ bs))) greatest v in
    piece_cons b bs ∙ by_tests b (b ∷ bs) bs false false false true q.0 q.1 q.2 p.0
    ∙ ap (λ (i : ℕ). number_piece i (b ∷ bs)) (sym p.1)
    ∙ ap (λ (x : Bool). if x && not (begins is_letter (drop n (b ∷ bs))) then piece.Token kind.Int n else piece.Bad) u
    ∙ ap (λ (x : Bool). if true && not x then piece.Token kind.Int n else piece.Bad) f

longer_is : (bs : List ℕ) (k : Kind) (n : ℕ) → IsLongest is_symbol bs n → (kind_in long_symbols (take n bs) ≡ Some k) ⊎ (kind_in short_symbols (take n bs) ≡ Some k) → symbol_piece bs ≡ piece.Token k n
longer_is bs k n a (inl q) =
    let two : n ≡ 2 = two_within bs n k a.within q in
    let r : kind_in long_symbols (take 2 bs) ≡ Some k = subst (λ (i : ℕ). kind_in long_symbols (take i bs) ≡ Some k) two q in
    ap (λ (o : Option Kind). longer_of o (kind_in short_symbols (take 1 bs))) r ∙ ap (λ (i : ℕ). piece.Token k i) (sym two)
longer_is bs k n a (inr q) =
    let one : n ≡ 1 = one_within bs n k a.within q in
    let r : kind_in short_symbols (take 1 bs) ≡ Some k = subst (λ (i : ℕ). kind_in short_symbols (take i bs) ≡ Some k) one q in
    ap (λ (o : Option Kind). longer_of o (kind_in short_symbols (take 1 bs))) (no_long (kind_in long_symbols (take 2 bs)) refl)
    ∙ ap (λ (o : Option Kind). longer_of None o) r ∙ ap (λ (i : ℕ). piece.Token k i) (sym one)
  where
    no_long : (o : Option Kind) → kind_in long_symbols (take 2 bs) ≡ o → o ≡ None
    no_long None e = refl
    no_long (Some j) e =
        let one : n ≡ 1 = one_within bs n k a.within q in
        let no = a.longest 2 (omega (arith, one)) (long_within bs j e) in
        let yes = ap is_some (symbol_from_long (take 2 bs) j e) in
        absurd cc

symbol_computed : (bs : List ℕ) (k : Kind) (n : ℕ) → IsLongest is_symbol bs n → symbol_kind (take n bs) ≡ Some k → piece_of bs ≡ piece.Token k n
symbol_computed [] k n a e = absurd (none_longest is_symbol n refl a)
symbol_computed (b ∷ bs) k zero a e = absurd cc
symbol_computed (b ∷ bs) k (suc n) a e =
    let q = others_none b (symbol_begins (b ∷ take n bs) k e) in
    piece_cons b bs ∙ by_tests b (b ∷ bs) bs false false false false q.0 q.1 q.2 q.3
    ∙ longer_is (b ∷ bs) k (suc n) a (symbol_cases (b ∷ take n bs) k e)

pub token_to : {bs : List ℕ} {k : Kind} {n : ℕ} → TokenStands bs k n → piece_of bs ≡ piece.Token k n
token_to {bs = bs} {n = n} (word a) = word_computed bs n a
token_to {bs = bs} {n = n} (number a v f) = number_computed bs n a v f
token_to {bs = bs} {k = k} {n = n} (symbol a e) = symbol_computed bs k n a e

comment_computed : (bs : List ℕ) (n : ℕ) → IsLongest is_comment bs n → piece_of bs ≡ piece.Blank n
comment_computed [] n a = absurd (none_longest is_comment n refl a)
comment_computed (b ∷ bs) n a =
    let p = longest_is_run is_hash is_in_line b bs n a in
    piece_cons b bs ∙ by_tests b (b ∷ bs) bs false true (is_letter b) (is_digit b) (hash_none b p.0) p.0 refl refl
    ∙ ap (λ (i : ℕ). piece.Blank i) (sym p.1)

pub blank_to : {bs : List ℕ} {n : ℕ} → BlankStands bs n → piece_of bs ≡ piece.Blank n
blank_to (separator {b = b} {bs = bs} e) = piece_cons b bs ∙ by_tests b (b ∷ bs) bs true (is_hash b) (is_letter b) (is_digit b) e refl refl refl
blank_to {bs = bs} {n = n} (comment a) = comment_computed bs n a

-- ## Nothing

pub bad_from : (bs : List ℕ) → piece_of bs ≡ piece.Bad → NothingStands bs
bad_from bs e = record {
  no_token = λ k n s. let t = token_to s in absurd cc;
  no_blank = λ n s. let t = blank_to s in absurd cc;
}

pub bad_to : (bs : List ℕ) → NothingStands bs → piece_of bs ≡ piece.Bad
bad_to bs h = cases (piece_of bs) refl
  where
    cases : (p : Piece) → piece_of bs ≡ p → p ≡ piece.Bad
    cases (piece.Blank n) e = absurd (h.no_blank n (blank_from bs n e))
    cases (piece.Token k n) e = absurd (h.no_token k n (token_from bs k n e))
    cases piece.Bad e = refl
