-- Names are looked up by their places in the table.
use Rattle.std.proofs.Common.{◌≡◌, ℕ, zero, suc, ◌+◌, ◌<◌, ◌≤◌, Bool, true, false, ◌&&◌, ◌||◌, cond, List, [], ◌∷◌, length, map, Option, Some, None, refl, sym, ap, ◌∙◌, arith, slice_index_or, slice_get, Bor}
use Rattle.std.specs.Prelude.{nat_eq}
use Rattle.std.specs.Str.{bytes_eq}
use Rattle.std.proofs.lemmas.Bool.Decides.{Decides-eqb}
use Rattle.std.proofs.lemmas.Slice.Eq.{bytes_eq-Decides}
use Rattle.w_words.specs.Words.{Word}
use Rattle.w_words.proofs.Readings.{both}
use Rattle.w_lines.specs.Instructions.{Row, rows, row_in}
use Rattle.w_lines.specs.NameTable.{kind_of, names_of, codes_of, kinds_of, IsRow}
use Rattle.w_lines.specs.Spelling.{Reader, reader_in, is_first, kinds}
use Rattle.w_lines.specs.declared.line.Line.{Line}
use Rattle.w_lines.specs.declared.names.Immediates.{Immediates}
use Rattle.w_lines.proofs.InstructionRows.{names_are_no_kinds}

-- ## Lists

-- an item of a list, by a list that is the same
pub item_in : {A : Type 0} (xs ns : List A) (i : ℕ) (d : A) → xs ≡ ns → i < length xs → slice_get ns i ≡ Some (slice_index_or xs i d)
item_in [] ns i d e h = absurd (omega (arith, h))
item_in (x ∷ xs) [] i d e h = absurd cc
item_in (x ∷ xs) (y ∷ ns) zero d e h = let s : x ≡ y = cc in ap (λ v. Some v) (sym s)
item_in (x ∷ xs) (y ∷ ns) (suc i) d e h = let s : xs ≡ ns = cc in item_in xs ns i d s (omega (arith, h))

-- an item of a list of texts, by the list of what these are
pub text_in : (xs : List (Bor (List ℕ))) (ns : List Word) (i : ℕ) (d : Bor (List ℕ)) → map (λ (b : Bor (List ℕ)). b.now) xs ≡ ns → i < length xs → slice_get ns i ≡ Some (slice_index_or xs i d).now
text_in [] ns i d e h = absurd (omega (arith, h))
text_in (x ∷ xs) [] i d e h = absurd cc
text_in (x ∷ xs) (w ∷ ns) zero d e h = let s : x.now ≡ w = cc in ap (λ (v : Word). Some v) (sym s)
text_in (x ∷ xs) (w ∷ ns) (suc i) d e h =
    let s : map (λ (b : Bor (List ℕ)). b.now) xs ≡ ns = cc in
    text_in xs ns i d s (omega (arith, h))

-- nothing stands past the end
pub none_past : (ns : List Word) (n i : ℕ) (w : Word) → length ns ≡ n → n ≤ i → slice_get ns i ≡ Some w → ⊥
none_past [] n i w l h e = absurd cc
none_past (v ∷ ns) n zero w l h e = absurd (omega (arith, l, h))
none_past (v ∷ ns) n (suc i) w l h e = none_past ns (length ns) i w refl (omega (arith, l, h)) e

-- ## The table

-- the place of the first row of this name
abbrev first_place : List Row → Word → ℕ
first_place [] w = 0
first_place (r ∷ rs) w = cond (bytes_eq w r.1) 0 (suc (first_place rs w))

-- each row from place n on is the first of its name
abbrev are_first : List Row → ℕ → List Row → Bool
are_first all n [] = true
are_first all n (r ∷ rs) = nat_eq (first_place all r.1) n && are_first all (suc n) rs

all_first : are_first rows 0 rows ≡ true
unfolding rows
all_first = refl

its_place : (all : List Row) (n : ℕ) (rs : List Row) (i : ℕ) (r : Row) → are_first all n rs ≡ true → slice_get rs i ≡ Some r → first_place all r.1 ≡ n + i
its_place all n [] i r h e = absurd cc
its_place all n (q ∷ rs) zero r h e =
    let s : q ≡ r = cc in
    let a = both (nat_eq (first_place all q.1) n) (are_first all (suc n) rs) h in
    let t : first_place all r.1 ≡ n = ap (λ (p : Row). first_place all p.1) (sym s) ∙ (Decides-eqb (first_place all q.1) n).0 a.0 in
    omega (arith, t)
its_place all n (q ∷ rs) (suc i) r h e =
    let a = both (nat_eq (first_place all q.1) n) (are_first all (suc n) rs) h in
    let t = its_place all (suc n) rs i r a.1 e in
    omega (arith, t)

at_first : (rs : List Row) (w : Word) → slice_get rs (first_place rs w) ≡ row_in rs w
at_first [] w = refl
at_first (r ∷ rs) w = cases (bytes_eq w r.1) (at_first rs w)
  where
    cases : (b : Bool) → slice_get rs (first_place rs w) ≡ row_in rs w → slice_get (r ∷ rs) (cond b 0 (suc (first_place rs w))) ≡ cond b (Some r) (row_in rs w)
    cases true h = refl
    cases false h = h

-- the row at a place, by what a list made of the rows has there
row_there : {A : Type 0} (f : Row → A) (rs : List Row) (i : ℕ) (x : A) → slice_get (map f rs) i ≡ Some x → (r : Row) × (slice_get rs i ≡ Some r) × (f r ≡ x)
row_there f [] i x e = absurd cc
row_there f (r ∷ rs) zero x e = (r, refl, cc)
row_there f (r ∷ rs) (suc i) x e = row_there f rs i x e

made_there : {A : Type 0} (f : Row → A) (rs : List Row) (i : ℕ) (r : Row) → slice_get rs i ≡ Some r → slice_get (map f rs) i ≡ Some (f r)
made_there f [] i r e = absurd cc
made_there f (q ∷ rs) zero r e = let s : q ≡ r = cc in ap (λ (p : Row). Some (f p)) s
made_there f (q ∷ rs) (suc i) r e = made_there f rs i r e

same_some : {A : Type 0} (o : Option A) (x y : A) → o ≡ Some x → o ≡ Some y → x ≡ y
same_some None x y e f = absurd cc
same_some (Some z) x y e f = let s : z ≡ x = cc in let t : z ≡ y = cc in sym s ∙ t

-- the row of a name, in the table
record Named (i : ℕ) (w : Word) : Type 0 where
  row : Row
  there : slice_get rows i ≡ Some row
  here : row_in rows w ≡ Some row

named : (i : ℕ) (w : Word) → slice_get (names_of rows) i ≡ Some w → Named i w
named i w e =
    let a = row_there (λ (r : Row). r.1) rows i w e in
    let q = its_place rows 0 rows i a.0 all_first a.1 in
    let p : first_place rows a.0.1 ≡ i = omega (arith, q) in
    record { row = a.0; there = a.1; here = ap (row_in rows) (sym a.2) ∙ sym (at_first rows a.0.1) ∙ ap (slice_get rows) p ∙ a.1 }

-- the row of a name
pub is_row : (i k : ℕ) (m : Immediates) (w : Word) → slice_get (names_of rows) i ≡ Some w → slice_get (codes_of rows) i ≡ Some k → slice_get (kinds_of rows) i ≡ Some m → IsRow w (record { opcode = k; immediates = m })
is_row i k m w e f g =
    let n = named i w e in
    record {
      row = n.row;
      here = n.here;
      opcode = same_some (slice_get (codes_of rows) i) n.row.0 k (made_there (λ (r : Row). r.0) rows i n.row n.there) f;
      immediates = same_some (slice_get (kinds_of rows) i) (kind_of n.row.2) m (made_there (λ (r : Row). kind_of r.2) rows i n.row n.there) g;
    }

first_has_reader : (rs : List (Word × Reader Line)) (w : Word) → is_first rs w ≡ true → reader_in rs w ≡ None → ⊥
first_has_reader [] w t e = absurd cc
first_has_reader (r ∷ rs) w t e = cases (bytes_eq w r.0) (first_has_reader rs w) t e
  where
    cases : (b : Bool) → (is_first rs w ≡ true → reader_in rs w ≡ None → ⊥) → (b || is_first rs w) ≡ true → cond b (Some r.1) (reader_in rs w) ≡ None → ⊥
    cases true more t e = absurd cc
    cases false more t e = more t e

-- a word that begins a line of another kind is no name
pub no_kind_is_named : (w : Word) → is_first kinds w ≡ true → (i : ℕ) → slice_get (names_of rows) i ≡ Some w → ⊥
no_kind_is_named w t i e = let n = named i w e in first_has_reader kinds w t (names_are_no_kinds w n.row n.here)

found_at : (rs : List Row) (w : Word) (r : Row) → row_in rs w ≡ Some r → (i : ℕ) × (slice_get (names_of rs) i ≡ Some w)
found_at [] w r e = absurd cc
found_at (q ∷ rs) w r e = cases (bytes_eq w q.1) refl (found_at rs w r) e
  where
    cases : (b : Bool) → bytes_eq w q.1 ≡ b → (row_in rs w ≡ Some r → (i : ℕ) × (slice_get (names_of rs) i ≡ Some w)) → cond b (Some q) (row_in rs w) ≡ Some r → (i : ℕ) × (slice_get (names_of (q ∷ rs)) i ≡ Some w)
    cases true t h g = (0, ap (λ (v : Word). Some v) (sym ((bytes_eq-Decides w q.1).0 t)))
    cases false t h g = let a = h g in (suc a.0, a.1)

-- a word that is no name
pub no_row : (w : Word) → ((i : ℕ) → slice_get (names_of rows) i ≡ Some w → ⊥) → row_in rows w ≡ None
no_row w h = cases (row_in rows w) refl
  where
    cases : (o : Option Row) → row_in rows w ≡ o → o ≡ None
    cases None e = refl
    cases (Some r) e = let a = found_at rows w r e in absurd (h a.0 a.1)
