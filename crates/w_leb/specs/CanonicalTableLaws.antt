-- Writing by a format whose first byte, or first number, decides.
use Rattle.std.proofs.Common.{◌≡◌, ℕ, suc, ◌+◌, ◌*◌, ◌^◌, ◌<◌, ◌≤◌, inl, inr, Bool, true, false, cond, List, [], ◌∷◌, ◌++◌, length, refl, sym, ap, subst, ◌∙◌, arith}
use Rattle.std.specs.Prelude.{nat_eq}
use Rattle.std.proofs.lemmas.List.{length-append}
use Rattle.std.proofs.lemmas.Bool.Decides.{eqb_tells}
use Rattle.w_leb.specs.Format.{Grammar, Format, IsSolid, ByFirst, Chosen, ByNumber, Picked, Never}
use Rattle.w_leb.specs.Formats.{constant, ◌⊗◌, ◌⇒◌, table_or, table, choice, number}
use Rattle.w_leb.specs.Number.{Unsigned, shortest}
use Rattle.w_leb.specs.ShortestLaws.{shortest_spells, shortest_is_short}
use Rattle.w_leb.specs.CanonicalLaws.{IsCanonical}

-- a proof for the first entry, and those for the others
infixr 10 ◌&◌
abbrev pub ◌&◌ : {P Q : Type 0} → P → Q → P × Q
p & q = (p, q)

-- ## Which bytes spellings begin with

abbrev pub keys : {A : Type 0} → List (ℕ × Format A) → List ℕ
keys [] = []
keys (e ∷ es) = e.0 ∷ keys es

abbrev pub is_among : ℕ → List ℕ → Bool
is_among k [] = false
is_among k (j ∷ js) = cond (nat_eq k j) true (is_among k js)

-- each spelling begins with one of these bytes
abbrev pub BeginsIn : {A : Type 0} → List ℕ → Grammar A → Type 0
BeginsIn {A} ks g = (k : ℕ) (b : List ℕ) (x : A) → g (k ∷ b) x → is_among k ks ≡ true

-- no entry has this byte
abbrev pub has_none : {A : Type 0} → List (ℕ × Format A) → ℕ → Bool
has_none [] k = true
has_none (e ∷ es) k = cond (nat_eq k e.0) false (has_none es k)

-- no entry has one of these bytes
abbrev pub are_apart : {A : Type 0} → List ℕ → List (ℕ × Format A) → Bool
are_apart [] t = true
are_apart (k ∷ ks) t = cond (has_none t k) (are_apart ks t) false

among_with : (v : Bool) (k : ℕ) (js : List ℕ) (ks : List ℕ) → (cond v true (is_among k js)) ≡ true → (is_among k js ≡ true → is_among k (js ++ ks) ≡ true) → cond v true (is_among k (js ++ ks)) ≡ true
among_with true k js ks h f = refl
among_with false k js ks h f = f h

among_left : (k : ℕ) (js ks : List ℕ) → is_among k js ≡ true → is_among k (js ++ ks) ≡ true
among_left k [] ks h = absurd cc
among_left k (j ∷ js) ks h = among_with (nat_eq k j) k js ks h (among_left k js ks)

chosen_with : (v : Bool) (G H : Type 0) (k : ℕ) (js : List ℕ) → cond v G H → (H → is_among k js ≡ true) → cond v true (is_among k js) ≡ true
chosen_with true G H k js h f = refl
chosen_with false G H k js h f = f h

chosen_begins : {A : Type 0} (t : List (ℕ × Format A)) (g : Grammar A) (ks : List ℕ) → BeginsIn ks g → (k : ℕ) (b : List ℕ) (x : A) → Chosen t g k b x → is_among k (keys t ++ ks) ≡ true
chosen_begins [] g ks p k b x h = p k b x h
chosen_begins (e ∷ t) g ks p k b x h = chosen_with (nat_eq k e.0) (e.1.Spells b x) (Chosen t g k b x) k (keys t ++ ks) h (chosen_begins t g ks p k b x)

-- a table's spellings begin with the bytes of its entries
pub begins_table : {A : Type 0} (t : List (ℕ × Format A)) → BeginsIn (keys t ++ []) (table t).Spells
begins_table t k b x h = chosen_begins t Never [] (λ k b x h. absurd h) k b x h

pub begins_table_or : {A : Type 0} (t : List (ℕ × Format A)) (g : Format A) (solid : IsSolid g.Spells) (ks : List ℕ) → BeginsIn ks g.Spells → BeginsIn (keys t ++ ks) (table_or t g solid).Spells
begins_table_or t g solid ks p k b x h = chosen_begins t g.Spells ks p k b x h

pub begins_image : {A B : Type 0} (f : Format A) (make : A → B) (ks : List ℕ) → BeginsIn ks f.Spells → BeginsIn ks (f ⇒ make).Spells
begins_image f make ks p k b x h = p k b h.0 h.1

first_begins : {A B : Type 0} (f : Format A) (g : Format B) (ks : List ℕ) → IsSolid f.Spells → BeginsIn ks f.Spells → (k : ℕ) (b y z : List ℕ) (x : A × B) → k ∷ b ≡ y ++ z → f.Spells y x.0 → is_among k ks ≡ true
first_begins f g ks solid p k b [] z x e h = absurd (solid x.0 h)
first_begins f g ks solid p k b (j ∷ y) z x e h = let i : k ≡ j = cc in rw i (p j y x.0 h)

-- one after another begins as the first does
pub begins_pair : {A B : Type 0} (f : Format A) (g : Format B) (ks : List ℕ) → IsSolid f.Spells → BeginsIn ks f.Spells → BeginsIn ks (f ⊗ g).Spells
begins_pair f g ks solid p k b x h = first_begins f g ks solid p k b h.0 h.1 x h.2 h.3

-- ## A default whose spellings begin with no entry's byte

apart_with : {A : Type 0} (t : List (ℕ × Format A)) (u v : Bool) (k j : ℕ) (js : List ℕ) → nat_eq k j ≡ u → has_none t j ≡ v → cond v (are_apart js t) false ≡ true → cond u true (is_among k js) ≡ true → (are_apart js t ≡ true → is_among k js ≡ true → has_none t k ≡ true) → has_none t k ≡ true
apart_with t u false k j js e n a i f = absurd cc
apart_with t true true k j js e n a i f = elim (eqb_tells k j) [ inl p ↦ rw p.1 n | inr p ↦ let z : true ≡ false = sym e ∙ p.0 in absurd cc ]
apart_with t false true k j js e n a i f = f a i

pub apart_from : {A : Type 0} (ks : List ℕ) (t : List (ℕ × Format A)) → are_apart ks t ≡ true → (k : ℕ) → is_among k ks ≡ true → has_none t k ≡ true
apart_from [] t a k i = absurd cc
apart_from (j ∷ js) t a k i = apart_with t (nat_eq k j) (has_none t j) k j js refl refl a i (λ b h. apart_from js t b k h)

by_default_with : {A : Type 0} (e : Format A) (t : List (ℕ × Format A)) (g : Grammar A) (v : Bool) (k : ℕ) (b : List ℕ) (x : A) → cond v false (has_none t k) ≡ true → (has_none t k ≡ true → Chosen t g k b x) → cond v (e.Spells b x) (Chosen t g k b x)
by_default_with e t g true k b x n f = absurd cc
by_default_with e t g false k b x n f = f n

-- an entry that no byte has, and then the default
pub by_default : {A : Type 0} (t : List (ℕ × Format A)) (g : Grammar A) (k : ℕ) (b : List ℕ) (x : A) → has_none t k ≡ true → g (k ∷ b) x → Chosen t g k b x
by_default [] g k b x h s = s
by_default (e ∷ t) g k b x h s = by_default_with e.1 t g (nat_eq k e.0) k b x h (λ n. by_default t g k b x n s)

-- what the default spells, the table does
pub default_spells : {A : Type 0} (t : List (ℕ × Format A)) (g : Format A) → IsSolid g.Spells → ((k : ℕ) (b : List ℕ) (x : A) → g.Spells (k ∷ b) x → has_none t k ≡ true) → (l : List ℕ) (x : A) → g.Spells l x → ByFirst t g.Spells l x
default_spells t g solid n [] x h = absurd (solid x h)
default_spells t g solid n (k ∷ b) x h = by_default t g.Spells k b x (n k b x h) h

-- ## Tables

-- a value of an entry is written within twice the bytes that spell it, the first included, and that is a spelling
abbrev pub IsWritten : {A : Type 0} → Grammar A → (A → List ℕ) → List ℕ → A → Type 0
IsWritten whole w b x = (length (w x) ≤ 2 * suc (length b)) × (length b ≤ 2 ^ 30 → whole (w x) x)

-- what is asked of the writing of the values of each entry
abbrev pub EntriesWritten : {A : Type 0} → List (ℕ × Format A) → Grammar A → (A → List ℕ) → Type 0
EntriesWritten [] whole w = Unit {0}
EntriesWritten (e ∷ es) whole w = ((b : List ℕ) (x : _) → e.1.Spells b x → IsWritten whole w b x) × EntriesWritten es whole w

pick : (v : Bool) (P Q R : Type 0) → cond v P Q → (P → R) → (Q → R) → R
pick true P Q R h f g = f h
pick false P Q R h f g = g h

-- the same of all that a default spells
abbrev DefaultWritten : {A : Type 0} → Grammar A → Grammar A → (A → List ℕ) → Type 0
DefaultWritten {A} g whole w = (b : List ℕ) (x : A) → g b x → (length (w x) ≤ 2 * length b) × (length b ≤ 2 ^ 30 → whole (w x) x)

one_of : {A : Type 0} (t : List (ℕ × Format A)) (g : Grammar A) (whole : Grammar A) (w : A → List ℕ) → EntriesWritten t whole w → DefaultWritten g whole w
    → (k : ℕ) (b : List ℕ) (x : A) → Chosen t g k b x → (length (w x) ≤ 2 * suc (length b)) × (length b < 2 ^ 30 → whole (w x) x)
one_of [] g whole w es d k b x h = let r = d (k ∷ b) x h in (r.0, λ le. r.1 (omega arith))
one_of (e ∷ t) g whole w es d k b x h =
    pick (nat_eq k e.0) (e.1.Spells b x) (Chosen t g k b x) ((length (w x) ≤ 2 * suc (length b)) × (length b < 2 ^ 30 → whole (w x) x)) h
    (λ s. let r = es.0 b x s in (r.0, λ le. r.1 (omega arith))) (one_of t g whole w es.1 d k b x)

table_short : {A : Type 0} (t : List (ℕ × Format A)) (g : Grammar A) (w : A → List ℕ) → EntriesWritten t (ByFirst t g) w → DefaultWritten g (ByFirst t g) w → (b : List ℕ) (x : A) → ByFirst t g b x → length (w x) ≤ 2 * length b
table_short t g w es d [] x h = absurd h
table_short t g w es d (k ∷ b) x h = (one_of t g (ByFirst t g) w es d k b x h).0

table_again : {A : Type 0} (t : List (ℕ × Format A)) (g : Grammar A) (w : A → List ℕ) → EntriesWritten t (ByFirst t g) w → DefaultWritten g (ByFirst t g) w → (b : List ℕ) (x : A) → ByFirst t g b x → length b ≤ 2 ^ 30 → ByFirst t g (w x) x
table_again t g w es d [] x h le = absurd h
table_again t g w es d (k ∷ b) x h le = (one_of t g (ByFirst t g) w es d k b x h).1 (omega arith)

pub canon_table : {A : Type 0} (t : List (ℕ × Format A)) (w : A → List ℕ) → EntriesWritten t (ByFirst t Never) w → IsCanonical (table t) w
canon_table t w es = record {
  short = table_short t Never w es (λ b x h. absurd h);
  again = table_again t Never w es (λ b x h. absurd h);
}

default_written : {A : Type 0} (t : List (ℕ × Format A)) (g : Format A) (w : A → List ℕ) → IsCanonical g w → IsSolid g.Spells → ((k : ℕ) (b : List ℕ) (x : A) → g.Spells (k ∷ b) x → has_none t k ≡ true) → DefaultWritten g.Spells (ByFirst t g.Spells) w
default_written t g w p solid n b x s = (p.short b x s, λ le. default_spells t g solid n (w x) x (p.again b x s le))

-- with a default whose spellings begin with the byte of no entry
pub canon_table_or : {A : Type 0} (t : List (ℕ × Format A)) (g : Format A) (solid : IsSolid g.Spells) (w : A → List ℕ) → IsCanonical g w → ((k : ℕ) (b : List ℕ) (x : A) → g.Spells (k ∷ b) x → has_none t k ≡ true) → EntriesWritten t (ByFirst t g.Spells) w → IsCanonical (table_or t g solid) w
canon_table_or t g solid w p n es = record {
  short = table_short t g.Spells w es (default_written t g w p solid n);
  again = table_again t g.Spells w es (default_written t g w p solid n);
}

-- an entry without further bytes
pub of_constant : {A : Type 0} (v : A) (whole : Grammar A) (w : A → List ℕ) → length (w v) ≤ 2 → whole (w v) v → (b : List ℕ) (x : A) → (constant v).Spells b x → IsWritten whole w b x
of_constant v whole w len h b x s = subst (IsWritten whole w b) (sym s.1) (omega (arith, len), λ le. h)

-- an entry that is written as its parts are, behind its byte
pub of_image : {A B : Type 0} (f : Format A) (v : A → List ℕ) (make : A → B) (whole : Grammar B) (w : B → List ℕ) → IsCanonical f v → ((a : A) → length (w (make a)) ≤ suc (length (v a))) → ((a : A) → f.Spells (v a) a → whole (w (make a)) (make a))
    → (b : List ℕ) (x : B) → (f ⇒ make).Spells b x → IsWritten whole w b x
of_image f v make whole w p len h b x s = subst (IsWritten whole w b) s.2 (omega (arith, len s.0, p.short b s.0 s.1), λ le. h s.0 (p.again b s.0 s.1 le))

-- ## Choices by a number

-- a value of the entry of number n is written within the bytes of n and twice those behind it, and that is a spelling
abbrev pub IsWrittenBy : {A : Type 0} → ℕ → Grammar A → (A → List ℕ) → List ℕ → A → Type 0
IsWrittenBy n whole w b x = (length (w x) ≤ 2 * length (shortest n) + 2 * length b) × (length b ≤ 2 ^ 30 → whole (w x) x)

abbrev pub ChoicesWritten : {A : Type 0} → List (ℕ × Format A) → Grammar A → (A → List ℕ) → Type 0
ChoicesWritten [] whole w = Unit {0}
ChoicesWritten (e ∷ es) whole w = ((b : List ℕ) (x : _) → e.1.Spells b x → IsWrittenBy e.0 whole w b x) × ChoicesWritten es whole w

picked_with : {A : Type 0} (n m : ℕ) (whole : Grammar A) (w : A → List ℕ) (b : List ℕ) (x : A) (v : Bool) (P Q : Type 0) → nat_eq n m ≡ v → cond v P Q → (P → IsWrittenBy m whole w b x) → (Q → IsWrittenBy n whole w b x) → IsWrittenBy n whole w b x
picked_with n m whole w b x true P Q e h f g = elim (eqb_tells n m) [ inl p ↦ subst (λ (k : ℕ). IsWrittenBy k whole w b x) (sym p.1) (f h) | inr p ↦ let z : true ≡ false = sym e ∙ p.0 in absurd cc ]
picked_with n m whole w b x false P Q e h f g = g h

one_picked : {A : Type 0} (t : List (ℕ × Format A)) (whole : Grammar A) (w : A → List ℕ) → ChoicesWritten t whole w → (n : ℕ) (b : List ℕ) (x : A) → Picked t n b x → IsWrittenBy n whole w b x
one_picked [] whole w es n b x h = absurd h
one_picked (e ∷ t) whole w es n b x h = picked_with n e.0 whole w b x (nat_eq n e.0) (e.1.Spells b x) (Picked t n b x) refl h (es.0 b x) (one_picked t whole w es.1 n b x)

pub canon_choice : {A : Type 0} (t : List (ℕ × Format A)) (w : A → List ℕ) → ChoicesWritten t (ByNumber (Unsigned 32) t) w → IsCanonical (choice (number 32) t) w
canon_choice t w es = record {
  short = λ b x h. omega (arith, (one_picked t (ByNumber (Unsigned 32) t) w es h.0 h.2 x h.5).0, shortest_is_short 9 32 h.0 h.1 h.4, ap length h.3, length-append h.1 h.2);
  again = λ b x h le. (one_picked t (ByNumber (Unsigned 32) t) w es h.0 h.2 x h.5).1 (omega (arith, ap length h.3, length-append h.1 h.2));
}

-- an entry that is written as its parts are, behind its number
pub of_number : {A B : Type 0} (n : ℕ) (f : Format A) (v : A → List ℕ) (make : A → B) (t : List (ℕ × Format B)) (w : B → List ℕ) → n < 2 ^ 32 → IsCanonical f v → ((a : A) → w (make a) ≡ shortest n ++ v a) → ((a : A) → f.Spells (v a) a → Picked t n (v a) (make a))
    → (b : List ℕ) (x : B) → (f ⇒ make).Spells b x → IsWrittenBy n (ByNumber (Unsigned 32) t) w b x
of_number n f v make t w lt p is h b x s =
    subst (IsWrittenBy n (ByNumber (Unsigned 32) t) w b) s.2 (
      omega (arith, ap length (is s.0), length-append (shortest n) (v s.0), p.short b s.0 s.1),
      λ le. (n, shortest n, v s.0, is s.0, shortest_spells 9 32 n (omega arith) lt, h s.0 (p.again b s.0 s.1 le)),
    )
