-- What a format gives: a fact of each value that it spells in bytes.
use Rattle.std.proofs.Common.{◌≡◌, ℕ, zero, suc, ◌^◌, ◌<◌, Bool, true, false, cond, List, [], ◌∷◌, ◌++◌, sym, ap, subst, ◌∙◌, arith}
use Rattle.std.specs.Prelude.{IsTrue, ⊤, nat_eq}
use Rattle.hex.specs.Hex.{IsBytes}
use Rattle.w_leb.specs.Format.{Format, Grammar, OneByte, IsSolid, Never, Chosen, ByFirst, Picked, Counted, Each as Spelled}
use Rattle.w_leb.specs.Formats.{constant, ◌⊗◌, ◌⇒◌, such_that, table_or, table, choice, number, signed_number, vec, bytes, sized}
use Rattle.w_leb.specs.ShortestLaws.{within_bits}
use Rattle.w_leb.specs.ShortestSignedLaws.{within_bits as signed_within}
use Rattle.w_syntax.specs.Types.{entries_of}
use Rattle.w_words.specs.Words.{Each}
use Rattle.w_words.specs.Numbers.{SignedFits}

-- ## Bytes

pub front_bytes : (x y : List ℕ) → IsBytes (x ++ y) → IsBytes x
front_bytes [] y h i = omega arith
front_bytes (k ∷ x) y h zero = h zero
front_bytes (k ∷ x) y h (suc i) = front_bytes x y (λ j. h (suc j)) i

back_bytes : (x y : List ℕ) → IsBytes (x ++ y) → IsBytes y
back_bytes [] y h = h
back_bytes (k ∷ x) y h = back_bytes x y (λ j. h (suc j))

-- bytes in two parts
pub both_bytes : (b x y : List ℕ) → IsBytes b → b ≡ x ++ y → IsBytes x × IsBytes y
both_bytes b x y h e = let s = subst IsBytes e h in (front_bytes x y s, back_bytes x y s)

-- ## What a format gives

-- each value that f spells in bytes has the property P
pub record Gives {A : Type 0} (f : Format A) (P : A → Type 0) : Type 0 where
  pub holds : (b : List ℕ) (x : A) → IsBytes b → f.Spells b x → P x

pub weaker : {A : Type 0} {f : Format A} {P Q : A → Type 0} → ((x : A) → P x → Q x) → Gives f P → Gives f Q
weaker k g = record { holds = λ b x i h. k x (g.holds b x i h) }

pub of_any : {A : Type 0} {f : Format A} → Gives f (λ x. ⊤)
of_any = record { holds = λ b x i h. tt }

pub of_constant : {A : Type 0} {v : A} {P : A → Type 0} → P v → Gives (constant v) P
of_constant {P = P} p = record { holds = λ b x i h. subst P (sym h.1) p }

pub of_number : (w : ℕ) → Gives (number w) (λ n. n < 2 ^ w)
of_number w = record { holds = λ b n i h. within_bits w n b h }

pub of_signed : (w : ℕ) → Gives (signed_number w) (SignedFits w)
of_signed w = record { holds = λ b z i h. signed_within w z b h }

pub of_image : {A B : Type 0} {f : Format A} {make : A → B} {P : B → Type 0} → Gives f (λ x. P (make x)) → Gives (f ⇒ make) P
of_image {P = P} g = record { holds = λ b y i h. subst P h.2 (g.holds b h.0 i h.1) }

pub of_pair : {A B : Type 0} {f : Format A} {g : Format B} {P : A → Type 0} {Q : B → Type 0} → Gives f P → Gives g Q → Gives (f ⊗ g) (λ p. P p.0 × Q p.1)
of_pair p q = record { holds = λ b x i h. let s = both_bytes b h.0 h.1 i h.2 in (p.holds h.0 x.0 s.0 h.3, q.holds h.1 x.1 s.1 h.4) }

-- and the test passes
pub of_such : {A : Type 0} {t : A → Bool} {f : Format A} {P : A → Type 0} → Gives f P → Gives (such_that t f) (λ x. P x × IsTrue (t x))
of_such g = record { holds = λ b x i h. (g.holds b x i h.0, h.1) }

-- ## Lists

pub each_given : {A : Type 0} {f : Format A} {P : A → Type 0} → Gives f P → (b : List ℕ) (xs : List A) → IsBytes b → Spelled f.Spells b xs → Each P xs
unfolding Spelled
each_given g b [] i h = tt
each_given g b (x ∷ xs) i h = let s = both_bytes b h.0 h.1 i h.2 in (g.holds h.0 x s.0 h.3, each_given g h.1 xs s.1 h.4)

pub of_vec : {A : Type 0} {f : Format A} {P : A → Type 0} → Gives f P → Gives (vec f) (Each P)
unfolding Counted
of_vec g = record { holds = λ b xs i h. each_given g h.1 xs (both_bytes b h.0 h.1 i h.2).1 h.4 }

same_bytes : (b l : List ℕ) → Spelled OneByte b l → b ≡ l
unfolding Spelled
same_bytes b [] h = h
same_bytes b (k ∷ l) h = h.2 ∙ ap (λ (t : List ℕ). t ++ h.1) h.3 ∙ ap (λ (t : List ℕ). k ∷ t) (same_bytes h.1 l h.4)

pub of_bytes : Gives bytes IsBytes
unfolding Counted
of_bytes = record { holds = λ b l i h. subst IsBytes (same_bytes h.1 l h.4) (both_bytes b h.0 h.1 i h.2).1 }

pub of_sized : {A : Type 0} {f : Format A} {P : A → Type 0} → Gives f P → Gives (sized f) P
of_sized g = record { holds = λ b x i h. g.holds h.0 x (of_bytes.holds b h.0 i h.1) h.2 }

-- ## By the first byte, or by a number

-- each entry gives P
abbrev pub AllGive : {A : Type 0} → List (ℕ × Format A) → (A → Type 0) → Type 0
AllGive [] P = ⊤
AllGive (e ∷ es) P = Gives e.1 P × AllGive es P

-- what follows from either of two facts follows from the one that is chosen
pub in_either : (v : Bool) (P Q R : Type 0) → (P → R) → (Q → R) → cond v P Q → R
in_either true P Q R f g h = f h
in_either false P Q R f g h = g h

-- the same of all that a default spells
abbrev Default : {A : Type 0} → Grammar A → (A → Type 0) → Type 0
Default {A} g P = (b : List ℕ) (x : A) → IsBytes b → g b x → P x

chosen_gives : {A : Type 0} (t : List (ℕ × Format A)) (g : Grammar A) (P : A → Type 0) → AllGive t P → Default g P → (k : ℕ) (b : List ℕ) (x : A) → IsBytes (k ∷ b) → Chosen t g k b x → P x
chosen_gives [] g P a d k b x i h = d (k ∷ b) x i h
chosen_gives (e ∷ t) g P a d k b x i h = in_either (nat_eq k e.0) (e.1.Spells b x) (Chosen t g k b x) (P x) (a.0.holds b x (λ j. i (suc j))) (chosen_gives t g P a.1 d k b x i) h

first_gives : {A : Type 0} (t : List (ℕ × Format A)) (g : Grammar A) (P : A → Type 0) → AllGive t P → Default g P → (b : List ℕ) (x : A) → IsBytes b → ByFirst t g b x → P x
first_gives t g P a d [] x i h = absurd h
first_gives t g P a d (k ∷ b) x i h = chosen_gives t g P a d k b x i h

pub of_table : {A : Type 0} (t : List (ℕ × Format A)) {P : A → Type 0} → AllGive t P → Gives (table t) P
of_table t {P = P} a = record { holds = first_gives t Never P a (λ b x i h. absurd h) }

-- the one entry of a table
pub of_entry : {A : Type 0} (k : ℕ) {f : Format A} {P : A → Type 0} → Gives f P → Gives (table ((k, f) ∷ [])) P
of_entry k {f = f} g = of_table ((k, f) ∷ []) (g, tt)

pub of_table_or : {A : Type 0} (t : List (ℕ × Format A)) {g : Format A} (solid : IsSolid g.Spells) {P : A → Type 0} → AllGive t P → Gives g P → Gives (table_or t g solid) P
of_table_or t {g = g} solid {P = P} a d = record { holds = first_gives t g.Spells P a d.holds }

picked_gives : {A : Type 0} (t : List (ℕ × Format A)) (P : A → Type 0) → AllGive t P → (n : ℕ) (b : List ℕ) (x : A) → IsBytes b → Picked t n b x → P x
picked_gives [] P a n b x i h = absurd h
picked_gives (e ∷ t) P a n b x i h = in_either (nat_eq n e.0) (e.1.Spells b x) (Picked t n b x) (P x) (a.0.holds b x i) (picked_gives t P a.1 n b x i) h

pub of_choice : {A : Type 0} (t : List (ℕ × Format A)) {P : A → Type 0} → AllGive t P → Gives (choice (number 32) t) P
of_choice t {P = P} a = record { holds = λ b x i h. picked_gives t P a h.0 h.2 x (both_bytes b h.1 h.2 i h.3).1 h.5 }

-- the entries of a table, for what make makes of their values
pub of_entries : {A B : Type 0} (t : List (ℕ × Format A)) (make : A → B) (P : B → Type 0) → AllGive t (λ x. P (make x)) → AllGive (entries_of make t) P
of_entries [] make P a = tt
of_entries (e ∷ t) make P a = (of_image a.0, of_entries t make P a.1)
