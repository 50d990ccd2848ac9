-- Tables of opcodes: bytes that have no entry, and what an entry selects.
use Rattle.std.proofs.Common.{◌≡◌, ℕ, ◌≤◌, ◌<◌, ◌⊎◌, Bool, true, false, ◌&&◌, ◌||◌, cond, List, [], ◌∷◌, Some, refl, ap, ◌∙◌, arith}
use Rattle.std.specs.Prelude.{nat_eq, nat_lt}
use Rattle.std.proofs.lemmas.Bool.Decides.{nat_tests}
use Rattle.w_leb.specs.Format.{Format, Reading, byte, chosen}
use Rattle.w_code.specs.Opcodes.{Between, Selects}
use Rattle.w_code.proofs.ShortItems.{in_front}

-- what stands behind an entry's byte is read by what the entry selects
pub selected : {A : Type 0} (f g : Format A) (b rest : List ℕ) (k : ℕ) → byte b ≡ Some (k, rest) → Selects f k g → f.read b ≡ g.read rest
selected f g b rest k s h = ap f.read (in_front b rest k s) ∙ h rest

-- no entry has a byte from lo to hi
abbrev pub free : {A : Type 0} → ℕ → ℕ → List (ℕ × Format A) → Bool
free lo hi [] = true
free lo hi (e ∷ es) = (nat_lt e.0 lo || nat_lt hi e.0) && free lo hi es

outside : (n lo hi k : ℕ) → (nat_lt n lo || nat_lt hi n) ≡ true → lo ≤ k → k ≤ hi → nat_eq k n ≡ false
outside n lo hi k f l h = grind (arith, nat_tests)

both : (a b : Bool) → (a && b) ≡ true → (a ≡ true) × (b ≡ true)
both true b e = (refl, e)
both false b e = absurd (cc)

-- such a byte is read by what stands behind the table
pub passes : {A : Type 0} (t : List (ℕ × Format A)) (r : Reading A) (lo hi k : ℕ) (all rest : List ℕ) → free lo hi t ≡ true → lo ≤ k → k ≤ hi → chosen t r k all rest ≡ r all
passes [] r lo hi k all rest f l h = refl
passes (e ∷ es) r lo hi k all rest f l h =
    let s = both (nat_lt e.0 lo || nat_lt hi e.0) (free lo hi es) f in
    ap (λ (b : Bool). cond b (e.1.read rest) (chosen es r k all rest)) (outside e.0 lo hi k s.0 l h) ∙ passes es r lo hi k all rest s.1 l h

-- a byte lies below, within or above
pub around : (k lo hi : ℕ) → (k < lo) ⊎ Between lo hi k ⊎ (hi < k)
around k lo hi = grind arith
