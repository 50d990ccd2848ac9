-- Bits that are gathered.
use Rattle.std.proofs.Common.{◌≡◌, ℕ, bit_or, arith}
use Rattle.std.proofs.lemmas.Nat.{le_or_l, le_or_r}

-- they are none only where there are none in either
pub none_gathered : (a b : ℕ) → bit_or a b ≡ 0 → (a ≡ 0) × (b ≡ 0)
none_gathered a b e = (omega (arith, le_or_l a b), omega (arith, le_or_r a b))
