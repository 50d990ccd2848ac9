-- What an opcode says by itself.
use Rattle.std.specs.Prelude.{◌≡◌, ◌≤◌, ◌⊎◌, ℕ, List, ◌∷◌, if◌then◌else◌, nat_lt}
use Rattle.w_leb.specs.Format.{Format}
use Rattle.w_syntax.specs.declared.numeric.IntType.{IntType}
use Rattle.w_syntax.specs.declared.numeric.IntType.TheVariants as int

-- in f, what stands behind the byte k is spelled by g
abbrev pub Selects : {A : Type 0} → Format A → ℕ → Format A → Type 0
Selects f k g = (rest : List ℕ) → f.read (k ∷ rest) ≡ g.read rest

abbrev pub Between : ℕ → ℕ → ℕ → Type 0
Between low high k = (low ≤ k) × (k ≤ high)

-- tests of two integers
abbrev pub IsRelation : ℕ → Type 0
IsRelation k = Between 0x46 0x4F k ⊎ Between 0x51 0x5A k

-- operations on one integer
abbrev pub IsUnary : ℕ → Type 0
IsUnary k = Between 0x67 0x69 k ⊎ Between 0x79 0x7B k

-- and on two
abbrev pub IsBinary : ℕ → Type 0
IsBinary k = Between 0x6A 0x78 k ⊎ Between 0x7C 0x8A k

abbrev pub IsLoad : ℕ → Type 0
IsLoad k = Between 0x28 0x29 k ⊎ Between 0x2C 0x35 k

abbrev pub IsStore : ℕ → Type 0
IsStore k = Between 0x36 0x37 k ⊎ Between 0x3A 0x3E k

-- the type of the integers that are tested
abbrev pub tested_type : ℕ → IntType
tested_type k = if nat_lt k 0x50 then int.I32 else int.I64

-- the type of the integers that are worked on
abbrev pub worked_type : ℕ → IntType
worked_type k = if nat_lt k 0x79 then int.I32 else int.I64
