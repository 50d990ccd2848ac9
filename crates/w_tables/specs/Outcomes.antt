-- What an operation that may fail answers, and what it leaves. `after` makes what it leaves of its result.
use Rattle.std.specs.Prelude.{ℕ, ℤ, pos, negsuc, Option, Some, None}

-- of one that may trap: where it traps all stays as it was
abbrev pub outcome : {S R : Type 0} → S → (R → S) → Option R → Option (Unit {0}) × S
outcome s after (Some r) = (Some tt, after r)
outcome s after None = (None, s)

-- of a growth: the size before; or -1, and then all stays as it was
abbrev pub growth : {S R : Type 0} → ℕ → S → (R → S) → Option R → ℤ × S
growth before s after (Some r) = (pos before, after r)
growth before s after None = (negsuc 0, s)
