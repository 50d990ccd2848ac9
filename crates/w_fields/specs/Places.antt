-- A piece of bytes by its places.
use Rattle.std.specs.Prelude.{◌≡◌, ℕ, ◌≤◌, List, length, drop, Option, Some, None, slice_range}
use Rattle.w_leb.specs.Formats.{bytes}

-- the bytes behind a size at a place, by where they begin and where they end
abbrev pub CutAt : List ℕ → ℕ → Option (ℕ × ℕ) → Type 0
CutAt b at None = bytes.read (drop at b) ≡ None
CutAt b at (Some x) = (bytes.read (drop at b) ≡ Some (slice_range b x.0 x.1, drop x.1 b)) × (at ≤ x.0) × (x.0 ≤ x.1) × (x.1 ≤ length b)
