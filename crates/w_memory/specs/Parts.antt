-- Parts of a list, and writing over them. What may pass an end gives `None` there.
use Rattle.std.specs.Prelude.{ℕ, ◌+◌, Bool, ◌&&◌, nat_le, if◌then◌else◌, List, ◌++◌, length, take, drop, replicate, Option, Some, None}

-- n elements from a place on don't pass the end
abbrev pub is_within : {A : Type 0} → ℕ → ℕ → List A → Bool
is_within at n xs = nat_le (at + n) (length xs)

-- xs[at : n], those elements
abbrev pub part : {A : Type 0} → List A → ℕ → ℕ → List A
part xs at n = take n (drop at xs)

-- the list with `new` in place of what stood from `at` on
abbrev pub written : {A : Type 0} → List A → ℕ → List A → List A
written xs at new = take at xs ++ new ++ drop (at + length new) xs

-- n times v, written from `to` on
abbrev pub filled : {A : Type 0} → List A → ℕ → A → ℕ → Option (List A)
filled xs to v n = if is_within to n xs then Some (written xs to (replicate n v)) else None

-- the n elements of `source` from a place on, as they were, written from `to` on
abbrev pub copied : {A : Type 0} → List A → List A → ℕ → ℕ → ℕ → Option (List A)
copied xs source to from n = if is_within to n xs && is_within from n source then Some (written xs to (part source from n)) else None
