-- What the table instructions do to the elements of a table (Core, execution, table instructions), whatever an element is.
-- An operation that may trap gives `None` there.
use Rattle.std.specs.Prelude.{ℕ, ◌+◌, min, nat_lt, nat_le, if◌then◌else◌, List, ◌++◌, length, replicate, Option, Some, None, slice_get, slice_set}
-- table.fill is `filled`; table.copy and table.init are `copied`, from a table or a segment; a trap where a range passes an end
pub use Rattle.w_memory.specs.Parts.{filled, copied}

-- no table of this engine has more elements
abbrev pub table_limit : ℕ
table_limit = 1048576

-- table.get: the element there; a trap past the end
abbrev pub get : {A : Type 0} → List A → ℕ → Option A
get xs at = slice_get xs at

-- table.set: v in place of the element there; a trap past the end
abbrev pub replaced : {A : Type 0} → List A → ℕ → A → Option (List A)
replaced xs at v = if nat_lt at (length xs) then Some (slice_set xs at v) else None

-- how many elements a table may come to
abbrev pub most_elements : Option ℕ → ℕ
most_elements (Some max) = min max table_limit
most_elements None = table_limit

-- growtable: n times v more, where the maximum allows it
abbrev pub grown : {A : Type 0} → List A → Option ℕ → A → ℕ → Option (List A)
grown xs max v n = if nat_le (length xs + n) (most_elements max) then Some (xs ++ replicate n v) else None
