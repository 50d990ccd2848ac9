-- A linear memory (Core, structure, memory instances), and what its instructions do to it (Core, execution, memory instructions).
-- An operation that may trap gives `None` there.
use Rattle.std.specs.Prelude.{◌≡◌, ℕ, ◌+◌, ◌*◌, ◌/◌, ◌%◌, ◌≤◌, min, Bool, ◌||◌, ◌==◌, nat_le, if◌then◌else◌, ℤ, pos, negsuc, List, ◌++◌, length, replicate, Option, Some, None, option_map}
use Rattle.w_memory.specs.Bytes.{number_of, bytes_of}
use Rattle.w_memory.specs.Parts.{is_within, part, written, filled, copied}

-- A memory instance: its bytes, and the maximum of its type in pages.
pub record Memory : Type 0 where
  pub bytes : List ℕ
  pub max : Option ℕ

-- the memory with other bytes
abbrev pub with_bytes : Memory → List ℕ → Memory
with_bytes m bytes = record m { bytes = bytes }

-- 64 Ki, the bytes of a page
abbrev pub page_size : ℕ
page_size = 65536

-- no memory of this engine has more pages
abbrev pub page_limit : ℕ
page_limit = 256

-- allocmem: so many pages of zeros
unfoldable pub fresh : ℕ → Option ℕ → Memory
fresh pages max = record { bytes = replicate (page_size * pages) 0; max = max }

-- memory.size: the number of pages
abbrev pub page_count : Memory → ℕ
page_count m = length m.bytes / page_size

-- the bytes are whole pages, and no more of them than the engine has
abbrev pub IsWhole : List ℕ → Type 0
IsWhole bs = (length bs % page_size ≡ 0) × (length bs ≤ page_size * page_limit)

-- ## Loads and stores

-- loads and stores have these sizes, in bytes
abbrev pub is_access_size : ℕ → Bool
is_access_size n = n == 1 || n == 2 || n == 4 || n == 8

-- t.load: the number whose bytes stand from `at` on; a trap where they pass the end
unfoldable pub load : Memory → ℕ → ℕ → Option ℕ
load m at size = if is_within at size m.bytes then Some (number_of (part m.bytes at size)) else None

-- t.store: the low bytes of v are written from `at` on; a trap where they pass the end
unfoldable pub store : Memory → ℕ → ℕ → ℕ → Option Memory
store m at size v = if is_within at size m.bytes then Some (with_bytes m (written m.bytes at (bytes_of size v))) else None

-- ## Bulk operations

-- memory.fill: n times this byte; a trap where they pass the end
unfoldable pub fill : Memory → ℕ → ℕ → ℕ → Option Memory
fill m to byte n = option_map (with_bytes m) (filled m.bytes to byte n)

-- memory.copy: n bytes of the memory, as they were; a trap where they, or what they overwrite, pass the end
unfoldable pub copy : Memory → ℕ → ℕ → ℕ → Option Memory
copy m to from n = option_map (with_bytes m) (copied m.bytes m.bytes to from n)

-- memory.init: n bytes of a data segment; a trap where they, or what they overwrite, pass the end
unfoldable pub init : Memory → List ℕ → ℕ → ℕ → ℕ → Option Memory
init m source to from n = option_map (with_bytes m) (copied m.bytes source to from n)

-- what an operation that may trap left: no memory where it did
abbrev pub left_by : Option (Unit {0}) → Memory → Option Memory
left_by (Some done) m = Some m
left_by None m = None

-- ## Growing

-- how many pages the memory may come to
abbrev pub most_pages : Option ℕ → ℕ
most_pages (Some max) = min max page_limit
most_pages None = page_limit

-- growmem: so many pages of zeros more, where the maximum allows it
unfoldable pub grown : Memory → ℕ → Option Memory
grown m n = if nat_le (page_count m + n) (most_pages m.max) then Some (with_bytes m (m.bytes ++ replicate (page_size * n) 0)) else None

-- what it answers and what it leaves: the pages before and more memory, or -1 and the same memory
abbrev pub answered : Memory → Option Memory → ℤ × Memory
answered m (Some new) = (pos (page_count m), new)
answered m None = (negsuc 0, m)

-- memory.grow
unfoldable pub grow : Memory → ℕ → ℤ × Memory
grow m n = answered m (grown m n)
