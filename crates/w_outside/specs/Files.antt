-- Files in memory: pairs of a name and its bytes, of which the first with a name counts.
use Rattle.std.specs.Prelude.{ℕ, Bool, List, [], slice_get, find, String, Vec, string_bytes}
use Rattle.std.specs.Option.{option_map_or}
use Rattle.std.specs.Str.{bytes_eq}
use Rattle.w_outside.specs.Outside.{Known, missing, holds}

module _ {X Y : Type 0} where
  abbrev pub has_name : List ℕ → String X × Vec ℕ Y → Bool
  has_name name file = bytes_eq (string_bytes file.0) name

  -- what the files tell of a name
  abbrev pub known_in : List (String X × Vec ℕ Y) → List ℕ → Known
  known_in files name = option_map_or (λ file. holds file.1.items) (find (has_name name) files) missing

  -- the bytes of the file at a place, none past the last
  abbrev pub bytes_at : List (String X × Vec ℕ Y) → ℕ → List ℕ
  bytes_at files place = option_map_or (λ file. file.1.items) (slice_get files place) []
