-- Files that stand one behind the other.
use Rattle.std.specs.Prelude.{ℕ, List, [], ◌∷◌, take, drop}

-- the files, by their lengths
abbrev pub files_of : List ℕ → List ℕ → List (List ℕ)
files_of [] bytes = []
files_of (n ∷ ns) bytes = take n bytes ∷ files_of ns (drop n bytes)
