-- Words, and lines of words.
use Rattle.std.specs.Prelude.{if◌then◌else◌, ℕ, ◌<◌, Bool, nat_eq, List, [], ◌∷◌, ◌++◌, Option, Some, None, option_map, ⊤}
use Rattle.std.specs.Borrow.{Bor}
use Rattle.std.specs.List.{flat_map, slice_split}
use Rattle.std.specs.Str.{bytes_eq}

-- a word, or a part of one: its bytes
abbrev pub Word : Type 0
Word = List ℕ

infixl 20 ◌>>=◌
abbrev pub ◌>>=◌ : {A B : Type 0} → Option A → (A → Option B) → Option B
None >>= f = None
(Some x) >>= f = f x

-- ## Lines

abbrev pub is_space : ℕ → Bool
is_space b = nat_eq b 32

-- words, each behind a space
abbrev pub behind_spaces : List Word → List ℕ
behind_spaces ws = flat_map (λ w. 32 ∷ w) ws

-- words parted by one space
abbrev pub spaced : List Word → List ℕ
spaced [] = []
spaced (w ∷ ws) = w ++ behind_spaces ws

-- the words of a line: there is at least one, which may be empty
abbrev pub words_of : List ℕ → List Word
words_of bs = slice_split is_space bs

-- no separator is in it, of words or of lines
abbrev pub IsClean : Word → Type 0
IsClean [] = ⊤
IsClean (b ∷ bs) = (32 < b) × IsClean bs

-- each of a list is such
abbrev pub Each : {A : Type 0} → (A → Type 0) → List A → Type 0
Each P [] = ⊤
Each P (x ∷ xs) = P x × Each P xs

-- ## Parts of words

-- what stands behind a prefix
abbrev pub behind : Word → Word → Option Word
behind [] w = Some w
behind (p ∷ ps) [] = None
behind (p ∷ ps) (b ∷ bs) = if nat_eq b p then behind ps bs else None

-- the first that is there
abbrev pub or_else : {A : Type 0} → Option A → Option A → Option A
or_else (Some x) o = Some x
or_else None o = o

-- ## Lists of words

-- where no word is left
abbrev pub ended : {A : Type 0} → A → List Word → Option A
ended x [] = Some x
ended x (w ∷ ws) = None

-- the next word, and those behind it
abbrev pub next : List Word → Option (Word × List Word)
next [] = None
next (w ∷ ws) = Some (w, ws)

-- the word, where there is just one
abbrev pub only : List Word → Option Word
only (w ∷ []) = Some w
only _ = None

-- the words, where there are just two
abbrev pub pair : List Word → Option (Word × Word)
pair (v ∷ w ∷ []) = Some (v, w)
pair _ = None

-- what the word is, where there is just one
abbrev pub one_of : {A : Type 0} → (Word → Option A) → List Word → Option A
one_of of ws = do
  w ← only ws
  of w

-- what the words are, where there are just two
abbrev pub two_of : {A B : Type 0} → (Word → Option A) → (Word → Option B) → List Word → Option (A × B)
two_of of other ws = do
  (v, w) ← pair ws
  x ← of v
  option_map (λ y. (x, y)) (other w)

-- what each word is
abbrev pub each_of : {A : Type 0} → (Word → Option A) → List Word → Option (List A)
each_of of [] = Some []
each_of of (w ∷ ws) = do
  x ← of w
  option_map (λ xs. x ∷ xs) (each_of of ws)

-- what each word in front of the first of these is, and the words behind that one
abbrev pub each_until : {A : Type 0} → Word → (Word → Option A) → List Word → Option (List A × List Word)
each_until end of [] = None
each_until end of (w ∷ ws) =
    if bytes_eq w end then Some ([], ws)
    else do
      x ← of w
      option_map (λ p. (x ∷ p.0, p.1)) (each_until end of ws)

-- ## Words that are still to come

-- none, or those of the rest of a line
abbrev pub words_in : Option (Bor (List ℕ)) → List Word
words_in None = []
words_in (Some bs) = words_of bs.now
