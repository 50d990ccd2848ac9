-- Files that stand one behind the other, read one by one.
use Rattle.std.proofs.Common.{◌≡◌, ◌<◌, ◌≤◌, ◌+◌, ◌∙◌, suc, refl, sym, ap, take, drop, get_or, length, Bool, ℕ, List, [], ◌∷◌, arith, inl, inr}
use Rattle.std.specs.List.{sum}
use Rattle.std.proofs.lemmas.List.{drop_more, drop_all, drop-drop, length-drop}
use Rattle.std.proofs.lemmas.List.Sums.{sum_by-drop_more}
use Rattle.w_outside.specs.Outside.{holds}
use Rattle.replies.specs.Answer.{Reply, FilesGive, NamesGive, limit_files, most_files}
use Rattle.runs.specs.Delivery.{MayFail}
use Rattle.handing.specs.Files.{files_of}

pub count_files : (ns bytes : List ℕ) → length (files_of ns bytes) ≡ length ns
count_files [] bytes = refl
count_files (n ∷ ns) bytes = ap suc (count_files ns (drop n bytes))

-- what stands behind the first of a list
one_more : (xs ys : List (List ℕ)) (x : List ℕ) (i : ℕ) → drop i xs ≡ x ∷ ys → drop (i + 1) xs ≡ ys
one_more xs ys x i is = sym (drop-drop 1 i xs) ∙ ap (drop 1) is

module _ (ns bytes rest : List ℕ) (i : ℕ) (lt : i < length ns) (behind : drop i (files_of ns bytes) ≡ files_of (drop i ns) rest) where
  abbrev n : ℕ
  n = get_or ns i 0

  -- the next file, and those behind it
  next : drop i (files_of ns bytes) ≡ take n rest ∷ files_of (drop (i + 1) ns) (drop n rest)
  next = behind ∙ ap (λ (l : List ℕ). files_of l rest) (drop_more ns i 0 lt)

  pub behind_next : drop (i + 1) (files_of ns bytes) ≡ files_of (drop (i + 1) ns) (drop n rest)
  behind_next = one_more (files_of ns bytes) (files_of (drop (i + 1) ns) (drop n rest)) (take n rest) i next

  pub next_file : drop i (files_of ns bytes) ≡ take n rest ∷ drop (i + 1) (files_of ns bytes)
  next_file = next ∙ ap (λ (l : List (List ℕ)). take n rest ∷ l) (sym behind_next)

  -- and their lengths
  pub room_next : sum (drop i ns) ≡ length rest → sum (drop (i + 1) ns) ≡ length (drop n rest)
  room_next room = omega (arith, room, sum_by-drop_more (λ (k : ℕ). k) ns i 0 lt, length-drop n rest)

-- no file is left
pub no_more_files : (ns bytes rest : List ℕ) (i : ℕ) → length ns ≤ i → drop i (files_of ns bytes) ≡ files_of (drop i ns) rest → drop i (files_of ns bytes) ≡ []
no_more_files ns bytes rest i le behind = behind ∙ ap (λ (l : List ℕ). files_of l rest) (drop_all i ns le)

-- what files give that aren't too many, and those that are
module _ (ns bytes : List ℕ) (steps : ℕ) (stats : Bool) (reply : Reply) where
  pub few_files : length ns ≤ most_files → FilesGive steps stats [] (files_of ns bytes) holds reply → NamesGive steps stats (files_of ns bytes) holds reply
  few_files few h = inl (omega (arith, few, count_files ns bytes), h)

  pub many_files : most_files < length ns → reply ≡ limit_files → NamesGive steps stats (files_of ns bytes) holds reply
  many_files many is = inr (omega (arith, many, count_files ns bytes), is)

-- no call fails
pub sure : (P : Reply → Type 0) (reply : Reply) → MayFail ⊥ P reply → P reply
sure P reply (inl h) = h
sure P reply (inr (never, is)) = absurd never
