-- So many bytes behind a size, and bytes that are wholly of a format.
use Rattle.std.proofs.Common.{◌≡◌, ℕ, zero, suc, ◌+◌, ◌-◌, ◌<◌, ◌≤◌, List, [], ◌∷◌, length, take, drop, Some, None, refl, ap, ◌∙◌, arith}
use Rattle.std.specs.Prelude.{slice_range}
use Rattle.std.proofs.lemmas.List.{drop-drop, length-drop, drop_more}
use Rattle.w_leb.specs.Format.{many, counted, byte, whole}
use Rattle.w_leb.specs.Number.{unsigned}
use Rattle.w_leb.specs.Formats.{bytes}

many_bytes : (n : ℕ) (l : List ℕ) → n ≤ length l → many byte n l ≡ Some (take n l, drop n l)
unfolding many
many_bytes zero l h = refl
many_bytes (suc n) [] h = absurd (omega arith)
many_bytes (suc n) (b ∷ l) h = rw (many_bytes n l (omega arith)) refl

short_bytes : (n : ℕ) (l : List ℕ) → length l < n → many byte n l ≡ None
unfolding many
short_bytes zero l h = absurd (omega arith)
short_bytes (suc n) [] h = refl
short_bytes (suc n) (b ∷ l) h = rw (short_bytes n l (omega arith)) refl

pub no_size : (l : List ℕ) → unsigned 32 l ≡ None → bytes.read l ≡ None
unfolding counted
no_size l h = rw h refl

pub too_short : (l r : List ℕ) (n : ℕ) → unsigned 32 l ≡ Some (n, r) → length r < n → bytes.read l ≡ None
unfolding counted
too_short l r n h lt = rw h (short_bytes n r lt)

pub cut_out : (b l : List ℕ) (start n : ℕ) → unsigned 32 l ≡ Some (n, drop start b) → start + n ≤ length b → bytes.read l ≡ Some (slice_range b start (start + n), drop (start + n) b)
unfolding counted
cut_out b l start n h le =
    let k : start + n - start ≡ n = omega arith in
    rw h (many_bytes n (drop start b) (omega (arith, length-drop start b)) ∙ rw (k, drop-drop n start b) refl)

-- what is followed by a byte is not the whole
pub not_whole : {A : Type 0} (x : A) (b : List ℕ) (next : ℕ) → next < length b → whole (Some (x, drop next b)) ≡ None
not_whole x b next h = ap (λ (l : List ℕ). whole (Some (x, l))) (drop_more b next 0 h)
