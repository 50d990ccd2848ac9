-- Counts of segments and frames that are kept.
use Rattle.std.proofs.Common.{◌≡◌, ℕ, suc, ◌+◌, ◌-◌, ◌*◌, ◌^◌, ◌<◌, ◌≤◌, List, [], ◌∷◌, length, arith}
use Rattle.std.specs.Prelude.{All}
use Rattle.std.proofs.lemmas.List.Elements.{All-nil}
use Rattle.w_segment.specs.Shape.{frames_of}
use Rattle.w_segment.specs.Link.{Link, rest}
use Rattle.w_chain.specs.Counts.{frames_in_all, frames_in_top, IsCounted}

abbrev Few : Link → Type 0
Few x = frames_of x.shape.levels < 2 ^ 32

all_rest : (x : Link) (xs : List Link) → All Few (x ∷ xs) → All Few xs
all_rest x xs a = λ k d h. a (suc k) d (omega arith)

few_frames : (xs : List Link) → All Few xs → frames_in_all xs ≤ 2 ^ 32 * length xs
few_frames [] a = omega arith
few_frames (x ∷ xs) a = let h = a 0 x (omega arith) in let r = few_frames xs (all_rest x xs a) in omega arith

rest_long : (xs : List Link) → length (rest xs) ≤ length xs
rest_long [] = omega arith
rest_long (x ∷ xs) = omega arith

-- all frames are counted by 64 bits
pub sum_fits : (n f t : ℕ) (xs : List Link) → IsCounted n f xs → t < 2 ^ 32 → f + t < 2 ^ 64
sum_fits n f t xs c h =
    let l = rest_long xs in let b = few_frames (rest xs) c.each in let s = c.segments in let g = c.frames in let w = c.few in omega arith

-- without the innermost segment
pub pop_counted : (n f t : ℕ) (xs : List Link) → IsCounted n f xs → 0 < length xs → t ≡ frames_in_top (rest xs) → (t ≤ f) × IsCounted (n - 1) (f - t) (rest xs)
pop_counted n f t [] c h e = absurd (omega arith)
pop_counted n f t (x ∷ []) c h e = (
  let g = c.frames in omega arith,
  record {
    segments = let s = c.segments in omega arith;
    frames = let g = c.frames in omega arith;
    few = let w = c.few in omega arith;
    each = All-nil Few;
  },
)
pop_counted n f t (x ∷ y ∷ ys) c h e = (
  let g = c.frames in omega arith,
  record {
    segments = let s = c.segments in omega arith;
    frames = let g = c.frames in omega arith;
    few = let w = c.few in omega arith;
    each = all_rest y ys c.each;
  },
)
