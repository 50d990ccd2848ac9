-- The segments up to a layer, and those that wait outside.
use Rattle.std.proofs.Common.{◌≡◌, ℕ, suc, ◌+◌, ◌<◌, List, [], ◌∷◌, length, refl, sym, ap, ◌∙◌, subst, arith, add-one, take, drop, length-append, take-append-drop}
use Rattle.w_segment.specs.declared.entry.Stage.TheVariants.{Body}
use Rattle.w_segment.specs.Shape.{Shape}
use Rattle.w_segment.specs.Link.{Link, top, with_top}
use Rattle.w_conts.specs.Conts.{Conts}
use Rattle.w_switching.specs.declared.stored.Stored.{Stored}
use Rattle.w_switching.specs.Sound.{Waits, IsReady, is_of, Sound, SoundWith}
use Rattle.w_switching.proofs.References.{hold_drop}

-- ## Lists of segments

-- the innermost of the first segments is that of all
top_taken_suc : (n : ℕ) (xs : List Link) → top (take (suc n) xs) ≡ top xs
top_taken_suc n [] = refl
top_taken_suc n (x ∷ xs) = refl

-- the same of n + 1
pub top_taken : (n : ℕ) (xs : List Link) → top (take (n + 1) xs) ≡ top xs
top_taken n xs = ap (λ (k : ℕ). top (take k xs)) (add-one n) ∙ top_taken_suc n xs

-- there are first segments
some_taken_suc : (n : ℕ) (xs : List Link) → 0 < length xs → 0 < length (take (suc n) xs)
some_taken_suc n [] h = absurd (omega arith)
some_taken_suc n (x ∷ xs) h = omega arith

-- the same of n + 1
pub some_taken : (n : ℕ) (xs : List Link) → 0 < length xs → 0 < length (take (n + 1) xs)
some_taken n xs h = subst (λ (k : ℕ). 0 < length (take k xs)) (sym (add-one n)) (some_taken_suc n xs h)

-- both are as many as all
pub both_long : (n : ℕ) (xs : List Link) → length (take n xs) + length (drop n xs) ≡ length xs
both_long n xs =
    let a = length-append (take n xs) (drop n xs) in
    let b = ap (λ (l : List Link). length l) (take-append-drop n xs) in
    omega (arith, a, b)

-- those that wait outside are sound, with a slot for each of the others
pub part_sound : (layer : ℕ) (chain : List Link) (conts : Conts Stored) → Sound chain conts → SoundWith (length (take (layer + 1) chain)) (drop (layer + 1) chain) conts
part_sound layer chain conts s = record {
  references = hold_drop (is_of conts) (layer + 1) chain s.references;
  stored = s.stored;
  slots = (let d = s.slots in let l = both_long (layer + 1) chain in omega (arith, d, l));
}

-- ## What is stored

-- a segment in its body is ready
pub ready_top : (s : Shape) (xs : List Link) → 0 < length xs → s.stage ≡ Body → Waits (with_top s xs)
ready_top s [] h b = absurd (omega arith)
ready_top s (x ∷ xs) h b = subst IsReady (sym b) tt
