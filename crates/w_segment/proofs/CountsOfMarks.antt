-- How many operands, levels, frames and locals flat lists have.
use Rattle.std.proofs.Common.{◌≡◌, ℕ, suc, ◌+◌, ◌≤◌, List, [], ◌∷◌, length, take, Option, refl, sym, ap, subst, arith, length-drop}
use Rattle.std.proofs.lemmas.List.{length-take-le}
use Rattle.w_types.specs.declared.value.Value.{Value}
use Rattle.w_segment.specs.declared.stack.Mark.{Mark}
use Rattle.w_segment.specs.Shape.{below_all, locals_all, frames_of, labels_of, Level, Shape, Fits}
use Rattle.w_segment.specs.Flat.{own, levels_of, Ordered, frames_in}
use Rattle.w_segment.proofs.OwnOperands.{own_long}
use Rattle.w_segment.specs.declared.stack.Mark.TheVariants as mark

-- each frame has its mark
pub frames_are : (es : List Mark) (vs : List Value) (ls : List (Option Value)) (k : ℕ) → frames_of (levels_of es vs ls k) ≡ frames_in es
frames_are [] vs ls k = refl
frames_are (mark.Label n t b ∷ es) vs ls k = frames_are es (take b vs) ls k
frames_are (mark.Frame n f p b j outer ∷ es) vs ls k = ap suc (frames_are es (take b vs) (take k ls) j)

-- there are no more frames than marks
pub frames_few : (es : List Mark) → frames_in es ≤ length es
frames_few [] = omega arith
frames_few (mark.Label n t b ∷ es) = let h = frames_few es in omega arith
frames_few (mark.Frame n f p b j outer ∷ es) = let h = frames_few es in omega arith

-- operands inside and below are all operands
pub high : (es : List Mark) (vs : List Value) (ls : List (Option Value)) (k : ℕ) → Ordered es (length vs) (length ls) k → length (own es vs) + below_all (levels_of es vs ls k) ≡ length vs
high [] vs ls k o = let l = own_long [] vs in omega (arith, l)
high (mark.Label n t b ∷ es) vs ls k o =
    let q = length-take-le b vs o.0 in
    let h = high es (take b vs) ls k (subst (λ (v : ℕ). Ordered es v (length ls) k) (sym q) o.2) in
    let l = own_long (mark.Label n t b ∷ es) vs in
    let g = o.0 in omega (arith, l, h, q, g)
high (mark.Frame n f p b j outer ∷ es) vs ls k o =
    let q = length-take-le b vs o.0 in
    let u = length-take-le k ls o.2 in
    let h = high es (take b vs) (take k ls) j (subst (λ (v : ℕ). Ordered es v (length (take k ls)) j) (sym q) (subst (λ (l : ℕ). Ordered es b l j) (sym u) o.3)) in
    let l = own_long (mark.Frame n f p b j outer ∷ es) vs in
    let g = o.0 in omega (arith, l, h, q, g)

-- there are as many levels as marks
pub long : (es : List Mark) (vs : List Value) (ls : List (Option Value)) (k : ℕ) → length (levels_of es vs ls k) ≡ length es
long [] vs ls k = refl
long (mark.Label n t b ∷ es) vs ls k = ap suc (long es (take b vs) ls k)
long (mark.Frame n f p b j outer ∷ es) vs ls k = ap suc (long es (take b vs) (take k ls) j)

-- the locals of all frames are all locals
pub wide : (es : List Mark) (vs : List Value) (ls : List (Option Value)) (v k : ℕ) → Ordered es v (length ls) k → locals_all (levels_of es vs ls k) ≡ length ls
wide [] vs ls v k o = sym o
wide (mark.Label n t b ∷ es) vs ls v k o = wide es (take b vs) ls b k o.2
wide (mark.Frame n f p b j outer ∷ es) vs ls v k o =
    let u = length-take-le k ls o.2 in
    let h = wide es (take b vs) (take k ls) b j (subst (λ (l : ℕ). Ordered es b l j) (sym u) o.3) in
    let d = length-drop k ls in
    let g = o.2 in omega (arith, h, u, d, g)

-- each mark is a label or a frame
pub labels_are : (es : List Mark) (vs : List Value) (ls : List (Option Value)) (k : ℕ) → labels_of (levels_of es vs ls k) + frames_in es ≡ length es
labels_are [] vs ls k = refl
labels_are (mark.Label n t b ∷ es) vs ls k = let h = labels_are es (take b vs) ls k in omega (arith, h)
labels_are (mark.Frame n f p b j outer ∷ es) vs ls k = let h = labels_are es (take b vs) (take k ls) j in omega (arith, h)

-- what fits a shape fits its flat lists
pub fits_flat : (es : List Mark) (vs : List Value) (ls : List (Option Value)) (k v l n : ℕ) (s t : Shape) → s ≡ t → s.levels ≡ levels_of es vs ls k → s.operands ≡ own es vs
    → Ordered es (length vs) (length ls) k → Fits v l n t → (length vs + v ≤ s.capacity.operands) × (length es + l ≤ s.capacity.levels) × (length ls + n ≤ s.capacity.locals)
fits_flat es vs ls k v l n s t e a b o f =
    let g : Fits v l n s = subst (Fits v l n) (sym e) f in
    let h = high es vs ls k o in
    let m = long es vs ls k in
    let w = wide es vs ls (length vs) k o in
    let x = ap (λ (xs : List Value). length xs) b in
    let y = ap below_all a in
    let z = ap (λ (xs : List Level). length xs) a in
    let u = ap locals_all a in
    (omega (arith, g.operands, h, x, y), omega (arith, g.levels, m, z), omega (arith, g.locals, w, u))
