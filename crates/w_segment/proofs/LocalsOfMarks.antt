-- The locals of the innermost frame.
use Rattle.std.proofs.Common.{◌≡◌, ℕ, ◌+◌, ◌<◌, ◌≤◌, List, [], ◌∷◌, ◌++◌, length, take, drop, Option, Some, refl, ap, ◌∙◌, arith}
use Rattle.std.specs.Prelude.{slice_set}
use Rattle.std.proofs.lemmas.List.{drop-set-add, take-set-le, take-append-le, drop-append-le}
use Rattle.w_types.specs.declared.value.Value.{Value}
use Rattle.w_segment.specs.declared.stack.Mark.{Mark}
use Rattle.w_segment.specs.Shape.{Label, Frame, locals_of}
use Rattle.w_segment.specs.Changes.{with_local, with_more_in}
use Rattle.w_segment.specs.Flat.{own, levels_of, Ordered, frames_in}
use Rattle.w_segment.specs.declared.stack.Mark.TheVariants as mark

-- the locals of the innermost frame stand from k on
pub locals_are : (es : List Mark) (vs : List Value) (ls : List (Option Value)) (k x : ℕ) → x < length (locals_of (levels_of es vs ls k)) → locals_of (levels_of es vs ls k) ≡ drop k ls
locals_are [] vs ls k x h = absurd (omega arith)
locals_are (mark.Label n t b ∷ es) vs ls k x h = locals_are es (take b vs) ls k x h
locals_are (mark.Frame n f p b j outer ∷ es) vs ls k x h = refl

-- a local that is set in the flat list is set in its frame
pub locals_set : (es : List Mark) (vs : List Value) (ls : List (Option Value)) (k x : ℕ) (v : Value)
    → levels_of es vs (slice_set ls (k + x) (Some v)) k ≡ with_local x v (levels_of es vs ls k)
locals_set [] vs ls k x v = refl
locals_set (mark.Label n t b ∷ es) vs ls k x v = ap (λ l. Label (own es (take b vs)) n t ∷ l) (locals_set es (take b vs) ls k x v)
locals_set (mark.Frame n f p b j outer ∷ es) vs ls k x v =
    ap (λ (l : List (Option Value)). Frame (own es (take b vs)) n l f p ∷ levels_of es (take b vs) (take k (slice_set ls (k + x) (Some v))) j) (drop-set-add k ls x (Some v))
    ∙ ap (λ (l : List (Option Value)). Frame (own es (take b vs)) n (slice_set (drop k ls) x (Some v)) f p ∷ levels_of es (take b vs) l j) (take-set-le k ls (k + x) (Some v) (omega arith))

-- locals behind the flat list are behind those of its frame
pub locals_more : (es : List Mark) (vs : List Value) (ls ks : List (Option Value)) (v k : ℕ) → Ordered es v (length ls) k →
    levels_of es vs (ls ++ ks) k ≡ with_more_in ks (levels_of es vs ls k)
locals_more [] vs ls ks v k o = refl
locals_more (mark.Label n t b ∷ es) vs ls ks v k o = ap (λ l. Label (own es (take b vs)) n t ∷ l) (locals_more es (take b vs) ls ks b k o.2)
locals_more (mark.Frame n f p b j outer ∷ es) vs ls ks v k o =
    ap (λ (l : List (Option Value)). Frame (own es (take b vs)) n l f p ∷ levels_of es (take b vs) (take k (ls ++ ks)) j) (drop-append-le k ls ks o.2)
    ∙ ap (λ (l : List (Option Value)). Frame (own es (take b vs)) n (drop k ls ++ ks) f p ∷ levels_of es (take b vs) l j) (take-append-le k ls ks o.2)

-- and the flat list still begins where its frame's do
pub ordered_more : (es : List Mark) (v l l' k : ℕ) → 0 < frames_in es → l ≤ l' → Ordered es v l k → Ordered es v l' k
ordered_more [] v l l' k f h o = absurd (omega arith)
ordered_more (mark.Label n t b ∷ es) v l l' k f h o = (o.0, o.1, ordered_more es b l l' k f h o.2)
ordered_more (mark.Frame n f' p b j outer ∷ es) v l l' k f h o = (o.0, o.1, omega (arith, o.2, h), o.3)
