-- The labels of blocks around the innermost one.
use Rattle.std.proofs.Common.{◌≡◌, ◌≢◌, ℕ, zero, suc, ◌-◌, ◌<◌, ◌≤◌, List, [], ◌∷◌, length, reverse, get_or, slice_get, Some, None, refl, ◌∙◌, ap, arith}
use Rattle.std.specs.Option.{option_map}
use Rattle.std.proofs.lemmas.List.{get_or-reverse, length-reverse}
use Rattle.std.proofs.lemmas.Option.{slice_get-map, slice_get-get_or, slice_get_past}
use Rattle.w_rules.specs.Context.{Context}
use Rattle.w_steps.specs.Labels.{label_at, labels_of}
use Rattle.w_steps.specs.View.{outer_kinds}
use Rattle.w_steps.specs.declared.frame.Frame.{Frame}
use Rattle.w_steps.specs.declared.frame_kind.FrameKind.{FrameKind}

labels_by_kind : (c : Context) (ks : List FrameKind) (l : ℕ) → slice_get (labels_of c ks) l ≡ option_map (label_at c) (slice_get ks l)
labels_by_kind c [] l = refl
labels_by_kind c (k ∷ ks) zero = refl
labels_by_kind c (k ∷ ks) (suc l) = labels_by_kind c ks l

abbrev kind_of : Frame → FrameKind
kind_of f = f.kind

behind : (c : Context) (xs : List Frame) (j : ℕ) → slice_get (labels_of c (outer_kinds xs)) j ≡ option_map (label_at c) (option_map kind_of (slice_get (reverse xs) j))
behind c xs j = labels_by_kind c (outer_kinds xs) j ∙ ap (option_map (label_at c)) (slice_get-map kind_of (reverse xs) j)

-- there is no label past the outermost block
pub label_past : (c : Context) (k : FrameKind) (xs : List Frame) (l : ℕ) → length xs < l → slice_get (labels_of c (k ∷ outer_kinds xs)) l ≡ None
label_past c k xs zero h = absurd (omega arith)
label_past c k xs (suc j) h =
    let past : length (reverse xs) ≤ j = omega (arith, length-reverse xs) in
    behind c xs j ∙ ap (λ o. option_map (label_at c) (option_map kind_of o)) (slice_get_past (reverse xs) j past)

-- a label counts the blocks from the innermost one
pub label_back : (c : Context) (k : FrameKind) (xs : List Frame) (l : ℕ) (f : Frame) → l ≢ 0 → l ≤ length xs
    → slice_get (labels_of c (k ∷ outer_kinds xs)) l ≡ Some (label_at c (get_or xs (length xs - l) f).kind)
label_back c k xs zero f z h = absurd (z refl)
label_back c k xs (suc j) f z h =
    let lt : j < length xs = omega arith in
    let lt2 : j < length (reverse xs) = omega (arith, length-reverse xs) in
    let at : length xs - 1 - j ≡ length xs - suc j = omega arith in
    behind c xs j ∙ ap (λ o. option_map (label_at c) (option_map kind_of o))
    (slice_get-get_or (reverse xs) j f lt2 ∙ ap Some (get_or-reverse xs j f lt ∙ ap (λ n. get_or xs n f) at))
