-- The operands inside the innermost level, and those below it.
use Rattle.std.proofs.Common.{◌≡◌, ℕ, ◌-◌, ◌≤◌, List, [], ◌∷◌, ◌++◌, reverse, length, take, drop, Option, refl, sym, ap, ◌∙◌, arith, length-drop, take-append-drop}
use Rattle.std.proofs.lemmas.List.{reverse-append, length-reverse, take-append-le, drop-append-le, length-take-le}
use Rattle.w_types.specs.declared.value.Value.{Value}
use Rattle.w_segment.specs.declared.stack.Mark.{Mark}
use Rattle.w_segment.specs.Shape.{Label, Frame}
use Rattle.w_segment.specs.Flat.{base, own, levels_of, Ordered}
use Rattle.w_segment.proofs.PartsOfLists.{take_of, drop_of}
use Rattle.w_segment.specs.declared.stack.Mark.TheVariants as mark

-- what stands below is no more than there is
pub base_le : (es : List Mark) (v l k : ℕ) → Ordered es v l k → base es ≤ v
base_le [] v l k h = omega arith
base_le (mark.Label n t b ∷ es) v l k h = h.0
base_le (mark.Frame n f p b j outer ∷ es) v l k h = h.0

-- operands on top stand inside
pub own_over : (es : List Mark) (low high : List Value) → base es ≤ length low → own es (low ++ high) ≡ reverse high ++ own es low
own_over es low high h = ap reverse (drop-append-le (base es) low high h) ∙ reverse-append (drop (base es) low) high

-- and change no level
pub levels_over : (es : List Mark) (low high : List Value) (ls : List (Option Value)) (k : ℕ) → base es ≤ length low → levels_of es (low ++ high) ls k ≡ levels_of es low ls k
levels_over [] low high ls k h = refl
levels_over (mark.Label n t b ∷ es) low high ls k h =
    ap (λ (vs : List Value). Label (own es vs) n t ∷ levels_of es vs ls k) (take-append-le b low high h)
levels_over (mark.Frame n f p b j outer ∷ es) low high ls k h =
    ap (λ (vs : List Value). Frame (own es vs) n (drop k ls) f p ∷ levels_of es vs (take k ls) j) (take-append-le b low high h)

-- the same, where the operands are split at b
pub own_split : (es : List Mark) (vs : List Value) (b : ℕ) → base es ≤ b → b ≤ length vs → own es vs ≡ reverse (drop b vs) ++ own es (take b vs)
own_split es vs b h g =
    let l = length-take-le b vs g in
    ap (own es) (sym (take-append-drop b vs)) ∙ own_over es (take b vs) (drop b vs) (omega arith)

pub levels_split : (es : List Mark) (vs : List Value) (ls : List (Option Value)) (k b : ℕ) → base es ≤ b → b ≤ length vs → levels_of es vs ls k ≡ levels_of es (take b vs) ls k
levels_split es vs ls k b h g =
    let l = length-take-le b vs g in
    ap (λ (ws : List Value). levels_of es ws ls k) (sym (take-append-drop b vs)) ∙ levels_over es (take b vs) (drop b vs) ls k (omega arith)

-- how many operands stand inside
pub own_long : (es : List Mark) (vs : List Value) → length (own es vs) ≡ length vs - base es
own_long es vs = length-reverse (drop (base es) vs) ∙ length-drop (base es) vs

-- the topmost n operands are those from b on
pub top_of : (es : List Mark) (vs : List Value) (n b : ℕ) → n ≤ length (own es vs) → base es ≤ length vs → b ≡ length vs - n
    → (take n (own es vs) ≡ reverse (drop b vs)) × (drop n (own es vs) ≡ own es (take b vs)) × (base es ≤ b) × (b ≤ length vs)
top_of es vs n b h g e =
    let l = own_long es vs in
    let lo : base es ≤ b = omega arith in
    let hi : b ≤ length vs = omega arith in
    let s = own_split es vs b lo hi in
    let r = length-reverse (drop b vs) in
    let d = length-drop b vs in
    let k : n ≡ length (reverse (drop b vs)) = omega arith in
    (ap (take n) s ∙ take_of (reverse (drop b vs)) (own es (take b vs)) n k, ap (drop n) s ∙ drop_of (reverse (drop b vs)) (own es (take b vs)) n k, lo, hi)

-- what a branch leaves of the operands
pub kept_top : (es es' : List Mark) (vs ws : List Value) (n b : ℕ) → base es' ≤ b → b ≤ base es → base es ≤ length vs → n ≤ length (own es vs)
    → ws ≡ take b vs ++ drop (length vs - n) vs → own es' ws ≡ take n (own es vs) ++ own es' (take b vs)
kept_top es es' vs ws n b h g le fits e =
    let t = top_of es vs n (length vs - n) fits le refl in
    let l = length-take-le b vs (omega arith) in
    ap (own es') e ∙ own_over es' (take b vs) (drop (length vs - n) vs) (omega arith) ∙ ap (λ (xs : List Value). xs ++ own es' (take b vs)) (sym t.0)

-- new operands above b change no level
pub kept_levels : (es : List Mark) (vs ws high : List Value) (ls : List (Option Value)) (k b : ℕ) → base es ≤ b → b ≤ length vs → ws ≡ take b vs ++ high
    → levels_of es ws ls k ≡ levels_of es (take b vs) ls k
kept_levels es vs ws high ls k b h g e =
    let l = length-take-le b vs g in
    ap (λ (xs : List Value). levels_of es xs ls k) e ∙ levels_over es (take b vs) high ls k (omega arith)

-- marks stay ordered under more operands
pub ordered_more : (es : List Mark) (v w l k : ℕ) → v ≤ w → Ordered es v l k → Ordered es w l k
ordered_more [] v w l k h o = o
ordered_more (mark.Label n t b ∷ es) v w l k h o = let a = o.0 in (omega arith, o.1, o.2)
ordered_more (mark.Frame n f p b j outer ∷ es) v w l k h o = let a = o.0 in (omega arith, o.1, o.2, o.3)

-- and with fewer, down to what stands below those inside
pub ordered_less : (es : List Mark) (v w l k : ℕ) → base es ≤ w → Ordered es v l k → Ordered es w l k
ordered_less [] v w l k h o = o
ordered_less (mark.Label n t b ∷ es) v w l k h o = (h, o.1, o.2)
ordered_less (mark.Frame n f p b j outer ∷ es) v w l k h o = (h, o.1, o.2, o.3)
