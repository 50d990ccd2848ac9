-- Flat lists without the innermost level.
use Rattle.std.proofs.Common.{◌≡◌, ℕ, List, ◌∷◌, ◌++◌, length, take, drop, Option, refl, sym, ap, ◌∙◌, subst}
use Rattle.w_types.specs.declared.value.Value.{Value}
use Rattle.w_segment.specs.declared.stack.Mark.{Mark}
use Rattle.w_segment.specs.Shape.{Shape, Level, Label, Frame}
use Rattle.w_segment.specs.Changes.{left, left_at}
use Rattle.w_segment.specs.Flat.{own, levels_of, Ordered}
use Rattle.w_segment.proofs.OwnOperands.{own_split, levels_split}
use Rattle.w_segment.proofs.SameShapes.{same_shape}
use Rattle.w_segment.specs.declared.stack.Mark.TheVariants as mark

-- without a label
pub left_label : (xs es : List Mark) (b n t : ℕ) (vs : List Value) (ls : List (Option Value)) (k : ℕ) (s : Shape) → xs ≡ mark.Label n t b ∷ es
    → Ordered xs (length vs) (length ls) k → s.levels ≡ levels_of xs vs ls k → s.operands ≡ own xs vs
    → left s ≡ record s { levels = levels_of es vs ls k; operands = own es vs }
left_label xs es b n t vs ls k s e o l p =
    let q = subst (λ (ys : List Mark). Ordered ys (length vs) (length ls) k) e o in
    let lv : s.levels ≡ Label (own es (take b vs)) n t ∷ levels_of es (take b vs) ls k = l ∙ ap (λ (ys : List Mark). levels_of ys vs ls k) e in
    let op : s.operands ++ own es (take b vs) ≡ own es vs = ap (λ (ws : List Value). ws ++ own es (take b vs)) (p ∙ ap (λ (ys : List Mark). own ys vs) e) ∙ sym (own_split es vs b q.1 q.0) in
    ap (λ (ys : List Level). left_at ys s) lv
    ∙ same_shape _ _ (sym (levels_split es vs ls k b q.1 q.0)) op refl refl refl refl

-- without a frame
pub left_frame : (xs es : List Mark) (b n f p j outer : ℕ) (vs : List Value) (ls : List (Option Value)) (k : ℕ) (s : Shape) → xs ≡ mark.Frame n f p b j outer ∷ es
    → Ordered xs (length vs) (length ls) k → s.levels ≡ levels_of xs vs ls k → s.operands ≡ own xs vs
    → left s ≡ record s { levels = levels_of es vs (take k ls) j; operands = own es vs; func = f; place = p }
left_frame xs es b n f p j outer vs ls k s e o l q =
    let r = subst (λ (ys : List Mark). Ordered ys (length vs) (length ls) k) e o in
    let lv : s.levels ≡ Frame (own es (take b vs)) n (drop k ls) f p ∷ levels_of es (take b vs) (take k ls) j = l ∙ ap (λ (ys : List Mark). levels_of ys vs ls k) e in
    let op : s.operands ++ own es (take b vs) ≡ own es vs = ap (λ (ws : List Value). ws ++ own es (take b vs)) (q ∙ ap (λ (ys : List Mark). own ys vs) e) ∙ sym (own_split es vs b r.1 r.0) in
    ap (λ (ys : List Level). left_at ys s) lv
    ∙ same_shape _ _ (sym (levels_split es vs (take k ls) j b r.1 r.0)) op refl refl refl refl
