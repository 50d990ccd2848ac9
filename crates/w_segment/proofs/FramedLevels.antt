-- Flat lists with a frame around the topmost operands.
use Rattle.std.proofs.Common.{◌≡◌, ℕ, ◌+◌, ◌-◌, ◌≤◌, List, [], ◌∷◌, ◌++◌, reverse, length, take, drop, map, Option, Some, None, sym, ap, ◌∙◌, subst, arith, append_assoc, length-append, length-drop}
use Rattle.std.specs.Prelude.{replicate}
use Rattle.std.proofs.lemmas.List.{reverse-reverse, length-take-le, length-map, length-replicate, drop_all}
use Rattle.w_types.specs.declared.value.Value.{Value}
use Rattle.w_segment.specs.declared.stack.Mark.{Mark}
use Rattle.w_segment.specs.Shape.{Level, Frame}
use Rattle.w_segment.specs.Flat.{own, levels_of, Ordered}
use Rattle.w_segment.proofs.PartsOfLists.{take_take, take_of, drop_of}
use Rattle.w_segment.proofs.OwnOperands.{base_le, levels_split, own_long, top_of, ordered_less}
use Rattle.w_segment.specs.declared.stack.Mark.TheVariants as mark

-- the frame of the operands from b on
pub framed_levels : (es : List Mark) (vs : List Value) (ls ls' : List (Option Value)) (n f p j outer k b params count : ℕ) → Ordered es (length vs) (length ls) j
    → params ≤ length (own es vs) → b ≡ length vs - params → k ≡ length ls → ls' ≡ (ls ++ map (λ (v : Value). Some v) (drop b vs)) ++ replicate count None
    → (levels_of (mark.Frame n f p b j outer ∷ es) (take b vs) ls' k ≡ Frame (drop params (own es vs)) n (map (λ (v : Value). Some v) (reverse (take params (own es vs))) ++ replicate count None) f p ∷ levels_of es vs ls j)
    × (own (mark.Frame n f p b j outer ∷ es) (take b vs) ≡ []) × Ordered (mark.Frame n f p b j outer ∷ es) (length (take b vs)) (length ls') k × (length ls' ≡ length ls + (params + count)) × (b + params ≡ length vs)
framed_levels es vs ls ls' n f p j outer k b params count o fits be ke e =
    let le = base_le es (length vs) (length ls) j o in
    let t = top_of es vs params b fits le be in
    let long = length-take-le b vs t.3 in
    let again : take b (take b vs) ≡ take b vs = take_take b b vs (omega arith) in
    let whole : ls' ≡ ls ++ (map (λ (v : Value). Some v) (drop b vs) ++ replicate count None) = e ∙ append_assoc ls (map (λ (v : Value). Some v) (drop b vs)) (replicate count None) in
    let low : take k ls' ≡ ls = ap (take k) whole ∙ take_of ls (map (λ (v : Value). Some v) (drop b vs) ++ replicate count None) k ke in
    let high : drop k ls' ≡ map (λ (v : Value). Some v) (drop b vs) ++ replicate count None = ap (drop k) whole ∙ drop_of ls (map (λ (v : Value). Some v) (drop b vs) ++ replicate count None) k ke in
    let args : drop b vs ≡ reverse (take params (own es vs)) = sym (ap reverse t.0 ∙ reverse-reverse (drop b vs)) in
    let dl = length-drop b vs in
    let own_len = own_long es vs in
    let count_is : length ls' ≡ length ls + (params + count) =
    (let a = ap (λ (l : List (Option Value)). length l) whole in let c = length-append ls (map (λ (v : Value). Some v) (drop b vs) ++ replicate count None) in
    let d = length-append (map (λ (v : Value). Some v) (drop b vs)) (replicate count None) in let g = length-map (drop b vs) (λ (v : Value). Some v) in
    let h : length (replicate {A = Option Value} count None) ≡ count = length-replicate {A = Option Value} count None in omega (arith, a, c, d, g, h)) in (
      ap (λ (ws : List Value). Frame (own es ws) n (drop k ls') f p ∷ levels_of es ws (take k ls') j) again
          ∙ ap (λ (l : List (Option Value)). Frame (own es (take b vs)) n (drop k ls') f p ∷ levels_of es (take b vs) l j) low
          ∙ ap (λ (l : List (Option Value)). Frame (own es (take b vs)) n l f p ∷ levels_of es (take b vs) ls j) (high ∙ ap (λ (l : List Value). map (λ (v : Value). Some v) l ++ replicate count None) args)
          ∙ ap (λ (ws : List Value). Frame ws n (map (λ (v : Value). Some v) (reverse (take params (own es vs))) ++ replicate count None) f p ∷ levels_of es (take b vs) ls j) (sym t.1)
          ∙ ap (λ (l : List Level). Frame (drop params (own es vs)) n (map (λ (v : Value). Some v) (reverse (take params (own es vs))) ++ replicate count None) f p ∷ l) (sym (levels_split es vs ls j b t.2 t.3)),
      ap reverse (drop_all b (take b vs) (omega arith)),
      (omega arith, t.2, omega arith, ordered_less es (length vs) b k j t.2 (subst (λ (z : ℕ). Ordered es (length vs) z j) (sym ke) o)),
      count_is,
      omega arith,
    )
