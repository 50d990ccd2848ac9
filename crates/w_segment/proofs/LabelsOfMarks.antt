-- The mark that a label is, as a branch finds it.
use Rattle.std.proofs.Common.{◌≡◌, ℕ, zero, suc, ◌-◌, ◌<◌, ◌≤◌, List, [], ◌∷◌, ◌++◌, reverse, length, take, drop, Option, Some, slice_get, get_or, refl, sym, ap, ◌∙◌, subst, arith, length-append}
use Rattle.std.proofs.lemmas.List.{length-take-le}
use Rattle.std.proofs.lemmas.Option.{slice_get_within}
use Rattle.w_types.specs.declared.value.Value.{Value}
use Rattle.w_segment.specs.declared.stack.Mark.{Mark}
use Rattle.w_segment.specs.Shape.{Target, label_at}
use Rattle.w_segment.specs.Flat.{base, own, levels_of, Ordered, frames_in, inner_in, Nested}
use Rattle.w_segment.proofs.PartsOfLists.{take_take, reverse_take, reverse_get, some_is}
use Rattle.w_segment.proofs.OwnOperands.{kept_top, kept_levels, ordered_more}
use Rattle.w_segment.specs.declared.stack.Mark.TheVariants as mark

-- the mark that a label is
pub record Reached (es : List Mark) (vs : List Value) (ls : List (Option Value)) (k l : ℕ) (t : Target) : Type 0 where
  pub at : ℕ
  pub is : slice_get es l ≡ Some (mark.Label t.arity t.target at)
  pub below : t.below ≡ own (drop (suc l) es) (take at vs)
  pub outer : t.outer ≡ levels_of (drop (suc l) es) (take at vs) ls k
  pub low : at ≤ base es
  pub under : base (drop (suc l) es) ≤ at
  pub ordered : Ordered (drop (suc l) es) at (length ls) k
  pub frames : frames_in (drop (suc l) es) ≡ frames_in es
  pub frame : inner_in (drop (suc l) es) ≡ inner_in es
  pub nested : Nested es → Nested (drop (suc l) es)

-- a label that is there has its mark so many places before the last
pub reached : (es : List Mark) (vs : List Value) (ls : List (Option Value)) (k l : ℕ) (t : Target) → Ordered es (length vs) (length ls) k
    → label_at l (levels_of es vs ls k) ≡ Some t → Reached es vs ls k l t
reached [] vs ls k l t o h = absurd cc
reached (mark.Frame n f p b j outer ∷ es) vs ls k zero t o h = absurd cc
reached (mark.Frame n f p b j outer ∷ es) vs ls k (suc l) t o h = absurd cc
reached (mark.Label n u b ∷ es) vs ls k zero t o h =
    let e : record { below = own es (take b vs); arity = n; target = u; outer = levels_of es (take b vs) ls k } ≡ t = some_is h in
    record {
      at = b;
      is = ap (λ (x : Target). Some (mark.Label x.arity x.target b)) e;
      below = sym (ap (λ (x : Target). x.below) e);
      outer = sym (ap (λ (x : Target). x.outer) e);
      low = omega arith;
      under = o.1;
      ordered = o.2;
      frames = refl;
      frame = refl;
      nested = λ g. g;
    }
reached (mark.Label n u b ∷ es) vs ls k (suc l) t o h =
    let m = length-take-le b vs o.0 in
    let r = reached es (take b vs) ls k l t (subst (λ v. Ordered es v (length ls) k) (sym m) o.2) h in
    let low = o.1 in
    let lower = r.low in
    let same = take_take r.at b vs (omega arith) in
    record {
      at = r.at;
      is = r.is;
      below = r.below ∙ ap (own (drop (suc l) es)) same;
      outer = r.outer ∙ ap (λ (ws : List Value). levels_of (drop (suc l) es) ws ls k) same;
      low = omega arith;
      under = r.under;
      ordered = r.ordered;
      frames = r.frames;
      frame = r.frame;
      nested = r.nested;
    }

-- the mark at place p, with this arity, target and count of operands below, is that of the label l, which leads to t; marks stand
-- innermost last
pub record IsLabel (xs : List Mark) (vs : List Value) (ls : List (Option Value)) (k l p : ℕ) (t : Target) (n u b : ℕ) : Type 0 where
  pub arity : n ≡ t.arity
  pub target : u ≡ t.target
  pub below : t.below ≡ own (drop (suc l) (reverse xs)) (take b vs)
  pub outer : t.outer ≡ levels_of (drop (suc l) (reverse xs)) (take b vs) ls k
  pub low : b ≤ base (reverse xs)
  pub under : base (drop (suc l) (reverse xs)) ≤ b
  pub ordered : Ordered (drop (suc l) (reverse xs)) b (length ls) k
  pub frames : frames_in (drop (suc l) (reverse xs)) ≡ frames_in (reverse xs)
  pub frame : inner_in (drop (suc l) (reverse xs)) ≡ inner_in (reverse xs)
  pub nested : Nested (reverse xs) → Nested (drop (suc l) (reverse xs))
  pub marks : reverse (take p xs) ≡ drop (suc l) (reverse xs)

-- the item so many places before the last one is the mark of a label that is there
pub mark_at : (xs : List Mark) (l p : ℕ) (d e : Mark) → slice_get (reverse xs) l ≡ Some d → p ≡ length xs - 1 - l → e ≡ get_or xs p e → (l < length xs) × (e ≡ d)
mark_at xs l p d e r q h = let g = reverse_get xs l d e r in (g.0, h ∙ ap (λ (j : ℕ). get_or xs j e) q ∙ g.1)

pub label_within : (es : List Mark) (vs : List Value) (ls : List (Option Value)) (k l : ℕ) (t : Target) → Ordered es (length vs) (length ls) k
    → label_at l (levels_of es vs ls k) ≡ Some t → l < length es
label_within es vs ls k l t o h = let r = reached es vs ls k l t o h in slice_get_within es l (mark.Label t.arity t.target r.at) r.is

pub label_is : (xs : List Mark) (vs : List Value) (ls : List (Option Value)) (k l p : ℕ) (t : Target) (e : Mark) (n u b : ℕ) → Ordered (reverse xs) (length vs) (length ls) k
    → label_at l (levels_of (reverse xs) vs ls k) ≡ Some t → p ≡ length xs - 1 - l → e ≡ get_or xs p e → e ≡ mark.Label n u b → IsLabel xs vs ls k l p t n u b
label_is xs vs ls k l p t e n u b o h q i m =
    let r = reached (reverse xs) vs ls k l t o h in
    let g = mark_at xs l p (mark.Label t.arity t.target r.at) e r.is q i in
    let w = g.0 in
    let same : mark.Label n u b ≡ mark.Label t.arity t.target r.at = sym m ∙ g.1 in
    let at : r.at ≡ b = cc in
    record {
      arity = cc;
      target = cc;
      below = r.below ∙ ap (λ (j : ℕ). own (drop (suc l) (reverse xs)) (take j vs)) at;
      outer = r.outer ∙ ap (λ (j : ℕ). levels_of (drop (suc l) (reverse xs)) (take j vs) ls k) at;
      low = (let z = r.low in omega (arith, z, at));
      under = (let z = r.under in omega (arith, z, at));
      ordered = subst (λ (j : ℕ). Ordered (drop (suc l) (reverse xs)) j (length ls) k) at r.ordered;
      frames = r.frames;
      frame = r.frame;
      nested = r.nested;
      marks = reverse_take p (suc l) xs (omega (arith, w, q));
    }

-- and not that of a frame
pub label_is_no_frame : (xs : List Mark) (vs : List Value) (ls : List (Option Value)) (k l p : ℕ) (t : Target) (e : Mark) (n f j b first out : ℕ) → Ordered (reverse xs) (length vs) (length ls) k
    → label_at l (levels_of (reverse xs) vs ls k) ≡ Some t → p ≡ length xs - 1 - l → e ≡ get_or xs p e → e ≡ mark.Frame n f j b first out → ⊥
label_is_no_frame xs vs ls k l p t e n f j b first out o h q i m =
    let r = reached (reverse xs) vs ls k l t o h in
    let g = mark_at xs l p (mark.Label t.arity t.target r.at) e r.is q i in
    let same : mark.Frame n f j b first out ≡ mark.Label t.arity t.target r.at = sym m ∙ g.1 in
    cc

-- ## The flat lists after the branch

pub branched_frames : {xs ys : List Mark} {vs : List Value} {ls : List (Option Value)} {k l p n u b : ℕ} {t : Target} → IsLabel xs vs ls k l p t n u b → ys ≡ take p xs
    → frames_in (reverse ys) ≡ frames_in (reverse xs)
branched_frames f e = ap (λ (zs : List Mark). frames_in (reverse zs)) e ∙ ap frames_in f.marks ∙ f.frames

-- labels alone are gone, so that the innermost frame is the same
pub branched_inner : {xs ys : List Mark} {vs : List Value} {ls : List (Option Value)} {k l p n u b : ℕ} {t : Target} → IsLabel xs vs ls k l p t n u b → ys ≡ take p xs
    → inner_in (reverse ys) ≡ inner_in (reverse xs)
branched_inner f e = ap (λ (zs : List Mark). inner_in (reverse zs)) e ∙ ap inner_in f.marks ∙ f.frame

pub branched_nested : {xs ys : List Mark} {vs : List Value} {ls : List (Option Value)} {k l p n u b : ℕ} {t : Target} → IsLabel xs vs ls k l p t n u b → ys ≡ take p xs
    → Nested (reverse xs) → Nested (reverse ys)
branched_nested f e g = subst Nested (sym (ap reverse e ∙ f.marks)) (f.nested g)

module _ {xs ys : List Mark} {vs ws : List Value} {ls : List (Option Value)} {k l p n u b : ℕ} {t : Target} where
  pub branched_levels : IsLabel xs vs ls k l p t n u b → ys ≡ take p xs → base (reverse xs) ≤ length vs → ws ≡ take b vs ++ drop (length vs - n) vs
      → levels_of (reverse ys) ws ls k ≡ t.outer
  branched_levels f e le w =
      let low = f.low in
      ap (λ (zs : List Mark). levels_of (reverse zs) ws ls k) e ∙ ap (λ (zs : List Mark). levels_of zs ws ls k) f.marks
      ∙ kept_levels (drop (suc l) (reverse xs)) vs ws (drop (length vs - n) vs) ls k b f.under (omega (arith, low, le)) w ∙ sym f.outer

  pub branched_own : IsLabel xs vs ls k l p t n u b → ys ≡ take p xs → base (reverse xs) ≤ length vs → ws ≡ take b vs ++ drop (length vs - n) vs
      → n ≤ length (own (reverse xs) vs) → own (reverse ys) ws ≡ take t.arity (own (reverse xs) vs) ++ t.below
  branched_own f e le w fits =
      ap (λ (zs : List Mark). own (reverse zs) ws) e ∙ ap (λ (zs : List Mark). own zs ws) f.marks
      ∙ kept_top (reverse xs) (drop (suc l) (reverse xs)) vs ws n b f.under f.low le fits w
      ∙ ap (λ (j : ℕ). take j (own (reverse xs) vs) ++ own (drop (suc l) (reverse xs)) (take b vs)) f.arity
      ∙ ap (λ (zs : List Value). take t.arity (own (reverse xs) vs) ++ zs) (sym f.below)

  pub branched_ordered : IsLabel xs vs ls k l p t n u b → ys ≡ take p xs → base (reverse xs) ≤ length vs → ws ≡ take b vs ++ drop (length vs - n) vs
      → Ordered (reverse ys) (length ws) (length ls) k
  branched_ordered f e le w =
      let low = f.low in
      let tl = length-take-le b vs (omega (arith, low, le)) in
      let al = length-append (take b vs) (drop (length vs - n) vs) in
      let wl = ap (λ (zs : List Value). length zs) w in
      subst (λ (zs : List Mark). Ordered zs (length ws) (length ls) k) (sym (ap reverse e ∙ f.marks))
      (ordered_more (drop (suc l) (reverse xs)) b (length ws) (length ls) k (omega (arith, tl, al, wl)) f.ordered)
