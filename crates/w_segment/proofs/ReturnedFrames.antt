-- The mark that the innermost frame is, as a return finds it.
use Rattle.std.proofs.Common.{◌≡◌, ℕ, suc, ◌+◌, ◌-◌, ◌<◌, ◌≤◌, List, [], ◌∷◌, ◌++◌, reverse, length, take, drop, Option, Some, slice_get, get_or, refl, sym, ap, ◌∙◌, subst, arith, length-append}
use Rattle.std.proofs.lemmas.List.{length-take-le, length-reverse}
use Rattle.w_types.specs.declared.value.Value.{Value}
use Rattle.w_segment.specs.declared.stack.Mark.{Mark}
use Rattle.w_segment.specs.Shape.{ReturnTarget, frame_at}
use Rattle.w_segment.specs.Flat.{base, own, levels_of, Ordered, frames_in, inner_in, Nested}
use Rattle.w_segment.proofs.PartsOfLists.{take_take, reverse_take, some_is}
use Rattle.w_segment.proofs.OwnOperands.{kept_top, kept_levels, ordered_more}
use Rattle.w_segment.proofs.LabelsOfMarks.{mark_at}
use Rattle.w_segment.specs.declared.stack.Mark.TheVariants as mark

-- the mark that the innermost frame is, with so many labels in it
pub record Around (es : List Mark) (vs : List Value) (ls : List (Option Value)) (k : ℕ) (c : ReturnTarget) : Type 0 where
  pub labels : ℕ
  pub at : ℕ
  pub first : ℕ
  pub out : ℕ
  pub count : labels + inner_in es ≡ length es
  pub some : 0 < inner_in es
  pub is : slice_get es labels ≡ Some (mark.Frame c.arity c.caller c.back at first out)
  pub below : c.below ≡ own (drop (suc labels) es) (take at vs)
  pub outer : c.outer ≡ levels_of (drop (suc labels) es) (take at vs) (take k ls) first
  pub low : at ≤ base es
  pub under : base (drop (suc labels) es) ≤ at
  pub within : k ≤ length ls
  pub ordered : Ordered (drop (suc labels) es) at k first
  pub frames : suc (frames_in (drop (suc labels) es)) ≡ frames_in es
  pub nested : Nested es → (out ≡ inner_in (drop (suc labels) es)) × Nested (drop (suc labels) es)

-- a frame that is there has its mark outside its labels'
pub around : (es : List Mark) (vs : List Value) (ls : List (Option Value)) (k : ℕ) (c : ReturnTarget) → Ordered es (length vs) (length ls) k
    → frame_at (levels_of es vs ls k) ≡ Some c → Around es vs ls k c
around [] vs ls k c o h = absurd cc
around (mark.Frame n f p b j u ∷ es) vs ls k c o h =
    let e : record { below = own es (take b vs); arity = n; caller = f; back = p; outer = levels_of es (take b vs) (take k ls) j } ≡ c = some_is h in
    record {
      labels = 0;
      at = b;
      first = j;
      out = u;
      count = omega arith;
      some = omega arith;
      is = ap (λ (x : ReturnTarget). Some (mark.Frame x.arity x.caller x.back b j u)) e;
      below = sym (ap (λ (x : ReturnTarget). x.below) e);
      outer = sym (ap (λ (x : ReturnTarget). x.outer) e);
      low = omega arith;
      under = o.1;
      within = o.2;
      ordered = o.3;
      frames = refl;
      nested = λ g. g;
    }
around (mark.Label n u b ∷ es) vs ls k c o h =
    let m = length-take-le b vs o.0 in
    let r = around es (take b vs) ls k c (subst (λ v. Ordered es v (length ls) k) (sym m) o.2) h in
    let low = o.1 in
    let lower = r.low in
    let count = r.count in
    let same = take_take r.at b vs (omega arith) in
    record {
      labels = suc r.labels;
      at = r.at;
      first = r.first;
      out = r.out;
      count = omega (arith, count);
      some = r.some;
      is = r.is;
      below = r.below ∙ ap (own (drop (suc r.labels) es)) same;
      outer = r.outer ∙ ap (λ (ws : List Value). levels_of (drop (suc r.labels) es) ws (take k ls) r.first) same;
      low = omega arith;
      under = r.under;
      within = r.within;
      ordered = r.ordered;
      frames = r.frames;
      nested = r.nested;
    }

-- the mark at place p, with these parts, is that of the innermost frame, from which c is where a return goes; es are the marks outside
-- it; marks stand innermost last
pub record IsFrame (xs es : List Mark) (vs : List Value) (ls : List (Option Value)) (k p : ℕ) (c : ReturnTarget) (n f q b j u : ℕ) : Type 0 where
  pub arity : n ≡ c.arity
  pub caller : f ≡ c.caller
  pub back : q ≡ c.back
  pub below : c.below ≡ own es (take b vs)
  pub outer : c.outer ≡ levels_of es (take b vs) (take k ls) j
  pub low : b ≤ base (reverse xs)
  pub under : base es ≤ b
  pub within : k ≤ length ls
  pub ordered : Ordered es b k j
  pub frames : suc (frames_in es) ≡ frames_in (reverse xs)
  pub nested : Nested (reverse xs) → (u ≡ inner_in es) × Nested es
  pub marks : reverse (take p xs) ≡ es

-- it is among the marks
pub inner_within : (es : List Mark) (vs : List Value) (ls : List (Option Value)) (k : ℕ) (c : ReturnTarget) → Ordered es (length vs) (length ls) k
    → frame_at (levels_of es vs ls k) ≡ Some c → (0 < inner_in es) × (inner_in es ≤ length es)
inner_within es vs ls k c o h = let r = around es vs ls k c o h in let a = r.some in let b = r.count in (a, omega (arith, b))

-- the mark at the place that a stack keeps is that one
frame_mark : (xs : List Mark) (vs : List Value) (ls : List (Option Value)) (k p : ℕ) (c : ReturnTarget) (e : Mark) (r : Around (reverse xs) vs ls k c)
    → p ≡ inner_in (reverse xs) - 1 → e ≡ get_or xs p e → e ≡ mark.Frame c.arity c.caller c.back r.at r.first r.out
frame_mark xs vs ls k p c e r q i =
    let l = length-reverse xs in
    let n = r.count in
    let s = r.some in
    let g = mark_at xs r.labels p (mark.Frame c.arity c.caller c.back r.at r.first r.out) e r.is (omega (arith, l, n, s, q)) i in g.1

-- it has the innermost frame's parts
pub frame_is : (xs : List Mark) (vs : List Value) (ls : List (Option Value)) (k p : ℕ) (c : ReturnTarget) (e : Mark) (n f q b j u : ℕ) → Ordered (reverse xs) (length vs) (length ls) k
    → frame_at (levels_of (reverse xs) vs ls k) ≡ Some c → p ≡ inner_in (reverse xs) - 1 → e ≡ get_or xs p e → e ≡ mark.Frame n f q b j u
    → IsFrame xs (reverse (take p xs)) vs ls k p c n f q b j u
frame_is xs vs ls k p c e n f q b j u o h w i m =
    let r = around (reverse xs) vs ls k c o h in
    let same : mark.Frame n f q b j u ≡ mark.Frame c.arity c.caller c.back r.at r.first r.out = sym m ∙ frame_mark xs vs ls k p c e r w i in
    let at : r.at ≡ b = cc in
    let first : r.first ≡ j = cc in
    let out : r.out ≡ u = cc in
    let l = length-reverse xs in
    let count = r.count in
    let some = r.some in
    let d = drop (suc r.labels) (reverse xs) in
    let marks : d ≡ reverse (take p xs) = sym (reverse_take p (suc r.labels) xs (omega (arith, l, count, some, w))) in
    record {
      arity = cc;
      caller = cc;
      back = cc;
      below = r.below ∙ ap (λ (y : ℕ). own d (take y vs)) at ∙ ap (λ (ys : List Mark). own ys (take b vs)) marks;
      outer = r.outer ∙ ap (λ (y : ℕ). levels_of d (take y vs) (take k ls) r.first) at ∙ ap (λ (y : ℕ). levels_of d (take b vs) (take k ls) y) first
          ∙ ap (λ (ys : List Mark). levels_of ys (take b vs) (take k ls) j) marks;
      low = (let z = r.low in omega (arith, z, at));
      under = subst (λ (ys : List Mark). base ys ≤ b) marks (subst (λ (y : ℕ). base d ≤ y) at r.under);
      within = r.within;
      ordered = subst (λ (ys : List Mark). Ordered ys b k j) marks (subst (λ (y : ℕ). Ordered d b k y) first (subst (λ (y : ℕ). Ordered d y k r.first) at r.ordered));
      frames = subst (λ (ys : List Mark). suc (frames_in ys) ≡ frames_in (reverse xs)) marks r.frames;
      nested = λ g. (let z = r.nested g in (sym out ∙ z.0 ∙ ap inner_in marks, subst Nested marks z.1));
      marks = refl;
    }

-- and not that of a label
pub frame_is_no_label : (xs : List Mark) (vs : List Value) (ls : List (Option Value)) (k p : ℕ) (c : ReturnTarget) (e : Mark) (n u b : ℕ) → Ordered (reverse xs) (length vs) (length ls) k
    → frame_at (levels_of (reverse xs) vs ls k) ≡ Some c → p ≡ inner_in (reverse xs) - 1 → e ≡ get_or xs p e → e ≡ mark.Label n u b → ⊥
frame_is_no_label xs vs ls k p c e n u b o h w i m =
    let r = around (reverse xs) vs ls k c o h in
    let same : mark.Label n u b ≡ mark.Frame c.arity c.caller c.back r.at r.first r.out = sym m ∙ frame_mark xs vs ls k p c e r w i in
    cc

-- ## The flat lists after the return

module _ {xs es ys : List Mark} {vs : List Value} {ls : List (Option Value)} {k p n f q b j u : ℕ} {c : ReturnTarget} where
  -- a frame less
  pub returned_frames : IsFrame xs es vs ls k p c n f q b j u → ys ≡ take p xs → suc (frames_in (reverse ys)) ≡ frames_in (reverse xs)
  returned_frames r e = ap (λ (zs : List Mark). suc (frames_in zs)) (ap reverse e ∙ r.marks) ∙ r.frames

  -- what the mark says is true of the marks outside it
  pub returned_nested : IsFrame xs es vs ls k p c n f q b j u → ys ≡ take p xs → Nested (reverse xs) → (u ≡ inner_in (reverse ys)) × Nested (reverse ys)
  returned_nested r e g =
      let z = r.nested g in
      let m : es ≡ reverse ys = sym (ap reverse e ∙ r.marks) in
      (z.0 ∙ ap inner_in m, subst Nested m z.1)

  module _ {ws : List Value} (m : ℕ) where
    -- the operands that are kept stand on those below it
    pub returned_own : IsFrame xs es vs ls k p c n f q b j u → ys ≡ take p xs → base (reverse xs) ≤ length vs → ws ≡ take b vs ++ drop (length vs - m) vs
        → m ≤ length (own (reverse xs) vs) → own (reverse ys) ws ≡ take m (own (reverse xs) vs) ++ c.below
    returned_own r e le w fits =
        ap (λ (zs : List Mark). own (reverse zs) ws) e ∙ ap (λ (zs : List Mark). own zs ws) r.marks
        ∙ kept_top (reverse xs) es vs ws m b r.under r.low le fits w
        ∙ ap (λ (zs : List Value). take m (own (reverse xs) vs) ++ zs) (sym r.below)

    module _ {ls' : List (Option Value)} where
      -- the levels around it are left
      pub returned_levels : IsFrame xs es vs ls k p c n f q b j u → ys ≡ take p xs → base (reverse xs) ≤ length vs → ws ≡ take b vs ++ drop (length vs - m) vs
          → ls' ≡ take k ls → levels_of (reverse ys) ws ls' j ≡ c.outer
      returned_levels r e le w l =
          let low = r.low in
          ap (λ (zs : List Mark). levels_of (reverse zs) ws ls' j) e ∙ ap (λ (zs : List Mark). levels_of zs ws ls' j) r.marks
          ∙ ap (λ (ks : List (Option Value)). levels_of es ws ks j) l
          ∙ kept_levels es vs ws (drop (length vs - m) vs) (take k ls) j b r.under (omega (arith, low, le)) w ∙ sym r.outer

      -- and their marks are ordered
      pub returned_ordered : IsFrame xs es vs ls k p c n f q b j u → ys ≡ take p xs → base (reverse xs) ≤ length vs → ws ≡ take b vs ++ drop (length vs - m) vs
          → ls' ≡ take k ls → Ordered (reverse ys) (length ws) (length ls') j
      returned_ordered r e le w l =
          let low = r.low in
          let tl = length-take-le b vs (omega (arith, low, le)) in
          let al = length-append (take b vs) (drop (length vs - m) vs) in
          let wl = ap (λ (zs : List Value). length zs) w in
          let kl : length ls' ≡ k = ap (λ (ks : List (Option Value)). length ks) l ∙ length-take-le k ls r.within in
          subst (λ (zs : List Mark). Ordered zs (length ws) (length ls') j) (sym (ap reverse e ∙ r.marks))
          (subst (λ (y : ℕ). Ordered es (length ws) y j) (sym kl) (ordered_more es b (length ws) k j (omega (arith, tl, al, wl)) r.ordered))
