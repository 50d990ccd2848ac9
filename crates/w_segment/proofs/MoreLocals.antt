-- More locals behind those of the innermost frame: how many there then are, and that what holds of all values still holds.
use Rattle.std.proofs.Common.{◌≡◌, suc, ◌+◌, ◌<◌, List, [], ◌∷◌, ◌++◌, length, Option, Some, None, refl, ap, arith, length-append, append_assoc, append-nil}
use Rattle.w_types.specs.declared.value.Value.{Value}
use Rattle.w_segment.specs.Shape.{Shape, Level, Label, Frame, frames_of, locals_all}
use Rattle.w_segment.specs.Changes.{with_more_in, with_more}
use Rattle.w_segment.specs.Holds.{AllSet, LevelsHold, Holds}

pub frames_more : (ks : List (Option Value)) (ls : List Level) → frames_of (with_more_in ks ls) ≡ frames_of ls
frames_more ks [] = refl
frames_more ks (Label below n t ∷ ls) = frames_more ks ls
frames_more ks (Frame below n locals f p ∷ ls) = refl

pub locals_all_more : (ks : List (Option Value)) (ls : List Level) → 0 < frames_of ls → locals_all (with_more_in ks ls) ≡ locals_all ls + length ks
locals_all_more ks [] h = absurd (omega arith)
locals_all_more ks (Label below n t ∷ ls) h = locals_all_more ks ls h
locals_all_more ks (Frame below n locals f p ∷ ls) h = let l = length-append locals ks in omega (arith, l)

pub levels_more : (ks : List (Option Value)) (ls : List Level) → length (with_more_in ks ls) ≡ length ls
levels_more ks [] = refl
levels_more ks (Label below n t ∷ ls) = ap suc (levels_more ks ls)
levels_more ks (Frame below n locals f p ∷ ls) = refl

-- no more
more_none_in : (ls : List Level) → with_more_in [] ls ≡ ls
more_none_in [] = refl
more_none_in (Label below n t ∷ ls) = ap (λ (l : List Level). Label below n t ∷ l) (more_none_in ls)
more_none_in (Frame below n locals f p ∷ ls) = ap (λ (l : List (Option Value)). Frame below n l f p ∷ ls) (append-nil locals)

pub more_none : (s : Shape) → with_more [] s ≡ s
more_none s = ap (λ (l : List Level). let r : Shape = record s { levels = l } in r) (more_none_in s.levels)

-- more again
more_twice_in : (js ks : List (Option Value)) (ls : List Level) → with_more_in ks (with_more_in js ls) ≡ with_more_in (js ++ ks) ls
more_twice_in js ks [] = refl
more_twice_in js ks (Label below n t ∷ ls) = ap (λ (l : List Level). Label below n t ∷ l) (more_twice_in js ks ls)
more_twice_in js ks (Frame below n locals f p ∷ ls) = ap (λ (l : List (Option Value)). Frame below n l f p ∷ ls) (append_assoc locals js ks)

pub more_twice : (js ks : List (Option Value)) (s : Shape) → with_more ks (with_more js s) ≡ with_more (js ++ ks) s
more_twice js ks s = ap (λ (l : List Level). let r : Shape = record s { levels = l } in r) (more_twice_in js ks s.levels)

module _ (P : Value → Type 0) where
  pub set_append : (ls ks : List (Option Value)) → AllSet P ls → AllSet P ks → AllSet P (ls ++ ks)
  set_append [] ks h g = g
  set_append (None ∷ ls) ks h g = set_append ls ks h g
  set_append (Some v ∷ ls) ks h g = (h.0, set_append ls ks h.1 g)

  levels_hold_more : (ks : List (Option Value)) (ls : List Level) → AllSet P ks → LevelsHold P ls → LevelsHold P (with_more_in ks ls)
  levels_hold_more ks [] g h = tt
  levels_hold_more ks (Label below n t ∷ ls) g h = (h.0, levels_hold_more ks ls g h.1)
  levels_hold_more ks (Frame below n locals f p ∷ ls) g h = (h.0, set_append locals ks h.1 g, h.2)

  -- of locals that are added
  pub more_holds : (ks : List (Option Value)) (s : Shape) → AllSet P ks → Holds P s → Holds P (with_more ks s)
  more_holds ks s g h = record { operands = h.operands; levels = levels_hold_more ks s.levels g h.levels }
