-- A fact that held of all values of a stack holds of them after each change. A contract says it of tests, `λ v. test v ≡ true`.
use Rattle.std.specs.Prelude.{◌≡◌, ℕ, zero, suc, ◌-◌, List, [], ◌∷◌, ◌++◌, reverse, take, drop, map, replicate, slice_set, slice_get, Option, Some, None}
use Rattle.std.proofs.Common.{sym, subst}
use Rattle.std.proofs.lemmas.List.{reverse-append}
use Rattle.w_types.specs.declared.value.Value.{Value}
use Rattle.w_segment.specs.Shape.{Shape, Capacity, Level, Label, Frame, Target, ReturnTarget, SameParts, fresh_shape, label_at, frame_at, locals_of}
use Rattle.w_segment.specs.Changes.{pushed, popped, discarded, pushed_all, labelled, framed, left, left_at, branched, with_local, with_locals, moved, returned, staged}
use Rattle.w_segment.specs.Entered.{entered}
use Rattle.w_segment.specs.declared.entry.Entry.{Entry}
use Rattle.w_segment.specs.declared.entry.Entry.TheVariants as entry
use Rattle.w_segment.specs.declared.entry.Stage.{Stage}
use Rattle.w_segment.specs.Holds.{AllOf, AllSet, LevelsHold, Holds}

module _ (P : Value → Type 0) where
  -- of a part of the operands
  pub all_take : (n : ℕ) (vs : List Value) → AllOf P vs → AllOf P (take n vs)
  all_take zero vs h = tt
  all_take (suc n) [] h = tt
  all_take (suc n) (v ∷ vs) h = (h.0, all_take n vs h.1)

  pub all_drop : (n : ℕ) (vs : List Value) → AllOf P vs → AllOf P (drop n vs)
  all_drop zero vs h = h
  all_drop (suc n) [] h = tt
  all_drop (suc n) (v ∷ vs) h = all_drop n vs h.1

  -- of operands on others
  pub all_append : (vs ws : List Value) → AllOf P vs → AllOf P ws → AllOf P (vs ++ ws)
  all_append [] ws h g = g
  all_append (v ∷ vs) ws h g = (h.0, all_append vs ws h.1 g)

  -- in the other order
  pub all_reverse : (vs : List Value) → AllOf P vs → AllOf P (reverse vs)
  all_reverse [] h = tt
  all_reverse (v ∷ vs) h = subst (AllOf P) (sym (reverse-append (v ∷ []) vs)) (all_append (reverse vs) (v ∷ []) (all_reverse vs h.1) (h.0, tt))

  set_none : (n : ℕ) → AllSet P (replicate n None)
  set_none zero = tt
  set_none (suc n) = set_none n

  -- of a frame's first locals
  pub all_set : (vs : List Value) (n : ℕ) → AllOf P vs → AllSet P (map (λ (v : Value). Some v) vs ++ replicate n None)
  all_set [] n h = set_none n
  all_set (v ∷ vs) n h = (h.0, all_set vs n h.1)

  set_set : (ls : List (Option Value)) (x : ℕ) (v : Value) → AllSet P ls → P v → AllSet P (slice_set ls x (Some v))
  set_set [] x v h g = tt
  set_set (None ∷ ls) zero v h g = (g, h)
  set_set (Some w ∷ ls) zero v h g = (g, h.1)
  set_set (None ∷ ls) (suc x) v h g = set_set ls x v h g
  set_set (Some w ∷ ls) (suc x) v h g = (h.0, set_set ls x v h.1 g)

  -- of a local that is read
  set_get : (ls : List (Option Value)) (x : ℕ) (v : Value) → AllSet P ls → slice_get ls x ≡ Some (Some v) → P v
  set_get [] x v h e = absurd cc
  set_get (None ∷ ls) zero v h e = absurd cc
  set_get (Some w ∷ ls) zero v h e = let q : w ≡ v = cc in subst P q h.0
  set_get (None ∷ ls) (suc x) v h e = set_get ls x v h e
  set_get (Some w ∷ ls) (suc x) v h e = set_get ls x v h.1 e

  -- of the innermost frame's locals
  locals_hold : (ls : List Level) → LevelsHold P ls → AllSet P (locals_of ls)
  locals_hold [] h = tt
  locals_hold (Label below n t ∷ ls) h = locals_hold ls h.1
  locals_hold (Frame below n locals f p ∷ ls) h = h.1

  -- where a local is set
  local_holds : (x : ℕ) (v : Value) (ls : List Level) → LevelsHold P ls → P v → LevelsHold P (with_local x v ls)
  local_holds x v [] h g = tt
  local_holds x v (Label below n t ∷ ls) h g = (h.0, local_holds x v ls h.1 g)
  local_holds x v (Frame below n locals f p ∷ ls) h g = (h.0, set_set locals x v h.1 g, h.2)

  -- of what a branch goes to
  target_holds : (l : ℕ) (ls : List Level) (t : Target) → LevelsHold P ls → label_at l ls ≡ Some t → AllOf P t.below × LevelsHold P t.outer
  target_holds l [] t h e = absurd cc
  target_holds zero (Frame below n locals f p ∷ ls) t h e = absurd cc
  target_holds (suc l) (Frame below n locals f p ∷ ls) t h e = absurd cc
  target_holds zero (Label below n g ∷ ls) t h e =
      let q : record { below = below; arity = n; target = g; outer = ls } ≡ t = cc in
      subst (λ (x : Target). AllOf P x.below × LevelsHold P x.outer) q (h.0, h.1)
  target_holds (suc l) (Label below n g ∷ ls) t h e = target_holds l ls t h.1 e

  -- of what a return goes to
  pub caller_holds : (ls : List Level) (c : ReturnTarget) → LevelsHold P ls → frame_at ls ≡ Some c → AllOf P c.below × LevelsHold P c.outer
  caller_holds [] c h e = absurd cc
  caller_holds (Label below n g ∷ ls) c h e = caller_holds ls c h.1 e
  caller_holds (Frame below n locals f p ∷ ls) c h e =
      let q : record { below = below; arity = n; caller = f; back = p; outer = ls } ≡ c = cc in
      subst (λ (x : ReturnTarget). AllOf P x.below × LevelsHold P x.outer) q (h.0, h.2)

  left_holds_at : (s : Shape) (ls : List Level) → AllOf P s.operands → LevelsHold P ls → LevelsHold P s.levels → Holds P (left_at ls s)
  left_holds_at s [] o h k = record { operands = o; levels = k }
  left_holds_at s (Label below n t ∷ ls) o h k = record { operands = all_append s.operands below o h.0; levels = h.1 }
  left_holds_at s (Frame below n locals f p ∷ ls) o h k = record { operands = all_append s.operands below o h.0; levels = h.2 }

  -- ## The calls

  pub same_holds : (s s' : Shape) → SameParts s s' → Holds P s → Holds P s'
  same_holds s s' e h = record { operands = subst (AllOf P) (sym e.operands) h.operands; levels = subst (LevelsHold P) (sym e.levels) h.levels }

  pub pushed_holds : (v : Value) (s : Shape) → P v → Holds P s → Holds P (pushed v s)
  pushed_holds v s g h = record { operands = (g, h.operands); levels = h.levels }

  pub discarded_holds : (n : ℕ) (s : Shape) → Holds P s → Holds P (discarded n s)
  discarded_holds n s h = record { operands = all_drop n s.operands h.operands; levels = h.levels }

  pub popped_holds : (s : Shape) → Holds P s → Holds P (popped s)
  popped_holds s h = record { operands = all_drop 1 s.operands h.operands; levels = h.levels }

  pub pushed_all_holds : (vs : List Value) (s : Shape) → AllOf P vs → Holds P s → Holds P (pushed_all vs s)
  pushed_all_holds vs s g h = record { operands = all_append (reverse vs) s.operands (all_reverse vs g) h.operands; levels = h.levels }

  pub labelled_holds : (k n t : ℕ) (s : Shape) → Holds P s → Holds P (labelled k n t s)
  labelled_holds k n t s h = record { operands = all_take k s.operands h.operands; levels = (all_drop k s.operands h.operands, h.levels) }

  pub framed_holds : (f k l n : ℕ) (s : Shape) → Holds P s → Holds P (framed f k l n s)
  framed_holds f k l n s h = record {
    operands = tt;
    levels = (all_drop k s.operands h.operands, all_set (reverse (take k s.operands)) (l - k) (all_reverse (take k s.operands) (all_take k s.operands h.operands)), h.levels);
  }

  pub left_holds : (s : Shape) → Holds P s → Holds P (left s)
  left_holds s h = left_holds_at s s.levels h.operands h.levels h.levels

  pub branched_holds : (l : ℕ) (t : Target) (s : Shape) → label_at l s.levels ≡ Some t → Holds P s → Holds P (branched t s)
  branched_holds l t s e h = let w = target_holds l s.levels t h.levels e in
      record { operands = all_append (take t.arity s.operands) t.below (all_take t.arity s.operands h.operands) w.0; levels = w.1 }

  pub set_holds : (x : ℕ) (v : Value) (s : Shape) → P v → Holds P s → Holds P (with_locals x v s)
  set_holds x v s g h = record { operands = h.operands; levels = local_holds x v s.levels h.levels g }

  pub local_is : (x : ℕ) (v : Value) (s : Shape) → slice_get (locals_of s.levels) x ≡ Some (Some v) → Holds P s → P v
  local_is x v s e h = set_get (locals_of s.levels) x v (locals_hold s.levels h.levels) e

  pub moved_holds : (p : ℕ) (s : Shape) → Holds P s → Holds P (moved p s)
  moved_holds p s h = record { operands = h.operands; levels = h.levels }

  pub returned_holds : (n : ℕ) (c : ReturnTarget) (s : Shape) → frame_at s.levels ≡ Some c → Holds P s → Holds P (returned n c s)
  returned_holds n c s e h = let w = caller_holds s.levels c h.levels e in
      record { operands = all_append (take n s.operands) c.below (all_take n s.operands h.operands) w.0; levels = w.1 }

  pub entered_holds : (e : Entry) (s : Shape) → Holds P s → Holds P (entered e s)
  entered_holds (entry.Label k n t) s h = labelled_holds k n t s h
  entered_holds (entry.Frame f k l n) s h = framed_holds f k l n s h

  pub staged_holds : (x : Stage) (s : Shape) → Holds P s → Holds P (staged x s)
  staged_holds x s h = record { operands = h.operands; levels = h.levels }

  -- a fresh segment holds no value
  pub fresh_holds : (f : ℕ) (c : Capacity) → Holds P (fresh_shape f c)
  fresh_holds f c = record { operands = tt; levels = tt }
