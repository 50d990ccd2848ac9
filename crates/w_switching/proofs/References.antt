-- References, entries and slots, as segments and entries change.
use Rattle.std.proofs.Common.{◌≡◌, ℕ, zero, suc, ◌+◌, ◌<◌, ◌≤◌, Bool, true, List, [], ◌∷◌, ◌++◌, Option, Some, None, length, refl, sym, ap, ◌∙◌, subst, arith, take, drop, reverse, length-append, eqb-true, eq-eqb}
use Rattle.std.proofs.lemmas.List.{length-reverse}
use Rattle.std.specs.Prelude.{slice_set, option_map}
use Rattle.w_types.specs.declared.value.Value.{Value}
use Rattle.w_types.specs.declared.value.Value.TheVariants as value
use Rattle.w_types.specs.declared.value.ContRef.{ContRef}
use Rattle.w_segment.specs.Holds.{AllOf, AllSet, LevelsHold, Holds}
use Rattle.w_segment.specs.Shape.{Shape, Level, Label, Frame, height}
use Rattle.w_segment.specs.Changes.{pushed_all}
use Rattle.w_segment.specs.Link.{Link, top, with_top, with_clauses}
use Rattle.w_conts.specs.Conts.{Conts, IsOf, KeepsReferences, entry_at, kept_at, some_count}
use Rattle.w_conts.proofs.SerialsAmongSlots.{some_is, serial_is}
use Rattle.w_switching.specs.declared.stored.Stored.{Stored}
use Rattle.w_switching.specs.Sound.{LinksHold, Waits, HasRoomFor, IsReady, is_place, is_of, IsGood, EachStored, segments_in, Sound}

-- ## A test that passes more

module _ (P Q : Value → Type 0) (f : (v : Value) → P v → Q v) where
  -- of operands
  all_more : (vs : List Value) → AllOf P vs → AllOf Q vs
  all_more [] h = tt
  all_more (v ∷ vs) h = (f v h.0, all_more vs h.1)

  -- of locals
  set_more : (ls : List (Option Value)) → AllSet P ls → AllSet Q ls
  set_more [] h = tt
  set_more (None ∷ ls) h = set_more ls h
  set_more (Some v ∷ ls) h = (f v h.0, set_more ls h.1)

  -- of levels
  levels_more : (ls : List Level) → LevelsHold P ls → LevelsHold Q ls
  levels_more [] h = tt
  levels_more (Label below n t ∷ ls) h = (all_more below h.0, levels_more ls h.1)
  levels_more (Frame below n locals g p ∷ ls) h = (all_more below h.0, set_more locals h.1, levels_more ls h.2)

  -- what holds of each value of a shape, where a fact of values becomes another
  pub holds_more : (s : Shape) → Holds P s → Holds Q s
  holds_more s h = record { operands = all_more s.operands h.operands; levels = levels_more s.levels h.levels }

-- each value that passes the one passes the other
abbrev pub More : (Value → Bool) → (Value → Bool) → Type 0
More a b = (v : Value) → a v ≡ true → b v ≡ true

-- of segments
pub links_more : (a b : Value → Bool) → More a b → (xs : List Link) → LinksHold a xs → LinksHold b xs
links_more a b f [] h = tt
links_more a b f (x ∷ xs) h = (holds_more (λ v. a v ≡ true) (λ v. b v ≡ true) f x.shape h.0, links_more a b f xs h.1)

-- ## Lists of segments

module _ (test : Value → Bool) where
  -- joined
  pub hold_append : (xs ys : List Link) → LinksHold test xs → LinksHold test ys → LinksHold test (xs ++ ys)
  hold_append [] ys h g = g
  hold_append (x ∷ xs) ys h g = (h.0, hold_append xs ys h.1 g)

  -- the first ones
  pub hold_take : (n : ℕ) (xs : List Link) → LinksHold test xs → LinksHold test (take n xs)
  hold_take zero xs h = tt
  hold_take (suc n) [] h = tt
  hold_take (suc n) (x ∷ xs) h = (h.0, hold_take n xs h.1)

  -- the others
  pub hold_drop : (n : ℕ) (xs : List Link) → LinksHold test xs → LinksHold test (drop n xs)
  hold_drop zero xs h = h
  hold_drop (suc n) [] h = tt
  hold_drop (suc n) (x ∷ xs) h = hold_drop n xs h.1

  -- with another stack inside
  pub hold_with : (s : Shape) (xs : List Link) → Holds (λ v. test v ≡ true) s → LinksHold test xs → LinksHold test (with_top s xs)
  hold_with s [] g h = tt
  hold_with s (x ∷ xs) g h = (g, h.1)

  -- waiting at another place
  pub hold_clauses : (n : ℕ) (xs : List Link) → LinksHold test xs → LinksHold test (with_clauses n xs)
  hold_clauses n [] h = tt
  hold_clauses n (x ∷ xs) h = h

  -- of the innermost one
  pub hold_top : (xs : List Link) → LinksHold test xs → Holds (λ v. test v ≡ true) (top xs).shape
  hold_top [] h = record { operands = tt; levels = tt }
  hold_top (x ∷ xs) h = h.0

-- ## Entries

-- what two equal entries keep is equal
some_kept_is : (p : ℕ) {b c : Stored} → option_map (λ (q : ℕ × Stored). q.1) (let r : Option (ℕ × Stored) = Some (p, b) in r) ≡ Some c → b ≡ c
some_kept_is p e = cc

module _ (P : Stored → Type 0) where
  -- of one of them
  pub each_at : (es : List (Option (ℕ × Stored))) (a : ℕ) (b : Stored) → option_map (λ (q : ℕ × Stored). q.1) (entry_at es a) ≡ Some b → EachStored P es → P b
  each_at [] a b e h = absurd cc
  each_at (None ∷ es) zero b e h = absurd cc
  each_at (Some (p, c) ∷ es) zero b e h = subst P (some_kept_is p e) h.0
  each_at (None ∷ es) (suc a) b e h = each_at es a b e h
  each_at (Some (p, c) ∷ es) (suc a) b e h = each_at es a b e h.1

  -- where one is consumed
  pub each_without : (es : List (Option (ℕ × Stored))) (a : ℕ) → EachStored P es → EachStored P (slice_set es a None)
  each_without [] a h = tt
  each_without (None ∷ es) zero h = h
  each_without (Some (p, c) ∷ es) zero h = h.1
  each_without (None ∷ es) (suc a) h = each_without es a h
  each_without (Some (p, c) ∷ es) (suc a) h = (h.0, each_without es a h.1)

  -- with one more
  pub each_with : (es : List (Option (ℕ × Stored))) (p : ℕ) (b : Stored) → P b → EachStored P es → EachStored P (es ++ Some (p, b) ∷ [])
  each_with [] p b g h = (g, tt)
  each_with (None ∷ es) p b g h = each_with es p b g h
  each_with (Some (q, c) ∷ es) p b g h = (h.0, each_with es p b g h.1)

-- where a fact of entries becomes another
pub each_more : (P Q : Stored → Type 0) → ((b : Stored) → P b → Q b) → (es : List (Option (ℕ × Stored))) → EachStored P es → EachStored Q es
each_more P Q f [] h = tt
each_more P Q f (None ∷ es) h = each_more P Q f es h
each_more P Q f (Some (p, b) ∷ es) h = (f b h.0, each_more P Q f es h.1)

-- with a test that passes more
pub good_more : (a b : Value → Bool) → More a b → (x : Stored) → IsGood a x → IsGood b x
good_more a b f x h = record { references = links_more a b f x.segment.value h.references; waits = h.waits; room = h.room; few = h.few }

-- ## Counts

-- the entry where something is kept
pub record EntryAt (es : List (Option (ℕ × Stored))) (a : ℕ) (b : Stored) : Type 0 where
  pub place : ℕ
  pub is : entry_at es a ≡ Some (place, b)

-- by what stands there
entry_some : (es : List (Option (ℕ × Stored))) (a : ℕ) (b : Stored) (o : Option (ℕ × Stored)) → entry_at es a ≡ o → option_map (λ (q : ℕ × Stored). q.1) o ≡ Some b → EntryAt es a b
entry_some es a b None e h = absurd cc
entry_some es a b (Some (p, c)) e h = record { place = p; is = e ∙ ap (λ (x : Stored). Some (p, x)) (some_kept_is p h) }

-- there is one where the store keeps something
pub entry_kept : (conts : Conts Stored) (a : ℕ) (b : Stored) → kept_at conts a ≡ Some b → EntryAt conts.entries a b
entry_kept conts a b h = entry_some conts.entries a b (entry_at conts.entries a) refl h

-- what two equal entries keep is equal, whatever their places
same_entry : {p q : ℕ} {b c : Stored} → (let r : Option (ℕ × Stored) = Some (p, b) in r) ≡ Some (q, c) → b ≡ c
same_entry {p} {q} {b} {c} e = let w : (let r : ℕ × Stored = (p, b) in r) ≡ (q, c) = some_is e in ap (λ (x : ℕ × Stored). x.1) w

-- the segments of one that is consumed are stored no more
pub segments_without : (es : List (Option (ℕ × Stored))) (a : ℕ) (p : ℕ) (b : Stored) → entry_at es a ≡ Some (p, b) → segments_in (slice_set es a None) + length b.segment.value ≡ segments_in es
segments_without [] a p b e = absurd cc
segments_without (None ∷ es) zero p b e = absurd cc
segments_without (Some (q, c) ∷ es) zero p b e = let w = ap (λ (x : Stored). length x.segment.value) (same_entry e) in omega (arith, w)
segments_without (None ∷ es) (suc a) p b e = segments_without es a p b e
segments_without (Some (q, c) ∷ es) (suc a) p b e = let w = segments_without es a p b e in omega (arith, w)

-- and those of one more are
pub segments_with : (es : List (Option (ℕ × Stored))) (p : ℕ) (b : Stored) → segments_in (es ++ Some (p, b) ∷ []) ≡ segments_in es + length b.segment.value
segments_with [] p b = omega arith
segments_with (None ∷ es) p b = segments_with es p b
segments_with (Some (q, c) ∷ es) p b = let w = segments_with es p b in omega (arith, w)

-- there are segments where some wait
some_waits : (xs : List Link) → Waits xs → 0 < length xs
some_waits [] h = absurd h
some_waits (x ∷ xs) h = omega arith

-- each continuation that is live has a segment
live_few : (test : Value → Bool) (es : List (Option (ℕ × Stored))) → EachStored (IsGood test) es → some_count es ≤ segments_in es
live_few test [] h = omega arith
live_few test (None ∷ es) h = live_few test es h
live_few test (Some (p, b) ∷ es) h = let r = live_few test es h.1 in let w = some_waits b.segment.value h.0.waits in omega (arith, r, w)

-- where there is a handle there is a slot
pub spare_slot : (chain : List Link) (conts : Conts Stored) → Sound chain conts → 1 < length chain → 0 < conts.spare
spare_slot chain conts s h = let l = live_few (is_of conts) conts.entries s.stored in let r = s.slots in omega (arith, h, l, r)

-- the innermost of stored segments is ready
pub waits_some : (xs : List Link) → Waits xs → (0 < length xs) × IsReady (top xs).shape.stage
waits_some [] h = absurd h
waits_some (x ∷ xs) h = (omega arith, h)

-- also with another stack inside that is at the same stage
pub top_wait : (s : Shape) (xs : List Link) → Waits xs → s.stage ≡ (top xs).shape.stage → Waits (with_top s xs)
top_wait s [] h e = absurd h
top_wait s (x ∷ xs) h e = subst IsReady (sym e) h

-- ## References

-- an address that passes was given out
place_made : (es : List (Option (ℕ × Stored))) (a place : ℕ) → is_place es a place ≡ true → a < length es
place_made [] a place h = absurd cc
place_made (None ∷ es) zero place h = omega arith
place_made (Some (p, b) ∷ es) zero place h = omega arith
place_made (None ∷ es) (suc a) place h = let r = place_made es a place h in omega (arith, r)
place_made (Some (p, b) ∷ es) (suc a) place h = let r = place_made es a place h in omega (arith, r)

-- and its place is where it is kept
place_is : (es : List (Option (ℕ × Stored))) (a place q : ℕ) (x : Stored) → is_place es a place ≡ true → entry_at es a ≡ Some (q, x) → q ≡ place
place_is [] a place q x h e = absurd cc
place_is (None ∷ es) zero place q x h e = absurd cc
place_is (Some (p, b) ∷ es) zero place q x h e = sym (serial_is e) ∙ eqb-true p place h
place_is (None ∷ es) (suc a) place q x h e = place_is es a place q x h e
place_is (Some (p, b) ∷ es) (suc a) place q x h e = place_is es a place q x h e

-- the other way round
is_placed : (es : List (Option (ℕ × Stored))) (a place : ℕ) → a < length es → ((p : ℕ) (x : Stored) → entry_at es a ≡ Some (p, x) → p ≡ place) → is_place es a place ≡ true
is_placed [] a place l h = absurd (omega arith)
is_placed (None ∷ es) zero place l h = refl
is_placed (Some (p, b) ∷ es) zero place l h = eq-eqb p place (h p b refl)
is_placed (None ∷ es) (suc a) place l h = is_placed es a place (omega arith) h
is_placed (Some (p, b) ∷ es) (suc a) place l h = is_placed es a place (omega arith) h

-- a reference passes exactly where it is of the store
pub of_is : (conts : Conts Stored) (r : ContRef) → is_of conts (value.Cont r) ≡ true → IsOf r conts
of_is conts r h = record { made = place_made conts.entries r.serial r.place h; place = λ p x e. place_is conts.entries r.serial r.place p x h e }

-- and the other way round
pub is_of_it : (conts : Conts Stored) (r : ContRef) → IsOf r conts → is_of conts (value.Cont r) ≡ true
is_of_it conts r h = is_placed conts.entries r.serial r.place h.made h.place

-- so what keeps references passes no less
pub more_of : (conts conts' : Conts Stored) → KeepsReferences conts conts' → More (is_of conts) (is_of conts')
more_of conts conts' k (value.I32 n) h = h
more_of conts conts' k (value.I64 n) h = h
more_of conts conts' k value.Null h = h
more_of conts conts' k (value.Func a) h = h
more_of conts conts' k (value.Cont r) h = is_of_it conts' r (k r (of_is conts r h))

-- the reference on top is of the store
pub reference_of : (chain : List Link) (conts : Conts Stored) (r : ContRef) (vs : List Value) → Sound chain conts → (top chain).shape.operands ≡ value.Cont r ∷ vs → IsOf r conts
reference_of chain conts r vs s o = of_is conts r (subst (AllOf (λ v. is_of conts v ≡ true)) o (hold_top (is_of conts) chain s.references).operands).0

-- ## Lengths

-- another stack inside leaves as many segments
pub long_top : (s : Shape) (xs : List Link) → length (with_top s xs) ≡ length xs
long_top s [] = refl
long_top s (x ∷ xs) = refl

-- and so does another place to wait at
pub long_clauses : (n : ℕ) (xs : List Link) → length (with_clauses n xs) ≡ length xs
long_clauses n [] = refl
long_clauses n (x ∷ xs) = refl

-- ## Room

-- the innermost segment has room where its new shape has
pub room_with : (n : ℕ) (s : Shape) (xs : List Link) → 0 < length xs → height s + n ≤ s.capacity.operands → HasRoomFor n (with_top s xs)
room_with n s [] h r = absurd (omega arith)
room_with n s (x ∷ xs) h r = r

-- operands stand on what there is
pub high_more : (vs : List Value) (s : Shape) → height (pushed_all vs s) ≡ height s + length vs
high_more vs s = let a = length-append (reverse vs) s.operands in let b = length-reverse vs in omega (arith, a, b)

-- the same of operands in the other order
pub high_pushed : (us : List Value) (s : Shape) → height (pushed_all (reverse us) s) ≡ height s + length us
high_pushed us s = let a = high_more (reverse us) s in let b = length-reverse us in omega (arith, a, b)

-- the topmost n operands are n at most
taken_few : (n : ℕ) (vs : List Value) → length (take n vs) ≤ n
taken_few zero vs = omega arith
taken_few (suc n) [] = omega arith
taken_few (suc n) (v ∷ vs) = let h = taken_few n vs in omega (arith, h)

-- the same in the other order
pub tops_few : (n : ℕ) (vs : List Value) → length (reverse (take n vs)) ≤ n
tops_few n vs = let a = length-reverse (take n vs) in let b = taken_few n vs in omega (arith, a, b)
