-- Segments that are the same but for room.
use Rattle.std.proofs.Common.{◌≡◌, ℕ, suc, Bool, true, List, [], ◌∷◌, length, refl, ap, arith}
use Rattle.w_types.specs.declared.value.Value.{Value}
use Rattle.w_segment.specs.Shape.{Shape, SameParts}
use Rattle.w_segment.specs.Link.{Link, top, with_top}
use Rattle.w_segment.proofs.FactsOfValues.{same_holds}
use Rattle.w_conts.specs.Conts.{Conts}
use Rattle.w_switching.specs.declared.stored.Stored.{Stored}
use Rattle.w_switching.specs.Moved.{SameLinks}
use Rattle.w_switching.specs.Sound.{LinksHold, is_of, SoundWith}

-- of one segment
pub same_shape : (s : Shape) → SameParts s s
same_shape s = record { levels = refl; operands = refl; func = refl; place = refl; stage = refl }

-- the same segments are
pub same_links : (xs : List Link) → SameLinks xs xs
same_links [] = tt
same_links (x ∷ xs) = (same_shape x.shape, refl, same_links xs)

-- where the innermost one is
pub same_top : (s' : Shape) (xs : List Link) → SameParts (top xs).shape s' → SameLinks xs (with_top s' xs)
same_top s' [] h = tt
same_top s' (x ∷ xs) h = (h, refl, same_links xs)

-- they are as many
pub same_long : (xs ys : List Link) → SameLinks xs ys → length ys ≡ length xs
same_long [] [] h = refl
same_long [] (y ∷ ys) h = absurd h
same_long (x ∷ xs) [] h = absurd h
same_long (x ∷ xs) (y ∷ ys) h = ap suc (same_long xs ys h.2)

-- and hold the same values
same_hold : (test : Value → Bool) (xs ys : List Link) → SameLinks xs ys → LinksHold test xs → LinksHold test ys
same_hold test [] [] h g = tt
same_hold test [] (y ∷ ys) h g = absurd h
same_hold test (x ∷ xs) [] h g = absurd h
same_hold test (x ∷ xs) (y ∷ ys) h g = (same_holds (λ v. test v ≡ true) x.shape y.shape h.0 g.0, same_hold test xs ys h.2 g.1)

-- and are sound
pub same_sound : (n : ℕ) (xs ys : List Link) (conts : Conts Stored) → SameLinks xs ys → SoundWith n xs conts → SoundWith n ys conts
same_sound n xs ys conts h s = record {
  references = same_hold (is_of conts) xs ys h s.references;
  stored = s.stored;
  slots = (let d = s.slots in let l = same_long xs ys h in omega (arith, d, l));
}
