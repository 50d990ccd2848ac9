-- What the machine keeps beside the configuration in which its chain and store stand.
use Rattle.std.specs.Prelude.{◌≡◌, ℕ, zero, suc, ◌+◌, ◌^◌, ◌≤◌, Bool, true, false, nat_eq, List, [], ◌∷◌, length, Option, Some, None, ⊤}
use Rattle.w_types.specs.declared.value.Value.{Value}
use Rattle.w_types.specs.declared.value.Value.TheVariants as value
use Rattle.w_syntax.specs.declared.module.Module.{Module}
use Rattle.w_segment.specs.declared.entry.Stage.{Stage}
use Rattle.w_segment.specs.declared.entry.Stage.TheVariants.{Fresh, Body, Branch, Values}
use Rattle.w_segment.specs.Shape.{height}
use Rattle.w_segment.specs.Holds.{Holds}
use Rattle.w_segment.specs.Link.{Link, top}
use Rattle.w_conts.specs.Conts.{Conts, live_of}
use Rattle.w_stands.specs.Room.{HasRoom}
use Rattle.w_switching.specs.declared.stored.Stored.{Stored}

-- ## Segments

-- every value of each segment passes
abbrev pub LinksHold : (Value → Bool) → List Link → Type 0
LinksHold test [] = ⊤
LinksHold test (x ∷ xs) = Holds (λ v. test v ≡ true) x.shape × LinksHold test xs

-- what is stored goes on at its hole: in a body, or as a function's arguments where it is fresh
abbrev pub IsReady : Stage → Type 0
IsReady Fresh = ⊤
IsReady Body = ⊤
IsReady (Branch l) = ⊥
IsReady Values = ⊥

-- there are segments, the innermost one of which is ready
abbrev pub Waits : List Link → Type 0
Waits [] = ⊥
Waits (x ∷ xs) = IsReady x.shape.stage

-- the innermost one has room for so many operands more
abbrev pub HasRoomFor : ℕ → List Link → Type 0
HasRoomFor n xs = height (top xs).shape + n ≤ (top xs).shape.capacity.operands

-- so many segments at most are stored of one continuation
abbrev pub most_segments : ℕ
most_segments = 2 ^ 30

-- ## The store

-- whether an address was given out, and what stands there, if it isn't consumed, stands at this place
abbrev pub is_place : List (Option (ℕ × Stored)) → ℕ → ℕ → Bool
is_place [] a place = false
is_place (None ∷ es) zero place = true
is_place (Some (p, b) ∷ es) zero place = nat_eq p place
is_place (None ∷ es) (suc a) place = is_place es a place
is_place (Some (p, b) ∷ es) (suc a) place = is_place es a place

-- whether a value, if it is a reference to a continuation, is one of the store
abbrev pub is_of : Conts Stored → Value → Bool
is_of s (value.I32 n) = true
is_of s (value.I64 n) = true
is_of s value.Null = true
is_of s (value.Func a) = true
is_of s (value.Cont r) = is_place s.entries r.serial r.place

-- What is stored of a continuation is ready, is few segments whose values pass, and has room for the values that it takes.
pub record IsGood (test : Value → Bool) (b : Stored) : Type 0 where
  pub references : LinksHold test b.segment.value
  pub waits : Waits b.segment.value
  pub room : HasRoomFor b.takes b.segment.value
  pub few : length b.segment.value ≤ most_segments

abbrev pub EachStored : (Stored → Type 0) → List (Option (ℕ × Stored)) → Type 0
EachStored P [] = ⊤
EachStored P (None ∷ es) = EachStored P es
EachStored P (Some (p, b) ∷ es) = P b × EachStored P es

-- how many segments are stored
abbrev pub segments_in : List (Option (ℕ × Stored)) → ℕ
segments_in [] = 0
segments_in (None ∷ es) = segments_in es
segments_in (Some (p, b) ∷ es) = length b.segment.value + segments_in es

-- ## What is kept

-- with n slots more than segments but the root
pub record SoundWith (n : ℕ) (chain : List Link) (conts : Conts Stored) : Type 0 where
  -- each reference is of the store
  pub references : LinksHold (is_of conts) chain
  pub stored : EachStored (IsGood (is_of conts)) conts.entries
  -- a slot of the store for each segment but the root
  pub slots : length chain + segments_in conts.entries + n ≡ suc (live_of conts + conts.spare)

abbrev pub Sound : List Link → Conts Stored → Type 0
Sound = SoundWith 0

-- ## Room

-- each segment has room for what its frames' functions need
abbrev pub LinksRoom : Module → List Link → Type 0
LinksRoom m [] = ⊤
LinksRoom m (x ∷ xs) = HasRoom m x.shape × LinksRoom m xs

-- those that run, and those that are stored
pub record Roomy (m : Module) (chain : List Link) (conts : Conts Stored) : Type 0 where
  pub running : LinksRoom m chain
  pub stored : EachStored (λ b. LinksRoom m b.segment.value) conts.entries
