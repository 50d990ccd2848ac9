-- What a handle owns.
use Rattle.std.specs.Prelude.{Bool, Option, None, Some, is_some}
use base.Fml.{Fml, ftrue, fsep, feq}
use denote.RattleType.{RattleType}
use denote.RawPtr.{Ptr}
use Rattle.std.specs.declared.alloc.Global.{Global}
use Rattle.std.specs.contracts.impls.GlobalAllocator.TheImpl.{ghosts}
use Rattle.std_alloc.specs.Box.Ownership.{box_owns}

-- the allocator of the program, of which there is one
abbrev pub heap : Global
heap = record { memory = record { seal = tt } }

-- a box that it made lies there
abbrev pub boxed : (R : RattleType) → Ptr → R.Denot → Fml
boxed R p x = box_owns (ghosts.dealloc_token heap) R p x

-- so it does where there is a value
abbrev pub boxed_if : (R : RattleType) → Ptr → Option R.Denot → Fml
boxed_if R p None = ftrue
boxed_if R p (Some x) = boxed R p x

-- a mark says whether there is one
abbrev pub marked_box : (R : RattleType) → Bool → Ptr → Option R.Denot → Fml
marked_box R t p o = fsep (feq Bool t (is_some o)) (boxed_if R p o)
