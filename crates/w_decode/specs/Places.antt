-- A section by its places.
use Rattle.std.specs.Prelude.{◌≡◌, ℕ, ◌≤◌, List, length, drop, Option, Some, None, Result, Err, slice_range}
use Rattle.w_decode.specs.Reading.{framed}
use Rattle.w_decode.specs.declared.frames.Frame.{Frame}
use Rattle.w_syntax.specs.declared.module.Module.{Module}
use Rattle.w_decode.specs.declared.fault.DecodeFault.{DecodeFault}
use Rattle.w_decode.specs.declared.fault.DecodeFault.TheVariants as fault

-- the section at a place, in order after the rank k
abbrev pub FrameAt : List ℕ → ℕ → ℕ → Option Frame → Type 0
FrameAt b at k None = framed k (drop at b) ≡ None
FrameAt b at k (Some f) = (framed k (drop at b) ≡ Some ((f.rank, f.id, slice_range b f.start f.end), drop f.end b)) × (at ≤ f.start) × (f.start ≤ f.end) × (f.end ≤ length b)

-- what is decoded, unless memory ran out
abbrev pub Gives : Result Module DecodeFault → Result Module DecodeFault → Type 0
Gives (Err fault.OutOfMemory) d = Unit {0}
Gives r d = d ≡ r
