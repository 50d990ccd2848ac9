use Rattle.std.proofs.Common.{◌≡◌, ℕ, ◌+◌, ◌<◌, Some}
use Rattle.std.specs.Prelude.{slice_get}
use Rattle.w_types.specs.declared.types.SubType.{SubType}
use Rattle.w_items.specs.SubTypes.{IsValidSubType}
use Rattle.w_items.proofs.types.first_in_group.Given as goal

-- each type so far is valid
abbrev pub invariant-loop-position : goal.invariant-loop-position
invariant-loop-position l = (k : ℕ) (t : SubType) → k < l.position → slice_get l.types k ≡ Some t → IsValidSubType l.cx.candidate.now l.end (l.start + k) t
