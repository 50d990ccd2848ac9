-- A segment is deeper than the one that waits for it, so that a walk outwards ends.
use Rattle.std.specs.Prelude.{ℕ, suc, ◌+◌, ◌≤◌, max, length, Option, Some, None, Box}
use Rattle.std.specs.declared.alloc.Global.{Global}
use Rattle.std.proofs.Math.Nat.{max-le, le_of_lt, zero-lt-suc, lt-suc_self}
use Rattle.std.proofs.Math.Numerals.{add-one-le}
use Rattle.std.proofs.Common.{lit≤}
use Rattle.w_segment.specs.Shape.{Shape}
use Rattle.w_segment.specs.Parents.{parents}
use Rattle.w_segment.specs.declared.segment.Segment.{Segment}
use Rattle.w_segment.specs.declared.segment.Segment.TheInside.{Inside}
use Rattle.w_segment.specs.declared.segment.Segment.TheDeep.{deep-Segment}

at_most : (n : ℕ) → max (max (n + 1) 0) 0 ≤ suc n
at_most n = let z : 0 ≤ suc n = le_of_lt (zero-lt-suc n) in max-le (max-le (add-one-le (lt-suc_self n)) z) z

by_parent : (s : Shape) (n : ℕ) (p : Option (Box Segment Global)) → deep-Segment (record { stack = s; clauses = n; parent = p }) ≤ suc (length (parents p))
by_parent s n None = lit≤ tt
by_parent s n (Some b) = at_most (length b.value)

pub falls : (a : Inside) → deep-Segment a ≤ suc (length (parents a.parent))
falls a = by_parent a.stack a.clauses a.parent
