-- The segments that a boxed one is.
use Rattle.std.specs.Prelude.{List, [], Option, Some, None, Box}
use Rattle.std.specs.declared.alloc.Global.{Global}
use Rattle.w_segment.specs.Link.{Link}
use Rattle.w_segment.specs.declared.segment.Segment.{Segment}

abbrev pub parents : Option (Box Segment Global) → List Link
parents None = []
parents (Some b) = b.value
