-- What is entered: a label or a frame (Core, execution: entering a block, function invocation).
use Rattle.std.specs.Prelude.{ℕ, ◌+◌, ◌≤◌}
use Rattle.w_segment.specs.declared.entry.Entry.{Entry}
use Rattle.w_segment.specs.declared.entry.Entry.TheVariants as entry
use Rattle.w_segment.specs.Shape.{Shape, locals_all}
use Rattle.w_segment.specs.Changes.{labelled, framed}

-- how many operands it takes along
abbrev pub params_of : Entry → ℕ
params_of (entry.Label params n t) = params
params_of (entry.Frame f params locals n) = params

-- a frame's parameters are among its locals, and there is room for these
abbrev pub LocalsFit : Entry → Shape → Type 0
LocalsFit (entry.Label params n t) s = Unit {0}
LocalsFit (entry.Frame f params locals n) s = (params ≤ locals) × (locals_all s.levels + locals ≤ s.capacity.locals)

abbrev pub entered : Entry → Shape → Shape
entered (entry.Label params n t) s = labelled params n t s
entered (entry.Frame f params locals n) s = framed f params locals n s
