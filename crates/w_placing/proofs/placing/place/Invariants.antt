use Rattle.w_placing.specs.Counting.{counts}
use Rattle.w_placing.specs.Tests.{tests_of}
use Rattle.w_placing.proofs.FilesPlaced.{PlacedTo}
use Rattle.w_placing.proofs.placing.place.Given as goal

-- the files so far are placed
abbrev pub invariant-loop-checked : goal.invariant-loop-checked
invariant-loop-checked l = PlacedTo (tests_of l.classes) l.definitions l.modules l.checked-index l.files.items (counts l.before)
