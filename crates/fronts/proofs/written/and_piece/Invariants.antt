use Rattle.std.proofs.Common.{◌≡◌, ◌++◌, take}
use Rattle.fronts.specs.Fronts.{text_of}
use Rattle.fronts.proofs.written.and_piece.Given as goal

-- the bytes so far
abbrev pub invariant-loop-byte : goal.invariant-loop-byte
invariant-loop-byte l = text_of l.written.items ≡ text_of l.fn.written.items ++ take l.byte-index l.piece
