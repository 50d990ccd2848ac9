use Rattle.std.proofs.Common.{◌≡◌, ◌++◌, drop}
use Rattle.std.specs.List.{flat_map}
use Rattle.w_text.specs.Written.{local_bytes}
use Rattle.w_text.proofs.putting.put_locals.Given as goal

-- what was written, and what is left, are all that is to be written
abbrev pub invariant-loop-run : goal.invariant-loop-run
invariant-loop-run l = l.out.items ++ flat_map local_bytes (drop l.run-index l.runs) ≡ l.fn.out.items ++ flat_map local_bytes l.runs
