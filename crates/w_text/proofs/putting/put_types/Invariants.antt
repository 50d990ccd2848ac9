use Rattle.std.proofs.Common.{◌≡◌, ◌++◌, drop}
use Rattle.std.specs.List.{flat_map}
use Rattle.w_text.specs.Written.{type_bytes}
use Rattle.w_text.proofs.putting.put_types.Given as goal

-- what was written, and what is left, are all that is to be written
abbrev pub invariant-loop-kind : goal.invariant-loop-kind
invariant-loop-kind l = l.out.items ++ flat_map type_bytes (drop l.kind-index l.types) ≡ l.fn.out.items ++ flat_map type_bytes l.types
