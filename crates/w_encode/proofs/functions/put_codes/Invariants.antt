use Rattle.std.proofs.Common.{◌≡◌, ◌++◌, drop}
use Rattle.std.specs.List.{flat_map}
use Rattle.w_encode.specs.Canon.{code_written}
use Rattle.w_encode.proofs.functions.put_codes.Given as goal

-- what was written, and the functions that are left, are all that is to be written
abbrev pub invariant-loop-func : goal.invariant-loop-func
invariant-loop-func l = l.out.items ++ flat_map code_written (drop l.func-index l.funcs) ≡ l.fn.out.items ++ flat_map code_written l.funcs
