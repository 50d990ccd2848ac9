use Rattle.std.proofs.Common.{◌≡◌, drop}
use Rattle.w_syntax.specs.Module.{any_uses_data}
use Rattle.w_syntax.proofs.body.any_uses_data.Given as goal

abbrev pub invariant-loop-function : goal.invariant-loop-function
invariant-loop-function l = any_uses_data (drop l.function-index l.functions) ≡ any_uses_data l.functions
