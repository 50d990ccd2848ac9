use Rattle.std.proofs.Common.{◌≡◌, ◌-◌, ◌≤◌}
use Rattle.w_stands.specs.Code.{instrs}
use Rattle.w_syntax.specs.Packed.{unpacked_all}
use Rattle.w_configuration.specs.CommonReductions.{TakesMany}
use Rattle.w_configuration.proofs.common.hasten.Given as goal

-- so many were taken
abbrev pub invariant-loop-taken : goal.invariant-loop-taken
invariant-loop-taken l = record {
  many : TakesMany l.quiet l.program.source.now l.fn.configuration l.taken l.configuration;
  most : l.taken ≤ l.most;
  code : unpacked_all l.code ≡ instrs l.program.source.now l.function;
}

abbrev pub decreases-loop-taken : goal.decreases-loop-taken
decreases-loop-taken l = l.most - l.taken
