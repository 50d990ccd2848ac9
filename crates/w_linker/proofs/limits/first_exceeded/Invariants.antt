use Rattle.std.proofs.Common.{◌≡◌, take, drop}
use Rattle.std.specs.Prelude.{All}
use Rattle.w_linked.specs.Starting.{first_exceeded}
use Rattle.w_linker.specs.Parts.{IsAccepted}
use Rattle.w_linker.proofs.limits.first_exceeded.Given as goal

-- no file so far passes a limit
abbrev pub invariant-loop-file : goal.invariant-loop-file
invariant-loop-file l = record {
  first : first_exceeded l.file (drop l.file l.modules) ≡ first_exceeded 0 l.modules;
  accepted : All IsAccepted (take l.file l.modules);
}
