use Rattle.std.proofs.Common.{◌≡◌, ◌-◌, ◌<◌, ◌≤◌, List, length}
use Rattle.w_segment.specs.declared.entry.Stage.TheVariants.{Body}
use Rattle.w_segment.specs.Link.{Link, with_top}
use Rattle.w_conts.specs.Conts.{Conts}
use Rattle.w_switching.specs.declared.stored.Stored.{Stored}
use Rattle.w_configuration.specs.Parts.{parts}
use Rattle.w_configuration.specs.Standing.{StandsSomewhere}
use Rattle.w_configuration.proofs.CommonReductions.{Reached}
use Rattle.w_configuration.proofs.common.run_in_body.Given as goal

-- the stack stands in the body, and each one so far was taken, whatever stands around
abbrev pub invariant-loop-taken : goal.invariant-loop-taken
invariant-loop-taken l = record {
  body : l.stack.stage ≡ Body;
  function : l.stack.func ≡ l.fn.stack.func;
  reached : (chain : List Link) (conts : Conts Stored) → 0 < length chain → StandsSomewhere l.program (parts l.fn.store (with_top l.fn.stack chain) conts)
      → Reached l.program l.taken (parts l.fn.store (with_top l.fn.stack chain) conts) (parts l.store (with_top l.stack chain) conts);
  most : l.taken ≤ l.most;
}

abbrev pub decreases-loop-taken : goal.decreases-loop-taken
decreases-loop-taken l = l.most - l.taken
