-- The event of the next reduction, where it goes on, as the parts tell it before it is taken.
use Rattle.std.specs.Prelude.{◌≡◌, ℕ, List, Option, Some, None}
use Rattle.lists.specs.Rows.{Row}
use Rattle.w_syntax.specs.declared.instructions.Instr.{Instr}
use Rattle.w_syntax.specs.declared.instructions.Instr.TheVariants as flat
use Rattle.w_syntax.specs.declared.instructions.Op.TheVariants as op
use Rattle.w_syntax.specs.declared.module.Module.{Module}
use Rattle.w_reduce.specs.Values.{Val}
use Rattle.w_reduce.specs.Store.{Store}
use Rattle.w_reduce.specs.Terms.{Term, Continuation}
use Rattle.w_reduce.specs.Program.{Program}
use Rattle.w_trace.specs.declared.event.EventKind.{EventKind}
use Rattle.w_trace.specs.Events.{switching_event, event_of}
use Rattle.w_configuration.specs.Parts.{Parts, whole}
use Rattle.w_configuration.specs.Standing.{Stands}

-- that of the instruction at a place, where there is one
abbrev pub event_at : Store → Row Val → Option Instr → Option EventKind
event_at s vs (Some (flat.Plain (op.Switching o))) = switching_event s vs o
event_at s vs i = None

-- that of each configuration that they stand for
abbrev pub TellsEvent : Option EventKind → Module → Parts → Type 0
TellsEvent o m x = (waiting : List ℕ) (p : Program) (ks : List (Option Continuation)) (t : Term) → Stands m waiting x p ks t → o ≡ event_of (whole x.store ks) t
