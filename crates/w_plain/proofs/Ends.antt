-- A stack where a sequence ends, as the exits take it.
use Rattle.std.proofs.Common.{Option, Some, None, sym, subst}
use Rattle.w_syntax.specs.declared.instructions.Instr.{Instr}
use Rattle.w_syntax.specs.declared.instructions.Instr.TheVariants as flat
use Rattle.w_syntax.specs.declared.module.Module.{Module}
use Rattle.w_segment.specs.Shape.{Shape}
use Rattle.w_tables.specs.Store as instances
use Rattle.w_stands.specs.Code.{instr_of, IsMark}
use Rattle.w_stands.specs.Steps.{MovesAt}
use Rattle.w_control_ops.specs.Exits.{ExitsAlone, IsEnd}
use Rattle.w_plain.specs.Meets.{Meets}

-- an end is a mark
end_mark : (o : Option Instr) → IsEnd o → IsMark o
end_mark None h = tt
end_mark (Some flat.End) h = tt
end_mark (Some flat.Else) h = absurd h
end_mark (Some (flat.Plain o)) h = absurd h
end_mark (Some (flat.Block k b z)) h = absurd h
end_mark (Some (flat.If b y z)) h = absurd h

pub exits_alone : {m : Module} {u : instances.Store} {s : Shape} → Meets IsEnd m u s → ExitsAlone m s
exits_alone {m} {u} {s} k = record { here = end_mark (instr_of m s.func s.place) k.here; stage = k.stage; u = u; p = k.p; o = k.o; e = k.e; r = k.r; at = k.at }

pub at_end : {m : Module} {u : instances.Store} {s : Shape} → Meets IsEnd m u s → IsEnd (instr_of m s.func s.place)
at_end k = k.here

-- at an else
pub else_alone : {m : Module} {u : instances.Store} {s : Shape} → MovesAt flat.Else m u s → ExitsAlone m s
else_alone {m} {u} {s} k = record { here = subst IsMark (sym k.here) tt; stage = k.stage; u = u; p = k.p; o = k.o; e = k.e; r = k.r; at = k.at }

-- at an end
pub end_meets : {m : Module} {u : instances.Store} {s : Shape} → MovesAt flat.End m u s → Meets IsEnd m u s
end_meets {m} {u} {s} k = record { here = subst IsEnd (sym k.here) tt; stage = k.stage; p = k.p; o = k.o; e = k.e; r = k.r; at = k.at }
