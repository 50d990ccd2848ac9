-- A stack to which a rule applies, by what stands at its place.
use Rattle.std.proofs.Common.{◌≡◌, ℕ, Some, None, sym, subst}
use Rattle.w_syntax.specs.declared.instructions.Instr.{Instr}
use Rattle.w_syntax.specs.declared.module.Module.{Module}
use Rattle.w_segment.specs.declared.entry.Stage.TheVariants.{Fresh, Body, Branch}
use Rattle.w_segment.specs.Shape.{Shape}
use Rattle.w_tables.specs.Store as instances
use Rattle.w_stands.specs.Code.{instr_of}
use Rattle.w_stands.specs.Steps.{MovesAt}
use Rattle.w_control_ops.specs.Exits.{IsEnd}
use Rattle.w_control_ops.specs.Left.{BranchLeft}
use Rattle.w_call_ops.specs.Calling.{Invokes}
use Rattle.w_plain.specs.Meets.{Meets, Applies}

-- at an instruction
pub at_instruction : {m : Module} {u : instances.Store} {s : Shape} {i : Instr} → Applies m u s → s.stage ≡ Body → instr_of m s.func s.place ≡ Some i → MovesAt i m u s
at_instruction k b h = record { here = h; stage = b; p = k.p; o = k.o; e = k.e; r = k.r; at = k.at }

-- behind the last instruction
pub behind_all : {m : Module} {u : instances.Store} {s : Shape} → Applies m u s → s.stage ≡ Body → instr_of m s.func s.place ≡ None → Meets IsEnd m u s
behind_all k b h = record { here = subst IsEnd (sym h) tt; stage = b; p = k.p; o = k.o; e = k.e; r = k.r; at = k.at }

-- where the function is invoked next
pub invokes : {m : Module} {u : instances.Store} {s : Shape} → Applies m u s → s.stage ≡ Fresh → Invokes m u s
invokes k b = record { stage = b; p = k.p; o = k.o; e = k.e; r = k.r; at = k.at }

-- where a caught suspend left a branch
pub branches : {m : Module} {u : instances.Store} {s : Shape} {l : ℕ} → Applies m u s → s.stage ≡ Branch l → BranchLeft l m s
branches {u = u} k b = record { stage = b; u = u; p = k.p; o = k.o; e = k.e; r = k.r; at = k.at }
