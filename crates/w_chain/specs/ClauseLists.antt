-- The clauses at which a segment waits (stack-switching explainer, resume): a handle's clauses are those of its resume.
use Rattle.std.specs.Prelude.{ℕ, List, [], Option, Some, None, slice_get}
use Rattle.w_syntax.specs.Flat.{whole}
use Rattle.w_syntax.specs.Functions.{code_of_function}
use Rattle.w_syntax.specs.declared.instructions.Clause.{Clause}
use Rattle.w_syntax.specs.declared.instructions.Instr.{Instr}
use Rattle.w_syntax.specs.declared.instructions.Instr.TheVariants as flat
use Rattle.w_syntax.specs.declared.instructions.Op.TheVariants as op
use Rattle.w_syntax.specs.declared.instructions.SwitchingOp.{SwitchingOp}
use Rattle.w_syntax.specs.declared.instructions.SwitchingOp.TheVariants as switching
use Rattle.w_syntax.specs.declared.module.Func.{Func}
use Rattle.w_syntax.specs.declared.module.Module.{Module}
use Rattle.w_segment.specs.Link.{Link}

abbrev pub clauses_in_switching : SwitchingOp → List Clause
clauses_in_switching (switching.Resume t hs) = hs
clauses_in_switching _ = []

-- those of a resume, and none of any other instruction
abbrev pub clauses_in : Option Instr → List Clause
clauses_in (Some (flat.Plain (op.Switching o))) = clauses_in_switching o
clauses_in _ = []

abbrev pub instr_in : Option Func → ℕ → Option Instr
instr_in (Some f) p = slice_get (whole f.body) p
instr_in None p = None

-- those of the instruction at a place of a function's code
abbrev pub clauses_at : Module → ℕ → ℕ → List Clause
clauses_at m f p = clauses_in (instr_in (code_of_function m f) p)

-- those at which a segment waits: its innermost frame is of the function whose code has the resume
abbrev pub clauses_of : Module → Link → List Clause
clauses_of m y = clauses_at m y.shape.func y.clauses
