-- What a plain instruction does to the operands of the block that it stands in.
use Rattle.std.specs.Prelude.{◌≡◌, Bool, true, false, List}
use Rattle.w_types.specs.declared.types.ValType.{ValType}
use Rattle.w_syntax.specs.declared.instructions.Op.{Op}
use Rattle.w_syntax.specs.declared.packed.PackedInstr.{PackedInstr}
use Rattle.w_syntax.specs.declared.packed.PackedInstr.TheVariants as packed
use Rattle.w_syntax.specs.Packed.{OnPlain, unpacked}
use Rattle.w_canon.specs.declared.entry.Entry.{Entry}
use Rattle.w_flow.specs.Flow.{step}
use Rattle.w_flow.specs.View.{flow_view, flow_if}
use Rattle.w_flow.specs.declared.flow.Flow.{Flow}
use Rattle.w_rules.specs.Context.{Context}
use Rattle.w_rules.specs.InstructionTypes.{instr_type, sets}
use Rattle.w_rules.specs.Spaces.{in_body}
use Rattle.w_rules.specs.View.{context_in}
use Rattle.w_rules.specs.declared.context.Context as program
use Rattle.w_locals.specs.Locals.{LocalState, first_set}
use Rattle.w_steps.specs.Labels.{within}
use Rattle.w_steps.specs.PlainTests.{plain_test}
use Rattle.w_steps.specs.View.{gated}
use Rattle.w_steps.specs.declared.frame_kind.FrameKind.{FrameKind}

-- the step of its type in this context, where it passes its test
abbrev pub StepsIn : List Entry → Context → List Bool → Op → Flow → Flow → Bool → Type 0
StepsIn es c s o old new applies =
    gated (plain_test es c o) (step es (instr_type c s o) (flow_view old).any (flow_view old).operands) ≡ flow_if applies new

-- the same in a body of these locals and results, inside these blocks
abbrev pub StepsTo : program.Context → LocalState → List ValType → List FrameKind → Op → Flow → Flow → Bool → Type 0
StepsTo cx locals results ks o old new applies =
    StepsIn cx.classes.now (within (in_body (context_in cx) locals.types results) ks) (first_set locals.sets) o old new applies

-- the same of a packed instruction
abbrev pub PackedSteps : program.Context → LocalState → List ValType → List FrameKind → PackedInstr → Flow → Flow → Bool → Type 0
PackedSteps cx locals results ks p old new applies =
    OnPlain (λ (o : Op). StepsTo cx locals results ks o old new applies) (unpacked p)

-- the same whatever the results and the blocks are
abbrev pub StepsAnywhere : program.Context → LocalState → PackedInstr → Flow → Flow → Bool → Type 0
StepsAnywhere cx locals p old new applies = (results : List ValType) (ks : List FrameKind) → PackedSteps cx locals results ks p old new applies

-- the locals are set as the instruction sets them
abbrev pub SetsBy : Op → LocalState → LocalState → Type 0
SetsBy o old new = first_set new.sets ≡ sets o (first_set old.sets)

-- and as a packed one does
abbrev pub PackedSets : PackedInstr → LocalState → LocalState → Type 0
PackedSets p old new = OnPlain (λ (o : Op). SetsBy o old new) (unpacked p)

-- the packed instruction is none of those that are judged first
abbrev pub is_rare : PackedInstr → Bool
is_rare (packed.Variable o) = false
is_rare (packed.I32Const n) = false
is_rare (packed.I64Const n) = false
is_rare (packed.Eqz k) = false
is_rare (packed.Compare k o) = false
is_rare (packed.Unary k o) = false
is_rare (packed.Binary k o) = false
is_rare packed.Drop = false
is_rare (packed.Load l a x o) = false
is_rare (packed.Store s a x o) = false
is_rare p = true

-- the packed instruction gets or sets a local or a global
abbrev pub is_variable : PackedInstr → Bool
is_variable (packed.Variable o) = true
is_variable p = false
