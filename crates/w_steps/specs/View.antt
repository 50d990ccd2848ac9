-- What the data of a step stands for.
use Rattle.std.specs.Prelude.{Bool, true, List, ◌∷◌, map, reverse, Option, Some, None, if◌then◌else◌}
use Rattle.w_types.specs.declared.types.HeapType.{HeapType}
use Rattle.w_types.specs.declared.types.ValType.{ValType}
use Rattle.w_types.specs.declared.types.ValType.TheVariants.{Ref}
use Rattle.lists.specs.Rows.{ε, ◌▹◌, row_of}
use Rattle.w_flow.specs.Flow.{Flow}
use Rattle.w_rules.specs.Context.{Context, Arrow}
use Rattle.w_rules.specs.InstructionTypes.{InstrType, fixed, untyped}
use Rattle.w_rules.specs.Spaces.{in_body}
use Rattle.w_rules.specs.View.{context_in}
use Rattle.w_rows.specs.declared.type_row.TypeRow.{TypeRow}
use Rattle.w_rows.specs.declared.type_rows.FuncRows.{FuncRows}
use Rattle.w_steps.specs.Labels.{within}
use Rattle.w_steps.specs.declared.frame_kind.FrameKind.{FrameKind}
use Rattle.w_steps.specs.declared.frame.Frame as code
use Rattle.w_steps.specs.declared.body_context.BodyContext.{BodyContext}

abbrev pub outer_kinds : List code.Frame → List FrameKind
outer_kinds fs = map (λ (f : code.Frame). f.kind) (reverse fs)

-- the context where an instruction stands
abbrev pub context_at : BodyContext → Context
context_at p = within (in_body (context_in p.setting.now.cx.now) p.locals.now.types p.setting.now.results.types.now) (p.kind.now ∷ outer_kinds p.outer.now)

-- the arrow of two rows
abbrev pub arrow_view : FuncRows → Arrow
arrow_view r = record { from = row_of r.params.types.now; to = row_of r.results.types.now }

-- a step where an instruction passes its test
abbrev pub gated : Bool → Option Flow → Option Flow
gated b o = if b then o else None

-- the type of an instruction that takes an operand of this type
abbrev pub takes_type : Option ValType → InstrType
takes_type (Some t) = fixed (ε ▹ t) ε
takes_type None = untyped

-- the type of a branch where the operand is not null, to a label that takes these types beneath a reference to this heap type
abbrev pub non_null_type : Option (TypeRow × HeapType) → InstrType
non_null_type (Some r) = fixed (row_of r.0.types.now ▹ Ref (record { nullable = true; heap = r.1 })) (row_of r.0.types.now)
non_null_type None = untyped
