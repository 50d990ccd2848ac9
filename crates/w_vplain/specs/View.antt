-- What the checker's data stands for.
use Rattle.std.specs.Prelude.{Bool, List, [], ◌∷◌, Option, Some, None}
use Rattle.w_types.specs.declared.types.ValType.{ValType}
use Rattle.lists.specs.Rows.{Row, ◌▹◌, row_of}
use Rattle.w_rows.specs.declared.type_row.TypeRow.{TypeRow}
use Rattle.w_flow.specs.View.{flow_view}
use Rattle.w_vplain.specs.Frames.{Frame, leave}
use Rattle.w_locals.specs.Locals.{first_set, outer_sets}
use Rattle.w_steps.specs.declared.frame.Frame as code

abbrev pub frame_view : code.Frame → List Bool → Frame
frame_view f s = record { kind = f.kind; any = (flow_view f.flow).any; operands = (flow_view f.flow).operands; is_set = s }

-- the open blocks, the innermost first, with what is set in each of them
abbrev pub frames_with : List code.Frame → List (List Bool) → List Frame
frames_with [] ss = []
frames_with (f ∷ fs) ss = frame_view f (first_set ss) ∷ frames_with fs (outer_sets ss)

-- ## Frames that blocks begin and leave

abbrev pub inner_with : Option code.Frame → code.Frame → List Bool → List Frame → Option (List Frame)
inner_with None f s fs = None
inner_with (Some g) f s fs = Some (frame_view g s ∷ frame_view f s ∷ fs)

abbrev pub else_with : Option code.Frame → Frame → List Frame → Option (List Frame)
else_with None g gs = None
else_with (Some f) g gs = Some (frame_view f g.is_set ∷ g ∷ gs)

abbrev pub left_with : Option TypeRow → List Frame → Option (List Frame)
left_with None fs = None
left_with (Some to) fs = Some (leave (row_of to.types.now) fs)

-- a row with one more type at its right, where there is one
abbrev pub row_with : Row ValType → Option ValType → Row ValType
row_with ts None = ts
row_with ts (Some t) = ts ▹ t
