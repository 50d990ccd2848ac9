-- Where a body begins, as the code builds it.
use Rattle.std.proofs.Common.{◌≡◌, Bool, List, [], ◌∷◌, reverse, Some, refl, sym, ap, subst, ◌∙◌}
use Rattle.w_flow.specs.Flow.{Flow}
use Rattle.w_flow.specs.View.{flow_view, reached}
use Rattle.lists.specs.Rows.{ε}
use Rattle.w_vplain.specs.Frames.{Frame}
use Rattle.w_vplain.specs.Standing.{total_of, bases_from}
use Rattle.w_locals.specs.Locals.{first_set, outer_sets}
use Rattle.w_vplain.specs.View.{frame_view, frames_with}
use Rattle.w_steps.specs.declared.frame.Frame as code
use Rattle.w_steps.specs.declared.frame_kind.FrameKind.{FrameKind}
use Rattle.w_steps.specs.declared.frame_kind.FrameKind.TheVariants as kind
use Rattle.w_vplain.proofs.WholeBodies.{first_frame}

-- the frame of the empty sequence
pub begin_frames : (g : code.Frame) (xs : List code.Frame) (ss : List (List Bool)) (s : List Bool) → g.kind ≡ kind.Body → flow_view g.flow ≡ reached ε → xs ≡ [] → ss ≡ s ∷ []
    → frame_view g (first_set ss) ∷ frames_with (reverse xs) (outer_sets ss) ≡ first_frame s ∷ []
begin_frames g xs ss s k f none one =
    ap (λ (ys : List code.Frame). frame_view g (first_set ss) ∷ frames_with (reverse ys) (outer_sets ss)) none
    ∙ ap (λ (ts : List (List Bool)). frame_view g (first_set ts) ∷ []) one
    ∙ ap (λ (v : Flow). let h : Frame = record { kind = g.kind; any = v.any; operands = v.operands; is_set = s } in h ∷ []) f
    ∙ ap (λ (d : FrameKind). let h : Frame = record (first_frame s) { kind = d } in h ∷ []) k

-- no operands stand around it
pub bases_none : (xs : List code.Frame) → xs ≡ [] → (Some 0 ≡ total_of (reverse xs)) × bases_from (reverse xs)
bases_none xs e = let P : List code.Frame → Type 0 = λ ys. (Some 0 ≡ total_of (reverse ys)) × bases_from (reverse ys) in subst P (sym e) (refl, tt)
