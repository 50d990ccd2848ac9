use Rattle.std.proofs.Common.{◌≡◌, ◌∷◌, List, Option, sym, ap, ◌∙◌, refl, reverse}
use Rattle.w_types.specs.declared.value.Value.{Value}
use Rattle.w_segment.specs.declared.stack.Mark.{Mark}
use Rattle.w_segment.specs.declared.stack.Mark.TheVariants as mark
use Rattle.w_segment.specs.Changes.{left}
use Rattle.w_segment.specs.Flat.{levels_of}
use Rattle.w_segment.proofs.PartsOfLists.{reverse_push}
use Rattle.w_segment.proofs.LeftLevels.{left_label, left_frame}
use Rattle.w_segment.proofs.SameShapes.{same_shape, same_capacity}
use Rattle.w_segment.proofs.stack.Stack.leave.Goals as goal

pub returns-in-Label-clause-after : goal.returns-in-Label-clause-after
returns-in-Label-clause-after c =
    let i = c.self.inside in
    let es = reverse c.take_last.new.self.items in
    let e : reverse i.marks.items ≡ mark.Label c.in-Label.arity c.in-Label.target c.in-Label.below ∷ es =
    ap reverse c.take_last.ensures.items ∙ reverse_push c.take_last.new.self.items c.take_last.result ∙ ap (λ (x : Mark). x ∷ es) c.in-Label.is in
    same_shape _ _ refl refl refl refl refl (same_capacity _ _ _ _ _ _ refl c.take_last.ensures.capacity refl)
    ∙ sym (left_label (reverse i.marks.items) es c.in-Label.below c.in-Label.arity c.in-Label.target i.operands.items i.locals.items i.first _ e c.self.invariant.0 refl refl)
    ∙ ap left c.self.view_is

pub returns-in-Frame-clause-after : goal.returns-in-Frame-clause-after
returns-in-Frame-clause-after c =
    let i = c.self.inside in
    let es = reverse c.take_last.new.self.items in
    let e : reverse i.marks.items ≡ mark.Frame c.in-Frame.arity c.in-Frame.caller c.in-Frame.back c.in-Frame.below c.in-Frame.first c.in-Frame.outer ∷ es =
    ap reverse c.take_last.ensures.items ∙ reverse_push c.take_last.new.self.items c.take_last.result ∙ ap (λ (x : Mark). x ∷ es) c.in-Frame.is in
    same_shape _ _ (ap (λ (l : List (Option Value)). levels_of es i.operands.items l c.in-Frame.first) c.truncate.ensures.items) refl refl refl refl
    (same_capacity _ _ _ _ _ _ refl c.take_last.ensures.capacity c.truncate.ensures.capacity)
    ∙ sym (left_frame (reverse i.marks.items) es c.in-Frame.below c.in-Frame.arity c.in-Frame.caller c.in-Frame.back c.in-Frame.first c.in-Frame.outer
    i.operands.items i.locals.items i.first _ e c.self.invariant.0 refl refl)
    ∙ ap left c.self.view_is
