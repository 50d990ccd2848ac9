use Rattle.std.proofs.Common.{◌≡◌, ◌∷◌, List, Option, Some, Box, sym, ap, ◌∙◌, subst, refl}
use Rattle.std.specs.declared.alloc.Global.{Global}
use Rattle.w_segment.specs.Link.{Link, parent_of}
use Rattle.w_segment.specs.Parents.{parents}
use Rattle.w_segment.specs.declared.segment.Segment.{Segment}
use Rattle.w_segment.proofs.segment.Segment.parent.Goals as goal

parent_is : (x y : Link) (ys v : List Link) → y ∷ ys ≡ v → parent_of (x ∷ v) ≡ Some v
parent_is x y ys v e = subst (λ (w : List Link). parent_of (x ∷ w) ≡ Some w) e refl

pub returns-in-Some-clause-outer : goal.returns-in-Some-clause-outer
returns-in-Some-clause-outer c =
    let i = c.self.inside in
    let x : Link = record { shape = i.stack; clauses = i.clauses } in
    sym (ap parent_of (sym c.self.view_is) ∙ ap (λ (p : Option (Box Segment Global)). parent_of (x ∷ parents p)) c.in-Some.is
    ∙ ap (λ (w : List Link). parent_of (x ∷ w)) (sym c.deref-parent.ensures) ∙ parent_is x _ _ c.deref-parent.result.now c.parent.view_is)
