use Rattle.std.proofs.Common.{◌≡◌, ◌<◌, ◌-◌, List, length, sym, ap, ◌∙◌, subst}
use Rattle.w_segment.specs.Link.{Link, rest}
use Rattle.w_segment.specs.Parents.{parents}
use Rattle.w_chain.specs.Counts.{IsCounted, frames_in_top}
use Rattle.w_chain.proofs.CountsKept.{pop_counted}
use Rattle.w_chain.proofs.chain.Chain.pop.Goals as goal

pub invariant_of-self : goal.invariant_of-self
invariant_of-self c =
    let e : c.in-Some.segment.value ≡ parents c.self.inside.top = ap parents c.in-Some.ensures.value in
    let b : parents c.set_parent.result ≡ rest (parents c.self.inside.top) = c.set_parent.ensures.before ∙ ap rest c.deref_mut.ensures.value ∙ ap rest e in
    let some : 0 < length (parents c.self.inside.top) = subst (λ (l : List Link). 0 < length l) (sym c.self.view_is) c.requires.some in
    subst (λ (l : List Link). IsCounted (c.self.inside.segments - 1) (c.self.inside.below - c.frames_in.result) l) (sym b)
    (pop_counted c.self.inside.segments c.self.inside.below c.frames_in.result (parents c.self.inside.top) c.self.invariant some (c.frames_in.ensures.count ∙ ap frames_in_top b)).1
