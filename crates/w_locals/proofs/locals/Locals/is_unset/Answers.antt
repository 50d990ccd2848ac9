use Rattle.std.proofs.Common.{◌∙◌, ℕ, List, not, ap, sym, reverse}
use Rattle.w_locals.specs.Locals.{LocalState, first_in, is_logged}
use Rattle.w_locals.proofs.FlagsOff.{never_unset, unset_by_log}
use Rattle.w_locals.proofs.locals.Locals.is_unset.Goals as goal

pub returns-then-not-is_unset_first : goal.returns-then-not-is_unset_first
returns-then-not-is_unset_first c =
    let a = c.self.inside in
    never_unset a.has_ended (first_in a.types) a.log.items (reverse a.marks.items) c.args.local c.args.self.now.sets (ap (λ (n : LocalState). n.sets) c.self.view_is)
    (sym c.is_unset_first.ensures ∙ c.if-not-is_unset_first.true)

pub returns : goal.returns
returns c =
    let a = c.self.inside in
    ap not (c.is_logged.ensures ∙ ap (λ (l : List ℕ). is_logged l c.args.local) c.as_slice.ensures.value)
    ∙ unset_by_log a.has_ended (first_in a.types) a.log.items (reverse a.marks.items) c.args.local c.args.self.now.sets (ap (λ (n : LocalState). n.sets) c.self.view_is)
    c.if-self.false (sym c.is_unset_first.ensures ∙ c.if-not-is_unset_first.false)
