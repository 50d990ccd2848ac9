use Rattle.std.proofs.Common.{◌∙◌, ◌∷◌, [], ℕ, List, ap, sym, arith, length, length-append, reverse, subst}
use Rattle.w_locals.specs.Locals.{Descends, LocalState, Places, first_in}
use Rattle.w_locals.proofs.InitLog.{descends_more, placed, placed_last, set_now}
use Rattle.w_locals.proofs.FlagsOff.{off_unlogged, set_not_off}
use Rattle.w_locals.proofs.locals.Locals.set.Goals as goal

pub invariant_of-self-in_err-push : goal.invariant_of-self-in_err-push
invariant_of-self-in_err-push c =
    let a = c.self.inside in
    let off = off_unlogged a.has_ended (first_in a.types) a.log.items (reverse a.marks.items) c.args.local c.args.self.now.sets (ap (λ (n : LocalState). n.sets) c.self.view_is)
    (sym c.is_unset.ensures ∙ c.if-not-is_unset.false) in
    let there = placed a.places c.insert.new.self a.log.items c.len.result c.args.local c.self.invariant.1 off (c.len.ensures ∙ a.log.ok.0) c.in_ok-insert.ensures.updates in (
      subst (λ (l : List ℕ). Descends (length l) (reverse a.marks.items)) (sym c.in_err-push.ensures.items) c.self.invariant.0,
      subst (λ (l : List ℕ). Places c.insert.new.self l) (sym c.in_err-push.ensures.items) there,
    )

pub invariant_of-self-2 : goal.invariant_of-self-2
invariant_of-self-2 c =
    let a = c.self.inside in
    let off = off_unlogged a.has_ended (first_in a.types) a.log.items (reverse a.marks.items) c.args.local c.args.self.now.sets (ap (λ (n : LocalState). n.sets) c.self.view_is)
    (sym c.is_unset.ensures ∙ c.if-not-is_unset.false) in
    let there = placed a.places c.insert.new.self a.log.items c.len.result c.args.local c.self.invariant.1 off (c.len.ensures ∙ a.log.ok.0) c.in_ok-insert.ensures.updates in (
      descends_more (length a.log.items) (length c.push.new.self.items) (reverse a.marks.items) c.self.invariant.0
          (omega (arith, ap length c.in_ok-push.ensures.items, length-append a.log.items (c.args.local ∷ []))),
      placed_last a.places c.insert.new.self a.log.items c.push.new.self.items c.len.result c.args.local there (c.len.ensures ∙ a.log.ok.0) c.in_ok-insert.ensures.updates c.in_ok-push.ensures.items,
    )

pub returns-then-not-is_unset-clause-sets : goal.returns-then-not-is_unset-clause-sets
returns-then-not-is_unset-clause-sets c = set_not_off c.args.self.now.sets c.args.local (sym c.is_unset.ensures ∙ c.if-not-is_unset.true)

pub returns-clause-sets : goal.returns-clause-sets
returns-clause-sets c =
    let a = c.self.inside in
    set_now a.has_ended (first_in a.types) a.log.items c.push.new.self.items c.args.local (reverse a.marks.items) c.args.self.now.sets (ap (λ (n : LocalState). n.sets) c.self.view_is)
    c.self.invariant.0 c.in_ok-push.ensures.items
