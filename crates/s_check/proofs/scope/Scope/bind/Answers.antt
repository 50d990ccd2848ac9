use Rattle.std.proofs.Common.{◌≡◌, ◌∙◌, None, sym, ap, subst}
use Rattle.s_check.specs.Scopes.{Scope, type_in}
use Rattle.s_check.specs.Views.{scope_of, Places}
use Rattle.s_check.proofs.Names.{without_type, places_stay, places_more}
use Rattle.s_check.proofs.scope.Scope.bind.Goals as goal

pub invariant_of-self-in_err-push : goal.invariant_of-self-in_err-push
invariant_of-self-in_err-push c =
    let free : type_in (scope_of c.self.inside.bound.items) c.args.binding.name.now ≡ None =
    ap (λ (s : Scope). type_in s c.args.binding.name.now) c.self.view_is ∙ sym c.find.ensures.value ∙ without_type c.find.result (sym c.is_some.ensures ∙ c.if-is_some.false) in
    subst (Places c.insert.new.self) (sym c.in_err-push.ensures.items)
    (places_stay c.self.inside.places c.insert.new.self c.self.inside.bound.items c.args.binding c.as_bytes.result c.len.result (c.len.ensures ∙ c.self.inside.bound.ok.0) c.as_bytes.ensures.value c.self.invariant free c.in_ok-insert.ensures.updates.0)

pub invariant_of-self-2 : goal.invariant_of-self-2
invariant_of-self-2 c =
    let free : type_in (scope_of c.self.inside.bound.items) c.args.binding.name.now ≡ None =
    ap (λ (s : Scope). type_in s c.args.binding.name.now) c.self.view_is ∙ sym c.find.ensures.value ∙ without_type c.find.result (sym c.is_some.ensures ∙ c.if-is_some.false) in
    subst (Places c.insert.new.self) (sym c.in_ok-push.ensures.items)
    (places_more c.self.inside.places c.insert.new.self c.self.inside.bound.items c.args.binding c.as_bytes.result c.len.result (c.len.ensures ∙ c.self.inside.bound.ok.0) c.as_bytes.ensures.value c.self.invariant free c.in_ok-insert.ensures.updates.0)
