use Rattle.std.proofs.Common.{List, ap, sym, ◌∙◌}
use Rattle.std.specs.Prelude.{slice_get}
use Rattle.std.specs.Option.{option_map, option_copied}
use Rattle.s_check.specs.declared.bound.Binding.{Binding}
use Rattle.s_check.specs.Scopes.{type_in}
use Rattle.s_check.specs.Views.{type_of, type_at, place_of}
use Rattle.s_check.proofs.Names.{not_placed, placed_type}
use Rattle.s_check.proofs.scope.Scope.find.Goals as goal

pub returns-in-Some : goal.returns-in-Some
returns-in-Some c = record {
  value =
      ap (option_map type_of) c.type_at.ensures.value
      ∙ ap (λ (l : List Binding). option_map type_of (type_at (slice_get l c.in-Some.place.now) c.args.name.now)) c.as_slice.ensures.value
      ∙ placed_type c.self.inside.places c.self.inside.bound.items c.self.invariant c.args.name.now c.in-Some.place.now (ap (place_of c.self.inside.places) (sym c.as_bytes.ensures.value) ∙ sym c.get.ensures.value ∙ ap option_copied c.in-Some.is)
      ∙ ap (λ s. type_in s c.args.name.now) c.self.view_is;
}

pub returns-in-None : goal.returns-in-None
returns-in-None c = record {
  value =
      sym (not_placed c.self.inside.places c.self.inside.bound.items c.self.invariant c.args.name.now (ap (place_of c.self.inside.places) (sym c.as_bytes.ensures.value) ∙ sym c.get.ensures.value ∙ ap option_copied c.in-None.is))
      ∙ ap (λ s. type_in s c.args.name.now) c.self.view_is;
}
