use Rattle.std.proofs.Common.{sym, ap, ◌∙◌}
use Rattle.std.specs.Option.{option_map, option_copied}
use Rattle.std.proofs.lemmas.Option.{slice_get-map}
use Rattle.w_types.specs.Groups.{subtypes_of, composite_of}
use Rattle.w_types.proofs.groups.RecGroups.get.Goals as goal

pub returns-in-Some : goal.returns-in-Some
returns-in-Some c =
    sym (slice_get-map composite_of (subtypes_of c.args.self.now) c.args.index
    ∙ ap (option_map composite_of) (sym c.subtype.ensures ∙ ap (option_copied) c.in-Some.is))

pub returns-in-None : goal.returns-in-None
returns-in-None c =
    sym (slice_get-map composite_of (subtypes_of c.args.self.now) c.args.index
    ∙ ap (option_map composite_of) (sym c.subtype.ensures ∙ ap (option_copied) c.in-None.is))
