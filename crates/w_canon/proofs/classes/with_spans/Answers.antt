use Rattle.std.proofs.Common.{◌≡◌, ◌++◌, ◌∷◌, [], ℕ, List, map, take, get_or, refl, sym, ap, ◌∙◌}
use Rattle.std.specs.Option.{option_map}
use Rattle.std.proofs.lemmas.List.{map_more}
use Rattle.std.proofs.lemmas.Option.{slice_get-get_or}
use Rattle.w_canon.specs.declared.entry.Entry.{Entry}
use Rattle.w_canon.specs.declared.entry.Kind.TheVariants.{Func}
use Rattle.w_canon.specs.IsClassesOf.{first_of}
use Rattle.w_canon.specs.Shares.{none}
use Rattle.w_canon.specs.Spanned.{spanned}
use Rattle.w_canon.proofs.SpansOfTypes.{same_some}
use Rattle.w_canon.proofs.classes.with_spans.Goals as goal

abbrev nothing : Entry
nothing = record { class = record { group = 0; position = 0 }; kind = Func; span = none }

pub loop-index-preserved : goal.loop-index-preserved
loop-index-preserved c =
    let es = c.args.entries.now in
    let ss = c.args.spans.now in
    let i = c.loop-index.index in
    let lt = c.loop-index-test.true in
    let e = get_or es i nothing in
    let first : c.first_of.result ≡ first_of e.class = same_some (c.first_of.ensures.is ∙ ap (option_map (λ (x : Entry). first_of x.class)) (slice_get-get_or es i nothing lt)) in (
      c.in_ok-push.ensures.items
          ∙ ap (λ (l : List Entry). l ++ record { class = e.class; kind = e.kind; span = get_or ss c.first_of.result none } ∷ []) c.loop-index.invariant.0
          ∙ ap (λ (n : ℕ). map (spanned ss) (take i es) ++ record { class = e.class; kind = e.kind; span = get_or ss n none } ∷ []) first
          ∙ sym (map_more (spanned ss) es i nothing lt),
      refl,
    )
