use Rattle.std.proofs.Common.{◌≡◌, ℕ, List, Option, length, map, sym, ap, subst, ◌∙◌}
use Rattle.w_types.specs.Groups.{subtypes_of}
use Rattle.w_canon.specs.declared.entry.Entry.{Entry}
use Rattle.w_canon.specs.declared.forest.Span.{Span}
use Rattle.w_canon.specs.Forest.{IsForest, AreSpans}
use Rattle.w_canon.specs.IsClassesOf.{HaveFirsts, HaveSpans, IsClassesOf}
use Rattle.w_canon.specs.Parents.{parents_from}
use Rattle.w_canon.specs.Spanned.{spanned}
use Rattle.w_canon.proofs.ClassesOfTypes.{first_alike}
use Rattle.w_canon.proofs.SpansOfTypes.{is_forest, as_many_spans, all_classes, all_firsts, all_spans}
use Rattle.w_canon.proofs.classes.Classes.of_groups.Goals as goal

pub parents_of-requires-clause-firsts : goal.parents_of-requires-clause-firsts
parents_of-requires-clause-firsts c =
    let gs = c.args.groups.now in
    let m = c.in_ok-entries.ensures.0 in
    let es = c.in_ok-entries.entries.items in
    let classed = c.in_ok-entries.ensures.1 in
    subst HaveFirsts (sym c.as_slice.ensures.value) (first_alike m gs es classed)

pub spans_of-requires : goal.spans_of-requires
spans_of-requires c =
    let gs = c.args.groups.now in
    let m = c.in_ok-entries.ensures.0 in
    let es = c.in_ok-entries.entries.items in
    let classed = c.in_ok-entries.ensures.1 in
    let parents = c.as_slice-2.ensures.value ∙ c.in_ok-parents.ensures ∙ ap (λ (l : List Entry). parents_from l 0 (subtypes_of gs)) c.as_slice.ensures.value in
    subst IsForest (sym parents) (is_forest m gs es classed)

pub with_spans-requires-clause-firsts : goal.with_spans-requires-clause-firsts
with_spans-requires-clause-firsts c =
    let gs = c.args.groups.now in
    let m = c.in_ok-entries.ensures.0 in
    let es = c.in_ok-entries.entries.items in
    let classed = c.in_ok-entries.ensures.1 in
    subst HaveFirsts (sym c.as_slice-3.ensures.value) (first_alike m gs es classed)

pub with_spans-requires-clause-as_many : goal.with_spans-requires-clause-as_many
with_spans-requires-clause-as_many c =
    let gs = c.args.groups.now in
    let m = c.in_ok-entries.ensures.0 in
    let es = c.in_ok-entries.entries.items in
    let classed = c.in_ok-entries.ensures.1 in
    let ss = c.in_ok-spans.spans.items in
    let parents = c.as_slice-2.ensures.value ∙ c.in_ok-parents.ensures ∙ ap (λ (l : List Entry). parents_from l 0 (subtypes_of gs)) c.as_slice.ensures.value in
    let are : AreSpans (parents_from es 0 (subtypes_of gs)) ss = subst (λ (ps : List (Option ℕ)). AreSpans ps ss) parents c.in_ok-spans.ensures in
    ap length c.as_slice-4.ensures.value ∙ as_many_spans m gs es classed ss are ∙ sym (ap length c.as_slice-3.ensures.value)

pub invariant_of-result : goal.invariant_of-result
invariant_of-result c =
    let gs = c.args.groups.now in
    let m = c.in_ok-entries.ensures.0 in
    let es = c.in_ok-entries.entries.items in
    let classed = c.in_ok-entries.ensures.1 in
    let ss = c.in_ok-spans.spans.items in
    let parents = c.as_slice-2.ensures.value ∙ c.in_ok-parents.ensures ∙ ap (λ (l : List Entry). parents_from l 0 (subtypes_of gs)) c.as_slice.ensures.value in
    let are : AreSpans (parents_from es 0 (subtypes_of gs)) ss = subst (λ (ps : List (Option ℕ)). AreSpans ps ss) parents c.in_ok-spans.ensures in
    let made : c.in_ok-entries-2.entries.items ≡ map (spanned ss) es =
    c.in_ok-entries-2.ensures ∙ ap (λ (l : List Span). map (spanned l) c.as_slice-3.result.now) c.as_slice-4.ensures.value ∙ ap (map (spanned ss)) c.as_slice-3.ensures.value in
    (subst HaveFirsts (sym made) (all_firsts m gs es classed ss are), subst HaveSpans (sym made) (all_spans m gs es classed ss are))

pub returns : goal.returns
returns c =
    let gs = c.args.groups.now in
    let m = c.in_ok-entries.ensures.0 in
    let es = c.in_ok-entries.entries.items in
    let classed = c.in_ok-entries.ensures.1 in
    let ss = c.in_ok-spans.spans.items in
    let parents = c.as_slice-2.ensures.value ∙ c.in_ok-parents.ensures ∙ ap (λ (l : List Entry). parents_from l 0 (subtypes_of gs)) c.as_slice.ensures.value in
    let are : AreSpans (parents_from es 0 (subtypes_of gs)) ss = subst (λ (ps : List (Option ℕ)). AreSpans ps ss) parents c.in_ok-spans.ensures in
    let made : c.in_ok-entries-2.entries.items ≡ map (spanned ss) es =
    c.in_ok-entries-2.ensures ∙ ap (λ (l : List Span). map (spanned l) c.as_slice-3.result.now) c.as_slice-4.ensures.value ∙ ap (map (spanned ss)) c.as_slice-3.ensures.value in
    subst (IsClassesOf gs) (sym made) (all_classes m gs es classed ss are)
