use Rattle.std.proofs.Common.{ℕ, get_or, below_more, sym, refl, subst, arith}
use Rattle.std.proofs.lemmas.List.Elements.{at_read}
use Rattle.std.proofs.lemmas.Option.{slice_get_within, get_or_from_slice_get}
use Rattle.w_types.specs.declared.types.ValType.TheVariants.{Ref}
use Rattle.w_syntax.specs.Code.{Code}
use Rattle.w_syntax.specs.Items.{code_of}
use Rattle.w_rules.specs.Bodies.{ConstTyped}
use Rattle.w_rules.specs.Spaces.{context_of}
use Rattle.w_items.proofs.elements.are_items_typed.Goals as goal

pub loop-place-preserved : goal.loop-place-preserved
loop-place-preserved c =
    let m = c.args.cx.now.candidate.now in
    let items = c.args.items.now in
    let i : ℕ = c.loop-place.place in
    let item : Code = code_of c.at.result in
    let typed = c.in_ok-is_item_typed.ensures.0 c.if-not-branch.false in
    below_more (λ (k : ℕ). (d : Code) → ConstTyped (context_of m) (get_or items k d) (Ref c.args.kind)) i c.loop-place.invariant
    (at_read items (λ (k : Code). ConstTyped (context_of m) k (Ref c.args.kind)) i item (slice_get_within items i item c.at.ensures) (sym (get_or_from_slice_get items i item item c.at.ensures)) typed)

pub returns : goal.returns
returns c = (λ h k d lt. c.loop-place.invariant k (omega arith) d, λ h. refl)

pub returns-then-not-branch : goal.returns-then-not-branch
returns-then-not-branch c =
    let m = c.args.cx.now.candidate.now in
    let items = c.args.items.now in
    let i : ℕ = c.loop-place.place in
    let item : Code = code_of c.at.result in
    let same = get_or_from_slice_get items i item item c.at.ensures in (
      λ h. absurd (cc),
      λ all. let typed = subst (λ (k : Code). ConstTyped (context_of m) k (Ref c.args.kind)) same (all i item (slice_get_within items i item c.at.ensures)) in
          let e = c.in_ok-is_item_typed.ensures.1 typed in let f = c.if-not-branch.true in cc,
    )
