use Rattle.std.proofs.Common.{◌≡◌, ℕ, List, max, ap, sym, ◌∙◌, rules}
use Rattle.std.specs.Ordering.{ord_max, nat_cmp}
use Rattle.std.proofs.lemmas.List.{take_all}
use Rattle.w_syntax.specs.declared.packed.PackedInstr.{PackedInstr}
use Rattle.w_rules.proofs.NeedsOfBodies.{most_of, packed_needs, most_more, most_packed, none_needed}
use Rattle.w_rules.proofs.named_datas.data_needs.Goals as goal

greater : (a b : ℕ) → ord_max nat_cmp a b ≡ max a b
greater a b = search rules

pub returns-then-not-uses_data : goal.returns-then-not-uses_data
returns-then-not-uses_data c = sym (none_needed c.args.body.now (sym c.if-not-uses_data.ensures))

pub loop-packed-preserved : goal.loop-packed-preserved
loop-packed-preserved c =
    c.max-most.ensures ∙ greater c.loop-packed.most c.of_packed.result ∙ ap (max c.loop-packed.most) c.of_packed.ensures
    ∙ most_more packed_needs c.instrs-packed-items.result.now c.loop-packed.packed-index c.loop-packed.most c.packed-item.result c.loop-packed-test.true c.packed-item.is c.loop-packed.invariant

pub returns : goal.returns
returns c =
    c.loop-packed.invariant
    ∙ ap (λ (ps : List PackedInstr). most_of packed_needs ps) (take_all c.loop-packed.packed-index c.instrs-packed-items.result.now c.loop-packed-test.false)
    ∙ most_packed c.instrs-packed-items.result.now c.args.body.now c.instrs-packed-items.ensures
