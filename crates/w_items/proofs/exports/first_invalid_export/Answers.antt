use Rattle.std.proofs.Common.{◌≡◌, length, below_more, sym, ap, subst, ◌∙◌, arith, List, ℕ, true, false, refl, Some}
use Rattle.std.proofs.lemmas.Bool.{not-true, not-false}
use Rattle.std.proofs.lemmas.Option.{slice_get_read}
use Rattle.std.specs.Prelude.{slice_get}
use Rattle.w_syntax.specs.declared.module.Export.{Export}
use Rattle.w_items.proofs.Names.{has, inserted, name_at, typed, not_there, not_alone}
use Rattle.w_items.proofs.exports.first_invalid_export.Goals as goal

pub returns-then-not-branch : goal.returns-then-not-branch
returns-then-not-branch c =
    let m = c.args.cx.now.candidate.now in
    let i = c.loop-index.index in
    let export = c.export-item.result in
    let items = c.as_slice-export-items.result.now in
    let is = subst (λ (es : List Export). slice_get es i ≡ Some export) c.as_slice-export-items.ensures (slice_get_read items (length items) i export refl c.loop-index-test.true c.export-item.is) in
    let key = c.as_str.result in
    let taken = not-false _ (sym c.in_ok-insert.ensures.added ∙ c.if-not-branch.true) in
    let taken_name = subst (λ (q : List ℕ). has c.loop-index.names q ≡ true) c.as_str.ensures taken in
    (omega (arith, ap length c.as_slice-export-items.ensures), not_alone m i export (has c.loop-index.names) is c.loop-index.invariant.names taken_name, λ j lt item. c.loop-index.invariant.typed j lt)

pub loop-index-preserved : goal.loop-index-preserved
loop-index-preserved c =
    let m = c.args.cx.now.candidate.now in
    let i = c.loop-index.index in
    let export = c.export-item.result in
    let items = c.as_slice-export-items.result.now in
    let is = subst (λ (es : List Export). slice_get es i ≡ Some export) c.as_slice-export-items.ensures (slice_get_read items (length items) i export refl c.loop-index-test.true c.export-item.is) in
    let key = c.as_str.result in
    let free = not-true _ (sym c.in_ok-insert.ensures.added ∙ c.if-not-branch.false) in
    let free_name = subst (λ (q : List ℕ). has c.loop-index.names q ≡ false) c.as_str.ensures free in
    record {
      typed = below_more _ _ c.loop-index.invariant.typed (typed m i export (has c.loop-index.names) is (c.if-not-is_there.ensures.0 refl) c.loop-index.invariant.names free_name);
      names = inserted m i key c.loop-index.names c.insert.new.self (name_at m i export is ∙ ap (λ (l : List ℕ). Some l) (sym c.as_str.ensures)) c.in_ok-insert.ensures.updates.0 c.loop-index.invariant.names;
    }

pub returns-then-not-is_there : goal.returns-then-not-is_there
returns-then-not-is_there c =
    let m = c.args.cx.now.candidate.now in
    let i = c.loop-index.index in
    let export = c.export-item.result in
    let items = c.as_slice-export-items.result.now in
    let is = subst (λ (es : List Export). slice_get es i ≡ Some export) c.as_slice-export-items.ensures (slice_get_read items (length items) i export refl c.loop-index-test.true c.export-item.is) in
    (omega (arith, ap length c.as_slice-export-items.ensures), not_there m i export is (λ there. let e = c.if-not-is_there.ensures.1 there in absurd (cc)), λ j lt item. c.loop-index.invariant.typed j lt)

pub returns : goal.returns
returns c = λ j lt. c.loop-index.invariant.typed j (omega (arith, lt, ap length c.as_slice-export-items.ensures, c.loop-index-test.false))
