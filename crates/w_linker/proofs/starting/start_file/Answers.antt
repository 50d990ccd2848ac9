use Rattle.std.proofs.Common.{ap, ◌∙◌}
use Rattle.std.specs.Prelude.{Bool, Some, None}
use Rattle.w_stands.specs.Values.{store_of}
use Rattle.w_inst.specs.Segments.{left_by_copy}
use Rattle.w_linker.proofs.FilesCopied.{elements_went, datas_went, range_is_part}
use Rattle.w_linker.proofs.starting.start_file.Goals as goal

pub start_elements-requires-clause-part : goal.start_elements-requires-clause-part
start_elements-requires-clause-part c = range_is_part c.as_slice.result.now c.args.program.now.elements c.args.before.elements c.in_ok-end.end c.as_slice.ensures

pub start_datas-requires-clause-part : goal.start_datas-requires-clause-part
start_datas-requires-clause-part c = range_is_part c.as_slice-2.result.now c.args.program.now.datas c.args.before.datas c.in_ok-end-2.end c.as_slice-2.ensures

pub returns-then-not-branch-clause-started : goal.returns-then-not-branch-clause-started
returns-then-not-branch-clause-started c p source =
    elements_went p c.args.program.now c.args.before.elements c.args.sizes.elements c.in_ok-end.end (store_of c.args.store.now) None c.as_slice.result.now source c.as_slice.ensures c.in_ok-end.ensures
    (c.in_ok-start_elements.ensures.started p ∙ ap (λ (b : Bool). left_by_copy b c.start_elements.new.store) c.if-not-branch.true)

pub returns-then-not-branch-2-clause-started : goal.returns-then-not-branch-2-clause-started
returns-then-not-branch-2-clause-started c p source =
    let t = store_of c.start_elements.new.store in (
      t,
      elements_went p c.args.program.now c.args.before.elements c.args.sizes.elements c.in_ok-end.end (store_of c.args.store.now) (Some t) c.as_slice.result.now source c.as_slice.ensures c.in_ok-end.ensures
          (c.in_ok-start_elements.ensures.started p ∙ ap (λ (b : Bool). left_by_copy b c.start_elements.new.store) c.if-not-branch.false),
      datas_went p c.args.program.now c.args.before.datas c.args.sizes.datas c.in_ok-end-2.end t None c.as_slice-2.result.now source c.as_slice-2.ensures c.in_ok-end-2.ensures
          (c.in_ok-start_datas.ensures.started p ∙ ap (λ (b : Bool). left_by_copy b c.start_datas.new.store) c.if-not-branch-2.true),
    )

pub returns-clause-started : goal.returns-clause-started
returns-clause-started c p source =
    let t = store_of c.start_elements.new.store in
    let u = store_of c.start_datas.new.store in (
      t,
      elements_went p c.args.program.now c.args.before.elements c.args.sizes.elements c.in_ok-end.end (store_of c.args.store.now) (Some t) c.as_slice.result.now source c.as_slice.ensures c.in_ok-end.ensures
          (c.in_ok-start_elements.ensures.started p ∙ ap (λ (b : Bool). left_by_copy b c.start_elements.new.store) c.if-not-branch.false),
      datas_went p c.args.program.now c.args.before.datas c.args.sizes.datas c.in_ok-end-2.end t (Some u) c.as_slice-2.result.now source c.as_slice-2.ensures c.in_ok-end-2.ensures
          (c.in_ok-start_datas.ensures.started p ∙ ap (λ (b : Bool). left_by_copy b c.start_datas.new.store) c.if-not-branch-2.false),
    )
