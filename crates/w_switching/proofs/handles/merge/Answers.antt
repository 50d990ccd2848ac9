use Rattle.std.proofs.Common.{◌≡◌, List, length, reverse, ap, ◌∙◌, arith}
use Rattle.std.proofs.lemmas.List.{length-reverse}
use Rattle.w_types.specs.declared.value.Value.{Value}
use Rattle.w_segment.specs.Changes.{pushed_all}
use Rattle.w_segment.specs.Shape.{Shape, height}
use Rattle.w_segment.specs.Link.{Link, top, rest, with_top}
use Rattle.w_switching.proofs.handles.merge.Goals as goal

pub push_all-requires : goal.push_all-requires
push_all-requires c =
    let C = c.args.chain.now in
    let us = (top C).shape.operands in
    let own : c.operands.result.now ≡ reverse us =
    c.operands.ensures.value ∙ ap (λ (s : Shape). reverse s.operands) (c.stack.ensures.value ∙ ap (λ (l : List Link). (top l).shape) (c.deref.ensures ∙ c.pop-done.ensures.segment)) in
    let is = c.stack_mut.ensures.value ∙ ap (λ (l : List Link). (top l).shape) c.pop-done.ensures.after in
    let h = ap height is in
    let k = ap (λ (s : Shape). s.capacity.operands) is in
    let l = ap (λ (vs : List Value). length vs) own in
    let n = length-reverse us in
    let r = c.requires.room in
    record { room = omega (arith, h, k, l, n, r) }

pub returns : goal.returns
returns c =
    let C = c.args.chain.now in
    let us = (top C).shape.operands in
    let r = c.pop-done.ensures.after in
    let own : c.operands.result.now ≡ reverse us =
    c.operands.ensures.value ∙ ap (λ (s : Shape). reverse s.operands) (c.stack.ensures.value ∙ ap (λ (l : List Link). (top l).shape) (c.deref.ensures ∙ c.pop-done.ensures.segment)) in
    let after : c.push_all.new.self ≡ pushed_all (reverse us) (top (rest C)).shape =
    c.push_all.ensures.after ∙ ap (λ (vs : List Value). pushed_all vs c.stack_mut.result.now) own
    ∙ ap (pushed_all (reverse us)) (c.stack_mut.ensures.value ∙ ap (λ (l : List Link). (top l).shape) r) in
    record { after = ap (λ (s : Shape). with_top s c.pop-done.new.self) after ∙ ap (with_top (pushed_all (reverse us) (top (rest C)).shape)) r }
