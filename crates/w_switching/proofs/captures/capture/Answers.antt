use Rattle.std.proofs.Common.{List, length, ap, ◌∙◌, arith}
use Rattle.w_types.specs.declared.value.Value.{Value}
use Rattle.w_segment.specs.Shape.{Shape, height}
use Rattle.w_segment.specs.Link.{Link, top}
use Rattle.w_switching.proofs.References.{high_more, tops_few}
use Rattle.w_switching.proofs.captures.capture.Goals as goal

pub push_all-requires : goal.push_all-requires
push_all-requires c =
    let is = c.stack_mut-waiting.ensures.value ∙ ap (λ (l : List Link). (top l).shape) c.cut-inside.ensures.after in
    let h = ap height is in
    let k = ap (λ (s : Shape). s.capacity.operands) is in
    let l = ap (λ (vs : List Value). length vs) c.tops.ensures.value in
    let f = tops_few c.args.args c.stack_mut-inner.result.now.operands in
    let r = c.requires.outside in
    record { room = omega (arith, h, k, l, f, r) }

pub push-requires : goal.push-requires
push-requires c =
    let is = c.stack_mut-waiting.ensures.value ∙ ap (λ (l : List Link). (top l).shape) c.cut-inside.ensures.after in
    let h = ap height is in
    let k = ap (λ (s : Shape). s.capacity.operands) is in
    let l = ap (λ (vs : List Value). length vs) c.tops.ensures.value in
    let f = tops_few c.args.args c.stack_mut-inner.result.now.operands in
    let r = c.requires.outside in
    let a = ap height c.push_all.ensures.after in
    let b = ap (λ (s : Shape). s.capacity.operands) c.push_all.ensures.after in
    let m = high_more c.tops.result.now c.stack_mut-waiting.result.now in
    record { room = omega (arith, h, k, l, f, r, a, b, m) }
