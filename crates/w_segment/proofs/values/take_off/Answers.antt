use Rattle.std.proofs.Common.{◌≡◌, ◌+◌, ◌-◌, ℕ, length, take, vec_len, sym, ap, ◌∙◌, arith}
use Rattle.w_segment.proofs.PartsOfLists.{one_less}
use Rattle.w_segment.proofs.values.take_off.Goals as goal

pub loop-preserved : goal.loop-preserved
loop-preserved c =
    let xs = c.args.items.now.items in
    let n : vec_len c.args.items.now ≡ length xs = omega arith in
    record {
      items = one_less xs c.loop.items.items c.take_last-taken.new.self.items c.take_last-taken.result c.loop.counter (let t = c.loop-test.true in let r = c.requires.some in omega (arith, t, r, n))
          (c.loop.invariant.items ∙ ap (λ (k : ℕ). take (k - c.loop.counter) xs) n) c.take_last-taken.ensures.items ∙ ap (λ (k : ℕ). take (k - (c.loop.counter + 1)) xs) (sym n);
      capacity = c.take_last-taken.ensures.capacity ∙ c.loop.invariant.capacity;
    }
