use Rattle.std.proofs.Common.{◌≡◌, ◌+◌, ◌-◌, ◌++◌, ℕ, arith, take, drop, length, get_or, vec_len, sym, ap, ◌∙◌}
use Rattle.w_segment.proofs.PartsOfLists.{kept_list}
use Rattle.w_segment.proofs.values.keep_top.Goals as goal

pub returns-clause-items : goal.returns-clause-items
returns-clause-items c =
    let v = c.loop-i.invariant in
    let xs = c.args.items.now.items in
    let n : length xs - c.args.n ≡ c.len.result - c.args.n = (let l = c.len.ensures in omega (arith, l)) in
    let n' : length xs - c.args.n ≡ vec_len c.args.items.now - c.args.n = omega arith in
    c.truncate.ensures.items ∙ kept_list xs c.loop-i.items.items c.args.base c.args.n (let r = c.requires.fits in omega (arith, r)) (let l = v.long in omega (arith, l))
    v.low (λ k d h. v.moved k d (let t = c.loop-i-test.false in omega (arith, t)) ∙ ap (λ (j : ℕ). get_or xs (j + k) d) (sym n))
    ∙ ap (λ (j : ℕ). take c.args.base xs ++ drop j xs) n'
