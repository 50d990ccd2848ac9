use Rattle.std.proofs.Common.{◌∙◌, arith, refl, ap, ◌++◌, ◌∷◌, [], ℕ}
use Rattle.w_leb.proofs.ShortestSpelling.{one_more_signed, the_last_signed}
use Rattle.w_leb.proofs.writing.put_of_size.Goals as goal

pub loop-left-init : goal.loop-left-init
loop-left-init c = rw c.new-out.ensures (record { so_far = refl; few = omega arith; fits = c.requires })

pub loop-left-preserved : goal.loop-left-preserved
loop-left-preserved c = one_more_signed c.args.negative c.loop-left.out.items _ c.loop-left.left c.args.size c.loop-left.invariant c.loop-left-test.true (c.push.ensures.items ∙ ap (λ (b : ℕ). c.loop-left.out.items ++ b ∷ []) c.low_bits.ensures)

pub returns : goal.returns
returns c = c.push-2.ensures.items ∙ ap (λ (b : ℕ). c.loop-left.out.items ++ b ∷ []) c.low_bits-2.ensures ∙ the_last_signed c.args.negative c.loop-left.out.items c.loop-left.left c.args.size c.loop-left.invariant c.loop-left-test.false
