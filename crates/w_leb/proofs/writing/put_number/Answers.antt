use Rattle.std.proofs.Common.{◌∙◌, arith, rules, refl}
use Rattle.w_leb.proofs.ShortestSpelling.{one_more, the_last}
use Rattle.w_leb.proofs.writing.put_number.Goals as goal

pub loop-left-init : goal.loop-left-init
loop-left-init c = rw c.new-out.ensures (record { so_far = refl; few = omega arith; fits = search rules })

pub loop-left-preserved : goal.loop-left-preserved
loop-left-preserved c = one_more c.loop-left.out.items _ c.loop-left.left c.args.v c.loop-left.invariant c.loop-left-test.true c.push.ensures.items

pub returns : goal.returns
returns c = c.push-2.ensures.items ∙ the_last c.loop-left.out.items c.loop-left.left c.args.v c.loop-left.invariant c.loop-left-test.false
