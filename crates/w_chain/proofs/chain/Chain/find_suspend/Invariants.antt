use Rattle.std.proofs.Common.{◌≡◌, ◌+◌, length}
use Rattle.w_segment.specs.Link.{rest}
use Rattle.w_chain.specs.Layers.{first_layer, first_label, farther, label_for}
use Rattle.w_chain.proofs.chain.Chain.find_suspend.Given as goal

abbrev pub invariant-loop-waiting : goal.invariant-loop-waiting
invariant-loop-waiting l = record {
  found : first_label l.program l.tag l.fn.self ≡ farther l.layer (first_layer (label_for l.program l.tag) (rest l.inside));
  long : l.layer + length l.inside ≡ length l.fn.self;
}

abbrev pub decreases-loop-waiting : goal.decreases-loop-waiting
decreases-loop-waiting l = length l.inside
