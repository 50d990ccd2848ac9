use Rattle.std.proofs.Common.{◌≡◌, ◌+◌, length}
use Rattle.std.specs.Prelude.{option_map}
use Rattle.w_segment.specs.Link.{rest}
use Rattle.w_chain.specs.Layers.{first_passing, first_switch, switches_for}
use Rattle.w_chain.proofs.chain.Chain.find_switch.Given as goal

abbrev pub invariant-loop-waiting : goal.invariant-loop-waiting
invariant-loop-waiting l = record {
  found : first_switch l.program l.tag l.fn.self ≡ option_map (λ n. l.layer + n) (first_passing (switches_for l.program l.tag) (rest l.inside));
  long : l.layer + length l.inside ≡ length l.fn.self;
}

abbrev pub decreases-loop-waiting : goal.decreases-loop-waiting
decreases-loop-waiting l = length l.inside
