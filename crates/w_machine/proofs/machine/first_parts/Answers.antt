use Rattle.std.proofs.Common.{◌∷◌, ◌∙◌, List, ap}
use Rattle.w_segment.specs.Link.{Link, top}
use Rattle.w_machine.proofs.machine.first_parts.Goals as goal

pub returns-clause-first : goal.returns-clause-first
returns-clause-first c = record {
  segment = c.in_ok-segment.segment;
  first = c.in_ok-segment.ensures;
  alone = c.push.ensures.after ∙ ap (λ (l : List Link). top c.in_ok-segment.segment.value ∷ l) c.new-chain.ensures.empty;
}
