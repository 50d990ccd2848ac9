use Rattle.std.proofs.Common.{ap, ◌∙◌}
use Rattle.w_conts.specs.Conts.{live_of}
use Rattle.w_conts.proofs.store.ContStore.live.Goals as goal

pub returns : goal.returns
returns g c = record { count = c.len.ensures ∙ c.self.invariant.count ∙ ap live_of c.self.view_is }
