use Rattle.w_conts.proofs.OpenedStores.{opened, made_long}
use Rattle.w_conts.proofs.store.ContStore.made.Goals as goal

pub returns : goal.returns
returns g c = record { count = made_long (opened c.self.invariant c.self.view_is) }
