use Rattle.std.proofs.Common.{ap, arith}
use Rattle.w_conts.specs.Conts.{live_of}
use Rattle.w_conts.proofs.EntryCounts.{count_all}
use Rattle.w_conts.proofs.OpenedStores.{opened, made_long}
use Rattle.w_conts.proofs.store.ContStore.consumed.Goals as goal

pub overflow_sub-result : goal.overflow_sub-result
overflow_sub-result g c =
    let o = opened c.self.invariant c.self.view_is in
    omega (arith, c.len.ensures, c.self.invariant.count, made_long o, count_all c.args.self.now.entries, ap live_of c.self.view_is)

pub returns-clause-count : goal.returns-clause-count
returns-clause-count g c =
    let o = opened c.self.invariant c.self.view_is in
    omega (arith, c.len.ensures, c.self.invariant.count, made_long o, count_all c.args.self.now.entries, ap live_of c.self.view_is)

pub returns-clause-all : goal.returns-clause-all
returns-clause-all g c =
    let o = opened c.self.invariant c.self.view_is in
    omega (arith, c.len.ensures, c.self.invariant.count, made_long o, count_all c.args.self.now.entries, ap live_of c.self.view_is)
