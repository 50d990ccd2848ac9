use Rattle.w_placing.specs.Counting.{counts}
use Rattle.w_placing.proofs.InstancesMade.{instance_made}
use Rattle.w_placing.proofs.instances.instance_of.Goals as goal

pub returns : goal.returns
returns c =
    instance_made (counts c.args.before.now) c.args.found.now c.args.module.now _ _ _ _ _ c.len-functions.result c.len-tables.result c.len-memories.result c.len-globals.result c.len-tags.result
    c.len-functions.ensures c.len-tables.ensures c.len-memories.ensures c.len-globals.ensures c.len-tags.ensures
    c.in_ok-addresses.ensures c.in_ok-addresses-2.ensures c.in_ok-addresses-3.ensures c.in_ok-addresses-4.ensures c.in_ok-addresses-5.ensures
