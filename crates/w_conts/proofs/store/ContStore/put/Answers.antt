use Rattle.std.proofs.Common.{arith}
use Rattle.w_conts.proofs.OpenedStores.{opened, made_long}
use Rattle.w_conts.proofs.PutContinuations.{put_sound, put_after, put_of, put_references}
use Rattle.w_conts.proofs.store.ContStore.put.Goals as goal

pub overflow_add-self : goal.overflow_add-self
overflow_add-self g c = let f = c.requires.few in omega (arith, made_long (opened c.self.invariant c.self.view_is), f)

pub invariant_of-self : goal.invariant_of-self
invariant_of-self g c =
    let i = c.insert_reserved-place.ensures in
    put_sound (record { opened = opened c.self.invariant c.self.view_is; room = c.requires.room; vacant = i.was_vacant; updates = i.updates; len = i.len; capacity = i.capacity })

pub returns-clause-serial : goal.returns-clause-serial
returns-clause-serial g c = made_long (opened c.self.invariant c.self.view_is)

pub returns-clause-after : goal.returns-clause-after
returns-clause-after g c =
    let i = c.insert_reserved-place.ensures in
    put_after (record { opened = opened c.self.invariant c.self.view_is; room = c.requires.room; vacant = i.was_vacant; updates = i.updates; len = i.len; capacity = i.capacity })

pub returns-clause-of : goal.returns-clause-of
returns-clause-of g c =
    let i = c.insert_reserved-place.ensures in
    put_of (record { opened = opened c.self.invariant c.self.view_is; room = c.requires.room; vacant = i.was_vacant; updates = i.updates; len = i.len; capacity = i.capacity })

pub returns-clause-references : goal.returns-clause-references
returns-clause-references g c =
    let i = c.insert_reserved-place.ensures in
    put_references (record { opened = opened c.self.invariant c.self.view_is; room = c.requires.room; vacant = i.was_vacant; updates = i.updates; len = i.len; capacity = i.capacity })
