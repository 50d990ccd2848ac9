use Rattle.std.proofs.Common.{sym, ◌∙◌, arith}
use Rattle.w_conts.proofs.OpenedStores.{opened}
use Rattle.w_conts.proofs.TakenContinuations.{takes_of, not_vacant, take_sound, take_value, take_after, take_references}
use Rattle.w_conts.proofs.store.ContStore.take.Goals as goal

pub overflow_add-self : goal.overflow_add-self
overflow_add-self g c =
    let r = c.self.invariant.room in
    let l = c.capacity.type_inv in
    omega (arith, r, c.in-Some.ensures.len, l, c.capacity.ensures.value)

pub invariant_of-self : goal.invariant_of-self
invariant_of-self g c =
    let i = c.in-Some.ensures in
    take_sound (takes_of (record { opened = opened c.self.invariant c.self.view_is; of = c.requires.of; looked = c.look.result; kept = c.look.ensures.kept; some = c.if-is_none.ensures })
    c.try_remove.new.self c.in-Some.field-0-0 c.in-Some.what (sym i.value) i.updates i.len i.capacity)

pub unreachable-requires : goal.unreachable-requires
unreachable-requires g c =
    not_vacant (record { opened = opened c.self.invariant c.self.view_is; of = c.requires.of; looked = c.look.result; kept = c.look.ensures.kept; some = c.if-is_none.ensures })
    (sym c.try_remove.ensures.value ∙ c.in-None.is)

pub returns-clause-value : goal.returns-clause-value
returns-clause-value g c =
    let i = c.in-Some.ensures in
    take_value (takes_of (record { opened = opened c.self.invariant c.self.view_is; of = c.requires.of; looked = c.look.result; kept = c.look.ensures.kept; some = c.if-is_none.ensures })
    c.try_remove.new.self c.in-Some.field-0-0 c.in-Some.what (sym i.value) i.updates i.len i.capacity)

pub returns-clause-some : goal.returns-clause-some
returns-clause-some g c =
    let i = c.in-Some.ensures in
    take_after (takes_of (record { opened = opened c.self.invariant c.self.view_is; of = c.requires.of; looked = c.look.result; kept = c.look.ensures.kept; some = c.if-is_none.ensures })
    c.try_remove.new.self c.in-Some.field-0-0 c.in-Some.what (sym i.value) i.updates i.len i.capacity)

pub returns-clause-references : goal.returns-clause-references
returns-clause-references g c =
    let i = c.in-Some.ensures in
    take_references (takes_of (record { opened = opened c.self.invariant c.self.view_is; of = c.requires.of; looked = c.look.result; kept = c.look.ensures.kept; some = c.if-is_none.ensures })
    c.try_remove.new.self c.in-Some.field-0-0 c.in-Some.what (sym i.value) i.updates i.len i.capacity)
