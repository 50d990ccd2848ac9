use Rattle.std.proofs.Common.{Some, sym, ap, ◌∙◌, ℕ}
use Rattle.w_conts.proofs.SerialsAmongSlots.{serial_is}
use Rattle.w_conts.proofs.OpenedStores.{opened, kept_some, kept_none}
use Rattle.w_conts.proofs.store.ContStore.look.Goals as goal

pub returns-in-None : goal.returns-in-None
returns-in-None g c =
    let o = opened c.self.invariant c.self.view_is in
    record { kept = sym (kept_none o c.requires.of (λ x w. let e = c.in-None.ensures ∙ w in cc)) }

pub returns-then-entry-r : goal.returns-then-entry-r
returns-then-entry-r g c =
    let o = opened c.self.invariant c.self.view_is in
    let stands = sym c.in-Some.ensures ∙ ap (λ (k : ℕ). Some (k, c.in-Some.entry.now.1)) c.if-entry-r.true in
    record { kept = sym (kept_some o c.args.r.serial c.args.r.place c.in-Some.entry.now.1 stands) }

pub returns-else-entry-r : goal.returns-else-entry-r
returns-else-entry-r g c =
    let o = opened c.self.invariant c.self.view_is in
    record { kept = sym (kept_none o c.requires.of (λ x w. let e = c.in-Some.ensures ∙ w in c.if-entry-r.false (serial_is e))) }
