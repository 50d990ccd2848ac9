use Rattle.std.proofs.Common.{Err, refl, ap, subst}
use Rattle.w_linker.specs.declared.linking.LinkFault.{LinkFault}
use Rattle.w_linker.specs.declared.linking.LinkFault.TheVariants as fault
use Rattle.w_linker.specs.Links.{Links}
use Rattle.replies.specs.Answer.{linked_reply, in_file, limit, no_entry, no_import, start_limit_text, trapped}
use Rattle.replies.proofs.Refusals.{refuses_one_in, refuses_same, same_refusal}
use Rattle.drive.proofs.LinkedRuns.{refused_linked}
use Rattle.drive.proofs.linking.no_linked_run.Goals as goal

pub returns-in-NoEntry : goal.returns-in-NoEntry
returns-in-NoEntry c = λ ms steps stats h.
    refused_linked ms steps stats fault.NoEntry no_entry (λ e. absurd (cc)) (λ tests is. ap (linked_reply steps stats) is)
    (subst (λ (f : LinkFault). Links ms (Err f)) c.in-NoEntry.is h) c.refuse.result c.refuse.ensures

pub returns-in-Import : goal.returns-in-Import
returns-in-Import c = λ ms steps stats h.
    let f = c.in-Import.file in
    let i = c.in-Import.index in
    refused_linked ms steps stats (fault.Import f i) (in_file f (no_import i)) (λ e. absurd (cc)) (λ tests is. ap (linked_reply steps stats) is)
    (subst (λ (f : LinkFault). Links ms (Err f)) c.in-Import.is h) c.in_file.result
    (refuses_one_in f (no_import i) c.import_refusal.result c.in_file.result c.import_refusal.ensures c.in_file.ensures)

pub returns-in-Limit : goal.returns-in-Limit
returns-in-Limit c = λ ms steps stats h.
    let f = c.in-Limit.file in
    let one = limit (start_limit_text c.in-Limit.name) in
    refused_linked ms steps stats (fault.Limit f c.in-Limit.name) (in_file f one) (λ e. absurd (cc)) (λ tests is. ap (linked_reply steps stats) is)
    (subst (λ (f : LinkFault). Links ms (Err f)) c.in-Limit.is h) c.in_file-in-Limit.result
    (refuses_one_in f one c.refuse-stop.result c.in_file-in-Limit.result
    (refuses_same c.refuse-stop.result (same_refusal _ _ 9 9 c.start_limit_line.ensures refl) c.refuse-stop.ensures) c.in_file-in-Limit.ensures)

pub returns-in-Trap : goal.returns-in-Trap
returns-in-Trap c = λ ms steps stats h.
    let f = c.in-Trap.file in
    let one = trapped c.in-Trap.trap in
    refused_linked ms steps stats (fault.Trap f c.in-Trap.trap) (in_file f one) (λ e. absurd (cc)) (λ tests is. ap (linked_reply steps stats) is)
    (subst (λ (f : LinkFault). Links ms (Err f)) c.in-Trap.is h) c.in_file-in-Trap.result
    (refuses_one_in f one c.trap_refusal.result c.in_file-in-Trap.result c.trap_refusal.ensures c.in_file-in-Trap.ensures)
