use Rattle.std.proofs.Common.{◌≡◌, ◌∙◌, Err, refl, sym, subst}
use Rattle.w_inst.specs.declared.instantiation.InstFault.{InstFault}
use Rattle.w_inst.specs.Instances.{BeginsAs}
use Rattle.w_reduce.specs.Program.{Program}
use Rattle.w_reduce.specs.Start.{Started, NoEntry, Exceeds, StartTraps, Start}
use Rattle.replies.specs.Answer.{Reply, StartGives}
use Rattle.replies.specs.Origin.{trap_reply_of}
use Rattle.replies.specs.declared.origin.Origin.{Origin}
use Rattle.replies.proofs.Refusals.{refuses_as, same_refusal}
use Rattle.runs.specs.Running.{HasNoStart}
use Rattle.runs.proofs.running.no_run.Goals as goal

-- it begins so, and gives what is given there
told : (origin : Origin) (p : Program) (o : Started) → Start p ≡ o → (r : Reply) → StartGives (trap_reply_of origin) (λ s t x. ⊥) o r → HasNoStart (trap_reply_of origin) p r
told origin p o e r h = subst (λ (z : Started). StartGives (trap_reply_of origin) (λ s t x. ⊥) z r) (sym e) h

pub returns-in-NoEntry : goal.returns-in-NoEntry
returns-in-NoEntry c = λ p begins.
    let b = subst (λ (f : InstFault). BeginsAs p (Err f)) c.in-NoEntry.is begins in
    refuses_as (told c.args.origin p NoEntry b) c.refuse.result c.refuse.ensures

pub returns-in-Limit : goal.returns-in-Limit
returns-in-Limit c = λ p begins.
    let b = subst (λ (f : InstFault). BeginsAs p (Err f)) c.in-Limit.is begins in
    refuses_as (λ r k. told c.args.origin p (Exceeds c.in-Limit.name) b r (k ∙ same_refusal _ _ 9 9 c.start_limit_line.ensures refl)) c.refuse-in-Limit.result c.refuse-in-Limit.ensures

pub returns-in-Trap : goal.returns-in-Trap
returns-in-Trap c = λ p begins.
    let b = subst (λ (f : InstFault). BeginsAs p (Err f)) c.in-Trap.is begins in
    refuses_as (told c.args.origin p (StartTraps c.in-Trap.trap) b) c.trap_refusal.result c.trap_refusal.ensures
