use Rattle.std.proofs.Common.{◌≡◌, ℕ, None, refl, sym, ap, subst, ◌∙◌}
use Rattle.w_syntax.specs.declared.module.Module.{Module}
use Rattle.w_tables.specs.Store as instances
use Rattle.w_reduce.specs.Program.{Program}
use Rattle.w_reduce.specs.Start.{Start, Ready, start_term}
use Rattle.w_stands.specs.Values.{store_of}
use Rattle.w_machine.specs.Beginning.{Origin, Begins, BeginsWith}
use Rattle.w_machine.specs.Position.{Position}
use Rattle.w_machine.proofs.FirstStores.{ready_begins}
use Rattle.w_machine.proofs.OneMoreReduction.{program_by, is_program}
use Rattle.replies.specs.Origin.{trap_reply_of}
use Rattle.replies.proofs.Refusals.{refuses_as}
use Rattle.runs.specs.Running.{HasNoRun}
use Rattle.runs.proofs.running.begin_run.Goals as goal

-- an instance is what the machine asks for
begins_with : (m : Module) (u : instances.Store) (main : ℕ) → ((p : Program) → p.source ≡ m → Start p ≡ Ready (store_of u) (start_term p.source main)) → BeginsWith m u main
begins_with m u main h p source = h p source ∙ ap (λ (n : Module). Ready (store_of u) (start_term n main)) source

-- a machine that has taken no reduction
abbrev first_at : Origin → Position
first_at o = record { origin = o; taken = 0; stop = None }

pub new-requires : goal.new-requires
new-requires c = begins_with c.args.checked c.in-Ok.instance.store c.in-Ok.instance.main c.in-Ok.ensures.begins

pub returns-in_ok-new-in-Ok-clause-ready : goal.returns-in_ok-new-in-Ok-clause-ready
returns-in_ok-new-in-Ok-clause-ready c =
    let m = c.args.checked in
    let p = program_by m c.classes-classes.result.now in
    let known = is_program m c.classes-classes.result.now c.classes-classes.ensures in
    let start = c.in-Ok.ensures.begins p refl in
    let with_this = begins_with m c.in-Ok.instance.store c.in-Ok.instance.main c.in-Ok.ensures.begins in
    let is = c.in_ok-new-in-Ok.ensures in
    let begins = ready_begins m c.in-Ok.instance.store c.in-Ok.instance.main with_this p _ _ refl known start in
    let same = ap (λ (q : Position). q.origin) is in
    record {
      first = is ∙ ap first_at (sym same);
      program = p;
      source = refl;
      known = known;
      store = store_of c.in-Ok.instance.store;
      term = start_term m c.in-Ok.instance.main;
      start = start;
      begins = subst (λ (o : Origin). Begins o p (store_of c.in-Ok.instance.store) (start_term m c.in-Ok.instance.main)) (sym same) begins;
    }

pub returns-in-Err-clause-none : goal.returns-in-Err-clause-none
returns-in-Err-clause-none c =
    let m = c.args.checked in
    let p = program_by m c.classes-classes.result.now in
    let known = is_program m c.classes-classes.result.now c.classes-classes.ensures in
    refuses_as {Due' = HasNoRun (trap_reply_of c.args.origin) m} (λ r h. (p, refl, known, h)) c.no_run.result (c.no_run.ensures p (c.in-Err.ensures.begins p refl))
