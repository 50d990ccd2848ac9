use Rattle.std.proofs.Common.{ℕ, sym, ap, ◌∙◌}
use Rattle.w_stands.specs.Code.{instr_of}
use Rattle.w_configuration.proofs.SeenEvents.{tells_instr, tells_nothing, tells_end, tells_exit}
use Rattle.w_configuration.proofs.events.next_event.Goals as goal

pub returns-in-Body : goal.returns-in-Body
returns-in-Body c =
    let m = c.args.program.now in
    let inner = c.stack-inner.result.now in
    let found = c.instr_at-found.ensures.is ∙ ap (λ (f : ℕ). instr_of m f c.place.result) c.func.ensures.value ∙ ap (λ (i : ℕ). instr_of m inner.func i) c.place.ensures.value in
    tells_instr inner c.stack-inner.ensures.value c.event_at.result _ (sym c.stage.ensures.value ∙ c.in-Body.is) found (λ s next. c.event_at.ensures s (next ∙ sym c.made.ensures.count))

pub returns-then-handles-eq0 : goal.returns-then-handles-eq0
returns-then-handles-eq0 c =
    tells_end c.stack-inner.result.now c.stack-inner.ensures.value c.handles.result c.handles.ensures.count c.if-handles-eq0.true (sym c.stage.ensures.value ∙ c.in-Values.is)

pub returns-else-handles-eq0 : goal.returns-else-handles-eq0
returns-else-handles-eq0 c =
    tells_exit c.stack-inner.result.now c.stack-inner.ensures.value c.handles.result c.handles.ensures.count c.if-handles-eq0.false (sym c.stage.ensures.value ∙ c.in-Values.is)

pub returns-in-Fresh : goal.returns-in-Fresh
returns-in-Fresh c = tells_nothing c.stack-inner.result.now c.stack-inner.ensures.value c.stage.result c.stage.ensures.value c.in-Fresh.is
