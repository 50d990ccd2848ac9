use Rattle.std.proofs.Common.{◌∙◌, List, ℕ, inl, inr, subst}
use Rattle.words.specs.Request.{taken_by}
use Rattle.w_outside.specs.Outside.{Grew, Rose}
use Rattle.w_text.specs.Text.{Text}
use Rattle.replies.specs.declared.file_kind.FileKind.TheVariants as file
use Rattle.replies.specs.Answer.{ActionGives, ScriptGives, TextRefusal, script_gives}
use Rattle.intake.specs.Intake.{IsInputOf}
use Rattle.runs.specs.Leaving.{Leaves}
use Rattle.intake.specs.declared.intake.Input.{Input}
use Rattle.drive.proofs.WhatActionsGive.{given_as, takes_it}
use Rattle.replies.proofs.Refusals.{refuses_as}
use Rattle.runs.proofs.Replies.{stop_left, leaves_as}
use Rattle.drive.proofs.program.act.Goals as goal

pub act_on_script-requires : goal.act_on_script-requires
act_on_script-requires g c =
    let b = c.requires.bytes.0 in
    let i = subst (λ (x : Input). IsInputOf (taken_by c.args.action) x b) c.in-Script.is c.requires.bytes.1 in
    record { steps = c.requires.steps; takes = takes_it c.args.action b i.1 }

pub returns-in-Script-clause-leaves : goal.returns-in-Script-clause-leaves
returns-in-Script-clause-leaves g c = λ b h.
    let action = c.args.action in
    let i = subst (λ (x : Input). IsInputOf (taken_by action) x b) c.in-Script.is h in
    let grew = Grew (g.O.Sink.held c.args.out.now) (g.O.Sink.held c.act_on_script.new.out) in
    let rose = Rose (g.O.Sink.faults c.args.out.now) (g.O.Sink.faults c.act_on_script.new.out) in
    leaves_as (given_as action b file.Script i.1) grew rose c.act_on_script.result
    (subst (λ (l : List ℕ). Leaves (ScriptGives (script_gives action) l) c.act_on_script.result grew rose) (c.as_slice.ensures.value ∙ i.0) c.act_on_script.ensures.leaves)

pub returns-in_err-checked-in-Text-clause-leaves : goal.returns-in_err-checked-in-Text-clause-leaves
returns-in_err-checked-in-Text-clause-leaves g c = λ b h.
    let action = c.args.action in
    let i = subst (λ (x : Input). IsInputOf (taken_by action) x b) c.in-Text.is h in
    let judged = c.in_err-checked-in-Text in
    stop_left (ActionGives action b) (g.O.Sink.held c.args.out.now) (Rose (g.O.Sink.faults c.args.out.now) (g.O.Sink.faults c.args.out.now)) c.from_residual.result judged.field-0.0 c.from_residual.ensures.1
    (refuses_as (λ r k. given_as action b file.Text i.1 r (inr (subst (λ (l : List ℕ). TextRefusal l r) (c.as_slice-in-Text.ensures.value ∙ i.0) k))) judged.field-0.0 judged.ensures.refused)

pub returns-in_ok-checked-in-Text-clause-leaves : goal.returns-in_ok-checked-in-Text-clause-leaves
returns-in_ok-checked-in-Text-clause-leaves g c = λ b h.
    let action = c.args.action in
    let i = subst (λ (x : Input). IsInputOf (taken_by action) x b) c.in-Text.is h in
    let judged = c.in_ok-checked-in-Text in
    let read = subst (λ (l : List ℕ). Text l judged.checked) (c.as_slice-in-Text.ensures.value ∙ i.0) judged.ensures.read in
    leaves_as (λ r k. given_as action b file.Text i.1 r (inl (judged.checked, read, judged.ensures.within, judged.ensures.valid, k)))
    (Grew (g.O.Sink.held c.args.out.now) (g.O.Sink.held c.finish.new.out)) (Rose (g.O.Sink.faults c.args.out.now) (g.O.Sink.faults c.finish.new.out)) c.finish.result c.finish.ensures.leaves

pub returns-in_err-checked-in-Module-clause-leaves : goal.returns-in_err-checked-in-Module-clause-leaves
returns-in_err-checked-in-Module-clause-leaves g c = λ b h.
    let action = c.args.action in
    let i = subst (λ (x : Input). IsInputOf (taken_by action) x b) c.in-Module.is h in
    let judged = c.in_err-checked-in-Module in
    stop_left (ActionGives action b) (g.O.Sink.held c.args.out.now) (Rose (g.O.Sink.faults c.args.out.now) (g.O.Sink.faults c.args.out.now)) c.from_residual-in_err-checked-in-Module.result judged.field-0.0 c.from_residual-in_err-checked-in-Module.ensures.1
    (refuses_as (λ r k. given_as action b file.Module i.0 r (inr k)) judged.field-0.0 (judged.ensures.refused b i.1))

pub returns-in_ok-checked-in-Module-clause-leaves : goal.returns-in_ok-checked-in-Module-clause-leaves
returns-in_ok-checked-in-Module-clause-leaves g c = λ b h.
    let action = c.args.action in
    let i = subst (λ (x : Input). IsInputOf (taken_by action) x b) c.in-Module.is h in
    let judged = c.in_ok-checked-in-Module in
    leaves_as (λ r k. given_as action b file.Module i.0 r (inl (judged.checked, judged.ensures.spelled b i.1, judged.ensures.within, judged.ensures.valid, k)))
    (Grew (g.O.Sink.held c.args.out.now) (g.O.Sink.held c.finish-in-Module.new.out)) (Rose (g.O.Sink.faults c.args.out.now) (g.O.Sink.faults c.finish-in-Module.new.out)) c.finish-in-Module.result c.finish-in-Module.ensures.leaves
