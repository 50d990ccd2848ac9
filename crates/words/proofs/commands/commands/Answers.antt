use Rattle.std.proofs.Common.{◌≡◌, ap, ◌∙◌, codes}
use Rattle.clap.specs.Simple.{App, app_of, new_app, on_top, with_subcommand}
use Rattle.words.specs.Line.{settings, file_app, run_app, gen_app, check_app, build_app, base_app, making_app, dump_app, asm_app, single_app, link_app, linking_app, trace_app, audit_app}
use Rattle.words.proofs.AddedCommands.{added}
use Rattle.words.proofs.commands.commands.Goals as goal

pub returns : goal.returns
returns c =
    let checking : app_of c.in_ok-checking.checking ≡ with_subcommand (on_top settings (new_app (codes "stackwasm"))) check_app.top =
    added c.program.result c.file_command.result (file_app (codes "check")) c.file_command.ensures.app c.file_command.ensures.local c.in_ok-checking.checking c.in_ok-checking.ensures
    ∙ ap (λ (a : App). with_subcommand a check_app.top) c.program.ensures in
    let running : app_of c.in_ok-running.running ≡ base_app =
    added c.in_ok-checking.checking c.run_command.result run_app c.run_command.ensures.app c.run_command.ensures.local c.in_ok-running.running c.in_ok-running.ensures
    ∙ ap (λ (a : App). with_subcommand a run_app.top) checking in
    let building : app_of c.in_ok-building.building ≡ with_subcommand base_app build_app.top =
    added c.in_ok-running.running c.file_command-2.result (file_app (codes "build")) c.file_command-2.ensures.app c.file_command-2.ensures.local c.in_ok-building.building c.in_ok-building.ensures
    ∙ ap (λ (a : App). with_subcommand a build_app.top) running in
    let making : app_of c.in_ok-making.making ≡ making_app =
    added c.in_ok-building.building c.gen_command.result gen_app c.gen_command.ensures.app c.gen_command.ensures.local c.in_ok-making.making c.in_ok-making.ensures
    ∙ ap (λ (a : App). with_subcommand a gen_app.top) building in
    let dumping : app_of c.in_ok-dumping.dumping ≡ with_subcommand making_app dump_app.top =
    added c.in_ok-making.making c.file_command-3.result (file_app (codes "dump")) c.file_command-3.ensures.app c.file_command-3.ensures.local c.in_ok-dumping.dumping c.in_ok-dumping.ensures
    ∙ ap (λ (a : App). with_subcommand a dump_app.top) making in
    let assembling : app_of c.in_ok-assembling.assembling ≡ single_app =
    added c.in_ok-dumping.dumping c.file_command-4.result (file_app (codes "asm")) c.file_command-4.ensures.app c.file_command-4.ensures.local c.in_ok-assembling.assembling c.in_ok-assembling.ensures
    ∙ ap (λ (a : App). with_subcommand a asm_app.top) dumping in
    let linking : app_of c.in_ok-linking.linking ≡ linking_app =
    added c.in_ok-assembling.assembling c.link_command.result link_app c.link_command.ensures.app c.link_command.ensures.local c.in_ok-linking.linking c.in_ok-linking.ensures
    ∙ ap (λ (a : App). with_subcommand a link_app.top) assembling in
    let tracing : app_of c.in_ok-tracing.tracing ≡ with_subcommand linking_app trace_app.top =
    added c.in_ok-linking.linking c.trace_command.result trace_app c.trace_command.ensures.app c.trace_command.ensures.local c.in_ok-tracing.tracing c.in_ok-tracing.ensures
    ∙ ap (λ (a : App). with_subcommand a trace_app.top) linking in
    added c.in_ok-tracing.tracing c.audit_command.result audit_app c.audit_command.ensures.app c.audit_command.ensures.local c.in_ok-all.all c.in_ok-all.ensures
    ∙ ap (λ (a : App). with_subcommand a audit_app.top) tracing
