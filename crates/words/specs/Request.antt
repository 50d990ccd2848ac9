-- The line that a request is.
use Rattle.clap.specs.Walk.{texts}
use Rattle.std.specs.Prelude.{◌≡◌, ◌≤◌, ⊤, Option, Some, None}
use Rattle.words.specs.declared.request.Action.{Action}
use Rattle.words.specs.declared.request.Action.TheVariants.{Check, Run, Build, Dump, Assemble, Trace}
use Rattle.words.specs.declared.request.Takes.{Takes}
use Rattle.words.specs.declared.request.Takes.TheVariants.{ModulesAndScripts, Modules, Texts}
use Rattle.words.specs.declared.request.Request.{Request}
use Rattle.words.specs.declared.request.Request.TheVariants.{OnFile, OnFiles, Audited, Generated}
use Rattle.words.specs.Line.{Line, on_file, on_files, audited, generated, bad, most_steps, most_generated}

abbrev pub asked_by : Request → Line
asked_by (OnFile file action) = on_file file.now action
asked_by (OnFiles files steps stats) = on_files (texts files.items) steps stats
asked_by (Audited file trace steps) = audited file.now trace.now steps
asked_by (Generated number) = generated number

-- the request is the line, and there is none where the line is bad
abbrev pub Asks : Option Request → Line → Type 0
Asks (Some request) line = line ≡ asked_by request
Asks None line = line ≡ bad

-- which files an action takes
abbrev pub taken_by : Action → Takes
taken_by Check = ModulesAndScripts
taken_by (Run steps stats) = ModulesAndScripts
taken_by Build = ModulesAndScripts
taken_by Dump = Modules
taken_by Assemble = Texts
taken_by (Trace steps) = Modules

-- no more steps than the words may give
abbrev pub IsWithinSteps : Action → Type 0
IsWithinSteps Check = ⊤
IsWithinSteps (Run steps stats) = steps ≤ most_steps
IsWithinSteps Build = ⊤
IsWithinSteps Dump = ⊤
IsWithinSteps Assemble = ⊤
IsWithinSteps (Trace steps) = steps ≤ most_steps

-- no more steps than the words may give, and a number from 1 to the most
abbrev pub IsAllowed : Request → Type 0
IsAllowed (OnFile file action) = IsWithinSteps action
IsAllowed (OnFiles files steps stats) = steps ≤ most_steps
IsAllowed (Audited file trace steps) = steps ≤ most_steps
IsAllowed (Generated number) = (1 ≤ number) × (number ≤ most_generated)
