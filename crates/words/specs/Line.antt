-- What a list of words asks for, by the definition of `clap`.
use Rattle.std.specs.Prelude.{◌&&◌, ℕ, Bool, true, false, List, Option, Some, None, option_map, codes, nat_le, if◌then◌else◌, decimal}
use Rattle.std.specs.Str.{bytes_eq}
use Rattle.std.specs.Str.Parse.{digits_value}
use Rattle.clap.specs.Lexer.{usize_max}
use Rattle.clap.specs.Walk.{Row, Rule, Text, all_of, first_of, is_empty}
use Rattle.clap.specs.Simple.{App, Shape, new_app, new_rule, on_top, subcommand_of, with_rule, with_subcommand}
use Rattle.clap.specs.Faults.{fault_of}
use Rattle.clap.specs.declared.builder.action.ArgAction.TheVariants.{SetTrue}
use Rattle.words.specs.declared.request.Action.{Action}
use Rattle.words.specs.declared.request.Action.TheVariants.{Check, Run, Build, Dump, Assemble, Trace}

pub data Line : Type 0 where
  -- this action on the module of this file
  on_file : Text → Action → Line
  -- the run of these files, linked, for so many steps; statistics are told of it or not
  on_files : List Text → ℕ → Bool → Line
  -- the audit of what this second file says of the run of the module of the first, for so many steps
  audited : Text → Text → ℕ → Line
  -- the run of the script that is generated for this number
  generated : ℕ → Line
  -- nothing that is there
  bad : Line

-- ## The command line, as clap sees it

-- one file, which has to be named
abbrev pub file_rule : Rule
file_rule = record (new_rule (codes "file")) { required = true }

-- one file or more, each named by a word of its own
abbrev pub files_rule : Rule
files_rule = record (new_rule (codes "file")) { range = Some (record { start_inclusive = 1; end_inclusive = usize_max }); required = true }

-- `--steps N`, which may be left out
abbrev pub steps_rule : Rule
steps_rule = record (new_rule (codes "steps")) { long = Some (codes "steps") }

-- `--stats`, which has no value, and may be left out
abbrev pub stats_rule : Rule
stats_rule = record (new_rule (codes "stats")) { long = Some (codes "stats"); action = Some SetTrue }

-- one number, which has to be given
abbrev pub number_rule : Rule
number_rule = record (new_rule (codes "number")) { required = true }

-- a command on a file
abbrev pub file_app : Text → App
file_app name = with_rule (new_app name) file_rule

-- `check FILE`
abbrev pub check_app : App
check_app = with_rule (new_app (codes "check")) file_rule

-- `run FILE [--steps N] [--stats]`
abbrev pub run_app : App
run_app = with_rule (with_rule (with_rule (new_app (codes "run")) file_rule) steps_rule) stats_rule

-- `build FILE`
abbrev pub build_app : App
build_app = with_rule (new_app (codes "build")) file_rule

-- `gen N`
abbrev pub gen_app : App
gen_app = with_rule (new_app (codes "gen")) number_rule

-- `dump FILE`
abbrev pub dump_app : App
dump_app = with_rule (new_app (codes "dump")) file_rule

-- `asm FILE`
abbrev pub asm_app : App
asm_app = with_rule (new_app (codes "asm")) file_rule

-- `link FILE.. [--steps N] [--stats]`
abbrev pub link_app : App
link_app = with_rule (with_rule (with_rule (new_app (codes "link")) files_rule) steps_rule) stats_rule

-- `trace FILE [--steps N]`
abbrev pub trace_app : App
trace_app = with_rule (with_rule (new_app (codes "trace")) file_rule) steps_rule

-- the file of a trace, which has to be named
abbrev pub trace_rule : Rule
trace_rule = record (new_rule (codes "trace")) { required = true }

-- `audit FILE TRACE [--steps N]`
abbrev pub audit_app : App
audit_app = with_rule (with_rule (with_rule (new_app (codes "audit")) file_rule) trace_rule) steps_rule

-- a command has to be named; `help` and `--help` are words like others
abbrev pub settings : Shape → Shape
settings s = record s {
  subcommand_required = true;
  disable_help_flag = true;
  disable_help_subcommand = true;
}

-- the commands `check` and `run`
abbrev pub base_app : App
base_app = with_subcommand (with_subcommand (on_top settings (new_app (codes "stackwasm"))) check_app.top) run_app.top

-- those that make modules too
abbrev pub making_app : App
making_app = with_subcommand (with_subcommand base_app build_app.top) gen_app.top

-- those on one file or none
abbrev pub single_app : App
single_app = with_subcommand (with_subcommand making_app dump_app.top) asm_app.top

-- those on several files too
abbrev pub linking_app : App
linking_app = with_subcommand single_app link_app.top

-- the program's commands
abbrev pub the_app : App
the_app = with_subcommand (with_subcommand linking_app trace_app.top) audit_app.top

-- ## What its matches say

-- the steps of a run where the words give none
abbrev pub default_steps : ℕ
default_steps = 100000000

-- the most steps that the words may give
abbrev pub most_steps : ℕ
most_steps = 1099511627776

-- the most that the number of a generated script may be
abbrev pub most_generated : ℕ
most_generated = 500

-- the number that the text spells in decimal digits, with no sign and no zero before it, from the least to the most
abbrev pub number_in : ℕ → ℕ → Text → Option ℕ
number_in least most text = if bytes_eq text (decimal (digits_value 10 text))
    && (nat_le least (digits_value 10 text) && nat_le (digits_value 10 text) most)
    then Some (digits_value 10 text) else None

-- the number of steps, by the text that the words give for it
abbrev pub steps_in : Option Text → Option ℕ
steps_in (Some text) = number_in 0 most_steps text
steps_in None = Some default_steps

-- the number of a generated script, by the text that the words give for it
abbrev pub generated_in : Option Text → Option ℕ
generated_in (Some text) = number_in 1 most_generated text
generated_in None = None

-- whether statistics are asked for: a flag has the text `true` where the words have it, and else `false`
abbrev pub stats_in : Option Text → Bool
stats_in (Some text) = bytes_eq text (codes "true")
stats_in None = false

-- the run of so many steps, if they are a number of steps
abbrev pub run_of : Option ℕ → Bool → Option Action
run_of steps stats = option_map (λ n. Run n stats) steps

-- a line of what is there, and else a bad one
abbrev pub when : {X : Type 0} → Option X → (X → Line) → Line
when (Some x) line = line x
when None line = bad

-- what a command does with the module of its file
abbrev pub action_of : Text → List Row → Option Action
action_of name rows = if bytes_eq name (codes "check") then Some Check
    else (if bytes_eq name (codes "run") then run_of (steps_in (first_of (codes "steps") rows)) (stats_in (first_of (codes "stats") rows))
    else (if bytes_eq name (codes "build") then Some Build
    else (if bytes_eq name (codes "dump") then Some Dump
    else (if bytes_eq name (codes "asm") then Some Assemble
    else (if bytes_eq name (codes "trace") then option_map Trace (steps_in (first_of (codes "steps") rows))
    else None)))))

-- the line of the matches of a command on a file
abbrev pub file_line : Text → List Row → Line
file_line name rows = when (first_of (codes "file") rows) (λ file. when (action_of name rows) (on_file file))

-- the line of the matches of `link`
abbrev pub files_line : List Row → Line
files_line rows = when (all_of (codes "file") rows) (λ files. when (steps_in (first_of (codes "steps") rows)) (λ steps. on_files files steps (stats_in (first_of (codes "stats") rows))))

-- the line of the matches of `audit`
abbrev pub audit_line : List Row → Line
audit_line rows = when (first_of (codes "file") rows) (λ file. when (first_of (codes "trace") rows) (λ trace. when (steps_in (first_of (codes "steps") rows)) (λ steps. audited file trace steps)))

-- the line of a command's matches
abbrev pub named_line : Text → List Row → Line
named_line name rows = if bytes_eq name (codes "gen") then when (generated_in (first_of (codes "number") rows)) generated
    else (if bytes_eq name (codes "link") then files_line rows
    else (if bytes_eq name (codes "audit") then audit_line rows
    else file_line name rows))

abbrev pub entered_line : Option (Text × List Row) → Line
entered_line (Some p) = named_line p.0 p.1
entered_line None = bad

-- what the words ask for, the program's name first: clap takes them, and its matches say it
unfoldable pub line_of : List Text → Line
line_of words = if is_empty (fault_of the_app words) then entered_line (subcommand_of the_app words) else bad
