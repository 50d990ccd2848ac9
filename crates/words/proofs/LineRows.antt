-- What some lists of words ask for, computed by the definition.
use Rattle.std.proofs.Common.{◌≡◌, ℕ, nat_eq, List, [], ◌∷◌, refl, codes, true, false}
use Rattle.std.specs.Fmt.{digits}
use Rattle.clap.specs.Walk.{Text}
use Rattle.clap.proofs.OnLiterals.{clap_on_literals}
use Rattle.words.specs.declared.request.Action.TheVariants.{Check, Run, Build, Dump, Assemble, Trace}
use Rattle.words.specs.Line.{Line, line_of, on_file, on_files, audited, generated, bad}

-- what the words after the program's name ask for
abbrev asked : List Text → Line
asked words = line_of (codes "stackwasm" ∷ words)

no_words : line_of [] ≡ bad
unfolding line_of clap_on_literals digits
no_words = refl

-- ## `check`

check_file : asked (codes "check" ∷ codes "two" ∷ []) ≡ on_file (codes "two") Check
unfolding line_of clap_on_literals digits
check_file = refl

-- any name that doesn't begin with a hyphen
check_any : (x : ℕ) (xs : Text) → nat_eq x 45 ≡ false → asked (codes "check" ∷ (x ∷ xs) ∷ []) ≡ on_file (x ∷ xs) Check
unfolding line_of clap_on_literals digits
check_any x xs e = simp e

check_named_check : asked (codes "check" ∷ codes "check" ∷ []) ≡ on_file (codes "check") Check
unfolding line_of clap_on_literals digits
check_named_check = refl

check_alone : asked (codes "check" ∷ []) ≡ bad
unfolding line_of clap_on_literals digits
check_alone = refl

check_two_files : asked (codes "check" ∷ codes "two" ∷ codes "three" ∷ []) ≡ bad
unfolding line_of clap_on_literals digits
check_two_files = refl

check_for_steps : asked (codes "check" ∷ codes "two" ∷ codes "--steps" ∷ codes "5" ∷ []) ≡ bad
unfolding line_of clap_on_literals digits
check_for_steps = refl

-- ## `run`

run_file : asked (codes "run" ∷ codes "two" ∷ []) ≡ on_file (codes "two") (Run 100000000 false)
unfolding line_of clap_on_literals digits
run_file = refl

run_for_steps : asked (codes "run" ∷ codes "two" ∷ codes "--steps" ∷ codes "5" ∷ []) ≡ on_file (codes "two") (Run 5 false)
unfolding line_of clap_on_literals digits
run_for_steps = refl

run_for_steps_first : asked (codes "run" ∷ codes "--steps" ∷ codes "5" ∷ codes "two" ∷ []) ≡ on_file (codes "two") (Run 5 false)
unfolding line_of clap_on_literals digits
run_for_steps_first = refl

run_for_steps_joined : asked (codes "run" ∷ codes "two" ∷ codes "--steps=5" ∷ []) ≡ on_file (codes "two") (Run 5 false)
unfolding line_of clap_on_literals digits
run_for_steps_joined = refl

run_for_none : asked (codes "run" ∷ codes "two" ∷ codes "--steps" ∷ codes "0" ∷ []) ≡ on_file (codes "two") (Run 0 false)
unfolding line_of clap_on_literals digits
run_for_none = refl

run_for_most : asked (codes "run" ∷ codes "two" ∷ codes "--steps" ∷ codes "1099511627776" ∷ []) ≡ on_file (codes "two") (Run 1099511627776 false)
unfolding line_of clap_on_literals digits
run_for_most = refl

run_behind_hyphens : asked (codes "run" ∷ codes "--" ∷ codes "-x" ∷ []) ≡ on_file (codes "-x") (Run 100000000 false)
unfolding line_of clap_on_literals digits
run_behind_hyphens = refl

run_hyphen : asked (codes "run" ∷ codes "-" ∷ []) ≡ on_file (codes "-") (Run 100000000 false)
unfolding line_of clap_on_literals digits
run_hyphen = refl

run_no_name : asked (codes "run" ∷ codes "" ∷ []) ≡ on_file [] (Run 100000000 false)
unfolding line_of clap_on_literals digits
run_no_name = refl

run_alone : asked (codes "run" ∷ []) ≡ bad
unfolding line_of clap_on_literals digits
run_alone = refl

run_two_files : asked (codes "run" ∷ codes "two" ∷ codes "three" ∷ []) ≡ bad
unfolding line_of clap_on_literals digits
run_two_files = refl

run_option : asked (codes "run" ∷ codes "-x" ∷ []) ≡ bad
unfolding line_of clap_on_literals digits
run_option = refl

-- ## `--stats`

stats_after : asked (codes "run" ∷ codes "two" ∷ codes "--stats" ∷ []) ≡ on_file (codes "two") (Run 100000000 true)
unfolding line_of clap_on_literals digits
stats_after = refl

stats_before : asked (codes "run" ∷ codes "--stats" ∷ codes "two" ∷ []) ≡ on_file (codes "two") (Run 100000000 true)
unfolding line_of clap_on_literals digits
stats_before = refl

stats_and_steps : asked (codes "run" ∷ codes "two" ∷ codes "--stats" ∷ codes "--steps" ∷ codes "5" ∷ []) ≡ on_file (codes "two") (Run 5 true)
unfolding line_of clap_on_literals digits
stats_and_steps = refl

steps_and_stats : asked (codes "run" ∷ codes "two" ∷ codes "--steps" ∷ codes "5" ∷ codes "--stats" ∷ []) ≡ on_file (codes "two") (Run 5 true)
unfolding line_of clap_on_literals digits
steps_and_stats = refl

stats_round_the_file : asked (codes "run" ∷ codes "--steps=5" ∷ codes "two" ∷ codes "--stats" ∷ []) ≡ on_file (codes "two") (Run 5 true)
unfolding line_of clap_on_literals digits
stats_round_the_file = refl

stats_twice : asked (codes "run" ∷ codes "two" ∷ codes "--stats" ∷ codes "--stats" ∷ []) ≡ bad
unfolding line_of clap_on_literals digits
stats_twice = refl

stats_with_a_value : asked (codes "run" ∷ codes "two" ∷ codes "--stats=true" ∷ []) ≡ bad
unfolding line_of clap_on_literals digits
stats_with_a_value = refl

stats_before_a_word : asked (codes "run" ∷ codes "two" ∷ codes "--stats" ∷ codes "true" ∷ []) ≡ bad
unfolding line_of clap_on_literals digits
stats_before_a_word = refl

stats_for_steps : asked (codes "run" ∷ codes "two" ∷ codes "--steps" ∷ codes "--stats" ∷ []) ≡ bad
unfolding line_of clap_on_literals digits
stats_for_steps = refl

stats_shortened : asked (codes "run" ∷ codes "two" ∷ codes "--stat" ∷ []) ≡ bad
unfolding line_of clap_on_literals digits
stats_shortened = refl

stats_behind_hyphens : asked (codes "run" ∷ codes "--" ∷ codes "--stats" ∷ []) ≡ on_file (codes "--stats") (Run 100000000 false)
unfolding line_of clap_on_literals digits
stats_behind_hyphens = refl

stats_alone : asked (codes "run" ∷ codes "--stats" ∷ []) ≡ bad
unfolding line_of clap_on_literals digits
stats_alone = refl

check_for_stats : asked (codes "check" ∷ codes "two" ∷ codes "--stats" ∷ []) ≡ bad
unfolding line_of clap_on_literals digits
check_for_stats = refl

build_for_stats : asked (codes "build" ∷ codes "two" ∷ codes "--stats" ∷ []) ≡ bad
unfolding line_of clap_on_literals digits
build_for_stats = refl

-- ## `build`

build_file : asked (codes "build" ∷ codes "two" ∷ []) ≡ on_file (codes "two") Build
unfolding line_of clap_on_literals digits
build_file = refl

build_any : (x : ℕ) (xs : Text) → nat_eq x 45 ≡ false → asked (codes "build" ∷ (x ∷ xs) ∷ []) ≡ on_file (x ∷ xs) Build
unfolding line_of clap_on_literals digits
build_any x xs e = simp e

build_named_build : asked (codes "build" ∷ codes "build" ∷ []) ≡ on_file (codes "build") Build
unfolding line_of clap_on_literals digits
build_named_build = refl

build_alone : asked (codes "build" ∷ []) ≡ bad
unfolding line_of clap_on_literals digits
build_alone = refl

build_two_files : asked (codes "build" ∷ codes "two" ∷ codes "three" ∷ []) ≡ bad
unfolding line_of clap_on_literals digits
build_two_files = refl

build_for_steps : asked (codes "build" ∷ codes "two" ∷ codes "--steps" ∷ codes "5" ∷ []) ≡ bad
unfolding line_of clap_on_literals digits
build_for_steps = refl

-- ## `gen`

gen_least : asked (codes "gen" ∷ codes "1" ∷ []) ≡ generated 1
unfolding line_of clap_on_literals digits
gen_least = refl

gen_most : asked (codes "gen" ∷ codes "500" ∷ []) ≡ generated 500
unfolding line_of clap_on_literals digits
gen_most = refl

gen_none : asked (codes "gen" ∷ codes "0" ∷ []) ≡ bad
unfolding line_of clap_on_literals digits
gen_none = refl

gen_over_most : asked (codes "gen" ∷ codes "501" ∷ []) ≡ bad
unfolding line_of clap_on_literals digits
gen_over_most = refl

gen_with_zero : asked (codes "gen" ∷ codes "01" ∷ []) ≡ bad
unfolding line_of clap_on_literals digits
gen_with_zero = refl

gen_alone : asked (codes "gen" ∷ []) ≡ bad
unfolding line_of clap_on_literals digits
gen_alone = refl

gen_no_number : asked (codes "gen" ∷ codes "x" ∷ []) ≡ bad
unfolding line_of clap_on_literals digits
gen_no_number = refl

gen_two_numbers : asked (codes "gen" ∷ codes "5" ∷ codes "6" ∷ []) ≡ bad
unfolding line_of clap_on_literals digits
gen_two_numbers = refl

gen_for_stats : asked (codes "gen" ∷ codes "5" ∷ codes "--stats" ∷ []) ≡ bad
unfolding line_of clap_on_literals digits
gen_for_stats = refl

gen_below_none : asked (codes "gen" ∷ codes "-5" ∷ []) ≡ bad
unfolding line_of clap_on_literals digits
gen_below_none = refl

gen_for_steps : asked (codes "gen" ∷ codes "5" ∷ codes "--steps" ∷ codes "9" ∷ []) ≡ bad
unfolding line_of clap_on_literals digits
gen_for_steps = refl

-- ## `dump` and `asm`

dump_file : asked (codes "dump" ∷ codes "two" ∷ []) ≡ on_file (codes "two") Dump
unfolding line_of clap_on_literals digits
dump_file = refl

dump_alone : asked (codes "dump" ∷ []) ≡ bad
unfolding line_of clap_on_literals digits
dump_alone = refl

dump_two_files : asked (codes "dump" ∷ codes "two" ∷ codes "three" ∷ []) ≡ bad
unfolding line_of clap_on_literals digits
dump_two_files = refl

dump_for_stats : asked (codes "dump" ∷ codes "two" ∷ codes "--stats" ∷ []) ≡ bad
unfolding line_of clap_on_literals digits
dump_for_stats = refl

asm_file : asked (codes "asm" ∷ codes "two" ∷ []) ≡ on_file (codes "two") Assemble
unfolding line_of clap_on_literals digits
asm_file = refl

asm_named_asm : asked (codes "asm" ∷ codes "asm" ∷ []) ≡ on_file (codes "asm") Assemble
unfolding line_of clap_on_literals digits
asm_named_asm = refl

asm_alone : asked (codes "asm" ∷ []) ≡ bad
unfolding line_of clap_on_literals digits
asm_alone = refl

asm_for_steps : asked (codes "asm" ∷ codes "two" ∷ codes "--steps" ∷ codes "5" ∷ []) ≡ bad
unfolding line_of clap_on_literals digits
asm_for_steps = refl

-- ## Steps that are no number in the range

steps_over_most : asked (codes "run" ∷ codes "two" ∷ codes "--steps" ∷ codes "1099511627777" ∷ []) ≡ bad
unfolding line_of clap_on_literals digits
steps_over_most = refl

steps_with_sign : asked (codes "run" ∷ codes "two" ∷ codes "--steps" ∷ codes "+5" ∷ []) ≡ bad
unfolding line_of clap_on_literals digits
steps_with_sign = refl

steps_below_none : asked (codes "run" ∷ codes "two" ∷ codes "--steps" ∷ codes "-5" ∷ []) ≡ bad
unfolding line_of clap_on_literals digits
steps_below_none = refl

steps_below_none_joined : asked (codes "run" ∷ codes "two" ∷ codes "--steps=-5" ∷ []) ≡ bad
unfolding line_of clap_on_literals digits
steps_below_none_joined = refl

steps_with_zero : asked (codes "run" ∷ codes "two" ∷ codes "--steps" ∷ codes "05" ∷ []) ≡ bad
unfolding line_of clap_on_literals digits
steps_with_zero = refl

steps_with_blank : asked (codes "run" ∷ codes "two" ∷ codes "--steps" ∷ codes " 5" ∷ []) ≡ bad
unfolding line_of clap_on_literals digits
steps_with_blank = refl

steps_empty : asked (codes "run" ∷ codes "two" ∷ codes "--steps" ∷ codes "" ∷ []) ≡ bad
unfolding line_of clap_on_literals digits
steps_empty = refl

steps_missing : asked (codes "run" ∷ codes "two" ∷ codes "--steps" ∷ []) ≡ bad
unfolding line_of clap_on_literals digits
steps_missing = refl

steps_twice : asked (codes "run" ∷ codes "two" ∷ codes "--steps" ∷ codes "5" ∷ codes "--steps" ∷ codes "5" ∷ []) ≡ bad
unfolding line_of clap_on_literals digits
steps_twice = refl

steps_shortened : asked (codes "run" ∷ codes "two" ∷ codes "--step" ∷ codes "5" ∷ []) ≡ bad
unfolding line_of clap_on_literals digits
steps_shortened = refl

steps_before_the_command : asked (codes "--steps" ∷ codes "5" ∷ codes "run" ∷ codes "two" ∷ []) ≡ bad
unfolding line_of clap_on_literals digits
steps_before_the_command = refl

-- ## `link`

link_file : asked (codes "link" ∷ codes "two" ∷ []) ≡ on_files (codes "two" ∷ []) 100000000 false
unfolding line_of clap_on_literals digits
link_file = refl

link_two_files : asked (codes "link" ∷ codes "two" ∷ codes "three" ∷ []) ≡ on_files (codes "two" ∷ codes "three" ∷ []) 100000000 false
unfolding line_of clap_on_literals digits
link_two_files = refl

link_for_steps : asked (codes "link" ∷ codes "two" ∷ codes "three" ∷ codes "--steps" ∷ codes "5" ∷ []) ≡ on_files (codes "two" ∷ codes "three" ∷ []) 5 false
unfolding line_of clap_on_literals digits
link_for_steps = refl

link_options_first : asked (codes "link" ∷ codes "--steps=5" ∷ codes "--stats" ∷ codes "two" ∷ codes "three" ∷ []) ≡ on_files (codes "two" ∷ codes "three" ∷ []) 5 true
unfolding line_of clap_on_literals digits
link_options_first = refl

link_options_between : asked (codes "link" ∷ codes "two" ∷ codes "--stats" ∷ codes "three" ∷ codes "--steps" ∷ codes "5" ∷ codes "four" ∷ []) ≡ on_files (codes "two" ∷ codes "three" ∷ codes "four" ∷ []) 5 true
unfolding line_of clap_on_literals digits
link_options_between = refl

link_behind_hyphens : asked (codes "link" ∷ codes "two" ∷ codes "--" ∷ codes "-x" ∷ codes "--stats" ∷ []) ≡ on_files (codes "two" ∷ codes "-x" ∷ codes "--stats" ∷ []) 100000000 false
unfolding line_of clap_on_literals digits
link_behind_hyphens = refl

link_a_file_twice : asked (codes "link" ∷ codes "two" ∷ codes "two" ∷ []) ≡ on_files (codes "two" ∷ codes "two" ∷ []) 100000000 false
unfolding line_of clap_on_literals digits
link_a_file_twice = refl

link_no_files : asked (codes "link" ∷ []) ≡ bad
unfolding line_of clap_on_literals digits
link_no_files = refl

link_options_alone : asked (codes "link" ∷ codes "--stats" ∷ []) ≡ bad
unfolding line_of clap_on_literals digits
link_options_alone = refl

link_option : asked (codes "link" ∷ codes "two" ∷ codes "-x" ∷ []) ≡ bad
unfolding line_of clap_on_literals digits
link_option = refl

link_steps_twice : asked (codes "link" ∷ codes "two" ∷ codes "--steps" ∷ codes "5" ∷ codes "--steps" ∷ codes "6" ∷ []) ≡ bad
unfolding line_of clap_on_literals digits
link_steps_twice = refl

link_number_out_of_form : asked (codes "link" ∷ codes "two" ∷ codes "--steps" ∷ codes "05" ∷ []) ≡ bad
unfolding line_of clap_on_literals digits
link_number_out_of_form = refl

-- ## `trace`

trace_file : asked (codes "trace" ∷ codes "two" ∷ []) ≡ on_file (codes "two") (Trace 100000000)
unfolding line_of clap_on_literals digits
trace_file = refl

trace_for_steps : asked (codes "trace" ∷ codes "two" ∷ codes "--steps" ∷ codes "5" ∷ []) ≡ on_file (codes "two") (Trace 5)
unfolding line_of clap_on_literals digits
trace_for_steps = refl

trace_alone : asked (codes "trace" ∷ []) ≡ bad
unfolding line_of clap_on_literals digits
trace_alone = refl

trace_two_files : asked (codes "trace" ∷ codes "two" ∷ codes "three" ∷ []) ≡ bad
unfolding line_of clap_on_literals digits
trace_two_files = refl

trace_stats : asked (codes "trace" ∷ codes "two" ∷ codes "--stats" ∷ []) ≡ bad
unfolding line_of clap_on_literals digits
trace_stats = refl

-- ## `audit`

audit_files : asked (codes "audit" ∷ codes "two" ∷ codes "three" ∷ []) ≡ audited (codes "two") (codes "three") 100000000
unfolding line_of clap_on_literals digits
audit_files = refl

audit_for_steps : asked (codes "audit" ∷ codes "two" ∷ codes "--steps" ∷ codes "5" ∷ codes "three" ∷ []) ≡ audited (codes "two") (codes "three") 5
unfolding line_of clap_on_literals digits
audit_for_steps = refl

audit_one_file : asked (codes "audit" ∷ codes "two" ∷ []) ≡ bad
unfolding line_of clap_on_literals digits
audit_one_file = refl

audit_three_files : asked (codes "audit" ∷ codes "two" ∷ codes "three" ∷ codes "four" ∷ []) ≡ bad
unfolding line_of clap_on_literals digits
audit_three_files = refl

audit_stats : asked (codes "audit" ∷ codes "two" ∷ codes "three" ∷ codes "--stats" ∷ []) ≡ bad
unfolding line_of clap_on_literals digits
audit_stats = refl

-- ## Other words

name_alone : asked ([]) ≡ bad
unfolding line_of clap_on_literals digits
name_alone = refl

help_flag : asked (codes "--help" ∷ []) ≡ bad
unfolding line_of clap_on_literals digits
help_flag = refl

help_letter : asked (codes "-h" ∷ []) ≡ bad
unfolding line_of clap_on_literals digits
help_letter = refl

help_word : asked (codes "help" ∷ []) ≡ bad
unfolding line_of clap_on_literals digits
help_word = refl

help_of_run : asked (codes "run" ∷ codes "--help" ∷ []) ≡ bad
unfolding line_of clap_on_literals digits
help_of_run = refl

help_word_of_run : asked (codes "help" ∷ codes "run" ∷ []) ≡ bad
unfolding line_of clap_on_literals digits
help_word_of_run = refl

version_flag : asked (codes "--version" ∷ []) ≡ bad
unfolding line_of clap_on_literals digits
version_flag = refl

other_command : asked (codes "make" ∷ codes "two" ∷ []) ≡ bad
unfolding line_of clap_on_literals digits
other_command = refl

command_shortened : asked (codes "ru" ∷ codes "two" ∷ []) ≡ bad
unfolding line_of clap_on_literals digits
command_shortened = refl

command_in_capitals : asked (codes "RUN" ∷ codes "two" ∷ []) ≡ bad
unfolding line_of clap_on_literals digits
command_in_capitals = refl

command_behind_hyphens : asked (codes "--" ∷ codes "run" ∷ codes "two" ∷ []) ≡ bad
unfolding line_of clap_on_literals digits
command_behind_hyphens = refl
