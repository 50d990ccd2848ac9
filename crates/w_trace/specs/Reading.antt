-- What a line of a trace says, word by word.
use Rattle.std.specs.Prelude.{if◌then◌else◌, ℕ, List, Option, Some, None, option_map, codes}
use Rattle.std.specs.Str.{bytes_eq}
use Rattle.w_reduce.specs.declared.limit.RunLimit.{RunLimit}
use Rattle.w_reduce.specs.declared.limit.RunLimit.TheVariants.{Frames, Handles, Conts}
use Rattle.w_reduce.specs.declared.trap.Trap.{Trap}
use Rattle.w_reduce.specs.declared.trap.Trap.TheVariants as trap
use Rattle.w_words.specs.Words.{Word, ◌>>=◌, behind, or_else, ended, next, one_of, two_of, spaced, words_of}
use Rattle.w_words.specs.Numbers.{number_of}
use Rattle.w_trace.specs.declared.event.EventKind.{EventKind}
use Rattle.w_trace.specs.declared.event.EventKind.TheVariants.{New, Bind, Resume, Suspend, Switch, Exit}
use Rattle.w_trace.specs.declared.line.Line.{Line}
use Rattle.w_trace.specs.declared.line.Line.TheVariants as line
use Rattle.w_trace.specs.declared.trace.Ending.{Ending}
use Rattle.w_trace.specs.declared.trace.Ending.TheVariants as ending

-- ## Endings

-- a trap of memories, tables and references
abbrev pub bounds_trap_said : List ℕ → Option Trap
bounds_trap_said t =
    if bytes_eq t (codes "trap memory out of bounds") then Some trap.MemoryOutOfBounds
    else if bytes_eq t (codes "trap table out of bounds") then Some trap.TableOutOfBounds
    else if bytes_eq t (codes "trap undefined element") then Some trap.UndefinedElement
    else if bytes_eq t (codes "trap null element") then Some trap.NullElement
    else if bytes_eq t (codes "trap null reference") then Some trap.NullReference
    else None

-- any other trap that has no tag
abbrev pub plain_trap_said : List ℕ → Option Trap
plain_trap_said t =
    if bytes_eq t (codes "trap unreachable") then Some trap.Unreachable
    else if bytes_eq t (codes "trap divide by zero") then Some trap.DivideByZero
    else if bytes_eq t (codes "trap integer overflow") then Some trap.IntegerOverflow
    else if bytes_eq t (codes "trap call type mismatch") then Some trap.CallTypeMismatch
    else if bytes_eq t (codes "trap consumed continuation") then Some trap.ConsumedContinuation
    else None

-- a tag that nothing handles
abbrev pub unhandled_said : List ℕ → Option Trap
unhandled_said t = do
  v ← behind (codes "trap unhandled ") t
  option_map trap.Unhandled (number_of 32 v)

abbrev pub trap_said : List ℕ → Option Trap
trap_said t = or_else (plain_trap_said t) (or_else (bounds_trap_said t) (unhandled_said t))

abbrev pub limit_said : List ℕ → Option RunLimit
limit_said t =
    if bytes_eq t (codes "limit frames") then Some Frames
    else if bytes_eq t (codes "limit handles") then Some Handles
    else if bytes_eq t (codes "limit conts") then Some Conts
    else None

abbrev pub limit_or_trap_said : List ℕ → Option Ending
limit_or_trap_said t = or_else (option_map ending.Limit (limit_said t)) (option_map ending.Trapped (trap_said t))

abbrev pub ending_said : List ℕ → Option Ending
ending_said t =
    if bytes_eq t (codes "ended") then Some ending.Ended
    else if bytes_eq t (codes "running") then Some ending.Running
    else limit_or_trap_said t

-- the words behind `end`: a number, and all that follows it
abbrev pub end_in : List Word → Option Line
end_in ws = do
  (w, ws) ← next ws
  n ← number_of 64 w
  option_map (line.End n) (ending_said (spaced ws))

-- ## Events

-- addresses, and tags
abbrev pub switch_in : List Word → Option EventKind
switch_in ws = do
  (w, ws) ← next ws
  a ← number_of 64 w
  option_map (λ p. Switch a p.0 p.1) (two_of (number_of 32) (number_of 64) ws)

abbrev pub kind_by : Word → List Word → Option EventKind
kind_by w ws =
    if bytes_eq w (codes "new") then option_map New (one_of (number_of 64) ws)
    else if bytes_eq w (codes "bind") then option_map (λ p. Bind p.0 p.1) (two_of (number_of 64) (number_of 64) ws)
    else if bytes_eq w (codes "resume") then option_map Resume (one_of (number_of 64) ws)
    else if bytes_eq w (codes "suspend") then option_map (λ p. Suspend p.0 p.1) (two_of (number_of 32) (number_of 64) ws)
    else if bytes_eq w (codes "switch") then switch_in ws
    else if bytes_eq w (codes "exit") then ended Exit ws
    else None

abbrev pub kind_in : List Word → Option EventKind
kind_in ws = do
  (w, ws) ← next ws
  kind_by w ws

-- a number, and the words behind it
abbrev pub event_in : Word → List Word → Option Line
event_in w ws = do
  n ← number_of 64 w
  option_map (λ k. line.Event (record { step = n; kind = k })) (kind_in ws)

-- ## Lines

abbrev pub line_in : List Word → Option Line
line_in ws = do
  (w, ws) ← next ws
  if bytes_eq w (codes "end") then end_in ws else event_in w ws

-- what a line says, without its line feed
unfoldable pub line_said : List ℕ → Option Line
line_said bs = line_in (words_of bs)
