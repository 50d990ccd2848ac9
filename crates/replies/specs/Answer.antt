-- What the program answers to a line, given what is told of the files.
use Rattle.std.specs.Prelude.{◌≡◌, ◌≢◌, ◌⊎◌, ◌<◌, ◌≤◌, ℕ, nat_eq, Bool, true, false, ◌&&◌, List, [], ◌∷◌, ◌++◌, codes, decimal, length, flat_map, slice_get, Option, Some, None}
use Rattle.std.specs.Int.{w32, w64, cast_signed}
use Rattle.std.specs.Fmt.{signed_decimal}
use Rattle.w_outside.specs.Outside.{Known, untold, missing, holds}
use Rattle.w_syntax.specs.declared.module.Module.{Module}
use Rattle.w_syntax.specs.Spells.{Spells}
use Rattle.lists.specs.Rows.{listed}
use Rattle.w_decode.specs.Faults.{HasFault}
use Rattle.w_decode.specs.declared.fault.DecodeFault.{DecodeFault}
use Rattle.w_decode.specs.declared.fault.DecodeFault.TheVariants as decode
use Rattle.w_rules.specs.Limits.{Within}
use Rattle.w_rules.specs.Valid.{Valid}
use Rattle.w_rules.specs.declared.limits.SizeLimit.{SizeLimit}
use Rattle.w_rules.specs.declared.limits.SizeLimit.TheVariants.{Types, Params, Locals}
use Rattle.w_items.specs.Faults.{IsFaultOf}
use Rattle.w_items.specs.declared.fault.ValidFault.{ValidFault}
use Rattle.w_items.specs.declared.fault.ValidFault.TheVariants as valid
use Rattle.w_reduce.specs.declared.limit.StartLimit.{StartLimit}
use Rattle.w_reduce.specs.declared.limit.StartLimit.TheVariants.{Memory, Table}
use Rattle.w_reduce.specs.declared.trap.Trap.{Trap}
use Rattle.w_reduce.specs.declared.trap.Trap.TheVariants as trap
use Rattle.w_reduce.specs.Values.{Val, I32, I64, Null, Func, Cont}
use Rattle.w_reduce.specs.Store.{Store, made, consumed, live}
use Rattle.w_reduce.specs.Terms.{Term}
use Rattle.w_reduce.specs.Program.{Program, IsProgram}
use Rattle.w_reduce.specs.Start.{Started, Ready, NoPrinter, NoEntry, Exceeds, StartTraps, Start}
use Rattle.w_reduce.specs.Run.{Outcome, Running, Values, Traps, Limit, NoRule, RunState, Run}
use Rattle.w_trace.specs.declared.trace.Trace.{Trace}
use Rattle.w_trace.specs.Once.{IsOneShot, IsUnsoundAt, uses_of}
use Rattle.w_trace.specs.Endings.{trap_text, run_limit_text}
use Rattle.w_trace.specs.Lines.{text_of as trace_text, IsTextOf, IsWrongAt as IsWrongTraceAt, DifferAt}
use Rattle.w_trace.specs.Traces.{trace_of}
use Rattle.w_linked.specs.Definitions.{definitions}
use Rattle.w_linked.specs.Imports.{TypeTests}
use Rattle.w_linked.specs.Laws.{AreTestsOf}
use Rattle.w_linked.specs.Starting.{StartedL}
use Rattle.w_linked.specs.Starting as linked
use Rattle.w_encode.specs.Canon.{Canon}
use Rattle.w_text.specs.Text.{Text, text_of, IsWrongAt}
use Rattle.s_syntax.specs.declared.name.Name.{Name}
use Rattle.s_syntax.specs.declared.script.Script.{Script}
use Rattle.s_check.specs.Refusal.{number_of}
use Rattle.s_check.specs.Size.{Size, size_limit}
use Rattle.s_code.specs.Lowered.{lowered}
use Rattle.s_agrees.specs.Agrees.{tag_names}
use Rattle.s_generate.specs.Generated.{generated as generated_script}
use Rattle.s_judge.specs.Judgements as script
use Rattle.s_judge.specs.declared.fault.ScriptFault.{ScriptFault}
use Rattle.s_judge.specs.declared.fault.ScriptFault.TheVariants as script_fault
use Rattle.words.specs.Request.{taken_by}
use Rattle.words.specs.declared.request.Takes.{Takes}
use Rattle.words.specs.declared.request.Takes.TheVariants as takes
use Rattle.words.specs.declared.request.Action.{Action}
use Rattle.words.specs.declared.request.Action.TheVariants.{Check, Run as RunFor, Build, Dump, Assemble, Trace as TraceFor}
use Rattle.words.specs.Line.{Line, on_file, on_files, audited, generated, bad}
use Rattle.replies.specs.declared.file_kind.FileKind.{FileKind}
use Rattle.replies.specs.declared.file_kind.FileKind.TheVariants as file

-- what is written to out and to err, and the status
pub record Reply : Type 0 where
  pub out : List ℕ
  pub err : List ℕ
  pub status : ℕ

-- a text as a line
abbrev pub line : List ℕ → List ℕ
line text = text ++ 10 ∷ []

-- a refusal writes a line to err alone
abbrev pub refusal : List ℕ → ℕ → Reply
refusal text status = record { out = []; err = line text; status = status }

-- ## The refusals

abbrev pub usage : Reply
usage = refusal (codes "usage: stackwasm check FILE | run FILE [--steps N] [--stats] | build FILE | gen N | dump FILE | asm FILE | link FILE.. [--steps N] [--stats] | trace FILE [--steps N] | audit FILE TRACE [--steps N]") 2

-- what bytes with this fault give; want of memory is none of theirs
abbrev pub malformed_text : DecodeFault → List ℕ
malformed_text decode.Header = codes "malformed header"
malformed_text (decode.Frame i) = codes "malformed frame " ++ decimal i
malformed_text (decode.Content i) = codes "malformed content " ++ decimal i
malformed_text decode.Counts = codes "malformed counts"
malformed_text decode.OutOfMemory = []

abbrev pub malformed : DecodeFault → Reply
malformed fault = refusal (malformed_text fault) 3

-- no text goes on with this line
abbrev pub wrong_text : ℕ → Reply
wrong_text l = refusal (codes "text " ++ decimal l) 12

-- the names of limits on a module
abbrev pub size_limit_text : SizeLimit → List ℕ
size_limit_text Types = codes "limit types"
size_limit_text Params = codes "limit params"
size_limit_text Locals = codes "limit locals"

-- and of where a run begins
abbrev pub start_limit_text : StartLimit → List ℕ
start_limit_text Memory = codes "limit memory"
start_limit_text Table = codes "limit table"

-- a limit that is passed
abbrev pub limit : List ℕ → Reply
limit text = refusal text 9

-- what a module with this fault gives; want of memory is none of its
abbrev pub invalid : ValidFault → Reply
invalid (valid.Limit name) = limit (size_limit_text name)
invalid (valid.TypeAt i) = refusal (codes "invalid type " ++ decimal i) 4
invalid (valid.Import i) = refusal (codes "invalid import " ++ decimal i) 4
invalid (valid.Table i) = refusal (codes "invalid table " ++ decimal i) 4
invalid valid.Memory = refusal (codes "invalid memory") 4
invalid (valid.Tag i) = refusal (codes "invalid tag " ++ decimal i) 4
invalid (valid.Global i) = refusal (codes "invalid global " ++ decimal i) 4
invalid (valid.Element i) = refusal (codes "invalid element " ++ decimal i) 4
invalid (valid.Data i) = refusal (codes "invalid data " ++ decimal i) 4
invalid valid.Start = refusal (codes "invalid start") 4
invalid (valid.Export i) = refusal (codes "invalid export " ++ decimal i) 4
invalid (valid.Function i) = refusal (codes "invalid function " ++ decimal i) 4
invalid valid.OutOfMemory = refusal [] 4

-- nothing is there for import i
abbrev pub no_printer : ℕ → Reply
no_printer i = refusal (codes "no printer " ++ decimal i) 4

abbrev pub no_entry : Reply
no_entry = refusal (codes "no entry") 4

abbrev pub read_fault : Reply
read_fault = refusal (codes "read fault") 6

abbrev pub limit_input : Reply
limit_input = refusal (codes "limit input") 9

abbrev pub trapped : Trap → Reply
trapped t = refusal (trap_text t) 1

abbrev pub running : Reply
running = refusal (codes "running") 10

-- the most bytes of a file
abbrev pub input_limit : ℕ
input_limit = 16777216

-- ## A module

-- a module that is valid, judged
abbrev pub ok_module : Reply
ok_module = record { out = line (codes "ok module"); err = []; status = 0 }

-- an integer, signed; a reference, by its address
abbrev pub value_text : Val → List ℕ
value_text (I32 n) = signed_decimal (cast_signed w32 n)
value_text (I64 n) = signed_decimal (cast_signed w64 n)
value_text Null = codes "null"
value_text (Func a) = codes "func " ++ decimal a
value_text (Cont a) = codes "cont " ++ decimal a

abbrev pub result_line : Val → List ℕ
result_line v = line (codes "= " ++ value_text v)

-- what a trap of a run is replied with
abbrev pub TrapReply : Type 0
TrapReply = Trap → Reply

-- what the end of a run gives; no run of a valid module comes to NoRule, and 11 is no status
abbrev pub end_reply : TrapReply → Outcome → Reply
end_reply on_trap (Values vs) = record { out = flat_map result_line (listed vs); err = []; status = 0 }
end_reply on_trap Running = running
end_reply on_trap (Traps t) = on_trap t
end_reply on_trap (Limit name) = limit (run_limit_text name)
end_reply on_trap NoRule = refusal [] 11

-- a reply that comes behind a text that was printed
abbrev pub behind : List ℕ → Reply → Reply
behind printed reply = record reply { out = printed ++ reply.out }

abbrev pub count_text : List ℕ → ℕ → List ℕ
count_text text n = text ++ decimal n

-- statistics: how many reductions, and how many continuations were made, are consumed and live
abbrev pub counts_line : ℕ → ℕ → ℕ → ℕ → List ℕ
counts_line steps made consumed live = line (((count_text (codes "stats steps ") steps ++ count_text (codes " made ") made)
    ++ count_text (codes " consumed ") consumed) ++ count_text (codes " live ") live)

-- those of a run
abbrev pub stats_line : RunState → List ℕ
stats_line r = counts_line r.taken (made r.store) (consumed r.store) (live r.store)

-- a reply that writes a text more to err
abbrev pub with_err : List ℕ → Reply → Reply
with_err text reply = record reply { err = reply.err ++ text }

-- with statistics, where they are asked for
abbrev pub with_stats : Bool → RunState → Reply → Reply
with_stats true r reply = with_err (stats_line r) reply
with_stats false r reply = reply

abbrev pub run_reply : TrapReply → Bool → RunState → Reply
run_reply on_trap stats r = with_stats stats r (behind r.output (end_reply on_trap r.outcome))

-- what a program gives by where it begins, where a run from there gives this
abbrev pub StartGives : TrapReply → (Store → Term → Reply → Type 0) → Started → Reply → Type 0
StartGives on_trap OfRun (Ready s t) reply = OfRun s t reply
StartGives on_trap OfRun (NoPrinter i) reply = reply ≡ no_printer i
StartGives on_trap OfRun NoEntry reply = reply ≡ no_entry
StartGives on_trap OfRun (Exceeds name) reply = reply ≡ limit (start_limit_text name)
StartGives on_trap OfRun (StartTraps t) reply = reply ≡ on_trap t

-- so a module gives, by which of its types match which
abbrev pub ProgramGives : TrapReply → (Program → Store → Term → Reply → Type 0) → Module → Reply → Type 0
ProgramGives on_trap OfRun m reply = (p : Program) × (p.source ≡ m) × IsProgram p × StartGives on_trap (OfRun p) (Start p) reply

-- what its run gives of at most so many steps
abbrev pub RunGives : TrapReply → ℕ → Bool → Module → Reply → Type 0
RunGives on_trap steps stats = ProgramGives on_trap (λ p s t reply. reply ≡ run_reply on_trap stats (Run p s t steps))

-- a trace, written
abbrev pub traced : Trace → Reply
traced x = record { out = trace_text x; err = []; status = 0 }

-- the trace of the run of at most so many steps
abbrev pub TraceGives : ℕ → Module → Reply → Type 0
TraceGives steps = ProgramGives trapped (λ p s t reply. reply ≡ traced (trace_of p s t steps))

-- a module that is valid, written again
abbrev pub built : Module → Reply
built m = record { out = Canon m; err = []; status = 0 }

-- and its text
abbrev pub dumped : Module → Reply
dumped m = record { out = text_of m; err = []; status = 0 }

-- what an action gives of a valid module
abbrev pub gives : Action → Module → Reply → Type 0
gives Check m reply = reply ≡ ok_module
gives (RunFor steps stats) m reply = RunGives trapped steps stats m reply
gives Build m reply = reply ≡ built m
gives Dump m reply = reply ≡ dumped m
gives Assemble m reply = reply ≡ built m
gives (TraceFor steps) m reply = TraceGives steps m reply

-- the module has this fault
abbrev pub HasModuleFault : Module → ValidFault → Type 0
HasModuleFault m fault = (fault ≢ valid.OutOfMemory) × IsFaultOf m fault

-- why a module is refused
abbrev pub ModuleRefusal : Module → Reply → Type 0
ModuleRefusal m reply = (fault : ValidFault) × HasModuleFault m fault × (reply ≡ invalid fault)

-- Below, Reads says which module a file has, and NoModule why it has none.

-- why a file is refused
abbrev pub RefusedOf : (Module → Type 0) → (Reply → Type 0) → Reply → Type 0
RefusedOf Reads NoModule reply = ((m : Module) × Reads m × ModuleRefusal m reply) ⊎ NoModule reply

-- what a file gives, where a valid module gives this
abbrev pub GivenOf : (Module → Type 0) → (Reply → Type 0) → (Module → Reply → Type 0) → Reply → Type 0
GivenOf Reads NoModule Accepted reply = ((m : Module) × Reads m × Within m × Valid m × Accepted m reply) ⊎ RefusedOf Reads NoModule reply

-- bytes that spell no module
abbrev pub NotSpelled : List ℕ → Reply → Type 0
NotSpelled bytes reply = (fault : DecodeFault) × HasFault bytes fault × (reply ≡ malformed fault)

-- why bytes are refused
abbrev pub BytesRefusal : List ℕ → Reply → Type 0
BytesRefusal bytes = RefusedOf (Spells bytes) (NotSpelled bytes)

-- what bytes give, where a valid module gives this
abbrev pub BytesGive : (Module → Reply → Type 0) → List ℕ → Reply → Type 0
BytesGive Accepted bytes = GivenOf (Spells bytes) (NotSpelled bytes) Accepted

-- bytes that are no text
abbrev pub NoText : List ℕ → Reply → Type 0
NoText bytes reply = (l : ℕ) × IsWrongAt bytes l × (reply ≡ wrong_text l)

-- why a text is refused
abbrev pub TextRefusal : List ℕ → Reply → Type 0
TextRefusal bytes = RefusedOf (Text bytes) (NoText bytes)

-- what a text gives, where a valid module gives this
abbrev pub TextGives : (Module → Reply → Type 0) → List ℕ → Reply → Type 0
TextGives Accepted bytes = GivenOf (Text bytes) (NoText bytes) Accepted

-- ## A script

-- a script that breaks no rule
abbrev pub ok_script : Reply
ok_script = record { out = line (codes "ok script"); err = []; status = 0 }

-- what a script with this fault gives; want of memory is none of its
abbrev pub bad_script : ScriptFault → Reply
bad_script script_fault.TooLong = limit (codes "limit script")
bad_script (script_fault.Lex at) = refusal (codes "lex " ++ decimal at) 5
bad_script (script_fault.Parse at) = refusal (codes "parse " ++ decimal at) 5
bad_script script_fault.Deep = refusal (codes "deep") 5
bad_script (script_fault.Rule d r) = refusal (count_text (count_text (codes "rule ") d ++ codes " ") (number_of r)) 5
bad_script script_fault.OutOfMemory = refusal [] 5

-- why a script is refused
abbrev pub ScriptRefusal : List ℕ → Reply → Type 0
ScriptRefusal bytes reply = (fault : ScriptFault) × script.HasFault bytes fault × (reply ≡ bad_script fault)

abbrev pub limit_size : Reply
limit_size = limit (codes "limit size")

-- a script that breaks no rule, where one that isn't too large gives this
abbrev pub Sized : (Reply → Type 0) → Script → Reply → Type 0
Sized Gives p reply = ((Size p ≤ size_limit) × Gives reply) ⊎ ((size_limit < Size p) × (reply ≡ limit_size))

-- a script that breaks no rule, compiled, where its module gives this
abbrev pub Compiled : (Module → Reply → Type 0) → Script → Reply → Type 0
Compiled Gives p reply = Sized (Gives (lowered p)) p reply

-- the name at a place; each tag has one
abbrev pub name_or_none : Option Name → Name
name_or_none None = []
name_or_none (Some x) = x

-- the fault of a script for which a trap of its module stands; other traps stand for none
abbrev pub fault_text : Script → Trap → List ℕ
fault_text p trap.Unreachable = codes "fault failed"
fault_text p trap.DivideByZero = codes "fault divzero"
fault_text p trap.IntegerOverflow = codes "fault overflow"
fault_text p trap.ConsumedContinuation = codes "fault reused"
fault_text p trap.TableOutOfBounds = codes "fault empty"
fault_text p trap.NullReference = codes "fault empty"
fault_text p (trap.Unhandled e) = codes "fault unhandled " ++ name_or_none (slice_get (tag_names p.declarations) e)
fault_text p t = trap_text t

abbrev pub faulted : Script → Trap → Reply
faulted p t = refusal (fault_text p t) 1

-- what an action gives of a script that breaks no rule; no statistics are told of its run, and three take no scripts
abbrev pub script_gives : Action → Script → Reply → Type 0
script_gives Check p reply = Sized (λ r. r ≡ ok_script) p reply
script_gives (RunFor steps stats) p reply = Compiled (RunGives (faulted p) steps false) p reply
script_gives Build p reply = Compiled (λ m reply. reply ≡ built m) p reply
script_gives Dump p reply = ⊥
script_gives Assemble p reply = ⊥
script_gives (TraceFor steps) p reply = ⊥

-- what bytes of a script give, where one that breaks no rule gives this
abbrev pub ScriptGives : (Script → Reply → Type 0) → List ℕ → Reply → Type 0
ScriptGives Accepted bytes reply = ((p : Script) × script.IsGood bytes p × Accepted p reply) ⊎ ScriptRefusal bytes reply

-- ## What a file is

abbrev pub begins_with : List ℕ → List ℕ → Bool
begins_with [] bytes = true
begins_with (m ∷ ms) [] = false
begins_with (m ∷ ms) (b ∷ bytes) = nat_eq b m && begins_with ms bytes

-- modules begin so
abbrev pub is_module : List ℕ → Bool
is_module = begins_with (0 ∷ 97 ∷ 115 ∷ 109 ∷ [])

-- to an action on modules and scripts
abbrev pub module_or_script : Bool → FileKind
module_or_script true = file.Module
module_or_script false = file.Script

-- by which files are taken, and whether this one begins as modules do
abbrev pub kind_among : Takes → Bool → FileKind
kind_among takes.ModulesAndScripts begins = module_or_script begins
kind_among takes.Modules begins = file.Module
kind_among takes.Texts begins = file.Text

-- what bytes are to what takes such files
abbrev pub kind_of : Takes → List ℕ → FileKind
kind_of t bytes = kind_among t (is_module bytes)

-- what an action gives of bytes of a kind
abbrev pub GivenAs : FileKind → Action → List ℕ → Reply → Type 0
GivenAs file.Module action bytes = BytesGive (gives action) bytes
GivenAs file.Script action bytes = ScriptGives (script_gives action) bytes
GivenAs file.Text action bytes = TextGives (gives action) bytes

abbrev pub ActionGives : Action → List ℕ → Reply → Type 0
ActionGives action bytes = GivenAs (kind_of (taken_by action) bytes) action bytes

-- ## Files

-- what bytes give, where they are not too many, and else this
abbrev pub OnBytesOr : Reply → (List ℕ → Reply → Type 0) → List ℕ → Reply → Type 0
OnBytesOr too_many Gives bytes reply = ((length bytes ≤ input_limit) × Gives bytes reply)
    ⊎ ((input_limit < length bytes) × (reply ≡ too_many))

abbrev pub OnBytes : (List ℕ → Reply → Type 0) → List ℕ → Reply → Type 0
OnBytes = OnBytesOr limit_input

-- what a file gives, by what is told of its name; where nothing is told, it may hold any bytes
abbrev pub OnFileOr : Reply → Known → (List ℕ → Reply → Type 0) → Reply → Type 0
OnFileOr too_many untold Gives reply = (bytes : List ℕ) × OnBytesOr too_many Gives bytes reply
OnFileOr too_many missing Gives reply = reply ≡ read_fault
OnFileOr too_many (holds bytes) Gives reply = OnBytesOr too_many Gives bytes reply

abbrev pub OnFile : Known → (List ℕ → Reply → Type 0) → Reply → Type 0
OnFile = OnFileOr limit_input

-- ## Several files

-- a refusal of file f
abbrev pub file_text : ℕ → List ℕ
file_text f = count_text (codes "file ") f ++ codes " "

abbrev pub in_file : ℕ → Reply → Reply
in_file f reply = record reply { err = file_text f ++ reply.err }

-- nothing is there for import i
abbrev pub no_import : ℕ → Reply
no_import i = refusal (codes "no import " ++ decimal i) 4

-- what the run of linked files gives of at most so many steps, by where it begins
abbrev pub linked_reply : ℕ → Bool → StartedL → Reply
linked_reply steps stats (linked.Ready p s t) = run_reply trapped stats (Run p s t steps)
linked_reply steps stats linked.NoEntry = no_entry
linked_reply steps stats (linked.NoImport f i) = in_file f (no_import i)
linked_reply steps stats (linked.Exceeds f name) = in_file f (limit (start_limit_text name))
linked_reply steps stats (linked.StartTraps f t) = in_file f (trapped t)

-- so some modules give, by which of their types are equivalent and which match which
abbrev pub LinkGives : ℕ → Bool → List Module → Reply → Type 0
LinkGives steps stats ms reply = (tests : TypeTests) × AreTestsOf (definitions ms).types tests × (reply ≡ linked_reply steps stats (linked.StartL tests ms))

-- what bytes of file f give, where a valid module gives this with the files behind it
abbrev pub FileGives : ℕ → (Module → Reply → Type 0) → List ℕ → Reply → Type 0
FileGives f Next bytes reply = ((m : Module) × Spells bytes m × Within m × Valid m × Next m reply)
    ⊎ ((refused : Reply) × BytesRefusal bytes refused × (reply ≡ in_file f refused))

-- what the files of these names give, behind modules that were accepted
abbrev pub FilesGive : ℕ → Bool → List Module → List (List ℕ) → (List ℕ → Known) → Reply → Type 0
FilesGive steps stats ms [] files reply = LinkGives steps stats ms reply
FilesGive steps stats ms (name ∷ names) files reply =
    OnFileOr (in_file (length ms) limit_input) (files name) (FileGives (length ms) (λ m. FilesGive steps stats (ms ++ m ∷ []) names files)) reply

-- so many files are linked at most
abbrev pub most_files : ℕ
most_files = 16

abbrev pub limit_files : Reply
limit_files = limit (codes "limit files")

-- what some names give
abbrev pub NamesGive : ℕ → Bool → List (List ℕ) → (List ℕ → Known) → Reply → Type 0
NamesGive steps stats names files reply = ((length names ≤ most_files) × FilesGive steps stats [] names files reply)
    ⊎ ((most_files < length names) × (reply ≡ limit_files))

-- ## Audits of traces

-- a file that is no trace, by the line with which it goes wrong; one of whose events is unsound; and one that says something else than
-- the run
abbrev pub no_trace : ℕ → Reply
no_trace l = refusal (codes "trace " ++ decimal l) 13

abbrev pub unsound : ℕ → Reply
unsound l = refusal (codes "unsound " ++ decimal l) 13

abbrev pub differs : ℕ → Reply
differs l = refusal (codes "differs " ++ decimal l) 13

-- how many continuations were made, are consumed and live
abbrev pub audit_line : ℕ → ℕ → ℕ → List ℕ
audit_line made consumed live = line ((count_text (codes "ok trace made ") made ++ count_text (codes " consumed ") consumed) ++ count_text (codes " live ") live)

-- those of a store
abbrev pub ok_trace : Store → Reply
ok_trace s = record { out = audit_line (made s) (consumed s) (live s); err = []; status = 0 }

-- what x gives whose events are one-shot, where the run has the trace y and leads to this store
abbrev pub ComparedGives : Trace → Store → Trace → Reply → Type 0
ComparedGives y s x reply = ((l : ℕ) × DifferAt x y l × (reply ≡ differs l)) ⊎ ((x ≡ y) × (reply ≡ ok_trace s))

-- what x gives
abbrev pub JudgedGives : Trace → Store → Trace → Reply → Type 0
JudgedGives y s x reply = ((l : ℕ) × IsUnsoundAt x.events l × (reply ≡ unsound l)) ⊎ (IsOneShot (uses_of x.events) × ComparedGives y s x reply)

-- what bytes give that are to be the trace of the run of at most so many steps
abbrev pub AuditGives : ℕ → Program → Store → Term → List ℕ → Reply → Type 0
AuditGives steps p s t bytes reply = ((l : ℕ) × IsWrongTraceAt bytes l × (reply ≡ no_trace l))
    ⊎ ((x : Trace) × IsTextOf x bytes × JudgedGives (trace_of p s t steps) (Run p s t steps).store x reply)

-- what a module gives with a file that is to be its trace
abbrev pub AuditedGives : ℕ → Known → Module → Reply → Type 0
AuditedGives steps trace = ProgramGives trapped (λ p s t. OnFile trace (AuditGives steps p s t))

-- ## The answer

-- how many steps a generated script is run for
abbrev pub generated_steps : ℕ
generated_steps = 10000000000

abbrev pub Answer : Line → (List ℕ → Known) → Reply → Type 0
Answer (on_file name action) files = OnFile (files name) (ActionGives action)
Answer (on_files names steps stats) files = NamesGive steps stats names files
Answer (audited name trace steps) files = OnFile (files name) (BytesGive (AuditedGives steps (files trace)))
Answer (generated n) files = ActionGives (RunFor generated_steps false) (generated_script n)
Answer bad files = λ reply. reply ≡ usage

-- the line has an answer with this status
abbrev pub HasStatus : Line → (List ℕ → Known) → ℕ → Type 0
HasStatus words files status = (reply : Reply) × Answer words files reply × (reply.status ≡ status)
