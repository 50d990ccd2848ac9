-- Each line has an answer, for whatever is told of the files: there can't be none.
use Rattle.std.proofs.Common.{◌≡◌, ◌⊎◌, ◌≤◌, ◌<◌, ◌+◌, inl, inr, refl, sym, ◌∙◌, subst, List, [], ◌∷◌, ◌++◌, ℕ, zero, suc, Bool, false, length, Result, Ok, Err, arith}
use Rattle.w_outside.specs.Outside.{Known, untold, missing, holds}
use Rattle.w_syntax.specs.declared.module.Module.{Module}
use Rattle.w_decode.specs.declared.fault.DecodeFault.{DecodeFault}
use Rattle.w_decode.specs.Faults.{HasFault}
use Rattle.w_decode.specs.Reading.{decoded}
use Rattle.w_decode.proofs.ReadingExact.{spelled_exactly, fault_exactly}
use Rattle.w_syntax.specs.Spells.{Spells}
use Rattle.w_rules.specs.declared.limits.SizeLimit.TheVariants.{Types, Params, Locals}
use Rattle.w_rules.specs.Limits.{Within, Passes}
use Rattle.w_rules.specs.Valid.{Item, TypeItem, ImportItem, TableItem, MemoryItem, TagItem, GlobalItem, ElementItem, DataItem, StartItem, ExportItem, FunctionItem, ItemValid, IsItem, place_of, Before, Valid, IsInvalidAt}
use Rattle.w_types.specs.Groups.{types_of}
use Rattle.std.specs.Prelude.{nat_eq, cond}
use Rattle.std.proofs.lemmas.Bool.{cases_lt}
use Rattle.w_items.proofs.Items.{item_at, item_at-place_of}
use Rattle.w_items.specs.declared.fault.ValidFault.{ValidFault}
use Rattle.w_items.specs.declared.fault.ValidFault.TheVariants as valid
use Rattle.s_judge.proofs.OneJudgement.{some_judgement}
use Rattle.s_judge.specs.Judgements as script
use Rattle.s_judge.specs.declared.fault.ScriptFault.{ScriptFault}
use Rattle.s_syntax.specs.declared.script.Script.{Script}
use Rattle.s_check.specs.Size.{Size, size_limit}
use Rattle.words.specs.declared.request.Action.{Action}
use Rattle.words.specs.Request.{taken_by}
use Rattle.words.specs.declared.request.Action.TheVariants.{Check, Run as RunFor, Build, Dump, Assemble, Trace}
use Rattle.words.specs.declared.request.Takes.TheVariants.{ModulesAndScripts}
use Rattle.s_code.specs.Lowered.{lowered}
use Rattle.s_generate.specs.Generated.{generated as generated_script}
use Rattle.words.specs.Line.{on_file as line_on_file, on_files, audited, generated, bad}
use Rattle.w_text.specs.Text.{Text}
use Rattle.replies.specs.declared.file_kind.FileKind.{FileKind}
use Rattle.replies.specs.declared.file_kind.FileKind.TheVariants as file
use Rattle.replies.specs.Answer.{Reply, HasModuleFault, OnFileOr, OnBytesOr, FileGives, FilesGive, NamesGive, LinkGives, in_file, limit_input, most_files, GivenOf, BytesGive, TextGives, NotSpelled, NoText, ScriptGives, GivenAs, kind_of, ActionGives, TrapReply, gives, script_gives, StartGives, ProgramGives, AuditGives, AuditedGives, RunGives, Compiled, trapped, faulted, built, generated_steps, input_limit, ok_script}
use Rattle.drive.specs.Laws.{SomeAnswer}
use Rattle.w_linked.specs.Definitions.{definitions}
use Rattle.w_reduce.specs.Program.{Program}
use Rattle.w_reduce.specs.Start.{Started, Ready, NoPrinter, NoEntry, Exceeds, StartTraps, Start}
use Rattle.w_reduce.specs.Store.{Store}
use Rattle.w_reduce.specs.Terms.{Term}
use Rattle.drive.proofs.Programs.{some_program, some_tests}
use Rattle.drive.proofs.AuditAnswers.{audited_total}
use Rattle.drive.proofs.TextsDecided.{text_or_wrong}
use Rattle.drive.proofs.WhatActionsGive.{takes_it}

-- there can't be no reply of which it holds
abbrev IsTotal : (Reply → Type 0) → Type 0
IsTotal Due = ((r : Reply) → Due r → ⊥) → ⊥

-- where a file that is too long gives this
module _ (too_long : Reply) (Gives : List ℕ → Reply → Type 0) where
  on_bytes : (bytes : List ℕ) → IsTotal (Gives bytes) → IsTotal (OnBytesOr too_long Gives bytes)
  on_bytes bytes total none =
      let not_long : input_limit < length bytes → ⊥ = λ h. none _ (inr (h, refl)) in
      let short : length bytes ≤ input_limit = omega arith in
      total (λ r gives. none r (inl (short, gives)))

  on_file : (known : Known) → ((bytes : List ℕ) → IsTotal (Gives bytes)) → IsTotal (OnFileOr too_long known Gives)
  on_file untold total none = on_bytes [] (total []) (λ r h. none r ([], h))
  on_file missing total none = none _ refl
  on_file (holds bytes) total none = on_bytes bytes (total bytes) none

-- ## A module that has no least item without a derivation has none at all

-- P holds below n + 1 where it holds below n and at n
below_suc : (P : ℕ → Type 0) (n : ℕ) → ((i : ℕ) → i < n → P i) → P n → (i : ℕ) → i < suc n → P i
below_suc P zero below at zero lt = at
below_suc P zero below at (suc i) lt = absurd (omega (arith, lt))
below_suc P (suc n) below at zero lt = below zero (omega arith)
below_suc P (suc n) below at (suc i) lt = below_suc (λ (j : ℕ). P (suc j)) n (λ j h. below (suc j) (omega (arith, h))) at i (omega (arith, lt))

-- where P can't fail first at any place, it can't fail below any
below_all : (P : ℕ → Type 0) → ((n : ℕ) → ((i : ℕ) → i < n → P i) → (P n → ⊥) → ⊥) → (n : ℕ) → (((i : ℕ) → i < n → P i) → ⊥) → ⊥
below_all P first zero k = k (λ i lt. absurd (omega (arith, lt)))
below_all P first (suc n) k = below_all P first n (λ below. first n below (λ at. k (below_suc P n below at)))

-- item x, where it is one, has a derivation
abbrev IsFine : Module → Item → Type 0
IsFine m x = IsItem m x → ItemValid m x

least_invalid : (m : Module) (x : Item) → ((y : Item) → Before y x → IsFine m y) → (IsInvalidAt m x → ⊥) → (IsFine m x → ⊥) → ⊥
least_invalid m x below none k = k (λ is. absurd (none (record { item = is; invalid = λ t. k (λ _. t); least = λ y there before. below y before there })))

-- how many places there are for a kind
abbrev places : Module → ℕ → ℕ
places m k =
    cond (nat_eq k 0) (length (types_of m.types))
    (cond (nat_eq k 1) (length m.imports)
    (cond (nat_eq k 2) (length m.tables)
    (cond (nat_eq k 3) (1)
    (cond (nat_eq k 4) (length m.tags)
    (cond (nat_eq k 5) (length m.globals)
    (cond (nat_eq k 6) (length m.elements)
    (cond (nat_eq k 7) (length m.datas)
    (cond (nat_eq k 8) (1)
    (cond (nat_eq k 9) (length m.exports)
    (length m.functions + length m.codes))))))))))

kind_is : (y : Item) → y ≡ item_at (place_of y).0 (place_of y).1
kind_is y = sym (item_at-place_of y)

abbrev EachKind : (ℕ → Type 0) → Type 0
EachKind Q = Q 0 × Q 1 × Q 2 × Q 3 × Q 4 × Q 5 × Q 6 × Q 7 × Q 8 × Q 9 × Q 10

by_kind : (Q : ℕ → Type 0) → EachKind Q → (k : ℕ) → k < 11 → Q k
by_kind Q q zero lt = q.0
by_kind Q q (suc zero) lt = q.1
by_kind Q q (suc (suc zero)) lt = q.2
by_kind Q q (suc (suc (suc zero))) lt = q.3
by_kind Q q (suc (suc (suc (suc zero)))) lt = q.4
by_kind Q q (suc (suc (suc (suc (suc zero))))) lt = q.5
by_kind Q q (suc (suc (suc (suc (suc (suc zero)))))) lt = q.6
by_kind Q q (suc (suc (suc (suc (suc (suc (suc zero))))))) lt = q.7
by_kind Q q (suc (suc (suc (suc (suc (suc (suc (suc zero)))))))) lt = q.8
by_kind Q q (suc (suc (suc (suc (suc (suc (suc (suc (suc zero))))))))) lt = q.9
by_kind Q q (suc (suc (suc (suc (suc (suc (suc (suc (suc (suc zero)))))))))) lt = q.10
by_kind Q q (suc (suc (suc (suc (suc (suc (suc (suc (suc (suc (suc k))))))))))) lt = absurd (omega (arith, lt))

kind_below : (y : Item) → (place_of y).0 < 11
kind_below (TypeItem i) = omega arith
kind_below (ImportItem i) = omega arith
kind_below (TableItem i) = omega arith
kind_below MemoryItem = omega arith
kind_below (TagItem i) = omega arith
kind_below (GlobalItem i) = omega arith
kind_below (ElementItem i) = omega arith
kind_below (DataItem i) = omega arith
kind_below StartItem = omega arith
kind_below (ExportItem i) = omega arith
kind_below (FunctionItem i) = omega arith

is_below : (m : Module) (i : ℕ) → IsItem m (FunctionItem i) → i < length m.functions + length m.codes
is_below m i (inl h) = omega (arith, h)
is_below m i (inr h) = omega (arith, h)

-- an item of the kind k at the place i stands there in the order
abbrev StandsAt : ℕ → Type 0
StandsAt k = (i : ℕ) → ((place_of (item_at k i)).0 ≡ k) × ((place_of (item_at k i)).1 ≤ i)

stands_at : (k : ℕ) → k < 11 → StandsAt k
stands_at = by_kind StandsAt (λ i. (refl, omega arith), λ i. (refl, omega arith), λ i. (refl, omega arith), λ i. (refl, omega arith), λ i. (refl, omega arith), λ i. (refl, omega arith), λ i. (refl, omega arith), λ i. (refl, omega arith), λ i. (refl, omega arith), λ i. (refl, omega arith), λ i. (refl, omega arith))

-- items are fine where they are fine at the places of their kind
abbrev IsEnough : Module → ℕ → Type 0
IsEnough m k = ((i : ℕ) → i < places m k → IsFine m (item_at k i)) → (i : ℕ) → IsFine m (item_at k i)

is_enough : (m : Module) (k : ℕ) → k < 11 → IsEnough m k
is_enough m = by_kind (IsEnough m) (
  λ h i is. h i is is,
  λ h i is. h i is is,
  λ h i is. h i is is,
  λ h i is. h 0 (omega arith) is,
  λ h i is. h i is is,
  λ h i is. h i is is,
  λ h i is. h i is is,
  λ h i is. h i is is,
  λ h i is. h 0 (omega arith) is,
  λ h i is. h i is is,
  λ h i is. h i (is_below m i is) is,
)

before_is_fine : (m : Module) (k n : ℕ) → k < 11 → ((j : ℕ) → j < k → j < 11 → (i : ℕ) → IsFine m (item_at j i)) → ((i : ℕ) → i < n → IsFine m (item_at k i)) → (y : Item) → Before y (item_at k n) → IsFine m y
before_is_fine m k n lt lower below y (inl h) =
    let stands = stands_at k lt n in
    subst (IsFine m) (sym (kind_is y)) (lower (place_of y).0 (omega (arith, h, stands.0)) (kind_below y) (place_of y).1)
before_is_fine m k n lt lower below y (inr h) =
    let stands = stands_at k lt n in
    let same : k ≡ (place_of y).0 = sym stands.0 ∙ sym h.0 in
    subst (IsFine m) (sym (kind_is y)) (subst (λ (j : ℕ). IsFine m (item_at j (place_of y).1)) same (below (place_of y).1 (omega (arith, h.1, stands.1))))

kind_fine : (m : Module) → ((x : Item) → IsInvalidAt m x → ⊥) → (k : ℕ) → k < 11 → ((j : ℕ) → j < k → j < 11 → (i : ℕ) → IsFine m (item_at j i)) → (((i : ℕ) → IsFine m (item_at k i)) → ⊥) → ⊥
kind_fine m none k lt lower never =
    below_all (λ (i : ℕ). IsFine m (item_at k i)) (λ n below. least_invalid m (item_at k n) (before_is_fine m k n lt lower below) (none (item_at k n))) (places m k)
    (λ fine. never (is_enough m k lt fine))

any_kind_fine : (m : Module) → ((x : Item) → IsInvalidAt m x → ⊥) → (k : ℕ) → (k < 11) ⊎ (11 ≤ k) → ((j : ℕ) → j < k → j < 11 → (i : ℕ) → IsFine m (item_at j i)) → ((k < 11 → (i : ℕ) → IsFine m (item_at k i)) → ⊥) → ⊥
any_kind_fine m none k (inl lt) lower never = kind_fine m none k lt lower (λ fine. never (λ _. fine))
any_kind_fine m none k (inr le) lower never = never (λ lt. absurd (omega (arith, lt, le)))

valid_or_not : (m : Module) → (Valid m → ⊥) → ((x : Item) → IsInvalidAt m x → ⊥) → ⊥
valid_or_not m never none =
    below_all (λ (k : ℕ). k < 11 → (i : ℕ) → IsFine m (item_at k i)) (λ k lower. any_kind_fine m none k (cases_lt k 11) lower) 11
    (λ fine. never (λ y. subst (IsFine m) (sym (kind_is y)) (fine (place_of y).0 (kind_below y) (kind_below y) (place_of y).1)))

within_or_not : (m : Module) → (Within m → ⊥) → (Passes m Types → ⊥) → (Passes m Params → ⊥) → (Passes m Locals → ⊥) → ⊥
within_or_not m never types params locals =
    types (λ t. params (t, (λ p. locals (t, p, (λ l. never (record { types = t; params = p; locals = l }))))))

-- a module is accepted, or has a fault
module_total : (m : Module) → ((Within m × Valid m) → ⊥) → ((fault : ValidFault) → HasModuleFault m fault → ⊥) → ⊥
module_total m never none =
    within_or_not m (λ w. valid_or_not m (λ v. never (w, v)) (no_item w))
    (λ h. none (valid.Limit Types) (λ e. absurd (cc), h)) (λ h. none (valid.Limit Params) (λ e. absurd (cc), h)) (λ h. none (valid.Limit Locals) (λ e. absurd (cc), h))
  where
    no_item : Within m → (x : Item) → IsInvalidAt m x → ⊥
    no_item w (TypeItem i) h = none (valid.TypeAt i) (λ e. absurd (cc), (w, h))
    no_item w (ImportItem i) h = none (valid.Import i) (λ e. absurd (cc), (w, h))
    no_item w (TableItem i) h = none (valid.Table i) (λ e. absurd (cc), (w, h))
    no_item w MemoryItem h = none valid.Memory (λ e. absurd (cc), (w, h))
    no_item w (TagItem i) h = none (valid.Tag i) (λ e. absurd (cc), (w, h))
    no_item w (GlobalItem i) h = none (valid.Global i) (λ e. absurd (cc), (w, h))
    no_item w (ElementItem i) h = none (valid.Element i) (λ e. absurd (cc), (w, h))
    no_item w (DataItem i) h = none (valid.Data i) (λ e. absurd (cc), (w, h))
    no_item w StartItem h = none valid.Start (λ e. absurd (cc), (w, h))
    no_item w (ExportItem i) h = none (valid.Export i) (λ e. absurd (cc), (w, h))
    no_item w (FunctionItem i) h = none (valid.Function i) (λ e. absurd (cc), (w, h))

-- ## Bytes

-- bytes spell a module, or have a fault
spelled_or_not : (bytes : List ℕ) → ((m : Module) × Spells bytes m) ⊎ ((fault : DecodeFault) × HasFault bytes fault)
spelled_or_not bytes = by_reading (decoded bytes) refl
  where
    by_reading : (r : Result Module DecodeFault) → decoded bytes ≡ r → ((m : Module) × Spells bytes m) ⊎ ((fault : DecodeFault) × HasFault bytes fault)
    by_reading (Ok m) e = inl (m, (spelled_exactly bytes m).0 e)
    by_reading (Err fault) e = inr (fault, (fault_exactly bytes fault).0 e)

-- Reads and NoModule can't both hold of nothing
abbrev HasOne : (Module → Type 0) → (Reply → Type 0) → Type 0
HasOne Reads NoModule = ((m : Module) → Reads m → ⊥) → ((r : Reply) → NoModule r → ⊥) → ⊥

given_total : (Reads : Module → Type 0) (NoModule : Reply → Type 0) → HasOne Reads NoModule → (Accepted : Module → Reply → Type 0) → ((m : Module) → IsTotal (Accepted m)) → IsTotal (GivenOf Reads NoModule Accepted)
given_total Reads NoModule has Accepted total none =
    has (λ m reads. module_total m (λ ok. total m (λ r gives. none r (inl (m, reads, ok.0, ok.1, gives)))) (λ fault is. none _ (inr (inl (m, reads, (fault, is, refl))))))
    (λ r no. none r (inr (inr no)))

bytes_total : (Accepted : Module → Reply → Type 0) → ((m : Module) → IsTotal (Accepted m)) → (bytes : List ℕ) → IsTotal (BytesGive Accepted bytes)
bytes_total Accepted total bytes = given_total (Spells bytes) (NotSpelled bytes) has Accepted total
  where
    has : HasOne (Spells bytes) (NotSpelled bytes)
    has never none = elim (spelled_or_not bytes) [ inl h ↦ never h.0 h.1 | inr h ↦ none _ (h.0, h.1, refl) ]

text_total : (Accepted : Module → Reply → Type 0) → ((m : Module) → IsTotal (Accepted m)) → (bytes : List ℕ) → IsTotal (TextGives Accepted bytes)
text_total Accepted total bytes = given_total (Text bytes) (NoText bytes) has Accepted total
  where
    has : HasOne (Text bytes) (NoText bytes)
    has never none = elim (text_or_wrong bytes) [ inl h ↦ never h.0 h.1 | inr h ↦ none _ (h.0, h.1, refl) ]

start_total : (say : TrapReply) (OfRun : Store → Term → Reply → Type 0) → ((s : Store) (t : Term) → IsTotal (OfRun s t)) → (o : Started) → IsTotal (StartGives say OfRun o)
start_total say OfRun total (Ready s t) none = total s t none
start_total say OfRun total (NoPrinter i) none = none _ refl
start_total say OfRun total NoEntry none = none _ refl
start_total say OfRun total (Exceeds name) none = none _ refl
start_total say OfRun total (StartTraps t) none = none _ refl

program_total : (say : TrapReply) (OfRun : Program → Store → Term → Reply → Type 0) → ((p : Program) (s : Store) (t : Term) → IsTotal (OfRun p s t)) → (m : Module) → IsTotal (ProgramGives say OfRun m)
program_total say OfRun total m none = some_program m (λ p source is. start_total say (OfRun p) (total p) (Start p) (λ r h. none r (p, source, is, h)))

some_run : (say : TrapReply) (steps : ℕ) (stats : Bool) (m : Module) → IsTotal (RunGives say steps stats m)
some_run say steps stats m = program_total say _ (λ p s t none. none _ refl) m

some_given : (action : Action) (m : Module) → IsTotal (gives action m)
some_given Check m none = none _ refl
some_given (RunFor steps stats) m none = some_run trapped steps stats m none
some_given Build m none = none _ refl
some_given Dump m none = none _ refl
some_given Assemble m none = none _ refl
some_given (Trace steps) m none = program_total trapped _ (λ p s t none. none _ refl) m none

-- ## Scripts

compiled_total : (Accepted : Module → Reply → Type 0) → ((m : Module) → IsTotal (Accepted m)) → (p : Script) → IsTotal (Compiled Accepted p)
compiled_total Accepted total p none = elim (cases_lt size_limit (Size p)) [
  | inl large ↦ none _ (inr (large, refl))
  | inr small ↦ total (lowered p) (λ r h. none r (inl (small, h)))
]

-- the action takes scripts
some_script_given : (action : Action) → taken_by action ≡ ModulesAndScripts → (p : Script) → IsTotal (script_gives action p)
some_script_given Check takes p none = compiled_total (λ m reply. reply ≡ ok_script) (λ m none. none _ refl) p none
some_script_given (RunFor steps stats) takes p none = compiled_total (RunGives (faulted p) steps false) (some_run (faulted p) steps false) p none
some_script_given Build takes p none = compiled_total (λ m reply. reply ≡ built m) (λ m none. none _ refl) p none
some_script_given Dump takes p none = absurd cc
some_script_given Assemble takes p none = absurd cc
some_script_given (Trace steps) takes p none = absurd cc

script_total : (Accepted : Script → Reply → Type 0) → ((p : Script) → IsTotal (Accepted p)) → (bytes : List ℕ) → IsTotal (ScriptGives Accepted bytes)
script_total Accepted total bytes none = let j = some_judgement bytes in by j.0 j.1
  where
    by : (r : Result Script ScriptFault) → script.Means bytes r → ⊥
    by (Ok p) m = total p (λ r h. none r (inl (p, m, h)))
    by (Err fault) m = none _ (inr (fault, m, refl))

-- ## What a file is

some_as : (kind : FileKind) (action : Action) (bytes : List ℕ) → kind_of (taken_by action) bytes ≡ kind → IsTotal (GivenAs kind action bytes)
some_as file.Module action bytes e = bytes_total (gives action) (some_given action) bytes
some_as file.Script action bytes e = script_total (script_gives action) (some_script_given action (takes_it action bytes e)) bytes
some_as file.Text action bytes e = text_total (gives action) (some_given action) bytes

some_done : (action : Action) (bytes : List ℕ) → IsTotal (ActionGives action bytes)
some_done action bytes = some_as (kind_of (taken_by action) bytes) action bytes refl

-- ## Several files

linked_total : (steps : ℕ) (stats : Bool) (ms : List Module) → IsTotal (LinkGives steps stats ms)
linked_total steps stats ms none = some_tests (definitions ms).types (λ t tells. none _ (t, tells, refl))

file_total : (f : ℕ) (Next : Module → Reply → Type 0) → ((m : Module) → IsTotal (Next m)) → (bytes : List ℕ) → IsTotal (FileGives f Next bytes)
file_total f Next total bytes none = bytes_total Next total bytes by
  where
    by : (r : Reply) → BytesGive Next bytes r → ⊥
    by r (inl h) = none r (inl h)
    by r (inr h) = none _ (inr (r, h, refl))

files_total : (steps : ℕ) (stats : Bool) (files : List ℕ → Known) (names : List (List ℕ)) (ms : List Module) → IsTotal (FilesGive steps stats ms names files)
files_total steps stats files [] ms none = linked_total steps stats ms none
files_total steps stats files (name ∷ names) ms none =
    on_file (in_file (length ms) limit_input) (FileGives (length ms) (λ m. FilesGive steps stats (ms ++ m ∷ []) names files)) (files name)
    (file_total (length ms) (λ m. FilesGive steps stats (ms ++ m ∷ []) names files) (λ m. files_total steps stats files names (ms ++ m ∷ []))) none

names_total : (steps : ℕ) (stats : Bool) (files : List ℕ → Known) (names : List (List ℕ)) → IsTotal (NamesGive steps stats names files)
names_total steps stats files names none = elim (cases_lt most_files (length names)) [
  | inl many ↦ none _ (inr (many, refl))
  | inr few ↦ files_total steps stats files names [] (λ r h. none r (inl (few, h)))
]

-- ## Audits

audit_total : (steps : ℕ) (trace : Known) (m : Module) → IsTotal (AuditedGives steps trace m)
audit_total steps trace = program_total trapped _ (λ p s t. on_file limit_input (AuditGives steps p s t) trace (audited_total steps p s t))

-- ## Lines

pub some_answer : SomeAnswer
some_answer (line_on_file name action) files none = on_file limit_input (ActionGives action) (files name) (some_done action) none
some_answer (on_files names steps stats) files none = names_total steps stats files names none
some_answer (audited name trace steps) files none =
    on_file limit_input (BytesGive (AuditedGives steps (files trace))) (files name) (bytes_total (AuditedGives steps (files trace)) (audit_total steps (files trace))) none
some_answer (generated n) files none = some_done (RunFor generated_steps false) (generated_script n) none
some_answer bad files none = none _ refl
