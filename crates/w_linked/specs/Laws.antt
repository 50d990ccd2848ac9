-- What holds of runs of several files.
use Rattle.std.specs.Prelude.{◌≡◌, ◌≢◌, ◌↔◌, ℕ, ◌+◌, IsTrue, All, List, [], ◌∷◌, ◌++◌, map, length, Some}
use Rattle.w_types.specs.declared.types.FuncType.{FuncType}
use Rattle.w_types.specs.declared.types.RecGroup.{RecGroup}
use Rattle.lists.specs.Rows.{row_of}
use Rattle.w_syntax.specs.Functions.{type_of_function, code_of_function}
use Rattle.w_syntax.specs.declared.module.Func.{Func}
use Rattle.w_syntax.specs.declared.module.Module.{Module}
use Rattle.w_canon.specs.Equivalence.{SameIndex}
use Rattle.w_canon.specs.Matching.{IndexMatches}
use Rattle.w_rules.specs.Facts.{height_of}
use Rattle.w_rules.specs.Matching.{known}
use Rattle.w_rules.specs.Peak.{depth}
use Rattle.w_rules.specs.Spaces.{context_of}
use Rattle.w_rules.specs.Valid.{Valid}
use Rattle.w_tables.specs.declared.entries.Printer.{Printer}
use Rattle.w_reduce.specs.Imports.{All as all_hosts, printers_of}
use Rattle.w_reduce.specs.Program.{Program, IsProgram}
use Rattle.w_reduce.specs.Run.{NoRule, Run}
use Rattle.w_reduce.specs.Start as start
use Rattle.w_reduce.specs.Store.{Store}
use Rattle.w_reduce.specs.Terms.{Term}
use Rattle.w_rules.specs.Sound.{Sound}
use Rattle.w_typed.specs.Configurations.{Typed}
use Rattle.w_link.specs.Fits.{Fits}
use Rattle.w_link.specs.Items.{resolved_func}
use Rattle.w_linked.specs.Definitions.{definitions, hosts}
use Rattle.w_linked.specs.Imports.{TypeTests, Placed}
use Rattle.w_linked.specs.Linked.{at_first, placed, placing, of_placed, linked}
use Rattle.w_linked.specs.Starting.{StartedL, Ready, NoEntry, NoImport, Exceeds, StartTraps, program_of, StartL, RunL}

-- they tell which types of these groups are equivalent, and which match which
pub record AreTestsOf (gs : List RecGroup) (tests : TypeTests) : Type 0 where
  pub same : (i j : ℕ) → IsTrue (tests.same i j) ↔ SameIndex gs i j
  pub matches : (i j : ℕ) → IsTrue (tests.matches i j) ↔ IndexMatches gs i j

-- each file is valid
abbrev pub AreValid : List Module → Type 0
AreValid ms = All Valid ms

-- the indices of each file stand for addresses where what is there fits
abbrev pub FilesFit : Type 0
FilesFit = (tests : TypeTests) (ms : List Module) (ps : List Placed) → AreTestsOf (definitions ms).types tests → AreValid ms
    → placing tests (definitions ms) [] (at_first (hosts ms)) ms ≡ placed ps → All (λ (p : Placed). Fits p.instance (context_of p.source) (context_of (linked ps))) ps

-- the module that they make is what runs ask for
abbrev pub LinkedIsSound : Type 0
LinkedIsSound = (tests : TypeTests) (ms : List Module) (ps : List Placed) → AreTestsOf (definitions ms).types tests → AreValid ms
    → placing tests (definitions ms) [] (at_first (hosts ms)) ms ≡ placed ps → Sound (linked ps)

-- code j of all, of this type, is a code of a file, and as high and as deep
pub record CodeFacts (ps : List Placed) (j : ℕ) (t : FuncType) (f : Func) : Type 0 where
  pub front : List Placed
  pub file : Placed
  pub back : List Placed
  pub index : ℕ
  pub is : ps ≡ front ++ file ∷ back
  pub counts : j ≡ length (of_placed (λ i m. map (resolved_func i) m.codes) front) + index
  pub type : FuncType
  pub func : Func
  pub has_type : type_of_function file.source index ≡ Some type
  pub has_code : code_of_function file.source index ≡ Some func
  pub height : height_of (linked ps) t f ≡ height_of file.source type func
  pub depth_is : depth f.body ≡ depth func.body

abbrev pub CodesAreOfFiles : Type 0
CodesAreOfFiles = (tests : TypeTests) (ms : List Module) (ps : List Placed) → AreTestsOf (definitions ms).types tests → AreValid ms
    → placing tests (definitions ms) [] (at_first (hosts ms)) ms ≡ placed ps → (j : ℕ) (t : FuncType) (f : Func)
    → type_of_function (linked ps) j ≡ Some t → code_of_function (linked ps) j ≡ Some f → CodeFacts ps j t f

-- where a run of files begins, the configuration is typed
pub record LinkedStartsTyped (p : Program) (s : Store) (t : Term) : Type 0 where
  pub sound : Sound p.source
  pub tells : IsProgram p
  pub type : FuncType
  pub typed : Typed p.source [] (known (row_of type.results)) s t

abbrev pub LinkedStartsAreTyped : Type 0
LinkedStartsAreTyped = (tests : TypeTests) (ms : List Module) (p : Program) (s : Store) (t : Term) → AreTestsOf (definitions ms).types tests → AreValid ms
    → StartL tests ms ≡ Ready p s t → LinkedStartsTyped p s t

-- so none is stuck
abbrev pub LinkedRunsGoOn : Type 0
LinkedRunsGoOn = (tests : TypeTests) (ms : List Module) (p : Program) (s : Store) (t : Term) → AreTestsOf (definitions ms).types tests → AreValid ms
    → StartL tests ms ≡ Ready p s t → (n : ℕ) → (Run p s t n).outcome ≢ NoRule

-- ## One file whose imports are all functions of the host

-- where a module starts by itself, as the start of one file
abbrev pub alone : Program → start.Started → StartedL
alone p (start.Ready s t) = Ready p s t
alone p (start.NoPrinter i) = NoImport 0 i
alone p start.NoEntry = NoEntry
alone p (start.Exceeds l) = Exceeds 0 l
alone p (start.StartTraps t) = StartTraps 0 t

-- it starts as it does by itself, or doesn't for the same reason
abbrev pub OneFileStarts : Type 0
OneFileStarts = (tests : TypeTests) (m : Module) (hs : List Printer) → printers_of m m.imports ≡ all_hosts hs
    → StartL tests (m ∷ []) ≡ alone (program_of tests m) (start.Start (program_of tests m))

-- its run is the file's
abbrev pub OneFileRuns : Type 0
OneFileRuns = (tests : TypeTests) (m : Module) (hs : List Printer) (p : Program) (s : Store) (t : Term) → AreTestsOf m.types tests → Valid m
    → printers_of m m.imports ≡ all_hosts hs → StartL tests (m ∷ []) ≡ Ready p s t → (p.source ≡ m) × (start.Start p ≡ start.Ready s t)

-- so `RunL` of one file is its `Run`
abbrev pub OneFileRunsAlone : Type 0
OneFileRunsAlone = (tests : TypeTests) (p : Program) (hs : List Printer) (s : Store) (t : Term) → AreTestsOf p.source.types tests → IsProgram p
    → printers_of p.source p.source.imports ≡ all_hosts hs → start.Start p ≡ start.Ready s t → (n : ℕ) → RunL (StartL tests (p.source ∷ [])) n ≡ Some (Run p s t n)
