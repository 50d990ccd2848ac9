-- Where a machine begins.
use Rattle.std.proofs.Common.{◌≡◌, ℕ, suc, ◌+◌, ◌≤◌, length, drop, get_or, drop-cons, List, [], ◌∷◌, ◌++◌, All, Option, Some, None, refl, sym, ap, subst, subst₂, ◌∙◌, arith}
use Rattle.std.proofs.lemmas.List.{map-append, drop_all}
use Rattle.std.proofs.lemmas.List.Elements.{All-nil, All-cons, All-head, All-tail, All-push}
use Rattle.std.specs.Prelude.{Box}
use Rattle.std.specs.declared.alloc.Global.{Global}
use Rattle.lists.specs.Rows.{Row, ε, row_of}
use Rattle.w_syntax.specs.Code.{Done}
use Rattle.w_syntax.specs.declared.module.Module.{Module}
use Rattle.w_canon.specs.declared.entry.Entry.{Entry}
use Rattle.w_canon.specs.IsClassesOf.{IsClassesOf}
use Rattle.w_rules.specs.Matching.{known}
use Rattle.w_rules.specs.Operands.{Operand}
use Rattle.w_rules.specs.Sound.{Sound}
use Rattle.w_rules.specs.Spaces.{functions_of}
use Rattle.w_rules.specs.Valid.{StartItem, StartValid}
use Rattle.w_tables.specs.Store as instances
use Rattle.w_segment.specs.declared.segment.Segment.{Segment}
use Rattle.w_segment.specs.Link.{Link, IsNew, top, one}
use Rattle.w_segment.specs.Shape.{Capacity, fresh_shape}
use Rattle.w_conts.specs.Conts.{Conts}
use Rattle.w_reduce.specs.Store.{Store}
use Rattle.w_reduce.specs.Terms.{Administrative, Invoke, Term}
use Rattle.w_reduce.specs.Program.{Program, IsProgram}
use Rattle.w_reduce.specs.Run.{state_at, Run}
use Rattle.w_reduce.specs.Start.{invokes, first_term, starts_of, start_term}
use Rattle.w_stands.specs.Code.{AllShort, AreNarrow}
use Rattle.w_stands.specs.Stands.{fresh}
use Rattle.w_stands.specs.Values.{store_of}
use Rattle.w_switching.specs.declared.stored.Stored.{Stored}
use Rattle.w_switching.specs.Standing.{only, nil}
use Rattle.w_typed.specs.Configurations.{Typed}
use Rattle.w_typed.specs.Stores.{StoreTyped}
use Rattle.w_typed.proofs.FirstConfigurations.{EntryAt, StartAt, entry_in_typed, first_term_typed, starts_typed}
use Rattle.w_configuration.specs.declared.configuration.Configuration.{Configuration as Parts}
use Rattle.w_configuration.specs.Parts.{parts}
use Rattle.w_configuration.specs.Standing.{RunsBefore, EndsWith, MayWait}
use Rattle.w_machine.specs.Beginning.{Origin, IsFirstStore, Begins, BeginsWith, BeginsAt}
use Rattle.w_machine.specs.Reached.{function_of, waiting_of, IsFresh, IsReachedAt, AreFirst, IsReached}
use Rattle.w_machine.proofs.FirstStores.{starts_at, first_store_once}
use Rattle.w_machine.proofs.NoReferences.{store_plain}
use Rattle.w_machine.proofs.OneMoreReduction.{program_by, is_program}
use Rattle.w_machine.proofs.RunsGoOn.{others_wait, last_next}

-- ## What a machine may begin with

-- what takes and gives nothing may run before main
runs_before : (m : Module) (starts : List ℕ) → All (StartAt m) starts → All (RunsBefore m) starts
runs_before m starts h k d lt = let s = h k d lt in record { type = s.type; has_type = s.has_type; no_params = s.no_params; no_results = s.no_results }

-- with functions of these types, and a first store that is typed, a machine may begin
pub may_begin : (m : Module) (u : instances.Store) (starts : List ℕ) (main : ℕ) → All (StartAt m) starts → EntryAt m main → StoreTyped m [] (store_of u)
    → ((p : Program) → p.source ≡ m → IsProgram p → IsFirstStore p (store_of u)) → BeginsAt m u starts main
may_begin m u starts main before entry typed store = record {
  store = store;
  before = runs_before m starts before;
  type = entry.type;
  has_type = entry.has_type;
  no_params = entry.no_params;
  typed = record { store = typed; term = first_term_typed m starts before main entry };
}

-- first terms with the same functions before main are of one main
one_main : (starts : List ℕ) {main other : ℕ} → invokes starts ++ Invoke main ∷ [] ≡ invokes starts ++ Invoke other ∷ [] → main ≡ other
one_main [] e = cc
one_main (a ∷ starts) {main = main} {other = other} e = let rest : invokes starts ++ Invoke main ∷ [] ≡ invokes starts ++ Invoke other ∷ [] = cc in one_main starts rest

-- the start function of a sound module takes nothing and gives nothing
start_there : (m : Module) → Sound m → (o : Option ℕ) → m.start ≡ o → All (StartAt m) (starts_of o)
start_there m sound None is = All-nil (StartAt m)
start_there m sound (Some a) is =
    let v : StartValid m = sound.items StartItem refl (rw is refl) in
    let same : v.function ≡ a = let b = v.is in cc in
    let start : StartAt m v.function = record { type = v.type; has_type = v.has_type; no_params = v.no_params; no_results = v.no_results } in
    All-cons (StartAt m) a [] (subst (StartAt m) same start) (All-nil (StartAt m))

-- so a machine may begin with the store and the main of a single file's start
pub file_may_begin : (m : Module) (es : List Entry) (u : instances.Store) (main : ℕ) → IsClassesOf m.types es → Sound m → BeginsWith m u main → BeginsAt m u (starts_of m.start) main
file_may_begin m es u main classes sound with_this =
    let p = program_by m es in
    let s = store_of u in
    let t = start_term m main in
    let first = starts_at p s t (with_this p refl) in
    let same : first.main ≡ main = one_main (starts_of m.start) (ap (λ (t : Term). t.rest.ahead) (sym first.term)) in
    may_begin m u (starts_of m.start) main (start_there m sound m.start refl) (subst (EntryAt m) same (entry_in_typed m m.exports first.main first.has_entry))
    (starts_typed p s t (is_program m es classes) sound (with_this p refl)).typed.store (λ q e program. (starts_at q s t (with_this q e)).store)

-- ## The first configuration

-- the first term invokes the function that runs first and then those that wait
first_invokes : (starts : List ℕ) (main f : ℕ) (fs : List ℕ) → f ∷ fs ≡ starts ++ main ∷ []
    → first_term starts main ≡ record { around = []; operands = ε; rest = record { ahead = Invoke f ∷ invokes fs; code = Done } }
first_invokes starts main f fs order =
    ap (λ (ahead : List Administrative). let t : Term = record { around = []; operands = ε; rest = record { ahead = ahead; code = Done } } in t)
    (sym (map-append (λ (a : ℕ). Invoke a) starts (main ∷ [])) ∙ ap invokes (sym order))

-- behind functions that run before main, main may wait
main_waits : (m : Module) (us : Row Operand) (starts : List ℕ) (main : ℕ) → All (RunsBefore m) starts → EndsWith m us main → MayWait m us (starts ++ main ∷ [])
main_waits m us [] main before ends = ends
main_waits m us (a ∷ []) main before ends = (All-head (RunsBefore m) a [] before, ends)
main_waits m us (a ∷ b ∷ starts) main before ends =
    (All-head (RunsBefore m) a (b ∷ starts) before, main_waits m us (b ∷ starts) main (All-tail (RunsBefore m) a (b ∷ starts) before) ends)

-- the parts that a run begins with
abbrev pub first_parts : instances.Store → ℕ → Capacity → Parts
first_parts u f c = parts u (one (fresh_shape f c) 0) (record { entries = []; spare = 0 })

-- the run begins where the parts stand
first_at : {from : Origin} {u : instances.Store} (f : ℕ) (fs : List ℕ) (c : Capacity) → AllShort from.source → AreNarrow from.source → BeginsAt from.source u from.starts from.main
    → f ∷ fs ≡ from.starts ++ from.main ∷ [] → (p : Program) (s₀ : Store) (t₀ : Term) → Begins from p s₀ t₀ → IsReachedAt from.source fs (first_parts u f c) 0 p (Run p s₀ t₀ 0)
first_at {from = from} {u = u} f fs c short narrow with_this order p s₀ t₀ begins =
    let m = from.source in
    let us : Row Operand = known (row_of with_this.type.results) in
    let store : s₀ ≡ store_of u = first_store_once p s₀ (store_of u) begins.store (with_this.store p begins.source begins.program) in
    let here = first_invokes from.starts from.main f fs order in
    let ends : EndsWith m us from.main = record { type = with_this.type; has_type = with_this.has_type; no_params = with_this.no_params; is = refl } in
    record {
      ks = [];
      t = record { around = []; operands = ε; rest = record { ahead = Invoke f ∷ invokes fs; code = Done } };
      stands = record {
        stand = record { source = begins.source; program = begins.program; short = short; narrow = narrow; term = only (fresh refl refl) refl; store = nil };
        results = us;
        arrows = [];
        typed = subst (λ (t : Term). Typed m [] us (store_of u) t) here with_this.typed;
        ends = others_wait m us f fs (subst (MayWait m us) (sym order) (main_waits m us from.starts from.main with_this.before ends));
        within = record { few_frames = omega arith; few_handles = omega arith; few_conts = omega arith };
        sound = record { references = (record { operands = tt; levels = tt }, tt); stored = tt; slots = omega arith };
        room = record { running = (tt, tt); stored = tt };
        held = store_plain u with_this.typed.store;
        done = λ e. let is = e.1 in absurd (cc);
      };
      is = ap (λ (s : Store). state_at p 0 [] s t₀) store ∙ ap (λ (t : Term). state_at p 0 [] (store_of u) t) (begins.term ∙ here);
    }

-- a machine begins
pub begun : {from : Origin} {n : Module} {functions : List ℕ} {u : instances.Store} {waiting : List (Box Segment Global)} (segment : Box Segment Global) (chain : List Link) (conts : Conts Stored)
    → n ≡ from.source → AllShort n → AreNarrow from.source → BeginsAt from.source u from.starts from.main → functions ≡ functions_of n
    → AreFirst from.starts from.main segment waiting → chain ≡ top segment.value ∷ [] → conts ≡ record { entries = []; spare = 0 }
    → IsReached from functions (parts u chain conts) waiting None 0 0 0
begun {from = from} {functions = functions} {u = u} {waiting = waiting} segment chain conts same short narrow with_this functions_are first is empty =
    let alone : chain ≡ one (fresh_shape first.function first.new.capacity) 0 = is ∙ ap (λ (l : List Link). top l ∷ []) first.new.is in
    subst₂ (λ (l : List Link) (c : Conts Stored). IsReached from functions (parts u l c) waiting None 0 0 0) (sym alone) (sym empty)
    (record {
      functions_are = functions_are ∙ ap functions_of same;
      fresh = first.fresh;
      bound = omega arith;
      usable = (omega arith, omega arith);
      started = λ p e program. (store_of u, with_this.store p e program);
      fewer = omega arith;
      reached = first_at first.function (waiting_of waiting) first.new.capacity (subst AllShort same short) narrow with_this first.order;
    })

-- ## The first segments

-- main alone
pub main_first : (starts : List ℕ) (main : ℕ) (segment : Box Segment Global) (waiting : List (Box Segment Global)) → waiting ≡ [] → IsNew main 0 segment.value
    → AreFirst (drop (length starts) starts) main segment waiting
main_first starts main segment waiting none new =
    subst₂ (λ (fs : List ℕ) (w : List (Box Segment Global)). AreFirst fs main segment w) (sym (drop_all (length starts) starts (omega arith))) (sym none)
    (record { function = main; new = new; fresh = All-nil IsFresh; order = refl })

-- where one more function runs first, the one that was first waits
pub one_more_first : {main : ℕ} {segment next : Box Segment Global} {waiting after : List (Box Segment Global)} (starts : List ℕ) (i n : ℕ) → i + 1 ≡ n → n ≤ length starts
    → AreFirst (drop n starts) main next waiting → IsNew (get_or starts i 0) 0 segment.value → after ≡ waiting ++ next ∷ [] → AreFirst (drop i starts) main segment after
one_more_first {main = main} {segment = segment} {next = next} {waiting = waiting} starts i n more few first new is =
    let f : ℕ = get_or starts i 0 in
    let func : function_of next ≡ first.function = ap (λ (l : List Link). (top l).shape.func) first.new.is in
    let suc_is : n ≡ suc i = omega (arith, more) in
    let front : drop i starts ≡ f ∷ drop n starts = drop-cons starts i 0 (omega (arith, more, few)) ∙ ap (λ (k : ℕ). f ∷ drop k starts) (sym suc_is) in
    subst₂ (λ (fs : List ℕ) (w : List (Box Segment Global)). AreFirst fs main segment w) (sym front) (sym is)
    (record {
      function = f;
      new = new;
      fresh = All-push IsFresh waiting next first.fresh (first.function, first.new.capacity, first.new.is);
      order = ap (λ (fs : List ℕ). f ∷ fs) (last_next waiting next ∙ ap (λ (g : ℕ). g ∷ waiting_of waiting) func ∙ first.order);
    })
