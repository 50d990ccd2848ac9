-- The locals that are set now and where each open block began, from one log of those that were set.
use Rattle.std.specs.Prelude.{◌≡◌, ℕ, ◌+◌, ◌<◌, ◌≤◌, ◌==◌, Bool, true, false, not, List, [], ◌∷◌, ◌++◌, map, length, take, slice_index_or, slice_get, slice_set, Option, Some, None}
use Rattle.std.specs.List.{list_any}
use Rattle.std.specs.Ordering.{nat_cmp}
use Rattle.std.specs.BTreeMap.{BTreeMap}
use Rattle.std.specs.BTreeMap as tree
use Rattle.w_types.specs.declared.types.ValType.{ValType}
use Rattle.w_syntax.specs.declared.locals.LocalRun.{LocalRun}
use Rattle.lists.specs.Rows.{ε, ◌▹◌}
use Rattle.w_rules.specs.Bodies.{types_of_runs}
use Rattle.w_rules.specs.InstructionTypes.{InstrType, fixed, untyped}
use Rattle.w_rules.specs.Spaces.{marked}
use Rattle.w_rules.specs.Bodies as bodies

-- ## The locals of a body

-- the parameters, and the runs of the other locals
pub record Declared : Type 0 where
  pub params : List ValType
  pub runs : List LocalRun

-- their types
abbrev pub types_in : Declared → List ValType
types_in d = d.params ++ types_of_runs d.runs

-- which of them are set where the body begins
abbrev pub first_in : Declared → List Bool
first_in d = bodies.set_first d.params d.runs

abbrev pub kind_of : LocalRun → ValType
kind_of r = r.kind

-- whether the locals of a run are set where the body begins
abbrev pub is_set_run : LocalRun → Bool
is_set_run r = bodies.has_default r.kind

-- the index behind each run, where the first one begins at this index
abbrev pub ends_from : ℕ → List LocalRun → List ℕ
ends_from n [] = []
ends_from n (r ∷ rs) = (n + r.count) ∷ ends_from (n + r.count) rs

-- so many of these ends are not past the local
abbrev pub SplitsAt : List ℕ → ℕ → ℕ → Type 0
SplitsAt es x i = ((k : ℕ) → k < i → slice_index_or es k 0 ≤ x) × ((k : ℕ) → i ≤ k → k < length es → x < slice_index_or es k 0)

-- ## The log

-- what is set now, and what was set where each open block began, the innermost first: there the log had so many entries
abbrev pub snapshots : List Bool → List ℕ → List ℕ → List (List Bool)
snapshots s log marks = marked s log ∷ map (λ (m : ℕ). marked s (take m log)) marks

-- the marks don't rise from the innermost block outwards
abbrev pub Descends : ℕ → List ℕ → Type 0
Descends n [] = Unit {0}
Descends n (m ∷ ms) = (m ≤ n) × Descends m ms

-- whether the log has the local
abbrev pub is_logged : List ℕ → ℕ → Bool
is_logged log x = list_any (λ (y : ℕ). y == x) log

-- each entry of the log is found by its local
abbrev pub Places : BTreeMap ℕ ℕ → List ℕ → Type 0
Places m log = (i x : ℕ) → slice_get log i ≡ Some x → tree.get nat_cmp m x ≡ Some i

-- ## The lists as they change

-- the types of a body's locals, and which are set: now, and where each open block began, the innermost first
pub record LocalState : Type 0 where
  pub types : List ValType
  pub sets : List (List Bool)

abbrev pub first_set : List (List Bool) → List Bool
first_set [] = []
first_set (s ∷ ss) = s

-- whether a flag is there and off
abbrev pub is_off : Option Bool → Bool
is_off (Some b) = not b
is_off None = false

-- what was set in the blocks around
abbrev pub outer_sets : List (List Bool) → List (List Bool)
outer_sets [] = []
outer_sets (s ∷ ss) = ss

abbrev pub set_in_first : ℕ → List (List Bool) → List (List Bool)
set_in_first x [] = []
set_in_first x (s ∷ ss) = slice_set s x true ∷ ss

abbrev pub twice : List (List Bool) → List (List Bool)
twice [] = []
twice (s ∷ ss) = s ∷ s ∷ ss

-- ## Instructions on locals

-- the type of an instruction that gives an operand of this type
abbrev pub gives_type : Option ValType → InstrType
gives_type (Some t) = fixed ε (ε ▹ t)
gives_type None = untyped
