-- Contexts of a type, layer by layer (Core, appendix, soundness: frames and administrative instructions; the explainer adds handles).
use Rattle.std.specs.Prelude.{◌≡◌, ◌≤◌, ◌+◌, ℕ, suc, All, Bool, true, false, List, [], ◌∷◌, ◌++◌, Option, Some, None, slice_get, length}
use Rattle.w_types.specs.declared.types.FuncType.{FuncType}
use Rattle.w_types.specs.declared.types.ValType.{ValType}
use Rattle.lists.specs.Rows.{Row, ε, ◌⧺◌, size, row_of}
use Rattle.w_syntax.specs.Code.{Code, Done, after}
use Rattle.w_syntax.specs.declared.instructions.Clause.{Clause}
use Rattle.w_syntax.specs.Functions.{type_of_function, code_of_function}
use Rattle.w_syntax.specs.declared.module.Func.{Func}
use Rattle.w_syntax.specs.declared.module.Module.{Module}
use Rattle.w_rules.specs.Bodies.{types_of_runs}
use Rattle.w_rules.specs.Conditions.{ClauseTyped}
use Rattle.w_rules.specs.Context as rules
use Rattle.w_rules.specs.Context.{type_of_func}
use Rattle.w_rules.specs.Matching.{RowMatches, known}
use Rattle.w_rules.specs.Operands.{Operand}
use Rattle.w_rules.specs.Peak.{peak, depth, clause_tops}
use Rattle.w_rules.specs.Spaces.{context_of}
use Rattle.w_rules.specs.Typing.{Derives}
use Rattle.w_reduce.specs.Values.{Val}
use Rattle.w_reduce.specs.Room.{most_operands, most_labels}
use Rattle.w_reduce.specs.Terms.{Administrative, Invoke, Branch, Rest, Label, Frame, Handle, Context, Term, Continuation}
use Rattle.w_typed.specs.Ranges.{ConstantsFit, NumbersFit}
use Rattle.w_typed.specs.Values.{Arrows, ValueTyped, ValuesTyped}

-- ## Scopes

-- What a place of a function sees of it: its locals, what a return takes, and what a branch to each label takes; which of the module's
-- own functions it is, and how many operands of its frame stand below those inside the innermost label. Outside functions nothing
-- returns.
pub record Scope : Type 0 where
  pub locals : List ValType
  pub results : Option (Row ValType)
  pub labels : List (Row ValType)
  pub function : ℕ
  pub base : ℕ

-- outside every frame
abbrev pub closed : Scope
closed = record { locals = []; results = None; labels = []; function = 0; base = 0 }

-- inside a label that takes these, above so many operands
abbrev pub under : ℕ → Row ValType → Scope → Scope
under n us c = record c { labels = us ∷ c.labels; base = c.base + n }

-- directly inside a frame of this function
abbrev pub inside : ℕ → List ValType → Row ValType → Scope
inside f locals results = record { locals = locals; results = Some results; labels = []; function = f; base = 0 }

abbrev pub returned : Option (Row ValType) → Row ValType
returned (Some us) = us
returned None = ε

-- the context of such a place
abbrev pub in_scope : Module → Scope → rules.Context
in_scope m c = record (context_of m) { locals = c.locals; results = returned c.results; labels = c.labels }

-- ## Room

-- with n operands inside the innermost label, the frame has no more operands and labels than its function has anywhere
pub record IsHeld (m : Module) (c : Scope) (n : ℕ) : Type 0 where
  pub operands : c.base + n ≤ most_operands m c.function
  pub labels : length c.labels ≤ most_labels m c.function

-- nor has it at any place of the code that is left, before which these n stand
pub record IsLow (m : Module) (c : Scope) (s : List Bool) (k : Code) (n : ℕ) : Type 0 where
  pub operands : peak (in_scope m c) s k (c.base + n) ≤ most_operands m c.function
  pub labels : length c.labels + depth k ≤ suc (most_labels m c.function)

-- ## Sequences

-- the code takes operands of types ts to operands of types us there; s says which locals are set before it; outside functions there
-- is none; its constants are in range where the module's are
pub record CodeTyped (m : Module) (c : Scope) (s : List Bool) (k : Code) (ts us : Row Operand) : Type 0 where
  pub derives : Derives (in_scope m c) s k ts us
  pub none : c.results ≡ None → k ≡ Done
  pub fits : NumbersFit m → ConstantsFit k
  pub low : (c.results ≡ None → ⊥) → IsLow m c s k (size ts)

-- the same of code that is reached by a branch or an exit: the frame holds those operands only where it is
pub record LaterTyped (m : Module) (c : Scope) (s : List Bool) (k : Code) (ts us : Row Operand) : Type 0 where
  pub derives : Derives (in_scope m c) s k ts us
  pub none : c.results ≡ None → k ≡ Done
  pub fits : NumbersFit m → ConstantsFit k
  pub low : (c.results ≡ None → ⊥) → c.base + size ts ≤ most_operands m c.function → IsLow m c s k (size ts)

-- administrative instructions, and then code
pub data RestTyped (m : Module) (c : Scope) (s : List Bool) : List Administrative → Code → Row Operand → Row Operand → Type 0 where
  code_alone : {k : Code} {ts us : Row Operand} → CodeTyped m c s k ts us → RestTyped m c s [] k ts us
  invoke_first : {a : ℕ} {t : FuncType} {ahead : List Administrative} {k : Code} {ts us : Row Operand} (beneath : Row Operand)
      → type_of_func (context_of m) a ≡ Some t → RowMatches m.types ts (beneath ⧺ known (row_of t.params))
      → RestTyped m c s ahead k (beneath ⧺ known (row_of t.results)) us → RestTyped m c s (Invoke a ∷ ahead) k ts us
  branch_first : {l : ℕ} {taken : Row ValType} {ahead : List Administrative} {k : Code} {ts us : Row Operand} (beneath : Row Operand)
      → slice_get c.labels l ≡ Some taken → RowMatches m.types ts (beneath ⧺ known taken) → ((c.results ≡ None → ⊥) → IsHeld m c (size ts)) → RestTyped m c s (Branch l ∷ ahead) k ts us

-- ## Locals

-- what is set in the one is set in the other
pub record Subset (few many : List Bool) : Type 0 where
  pub still : (x : ℕ) → slice_get few x ≡ Some true → slice_get many x ≡ Some true

-- a local that is set holds a value of its type
pub data LocalTyped (m : Module) (K : Arrows) : Option Val → ValType → Bool → Type 0 where
  unset : {t : ValType} → LocalTyped m K None t false
  held : {v : Val} {t : ValType} {b : Bool} → ValueTyped m K v t → LocalTyped m K (Some v) t b

pub data LocalsTyped (m : Module) (K : Arrows) : List (Option Val) → List ValType → List Bool → Type 0 where
  no_locals : LocalsTyped m K [] [] []
  locals : {l : Option Val} {t : ValType} {b : Bool} {ls : List (Option Val)} {ts : List ValType} {s : List Bool}
      → LocalTyped m K l t b → LocalsTyped m K ls ts s → LocalsTyped m K (l ∷ ls) (t ∷ ts) (b ∷ s)

-- ## Contexts

-- A function of the module's own, by its index, of whose frame these are the types of the locals and of the results.
pub record IsFrameOf (m : Module) (f : ℕ) (types : List ValType) (results : Row ValType) : Type 0 where
  pub type : FuncType
  pub func : Func
  pub has_type : type_of_function m f ≡ Some type
  pub has_code : code_of_function m f ≡ Some func
  pub locals_are : types ≡ type.params ++ types_of_runs func.locals
  pub results_are : results ≡ row_of type.results

-- A context, read from the hole outwards: `Within m K us e c now ts` says that e, filled with a sequence of results ts that is typed in
-- the scope c, has results us, where `now` says which locals of the innermost frame hold a value. Of a layer, `beneath` types the values
-- below it, and `out` is what its own sequence gives.
pub data Within (m : Module) (K : Arrows) (us : Row Operand) : Context → Scope → List Bool → Row Operand → Type 0 where
  outside : {now : List Bool} {ts : Row Operand} → RowMatches m.types ts us → Within m K us [] closed now ts
  label : {below : Row Val} {n : ℕ} {again rest : Code} {e : Context} {c : Scope} {s now : List Bool} {ts given out : Row Operand} {taken : Row ValType}
      (beneath : Row Operand)
      → RowMatches m.types ts given → n ≡ size taken → ValuesTyped m K below beneath
      → LaterTyped m c s (after again rest) (beneath ⧺ known taken) out → LaterTyped m c s rest (beneath ⧺ given) out
      → Subset s now → Within m K us e c now out
      → Within m K us (Label below n again rest ∷ e) (under (size below) taken c) now ts
  frame : {below : Row Val} {n f : ℕ} {ls : List (Option Val)} {rest : Rest} {e : Context} {c : Scope} {s outer now : List Bool} {ts out : Row Operand}
      {types : List ValType} {results : Row ValType} (beneath : Row Operand)
      → IsFrameOf m f types results → RowMatches m.types ts (known results) → n ≡ size results → LocalsTyped m K ls types now → ValuesTyped m K below beneath
      → RestTyped m c s rest.ahead rest.code (beneath ⧺ known results) out → Subset s outer → Within m K us e c outer out
      → Within m K us (Frame below n f ls rest ∷ e) (inside f types results) now ts
  -- what it gives matches the results, for which each clause is typed; and its frame holds what the label of each takes
  handle : {below : Row Val} {hs : List Clause} {rest : Code} {e : Context} {c : Scope} {s outer now : List Bool} {ts out : Row Operand} (results : List ValType)
      (beneath : Row Operand)
      → RowMatches m.types ts (known (row_of results)) → All (ClauseTyped (in_scope m c) results) hs → ((c.results ≡ None → ⊥) → clause_tops c.labels (c.base + size beneath) hs ≤ most_operands m c.function) → ValuesTyped m K below beneath
      → CodeTyped m c s rest (beneath ⧺ known (row_of results)) out → Subset s outer → Within m K us e c outer out
      → Within m K us (Handle below hs rest ∷ e) closed now ts

-- ## Terms

-- A term with a hole behind its operands: filled with values of types ps it has results us. Where ps is empty it is a term of results
-- us.
pub record HoleTyped (m : Module) (K : Arrows) (ps us : Row Operand) (t : Term) : Type 0 where
  pub scope : Scope
  pub set : List Bool
  pub now : List Bool
  pub still : Subset set now
  pub before : Row Operand
  pub after : Row Operand
  pub operands : ValuesTyped m K t.operands before
  pub rest : RestTyped m scope set t.rest.ahead t.rest.code (before ⧺ ps) after
  pub around : Within m K us t.around scope now after

abbrev pub TermTyped : Module → Arrows → Row Operand → Term → Type 0
TermTyped m K us t = HoleTyped m K ε us t

-- a continuation of a function type: it takes as many values as that has parameters, and filled with values of them gives its results
pub record KeptTyped (m : Module) (K : Arrows) (k : Continuation) (t : FuncType) : Type 0 where
  pub takes : k.takes ≡ length t.params
  pub term : HoleTyped m K (known (row_of t.params)) (known (row_of t.results)) k.term
