-- What the code that reads a text stands for.
use Rattle.std.specs.Prelude.{◌≡◌, ℕ, ⊤, List, [], ◌∷◌, ◌++◌, Option, Some, None}
use Rattle.w_syntax.specs.declared.module.ElemMode.{ElemMode}
use Rattle.w_syntax.specs.declared.module.ElemMode.TheVariants as elem_mode
use Rattle.w_syntax.specs.Code.{Code}
use Rattle.w_syntax.specs.Builds.{Builds, Holds}
use Rattle.w_lines.specs.declared.line.Line.{Line}
use Rattle.w_lines.specs.declared.line.Mode.{Mode}
use Rattle.w_lines.specs.declared.line.Mode.TheVariants as mode
use Rattle.w_text.specs.declared.pending.Pending.{Pending}
use Rattle.w_text.specs.declared.pending.Pending.TheVariants as pending
use Rattle.w_text.specs.declared.pending.Open.{Open as CodeOpen}
use Rattle.w_text.specs.declared.pending.Open.TheVariants as opened
use Rattle.w_text.specs.declared.pending.Outcome.{Outcome}
use Rattle.w_text.specs.declared.pending.Outcome.TheVariants as outcome
use Rattle.w_text.specs.Items.{Head, TableHead, GlobalHead, ElemHead, DataHead, FunctionHead}
use Rattle.w_text.specs.Machine.{Open, Between, InGroup, InLocals, InExprs, Next, Opens, Gives, Refuses, exprs_on, State, step}

-- the state that a line leads to, where it says something
abbrev pub on_line : State → Option Line → Option State
on_line s None = None
on_line s (Some l) = step s l

-- ## What is open

abbrev pub mode_of : ElemMode → Mode
mode_of (elem_mode.Active x c) = mode.Active x
mode_of elem_mode.Passive = mode.Passive
mode_of elem_mode.Declarative = mode.Declarative

-- the expression in front of a segment's items
abbrev pub place_of : ElemMode → List Code
place_of (elem_mode.Active x c) = c ∷ []
place_of elem_mode.Passive = []
place_of elem_mode.Declarative = []

abbrev pub head_of : Pending → Head
head_of (pending.Table t) = TableHead t
head_of (pending.Global g) = GlobalHead g
head_of (pending.Data x b) = DataHead x b
head_of (pending.Function x ls) = FunctionHead x ls
head_of (pending.Place x r k) = ElemHead (mode.Active x) r k
head_of (pending.Items m r k n is) = ElemHead (mode_of m) r k

-- how many expressions are to come behind the one that is open
abbrev pub left_of : Pending → ℕ
left_of (pending.Place x r k) = k
left_of (pending.Items m r k n is) = n
left_of _ = 0

-- the expressions that came
abbrev pub exprs_of : Pending → List Code
exprs_of (pending.Items m r k n is) = place_of m ++ is.items
exprs_of _ = []

abbrev pub IsOpen : Open → CodeOpen → Type 0
IsOpen Between opened.Between = ⊤
IsOpen (InGroup n ts) (opened.Group left types) = (n ≡ left) × (ts ≡ types.items)
IsOpen (InLocals x ls) (opened.Locals kind runs) = (x ≡ kind) × (ls ≡ runs)
IsOpen (InExprs h n cs p c) (opened.Expression what builder) = (h ≡ head_of what) × (n ≡ left_of what) × (cs ≡ exprs_of what) × Builds p c builder
IsOpen _ _ = ⊥

abbrev pub IsNoExpression : CodeOpen → Type 0
IsNoExpression (opened.Expression what builder) = ⊥
IsNoExpression _ = ⊤

-- an expression is open, of which all has come: it is d
abbrev pub IsClosed : Code → CodeOpen → Type 0
IsClosed d (opened.Expression what builder) = Holds d builder
IsClosed d _ = ⊥

-- what comes of it
abbrev pub closed_next : CodeOpen → Code → Next
closed_next (opened.Expression what builder) d = exprs_on (head_of what) (left_of what) (exprs_of what ++ d ∷ [])
closed_next _ d = Refuses

abbrev pub NextIs : Next → Outcome → Type 0
NextIs (Opens o) (outcome.Opens p) = IsOpen o p
NextIs (Gives it) (outcome.Gives jt) = it ≡ jt
NextIs Refuses outcome.Refuses = ⊤
NextIs _ _ = ⊥
