-- Reading a module line by line.
use Rattle.std.specs.Prelude.{ℕ, zero, suc, ◌+◌, ◌^◌, Bool, true, false, ◌&&◌, not, cond, nat_le, nat_lt, nat_eq, List, [], ◌∷◌, ◌++◌, drop, Option, Some, None}
use Rattle.w_types.specs.declared.types.SubType.{SubType}
use Rattle.w_syntax.specs.declared.locals.LocalRun.{LocalRun}
use Rattle.w_syntax.specs.declared.module.ElemMode.TheVariants as elem_mode
use Rattle.w_syntax.specs.declared.module.DataMode.TheVariants as data_mode
use Rattle.w_syntax.specs.declared.module.Module.{Module}
use Rattle.w_syntax.specs.Types.{group_of}
use Rattle.w_syntax.specs.Code.{Code, Done}
use Rattle.w_syntax.specs.Expr.{Path, Top, Outcome, More, Finished, Wrong, step as token_step}
use Rattle.w_syntax.specs.Locals.{same_kind, total}
use Rattle.w_syntax.specs.Module.{empty_module}
use Rattle.w_lines.specs.declared.line.Mode.TheVariants as mode
use Rattle.w_lines.specs.declared.line.Line.{Line}
use Rattle.w_lines.specs.declared.line.Line.TheVariants as line
use Rattle.w_text.specs.declared.item.Item.{Item}
use Rattle.w_text.specs.declared.item.Item.TheVariants.{Group, Imported, TableItem, Memory, TagItem, Global, Exported, Start, Elements, Bytes, Function}
use Rattle.w_text.specs.Items.{Head, TableHead, GlobalHead, ElemHead, DataHead, FunctionHead}

-- ## Order

-- the place of an item's list
abbrev pub head_rank : Head → ℕ
head_rank (TableHead t) = 2
head_rank (GlobalHead g) = 5
head_rank (ElemHead m r k) = 8
head_rank (DataHead x b) = 9
head_rank (FunctionHead x ls) = 10

abbrev pub rank : Item → ℕ
rank (Group g) = 0
rank (Imported i) = 1
rank (TableItem t) = 2
rank (Memory l) = 3
rank (TagItem t) = 4
rank (Global g) = 5
rank (Exported e) = 6
rank (Start x) = 7
rank (Elements e) = 8
rank (Bytes d) = 9
rank (Function x f) = 10

-- the first place at which an item may stand behind it: one start function is all
abbrev pub rank_after : Item → ℕ
rank_after (Start x) = 8
rank_after it = rank it

-- the module with one more item
abbrev pub add : Item → Module → Module
add (Group g) m = record m { types = m.types ++ g ∷ [] }
add (Imported i) m = record m { imports = m.imports ++ i ∷ [] }
add (TableItem t) m = record m { tables = m.tables ++ t ∷ [] }
add (Memory l) m = record m { memories = m.memories ++ l ∷ [] }
add (TagItem t) m = record m { tags = m.tags ++ t ∷ [] }
add (Global g) m = record m { globals = m.globals ++ g ∷ [] }
add (Exported e) m = record m { exports = m.exports ++ e ∷ [] }
add (Start x) m = record m { start = Some x }
add (Elements e) m = record m { elements = m.elements ++ e ∷ [] }
add (Bytes d) m = record m { datas = m.datas ++ d ∷ [] }
add (Function x f) m = record m { functions = m.functions ++ x ∷ []; codes = m.codes ++ f ∷ [] }

-- ## One item

-- What of an item has come.
pub data Open : Type 0 where
  -- none is open
  Between : Open
  -- a group: so many types and one more are still to come
  InGroup : ℕ → List SubType → Open
  -- a function's locals so far
  InLocals : ℕ → List LocalRun → Open
  -- so many expressions are to come behind the one that is open, in which these blocks are
  InExprs : Head → ℕ → List Code → Path → Code → Open

pub data Next : Type 0 where
  Opens : Open → Next
  Gives : Item → Next
  Refuses : Next

abbrev pub first : List Code → Code
first [] = Done
first (c ∷ cs) = c

-- what a head and its expressions make
abbrev pub item_of : Head → List Code → Item
item_of (TableHead t) cs = TableItem (record { kind = t; init = Some (first cs) })
item_of (GlobalHead g) cs = Global (record { kind = g; init = first cs })
item_of (ElemHead (mode.Active x) r k) cs = Elements (record { kind = r; items = drop 1 cs; mode = elem_mode.Active x (first cs) })
item_of (ElemHead mode.Passive r k) cs = Elements (record { kind = r; items = cs; mode = elem_mode.Passive })
item_of (ElemHead mode.Declarative r k) cs = Elements (record { kind = r; items = cs; mode = elem_mode.Declarative })
item_of (DataHead x b) cs = Bytes (record { bytes = b; mode = data_mode.Active x (first cs) })
item_of (FunctionHead x ls) cs = Function x (record { locals = ls; body = first cs })

-- how many expressions it has
abbrev pub wanted : Head → ℕ
wanted (TableHead t) = 1
wanted (GlobalHead g) = 1
wanted (ElemHead (mode.Active x) r k) = suc k
wanted (ElemHead mode.Passive r k) = k
wanted (ElemHead mode.Declarative r k) = k
wanted (DataHead x b) = 1
wanted (FunctionHead x ls) = 1

-- so many expressions are still to come
abbrev pub exprs_on : Head → ℕ → List Code → Next
exprs_on h zero cs = Gives (item_of h cs)
exprs_on h (suc n) cs = Opens (InExprs h n cs Top Done)

abbrev pub expr_on : Head → ℕ → List Code → Outcome → Next
expr_on h n cs (More p c) = Opens (InExprs h n cs p c)
expr_on h n cs (Finished c) = exprs_on h n (cs ++ c ∷ [])
expr_on h n cs Wrong = Refuses

abbrev pub group_on : ℕ → List SubType → Next
group_on zero ts = Gives (Group (group_of ts))
group_on (suc n) ts = Opens (InGroup n ts)

-- whether a run is of another type than the last of these
unfoldable pub unlike_last : List LocalRun → LocalRun → Bool
unlike_last [] l = true
unlike_last (m ∷ []) l = not (same_kind m.kind l.kind)
unlike_last (m ∷ n ∷ ls) l = unlike_last (n ∷ ls) l

-- a run that may follow these: of at least one local, of another type than the last, and fewer than 2^32 in all
abbrev pub may_follow : List LocalRun → LocalRun → Bool
may_follow ls l = unlike_last ls l && (not (nat_eq l.count 0) && nat_lt (total ls + l.count) (2 ^ 32))

-- where no item is open
abbrev pub begin : Line → Next
begin line.Module = Refuses
begin (line.Group zero) = Gives (Group (group_of []))
begin (line.Group (suc zero)) = Refuses
begin (line.Group (suc (suc n))) = Opens (InGroup (suc n) [])
begin (line.Type t) = Gives (Group (group_of (t ∷ [])))
begin (line.Import i) = Gives (Imported i)
begin (line.Table t false) = Gives (TableItem (record { kind = t; init = None }))
begin (line.Table t true) = exprs_on (TableHead t) 1 []
begin (line.Memory l) = Gives (Memory l)
begin (line.Tag t) = Gives (TagItem t)
begin (line.Global g) = exprs_on (GlobalHead g) 1 []
begin (line.Export e) = Gives (Exported e)
begin (line.Start x) = Gives (Start x)
begin (line.Elements m r k) = exprs_on (ElemHead m r k) (wanted (ElemHead m r k)) []
begin (line.Data (Some x) b) = exprs_on (DataHead x b) 1 []
begin (line.Data None b) = Gives (Bytes (record { bytes = b; mode = data_mode.Passive }))
begin (line.Function x) = Opens (InLocals x [])
begin (line.Local l) = Refuses
begin (line.Token t) = Refuses

abbrev pub in_group : ℕ → List SubType → Line → Next
in_group n ts (line.Type t) = group_on n (ts ++ t ∷ [])
in_group n ts _ = Refuses

abbrev pub in_locals : ℕ → List LocalRun → Line → Next
in_locals x ls (line.Local l) = cond (may_follow ls l) (Opens (InLocals x (ls ++ l ∷ []))) Refuses
in_locals x ls (line.Token t) = expr_on (FunctionHead x ls) 0 [] (token_step Top Done t)
in_locals x ls _ = Refuses

abbrev pub in_exprs : Head → ℕ → List Code → Path → Code → Line → Next
in_exprs h n cs p c (line.Token t) = expr_on h n cs (token_step p c t)
in_exprs h n cs p c _ = Refuses

unfoldable pub next : Open → Line → Next
next Between l = begin l
next (InGroup n ts) l = in_group n ts l
next (InLocals x ls) l = in_locals x ls l
next (InExprs h n cs p c) l = in_exprs h n cs p c l

-- ## A module

-- How far a text has come: before its first line, or behind it, with the place that has been reached.
pub data State : Type 0 where
  Fresh : State
  Reading : ℕ → Module → Open → State

abbrev pub open_rank : Open → ℕ → ℕ
open_rank Between k = k
open_rank (InGroup n ts) k = 0
open_rank (InLocals x ls) k = 10
open_rank (InExprs h n cs p c) k = head_rank h

abbrev pub placed : ℕ → Module → Next → Option State
placed k m (Opens o) = cond (nat_le k (open_rank o k)) (Some (Reading (open_rank o k) m o)) None
placed k m (Gives it) = cond (nat_le k (rank it)) (Some (Reading (rank_after it) (add it m) Between)) None
placed k m Refuses = None

abbrev pub opening : Line → Option State
opening line.Module = Some (Reading 0 empty_module Between)
opening _ = None

unfoldable pub step : State → Line → Option State
step Fresh l = opening l
step (Reading k m o) l = placed k m (next o l)

abbrev pub finished : State → Option Module
finished (Reading k m Between) = Some m
finished _ = None

abbrev pub run_on : (State → Option State) → Option State → Option State
run_on f None = None
run_on f (Some s) = f s

unfoldable pub run : State → List Line → Option State
run s [] = Some s
run s (l ∷ ls) = run_on (λ t. run t ls) (step s l)
