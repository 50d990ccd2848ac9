-- The lines of a text: their words, and lines as bytes.
use Rattle.std.specs.Prelude.{◌≡◌, ◌||◌, if◌then◌else◌, ℕ, ◌^◌, ◌<◌, Bool, true, false, nat_eq, List, [], ◌∷◌, ◌++◌, map, Option, Some, None, option_map, codes, decimal, ⊤}
use Rattle.std.specs.Str.{bytes_eq}
use Rattle.hex.specs.Hex.{IsBytes}
use Rattle.w_types.specs.declared.types.FuncType.{FuncType}
use Rattle.w_types.specs.declared.types.CompType.{CompType}
use Rattle.w_types.specs.declared.types.CompType.TheVariants as comp
use Rattle.w_types.specs.declared.types.SubType.{SubType}
use Rattle.w_syntax.specs.declared.module.Limits.{Limits}
use Rattle.w_syntax.specs.declared.module.Mutability.{Mutability}
use Rattle.w_syntax.specs.declared.module.Mutability.TheVariants as access
use Rattle.w_syntax.specs.declared.module.GlobalType.{GlobalType}
use Rattle.w_syntax.specs.declared.module.TableType.{TableType}
use Rattle.w_syntax.specs.declared.module.ExternType.{ExternType}
use Rattle.w_syntax.specs.declared.module.ExternType.TheVariants as extern
use Rattle.w_syntax.specs.declared.module.ExternIndex.{ExternIndex}
use Rattle.w_syntax.specs.declared.module.ExternIndex.TheVariants as index
use Rattle.w_words.specs.Words.{Word, ◌>>=◌, Each, ended, next, one_of, two_of, each_of, each_until, spaced, words_of}
use Rattle.w_words.specs.Numbers.{Index32, number_of, count_word, count_of}
use Rattle.w_words.specs.Hexadecimal.{bytes_word, bytes_of, name_of, NameFits}
use Rattle.w_words.specs.Types.{ref_word, RefFits, ref_of, val_word, ValFits, val_of}
use Rattle.w_lines.specs.declared.line.Mode.{Mode}
use Rattle.w_lines.specs.declared.line.Mode.TheVariants as mode
use Rattle.w_lines.specs.declared.line.Line.{Line}
use Rattle.w_lines.specs.declared.line.Line.TheVariants as line
use Rattle.w_lines.specs.Instructions.{token_name, immediates, TokenFits, token_of}

-- ## Writing

abbrev pub max_word : Option ℕ → Word
max_word None = codes "-"
max_word (Some n) = decimal n

abbrev pub mutability_word : Mutability → Word
mutability_word access.Const = codes "const"
mutability_word access.Var = codes "var"

abbrev pub mode_words : Mode → List Word
mode_words (mode.Active x) = codes "active" ∷ decimal x ∷ []
mode_words mode.Passive = codes "passive" ∷ []
mode_words mode.Declarative = codes "declare" ∷ []

abbrev pub func_words : FuncType → List Word
func_words t = map val_word t.params ++ codes "->" ∷ map val_word t.results

abbrev pub composite_words : CompType → List Word
composite_words (comp.Func t) = codes "func" ∷ func_words t
composite_words (comp.Cont x) = codes "cont" ∷ decimal x ∷ []

-- supertypes, and a composite type
abbrev pub below_words : List ℕ → CompType → List Word
below_words xs c = map decimal xs ++ codes ":" ∷ composite_words c

-- a final type without supertypes is its composite type
abbrev pub subtype_words : Bool → List ℕ → CompType → List Word
subtype_words true [] c = composite_words c
subtype_words true (x ∷ xs) c = codes "final" ∷ below_words (x ∷ xs) c
subtype_words false xs c = codes "open" ∷ below_words xs c

abbrev pub type_words : SubType → List Word
type_words t = subtype_words t.is_final t.supertypes t.composite

abbrev pub limits_words : Limits → List Word
limits_words l = decimal l.min ∷ max_word l.max ∷ []

abbrev pub table_words : TableType → List Word
table_words t = ref_word t.element ∷ limits_words t.limits

abbrev pub global_words : GlobalType → List Word
global_words g = val_word g.kind ∷ mutability_word g.mutability ∷ []

abbrev pub extern_words : ExternType → List Word
extern_words (extern.Func x) = codes "func" ∷ decimal x ∷ []
extern_words (extern.Table t) = codes "table" ∷ table_words t
extern_words (extern.Memory l) = codes "memory" ∷ limits_words l
extern_words (extern.Global g) = codes "global" ∷ global_words g
extern_words (extern.Tag t) = codes "tag" ∷ decimal t.type_index ∷ []

abbrev pub index_words : ExternIndex → List Word
index_words (index.Func x) = codes "func" ∷ decimal x ∷ []
index_words (index.Table x) = codes "table" ∷ decimal x ∷ []
index_words (index.Memory x) = codes "memory" ∷ decimal x ∷ []
index_words (index.Global x) = codes "global" ∷ decimal x ∷ []
index_words (index.Tag x) = codes "tag" ∷ decimal x ∷ []

abbrev pub init_words : Bool → List Word
init_words true = codes "init" ∷ []
init_words false = []

-- the words of a line, of which there is at least one
abbrev pub line_words : Line → List Word
line_words line.Module = codes "module" ∷ []
line_words (line.Group k) = codes "rec" ∷ count_word k ∷ []
line_words (line.Type t) = type_words t
line_words (line.Import i) = codes "import" ∷ bytes_word i.module_name ∷ bytes_word i.item_name ∷ extern_words i.kind
line_words (line.Table t b) = codes "table" ∷ table_words t ++ init_words b
line_words (line.Memory l) = codes "memory" ∷ limits_words l
line_words (line.Tag t) = codes "tag" ∷ decimal t.type_index ∷ []
line_words (line.Global g) = codes "global" ∷ global_words g
line_words (line.Export e) = codes "export" ∷ bytes_word e.name ∷ index_words e.index
line_words (line.Start x) = codes "start" ∷ decimal x ∷ []
line_words (line.Elements m r k) = codes "elem" ∷ mode_words m ++ ref_word r ∷ count_word k ∷ []
line_words (line.Data (Some x) b) = codes "data" ∷ codes "active" ∷ decimal x ∷ bytes_word b ∷ []
line_words (line.Data None b) = codes "data" ∷ codes "passive" ∷ bytes_word b ∷ []
line_words (line.Function x) = codes "function" ∷ decimal x ∷ []
line_words (line.Local r) = codes "local" ∷ decimal r.count ∷ val_word r.kind ∷ []
line_words (line.Token t) = token_name t ∷ immediates t

abbrev pub line_text : Line → List ℕ
line_text l = spaced (line_words l)

-- a line with its line feed
abbrev pub line_bytes : Line → List ℕ
line_bytes l = line_text l ++ 10 ∷ []

-- ## What has a text

abbrev pub MaxFits : Option ℕ → Type 0
MaxFits None = ⊤
MaxFits (Some n) = n < 2 ^ 64

abbrev pub LimitsFit : Limits → Type 0
LimitsFit l = (l.min < 2 ^ 64) × MaxFits l.max

abbrev pub TableFits : TableType → Type 0
TableFits t = RefFits t.element × LimitsFit t.limits

abbrev pub ExternFits : ExternType → Type 0
ExternFits (extern.Func x) = Index32 x
ExternFits (extern.Table t) = TableFits t
ExternFits (extern.Memory l) = LimitsFit l
ExternFits (extern.Global g) = ValFits g.kind
ExternFits (extern.Tag t) = Index32 t.type_index

abbrev pub ExternIndexFits : ExternIndex → Type 0
ExternIndexFits (index.Func x) = Index32 x
ExternIndexFits (index.Table x) = Index32 x
ExternIndexFits (index.Memory x) = Index32 x
ExternIndexFits (index.Global x) = Index32 x
ExternIndexFits (index.Tag x) = Index32 x

abbrev pub MemoryFits : Option ℕ → Type 0
MemoryFits None = ⊤
MemoryFits (Some x) = Index32 x

abbrev pub FuncFits : FuncType → Type 0
FuncFits t = Each ValFits t.params × Each ValFits t.results

abbrev pub CompositeFits : CompType → Type 0
CompositeFits (comp.Func t) = FuncFits t
CompositeFits (comp.Cont x) = Index32 x

abbrev pub TypeFits : SubType → Type 0
TypeFits t = Each Index32 t.supertypes × CompositeFits t.composite

abbrev pub ModeFits : Mode → Type 0
ModeFits (mode.Active x) = Index32 x
ModeFits m = ⊤

abbrev pub LineFits : Line → Type 0
LineFits line.Module = ⊤
-- a count has no range
LineFits (line.Group k) = ⊤
LineFits (line.Type t) = TypeFits t
LineFits (line.Import i) = NameFits i.module_name × NameFits i.item_name × ExternFits i.kind
LineFits (line.Table t b) = TableFits t
LineFits (line.Memory l) = LimitsFit l
LineFits (line.Tag t) = Index32 t.type_index
LineFits (line.Global g) = ValFits g.kind
LineFits (line.Export e) = NameFits e.name × ExternIndexFits e.index
LineFits (line.Start x) = Index32 x
LineFits (line.Elements m r k) = ModeFits m × RefFits r
LineFits (line.Data o b) = MemoryFits o × IsBytes b
LineFits (line.Function x) = Index32 x
LineFits (line.Local r) = Index32 r.count × ValFits r.kind
LineFits (line.Token t) = TokenFits t

-- ## Reading

-- what words say
abbrev pub Reader : Type 0 → Type 0
Reader A = List Word → Option A

-- by the first word
abbrev pub reader_in : {A : Type 0} → List (Word × Reader A) → Word → Option (Reader A)
reader_in [] w = None
reader_in (r ∷ rs) w = if bytes_eq w r.0 then Some r.1 else reader_in rs w

-- whether a word is the first of one of these
abbrev pub is_first : {A : Type 0} → List (Word × Reader A) → Word → Bool
is_first [] w = false
is_first (r ∷ rs) w = bytes_eq w r.0 || is_first rs w

abbrev pub by_first : {A : Type 0} → List (Word × Reader A) → Reader A
by_first rs [] = None
by_first rs (w ∷ ws) = do
  f ← reader_in rs w
  f ws

-- ### Parts of lines

abbrev pub one_number : {A : Type 0} → ℕ → (ℕ → A) → Reader A
one_number k f ws = option_map f (one_of (number_of k) ws)

abbrev pub max_of : Word → Option (Option ℕ)
max_of w = if bytes_eq w (codes "-") then Some None else option_map (λ n. Some n) (number_of 64 w)

abbrev pub mutability_of : Word → Option Mutability
mutability_of w =
    if bytes_eq w (codes "const") then Some access.Const
    else if bytes_eq w (codes "var") then Some access.Var
    else None

abbrev pub limits_of : Reader Limits
limits_of ws = option_map (λ p. record { min = p.0; max = p.1 }) (two_of (number_of 64) max_of ws)

-- a table's type, and the words behind it
abbrev pub table_in : Reader (TableType × List Word)
table_in ws = do
  (w, ws) ← next ws
  r ← ref_of w
  (w, ws) ← next ws
  n ← number_of 64 w
  (w, ws) ← next ws
  option_map (λ o. (record { element = r; limits = record { min = n; max = o } }, ws)) (max_of w)

abbrev pub table_of : Reader TableType
table_of ws = do
  (t, ws) ← table_in ws
  ended t ws

abbrev pub global_of : Reader GlobalType
global_of ws = option_map (λ p. record { kind = p.0; mutability = p.1 }) (two_of val_of mutability_of ws)

abbrev pub func_of : Reader FuncType
func_of ws = do
  p ← each_until (codes "->") val_of ws
  option_map (λ ts. record { params = p.0; results = ts }) (each_of val_of p.1)

abbrev pub composites : List (Word × Reader CompType)
composites =
    (codes "func", λ ws. option_map comp.Func (func_of ws))
    ∷ (codes "cont", one_number 32 comp.Cont)
    ∷ []

abbrev pub composite_of : Reader CompType
composite_of ws = by_first composites ws

-- supertypes, and a composite type
abbrev pub below_of : Reader (List ℕ × CompType)
below_of ws = do
  p ← each_until (codes ":") (number_of 32) ws
  option_map (λ c. (p.0, c)) (composite_of p.1)

-- a final type that has supertypes
abbrev pub final_with : List ℕ × CompType → Option SubType
final_with ([], c) = None
final_with (x ∷ xs, c) = Some (record { is_final = true; supertypes = x ∷ xs; composite = c })

abbrev pub open_with : List ℕ × CompType → SubType
open_with p = record { is_final = false; supertypes = p.0; composite = p.1 }

abbrev pub alone : CompType → SubType
alone c = record { is_final = true; supertypes = []; composite = c }

abbrev pub externs : List (Word × Reader ExternType)
externs =
    (codes "func", one_number 32 extern.Func)
    ∷ (codes "table", λ ws. option_map extern.Table (table_of ws))
    ∷ (codes "memory", λ ws. option_map extern.Memory (limits_of ws))
    ∷ (codes "global", λ ws. option_map extern.Global (global_of ws))
    ∷ (codes "tag", one_number 32 (λ x. extern.Tag (record { type_index = x })))
    ∷ []

abbrev pub extern_of : Reader ExternType
extern_of ws = by_first externs ws

abbrev pub indices : List (Word × Reader ExternIndex)
indices =
    (codes "func", one_number 32 index.Func)
    ∷ (codes "table", one_number 32 index.Table)
    ∷ (codes "memory", one_number 32 index.Memory)
    ∷ (codes "global", one_number 32 index.Global)
    ∷ (codes "tag", one_number 32 index.Tag)
    ∷ []

abbrev pub index_of : Reader ExternIndex
index_of ws = by_first indices ws

-- ### Lines, behind their first word

abbrev pub module_line : Reader Line
module_line ws = ended line.Module ws

abbrev pub group_line : Reader Line
group_line ws = option_map line.Group (one_of count_of ws)

abbrev pub func_line : Reader Line
func_line ws = option_map (λ t. line.Type (alone (comp.Func t))) (func_of ws)

abbrev pub cont_line : Reader Line
cont_line ws = one_number 32 (λ x. line.Type (alone (comp.Cont x))) ws

abbrev pub final_line : Reader Line
final_line ws = do
  p ← below_of ws
  option_map line.Type (final_with p)

abbrev pub open_line : Reader Line
open_line ws = option_map (λ p. line.Type (open_with p)) (below_of ws)

abbrev pub import_line : Reader Line
import_line ws = do
  (v, ws) ← next ws
  m ← name_of v
  (w, ws) ← next ws
  n ← name_of w
  option_map (λ k. line.Import (record { module_name = m; item_name = n; kind = k })) (extern_of ws)

-- nothing, or `init`
abbrev pub init_of : Reader Bool
init_of [] = Some false
init_of (w ∷ []) = if bytes_eq w (codes "init") then Some true else None
init_of _ = None

-- a table's type, and perhaps `init`
abbrev pub table_line : Reader Line
table_line ws = do
  (t, ws) ← table_in ws
  option_map (line.Table t) (init_of ws)

abbrev pub memory_line : Reader Line
memory_line ws = option_map line.Memory (limits_of ws)

abbrev pub tag_line : Reader Line
tag_line ws = one_number 32 (λ x. line.Tag (record { type_index = x })) ws

abbrev pub start_line : Reader Line
start_line ws = one_number 32 line.Start ws

abbrev pub function_line : Reader Line
function_line ws = one_number 32 line.Function ws

abbrev pub global_line : Reader Line
global_line ws = option_map line.Global (global_of ws)

abbrev pub export_line : Reader Line
export_line ws = do
  (w, ws) ← next ws
  n ← name_of w
  option_map (λ i. line.Export (record { name = n; index = i })) (index_of ws)

-- an element segment behind its mode
abbrev pub items_line : Mode → Reader Line
items_line m ws = option_map (λ p. line.Elements m p.0 p.1) (two_of ref_of count_of ws)

abbrev pub active_items : Reader Line
active_items ws = do
  (w, ws) ← next ws
  x ← number_of 32 w
  items_line (mode.Active x) ws

abbrev pub modes : List (Word × Reader Line)
modes =
    (codes "active", active_items)
    ∷ (codes "passive", items_line mode.Passive)
    ∷ (codes "declare", items_line mode.Declarative)
    ∷ []

abbrev pub elements_line : Reader Line
elements_line ws = by_first modes ws

abbrev pub active_data : Reader Line
active_data ws = option_map (λ p. line.Data (Some p.0) p.1) (two_of (number_of 32) bytes_of ws)

abbrev pub passive_data : Reader Line
passive_data ws = option_map (line.Data None) (one_of bytes_of ws)

abbrev pub data_modes : List (Word × Reader Line)
data_modes = (codes "active", active_data) ∷ (codes "passive", passive_data) ∷ []

abbrev pub data_line : Reader Line
data_line ws = by_first data_modes ws

abbrev pub local_line : Reader Line
local_line ws = option_map (λ p. line.Local (record { count = p.0; kind = p.1 })) (two_of (number_of 32) val_of ws)

-- ### All lines

-- those that are no instruction
abbrev pub kinds : List (Word × Reader Line)
kinds =
    (codes "module", module_line)
    ∷ (codes "rec", group_line)
    ∷ (codes "func", func_line)
    ∷ (codes "cont", cont_line)
    ∷ (codes "final", final_line)
    ∷ (codes "open", open_line)
    ∷ (codes "import", import_line)
    ∷ (codes "table", table_line)
    ∷ (codes "memory", memory_line)
    ∷ (codes "tag", tag_line)
    ∷ (codes "global", global_line)
    ∷ (codes "export", export_line)
    ∷ (codes "start", start_line)
    ∷ (codes "elem", elements_line)
    ∷ (codes "data", data_line)
    ∷ (codes "function", function_line)
    ∷ (codes "local", local_line)
    ∷ []

abbrev pub by_kind : Option (Reader Line) → Word → Reader Line
by_kind (Some f) w ws = f ws
by_kind None w ws = option_map line.Token (token_of w ws)

-- what words say: a line of a kind, or else an instruction
unfoldable pub line_in : Reader Line
line_in [] = None
line_in (w ∷ ws) = by_kind (reader_in kinds w) w ws

-- what a line says, without its line feed
abbrev pub line_of : List ℕ → Option Line
line_of bs = line_in (words_of bs)
