-- Lines that fit are read as they are written, and no separator is in their words.
use Rattle.std.proofs.Common.{◌≡◌, ℕ, ◌<◌, Bool, true, false, List, [], ◌∷◌, ◌++◌, map, Option, Some, None, refl, ap, ◌∙◌, arith, rules, decimal, inl, inr}
use Rattle.std.specs.Prelude.{nat_eq, option_map, codes}
use Rattle.std.proofs.lemmas.Bool.Decides.{eqb_tells}
use Rattle.hex.specs.Hex.{IsBytes}
use Rattle.w_types.specs.declared.types.RefType.{RefType}
use Rattle.w_types.specs.declared.types.ValType.{ValType}
use Rattle.w_types.specs.declared.types.FuncType.{FuncType}
use Rattle.w_types.specs.declared.types.CompType.{CompType}
use Rattle.w_types.specs.declared.types.CompType.TheVariants as comp
use Rattle.w_syntax.specs.declared.instructions.Token.{Token}
use Rattle.w_syntax.specs.declared.module.TableType.{TableType}
use Rattle.w_syntax.specs.declared.module.ExternType.{ExternType}
use Rattle.w_syntax.specs.declared.module.ExternType.TheVariants as extern
use Rattle.w_syntax.specs.declared.module.ExternIndex.{ExternIndex}
use Rattle.w_syntax.specs.declared.module.ExternIndex.TheVariants as index
use Rattle.w_words.specs.Words.{Word, ◌>>=◌, IsClean, Each, ended, spaced, words_of}
use Rattle.w_words.specs.Numbers.{Index32, number_of, count_word}
use Rattle.w_words.specs.Hexadecimal.{bytes_word, NameFits}
use Rattle.w_words.specs.Types.{ref_word, RefFits, val_word, ValFits}
use Rattle.w_words.proofs.Readings.{twos, each_complete, each_clean, until_complete}
use Rattle.w_words.specs.Pieces.{InLine}
use Rattle.w_words.proofs.Lines.{words_spaced, words_apart}
use Rattle.w_words.proofs.Pieces.{words_in_line}
use Rattle.w_words.proofs.Numerals.{numbers, indices as index_numbers}
use Rattle.w_words.proofs.Counts.{counts}
use Rattle.w_words.proofs.HexadecimalWords.{byte_lists, names}
use Rattle.w_words.proofs.TypeWords.{ref_types, val_types}
use Rattle.w_lines.specs.declared.line.Mode.{Mode}
use Rattle.w_lines.specs.declared.line.Mode.TheVariants as mode
use Rattle.w_lines.specs.declared.line.Line.{Line}
use Rattle.w_lines.specs.declared.line.Line.TheVariants as line
use Rattle.w_lines.specs.Instructions.{token_name, immediates, TokenFits}
use Rattle.w_lines.specs.Spelling.{mode_words, func_words, composite_words, below_words, subtype_words, table_words, extern_words, index_words, init_words, line_words, line_text, TableFits, ExternFits, ExternIndexFits, MemoryFits, FuncFits, CompositeFits, ModeFits, LineFits, table_in, table_of, func_of, composite_of, below_of, open_with, alone, extern_of, index_of, import_line, init_of, table_line, export_line, items_line, elements_line, local_line, line_in, line_of}
use Rattle.w_lines.proofs.InstructionRows.{token_complete, token_clean, no_kind}
use Rattle.w_lines.proofs.LineWords.{words_sound, maxima, limits, global_types}

-- ## Parts of lines

table_in_complete : (t : TableType) (rest : List Word) → TableFits t → table_in (table_words t ++ rest) ≡ Some (t, rest)
table_in_complete t rest f =
    rw (ref_types.complete t.element f.0, (numbers 64 (omega arith)).complete t.limits.min f.1.0)
    (ap (option_map (λ (m : Option ℕ). (record { element = t.element; limits = record { min = t.limits.min; max = m } }, rest))) (maxima.complete t.limits.max f.1.1))

table_complete : (t : TableType) → TableFits t → table_of (table_words t) ≡ Some t
table_complete t f = ap (λ (o : Option (TableType × List Word)). o >>= λ p. ended p.0 p.1) (table_in_complete t [] f)

func_complete : (t : FuncType) → FuncFits t → func_of (func_words t) ≡ Some t
func_complete t f =
    rw (until_complete val_types (codes "->") refl refl t.params (map val_word t.results) f.0)
    (ap (option_map (λ (ts : List ValType). record { params = t.params; results = ts })) (each_complete val_types t.results f.1))

composite_complete : (c : CompType) → CompositeFits c → composite_of (composite_words c) ≡ Some c
composite_complete (comp.Func t) f = ap (option_map comp.Func) (func_complete t f)
composite_complete (comp.Cont x) f = ap (option_map comp.Cont) (index_numbers.complete x f)

colon_is_none : number_of 32 (codes ":") ≡ None
unfolding number_of
colon_is_none = refl

below_complete : (xs : List ℕ) (c : CompType) → Each Index32 xs → CompositeFits c → below_of (below_words xs c) ≡ Some (xs, c)
below_complete xs c f g =
    rw (until_complete index_numbers (codes ":") colon_is_none refl xs (composite_words c) f)
    (ap (option_map (λ (d : CompType). (xs, d))) (composite_complete c g))

composite_line : (c : CompType) → CompositeFits c → line_in (composite_words c) ≡ Some (line.Type (alone c))
unfolding line_in
composite_line (comp.Func t) f = ap (option_map (λ (u : FuncType). line.Type (alone (comp.Func u)))) (func_complete t f)
composite_line (comp.Cont x) f = ap (option_map (λ n. line.Type (alone (comp.Cont n)))) (index_numbers.complete x f)

subtype_complete : (b : Bool) (xs : List ℕ) (c : CompType) → Each Index32 xs → CompositeFits c → line_in (subtype_words b xs c) ≡ Some (line.Type (record { is_final = b; supertypes = xs; composite = c }))
unfolding line_in
subtype_complete true [] c f g = composite_line c g
subtype_complete true (x ∷ xs) c f g = rw (below_complete (x ∷ xs) c f g) refl
subtype_complete false xs c f g = ap (option_map (λ p. line.Type (open_with p))) (below_complete xs c f g)

extern_complete : (x : ExternType) → ExternFits x → extern_of (extern_words x) ≡ Some x
extern_complete (extern.Func x) f = ap (option_map extern.Func) (index_numbers.complete x f)
extern_complete (extern.Table t) f = ap (option_map extern.Table) (table_complete t f)
extern_complete (extern.Memory l) f = ap (option_map extern.Memory) (limits.complete l f)
extern_complete (extern.Global g) f = ap (option_map extern.Global) (global_types.complete g f)
extern_complete (extern.Tag t) f = ap (option_map (λ x. extern.Tag (record { type_index = x }))) (index_numbers.complete t.type_index f)

index_complete : (x : ExternIndex) → ExternIndexFits x → index_of (index_words x) ≡ Some x
index_complete (index.Func x) f = ap (option_map index.Func) (index_numbers.complete x f)
index_complete (index.Table x) f = ap (option_map index.Table) (index_numbers.complete x f)
index_complete (index.Memory x) f = ap (option_map index.Memory) (index_numbers.complete x f)
index_complete (index.Global x) f = ap (option_map index.Global) (index_numbers.complete x f)
index_complete (index.Tag x) f = ap (option_map index.Tag) (index_numbers.complete x f)

-- ## Lines

import_complete : (m n : List ℕ) (x : ExternType) → NameFits m → NameFits n → ExternFits x → import_line (bytes_word m ∷ bytes_word n ∷ extern_words x) ≡ Some (line.Import (record { module_name = m; item_name = n; kind = x }))
import_complete m n x f g h = rw (names.complete m f, names.complete n g) (ap (option_map (λ (k : ExternType). line.Import (record { module_name = m; item_name = n; kind = k }))) (extern_complete x h))

export_complete : (n : List ℕ) (x : ExternIndex) → NameFits n → ExternIndexFits x → export_line (bytes_word n ∷ index_words x) ≡ Some (line.Export (record { name = n; index = x }))
export_complete n x f g = rw (names.complete n f) (ap (option_map (λ (i : ExternIndex). line.Export (record { name = n; index = i }))) (index_complete x g))

init_complete : (b : Bool) → init_of (init_words b) ≡ Some b
init_complete true = refl
init_complete false = refl

table_line_complete : (t : TableType) (b : Bool) → TableFits t → table_line (table_words t ++ init_words b) ≡ Some (line.Table t b)
table_line_complete t b f =
    ap (λ (o : Option (TableType × List Word)). o >>= λ p. option_map (line.Table p.0) (init_of p.1)) (table_in_complete t (init_words b) f)
    ∙ ap (option_map (line.Table t)) (init_complete b)

items_complete : (m : Mode) (r : RefType) (k : ℕ) → RefFits r → items_line m (ref_word r ∷ count_word k ∷ []) ≡ Some (line.Elements m r k)
items_complete m r k f = ap (option_map (λ (p : RefType × ℕ). line.Elements m p.0 p.1)) ((twos ref_types counts).complete (r, k) (f, tt))

elements_complete : (m : Mode) (r : RefType) (k : ℕ) → ModeFits m → RefFits r → elements_line (mode_words m ++ ref_word r ∷ count_word k ∷ []) ≡ Some (line.Elements m r k)
elements_complete (mode.Active x) r k h f = rw (index_numbers.complete x h) (items_complete (mode.Active x) r k f)
elements_complete mode.Passive r k h f = items_complete mode.Passive r k f
elements_complete mode.Declarative r k h f = items_complete mode.Declarative r k f

data_complete : (o : Option ℕ) (b : List ℕ) → MemoryFits o → IsBytes b → line_in (line_words (line.Data o b)) ≡ Some (line.Data o b)
unfolding line_in
data_complete None b f g = ap (option_map (line.Data None)) (byte_lists.complete b g)
data_complete (Some x) b f g = ap (option_map (λ (p : ℕ × List ℕ). line.Data (Some p.0) p.1)) ((twos index_numbers byte_lists).complete (x, b) (f, g))

local_complete : (n : ℕ) (t : ValType) → Index32 n → ValFits t → local_line (decimal n ∷ val_word t ∷ []) ≡ Some (line.Local (record { count = n; kind = t }))
local_complete n t f g = ap (option_map (λ (p : ℕ × ValType). line.Local (record { count = p.0; kind = p.1 }))) ((twos index_numbers val_types).complete (n, t) (f, g))

token_line_complete : (t : Token) → TokenFits t → line_in (token_name t ∷ immediates t) ≡ Some (line.Token t)
unfolding line_in
token_line_complete t f = rw (no_kind t f) (ap (option_map line.Token) (token_complete t f))

-- what fits is read as it is written
pub words_complete : (l : Line) → LineFits l → line_in (line_words l) ≡ Some l
unfolding line_in
words_complete line.Module f = refl
words_complete (line.Group k) f = ap (option_map line.Group) (counts.complete k tt)
words_complete (line.Type t) f = subtype_complete t.is_final t.supertypes t.composite f.0 f.1
words_complete (line.Import i) f = import_complete i.module_name i.item_name i.kind f.0 f.1 f.2
words_complete (line.Table t b) f = table_line_complete t b f
words_complete (line.Memory l) f = ap (option_map line.Memory) (limits.complete l f)
words_complete (line.Tag t) f = ap (option_map (λ x. line.Tag (record { type_index = x }))) (index_numbers.complete t.type_index f)
words_complete (line.Global g) f = ap (option_map line.Global) (global_types.complete g f)
words_complete (line.Export e) f = export_complete e.name e.index f.0 f.1
words_complete (line.Start x) f = ap (option_map line.Start) (index_numbers.complete x f)
words_complete (line.Elements m r k) f = elements_complete m r k f.0 f.1
words_complete (line.Data o b) f = data_complete o b f.0 f.1
words_complete (line.Function x) f = ap (option_map line.Function) (index_numbers.complete x f)
words_complete (line.Local r) f = local_complete r.count r.kind f.0 f.1
words_complete (line.Token t) f = token_line_complete t f

-- ## No separators

small32 : (n : ℕ) → Index32 n → IsClean (decimal n)
small32 n h = index_numbers.clean n h

one32 : (n : ℕ) → Index32 n → Each IsClean (decimal n ∷ [])
one32 n h = (small32 n h, tt)

both_clean : (vs ws : List Word) → Each IsClean vs → Each IsClean ws → Each IsClean (vs ++ ws)
both_clean [] ws h g = g
both_clean (v ∷ vs) ws h g = (h.0, both_clean vs ws h.1 g)

table_clean : (t : TableType) → TableFits t → Each IsClean (table_words t)
table_clean t f = (ref_types.clean t.element f.0, limits.clean t.limits f.1)

func_word : IsClean (codes "func")
func_word = search rules

cont_word : IsClean (codes "cont")
cont_word = search rules

table_word : IsClean (codes "table")
table_word = search rules

memory_word : IsClean (codes "memory")
memory_word = search rules

global_word : IsClean (codes "global")
global_word = search rules

tag_word : IsClean (codes "tag")
tag_word = search rules

active_word : IsClean (codes "active")
active_word = search rules

passive_word : IsClean (codes "passive")
passive_word = search rules

declare_word : IsClean (codes "declare")
declare_word = search rules

arrow_clean : IsClean (codes "->")
arrow_clean = search rules

colon_clean : IsClean (codes ":")
colon_clean = search rules

init_word : IsClean (codes "init")
init_word = search rules

composite_clean : (c : CompType) → CompositeFits c → Each IsClean (composite_words c)
composite_clean (comp.Func t) f = (func_word, both_clean (map val_word t.params) (codes "->" ∷ map val_word t.results) (each_clean val_types t.params f.0) (arrow_clean, each_clean val_types t.results f.1))
composite_clean (comp.Cont x) f = (cont_word, one32 x f)

below_clean : (xs : List ℕ) (c : CompType) → Each Index32 xs → CompositeFits c → Each IsClean (below_words xs c)
below_clean xs c f g = both_clean (map decimal xs) (codes ":" ∷ composite_words c) (each_clean index_numbers xs f) (colon_clean, composite_clean c g)

subtype_clean : (b : Bool) (xs : List ℕ) (c : CompType) → Each Index32 xs → CompositeFits c → Each IsClean (subtype_words b xs c)
subtype_clean true [] c f g = composite_clean c g
subtype_clean true (x ∷ xs) c f g = (final_word, below_clean (x ∷ xs) c f g)
  where
    final_word : IsClean (codes "final")
    final_word = search rules
subtype_clean false xs c f g = (open_word, below_clean xs c f g)
  where
    open_word : IsClean (codes "open")
    open_word = search rules

extern_clean : (x : ExternType) → ExternFits x → Each IsClean (extern_words x)
extern_clean (extern.Func x) f = (func_word, one32 x f)
extern_clean (extern.Table t) f = (table_word, table_clean t f)
extern_clean (extern.Memory l) f = (memory_word, limits.clean l f)
extern_clean (extern.Global g) f = (global_word, global_types.clean g f)
extern_clean (extern.Tag t) f = (tag_word, one32 t.type_index f)

index_clean : (x : ExternIndex) → ExternIndexFits x → Each IsClean (index_words x)
index_clean (index.Func x) f = (func_word, one32 x f)
index_clean (index.Table x) f = (table_word, one32 x f)
index_clean (index.Memory x) f = (memory_word, one32 x f)
index_clean (index.Global x) f = (global_word, one32 x f)
index_clean (index.Tag x) f = (tag_word, one32 x f)

mode_clean : (m : Mode) → ModeFits m → Each IsClean (mode_words m)
mode_clean (mode.Active x) f = (active_word, one32 x f)
mode_clean mode.Passive f = (passive_word, tt)
mode_clean mode.Declarative f = (declare_word, tt)

init_clean : (b : Bool) → Each IsClean (init_words b)
init_clean true = (init_word, tt)
init_clean false = tt

line_clean : (l : Line) → LineFits l → Each IsClean (line_words l)
line_clean line.Module f = (search rules, tt)
line_clean (line.Group k) f = (search rules, (counts.clean k tt, tt))
line_clean (line.Type t) f = subtype_clean t.is_final t.supertypes t.composite f.0 f.1
line_clean (line.Import i) f = (search rules, (names.clean i.module_name f.0, (names.clean i.item_name f.1, extern_clean i.kind f.2)))
line_clean (line.Table t b) f = (table_word, both_clean (table_words t) (init_words b) (table_clean t f) (init_clean b))
line_clean (line.Memory l) f = (memory_word, limits.clean l f)
line_clean (line.Tag t) f = (tag_word, one32 t.type_index f)
line_clean (line.Global g) f = (global_word, global_types.clean g f)
line_clean (line.Export e) f = (search rules, (names.clean e.name f.0, index_clean e.index f.1))
line_clean (line.Start x) f = (search rules, one32 x f)
line_clean (line.Elements m r k) f = (search rules, both_clean (mode_words m) (ref_word r ∷ count_word k ∷ []) (mode_clean m f.0) (ref_types.clean r f.1, (counts.clean k tt, tt)))
line_clean (line.Data None b) f = (search rules, (passive_word, (byte_lists.clean b f.1, tt)))
line_clean (line.Data (Some x) b) f = (search rules, (active_word, (small32 x f.0, (byte_lists.clean b f.1, tt))))
line_clean (line.Function x) f = (search rules, one32 x f)
line_clean (line.Local r) f = (search rules, (small32 r.count f.0, (val_types.clean r.kind f.1, tt)))
line_clean (line.Token t) f = token_clean t f

-- ## Lines as bytes

-- what is read of bytes fits and was written so
pub line_sound : (bs : List ℕ) (l : Line) → line_of bs ≡ Some l → LineFits l × (line_text l ≡ bs)
line_sound bs l e =
    let h = words_sound (words_of bs) l e in
    (h.0, ap spaced h.1 ∙ words_spaced bs)

some_words : (ws : List Word) (l : Line) → line_in ws ≡ Some l → Each IsClean ws → words_of (spaced ws) ≡ ws
unfolding line_in
some_words [] l e h = absurd cc
some_words (w ∷ ws) l e h = words_apart w ws h

-- what fits is read as it is written
pub line_complete : (l : Line) → LineFits l → line_of (line_text l) ≡ Some l
line_complete l f =
    let e = words_complete l f in
    ap line_in (some_words (line_words l) l e (line_clean l f)) ∙ e

pub text_in_line : (l : Line) → LineFits l → InLine (line_text l)
text_in_line l f = words_in_line (line_words l) (line_clean l f)
