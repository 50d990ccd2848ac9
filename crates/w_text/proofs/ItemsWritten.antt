-- The bytes of items are those of their lines.
use Rattle.std.proofs.Common.{◌≡◌, ℕ, true, false, List, [], ◌∷◌, ◌++◌, length, map, Option, Some, None, drop, get_or, slice_get, zero, suc, ◌+◌, ◌<◌, ◌≤◌, refl, sym, ap, ◌∙◌, append_assoc, arith}
use Rattle.std.specs.Prelude.{OnOk, Result, Ok, Err}
use Rattle.std.specs.List.{flat_map}
use Rattle.std.proofs.lemmas.List.{append-nil, drop_all}
use Rattle.std.proofs.lemmas.List.Folds.{flat_map-map}
use Rattle.std.proofs.lemmas.Grind.{flat_map-append}
use Rattle.w_types.specs.declared.types.RefType.{RefType}
use Rattle.w_types.specs.declared.types.SubType.{SubType}
use Rattle.w_syntax.specs.declared.locals.LocalRun.{LocalRun}
use Rattle.w_syntax.specs.declared.instructions.Token.TheVariants as tok
use Rattle.w_syntax.specs.declared.module.TableType.{TableType}
use Rattle.w_syntax.specs.declared.module.ElemMode.{ElemMode}
use Rattle.w_syntax.specs.declared.module.ElemMode.TheVariants as elem_mode
use Rattle.w_syntax.specs.declared.module.DataMode.{DataMode}
use Rattle.w_syntax.specs.declared.module.DataMode.TheVariants as data_mode
use Rattle.w_syntax.specs.declared.module.Module.{Module}
use Rattle.w_syntax.specs.Code.{Code}
use Rattle.w_syntax.specs.Expr.{tokens}
use Rattle.w_lines.specs.declared.line.Mode.TheVariants as mode
use Rattle.w_lines.specs.declared.line.Line.{Line}
use Rattle.w_lines.specs.declared.line.Line.TheVariants as line
use Rattle.w_lines.specs.Spelling.{line_bytes}
use Rattle.w_lines.specs.Written.{code_bytes}
use Rattle.w_syntax.specs.declared.module.Func.{Func}
use Rattle.w_text.specs.Text.{text_of}
use Rattle.w_text.specs.declared.item.Item.{Item}
use Rattle.w_text.specs.declared.item.Item.TheVariants.{Group, Imported, TableItem, Memory, TagItem, Global, Exported, Start, Elements, Bytes, Function}
use Rattle.w_text.specs.Items.{GlobalHead, FunctionHead, expr_lines, exprs_lines, group_lines, head_lines, headed, table_lines, elem_lines, data_lines, item_lines, start_items, function_items, lists, joined_lists, items}
use Rattle.w_text.specs.Written.{local_bytes, group_bytes, table_bytes, elements_bytes, data_bytes, item_bytes}

expr_written : (c : Code) → flat_map line_bytes (expr_lines c) ≡ code_bytes c
unfolding expr_lines
expr_written c = flat_map-map line_bytes line.Token (tokens c ++ tok.End ∷ [])

exprs_written : (cs : List Code) → flat_map line_bytes (exprs_lines cs) ≡ flat_map code_bytes cs
unfolding exprs_lines
exprs_written [] = refl
exprs_written (c ∷ cs) = flat_map-append line_bytes (expr_lines c) (exprs_lines cs) ∙ ap (λ (l : List ℕ). l ++ flat_map line_bytes (exprs_lines cs)) (expr_written c) ∙ ap (λ (l : List ℕ). code_bytes c ++ l) (exprs_written cs)

one_expr : (c : Code) → flat_map line_bytes (exprs_lines (c ∷ [])) ≡ code_bytes c
one_expr c = exprs_written (c ∷ []) ∙ append-nil (code_bytes c)

-- behind one line
behind_line : (l : Line) (cs : List Code) → flat_map line_bytes (l ∷ [] ++ exprs_lines cs) ≡ line_bytes l ++ flat_map code_bytes cs
behind_line l cs = ap (λ (k : List ℕ). line_bytes l ++ k) (exprs_written cs)

behind_one : (l : Line) (c : Code) → flat_map line_bytes (l ∷ [] ++ exprs_lines (c ∷ [])) ≡ line_bytes l ++ code_bytes c
behind_one l c = ap (λ (k : List ℕ). line_bytes l ++ k) (one_expr c)

one_line : (l : Line) → flat_map line_bytes (l ∷ []) ≡ line_bytes l
one_line l = append-nil (line_bytes l)

group_written : (ts : List SubType) → flat_map line_bytes (group_lines ts) ≡ group_bytes ts
unfolding group_lines
group_written [] = one_line (line.Group 0)
group_written (t ∷ []) = one_line (line.Type t)
group_written (t ∷ u ∷ ts) = ap (λ (l : List ℕ). line_bytes (line.Group (length (t ∷ u ∷ ts))) ++ l) (flat_map-map line_bytes line.Type (t ∷ u ∷ ts))

table_written : (t : TableType) (o : Option Code) → flat_map line_bytes (table_lines t o) ≡ table_bytes t o
unfolding head_lines
table_written t None = one_line (line.Table t false)
table_written t (Some c) = behind_one (line.Table t true) c

elements_written : (m : ElemMode) (r : RefType) (cs : List Code) → flat_map line_bytes (elem_lines m r cs) ≡ elements_bytes m r cs
unfolding head_lines
elements_written (elem_mode.Active x c) r cs = behind_line (line.Elements (mode.Active x) r (length cs)) (c ∷ cs) ∙ sym (append_assoc (line_bytes (line.Elements (mode.Active x) r (length cs))) (code_bytes c) (flat_map code_bytes cs))
elements_written elem_mode.Passive r cs = behind_line (line.Elements mode.Passive r (length cs)) cs
elements_written elem_mode.Declarative r cs = behind_line (line.Elements mode.Declarative r (length cs)) cs

data_written : (m : DataMode) (b : List ℕ) → flat_map line_bytes (data_lines m b) ≡ data_bytes m b
unfolding head_lines
data_written (data_mode.Active x c) b = behind_one (line.Data (Some x) b) c
data_written data_mode.Passive b = one_line (line.Data None b)

function_written : (x : ℕ) (ls : List LocalRun) (c : Code) → flat_map line_bytes (headed (FunctionHead x ls) (c ∷ [])) ≡ line_bytes (line.Function x) ++ (flat_map local_bytes ls ++ code_bytes c)
unfolding head_lines
function_written x ls c =
    ap (λ (l : List ℕ). line_bytes (line.Function x) ++ l)
    (flat_map-append line_bytes (map line.Local ls) (exprs_lines (c ∷ [])) ∙ ap (λ (l : List ℕ). l ++ flat_map line_bytes (exprs_lines (c ∷ []))) (flat_map-map line_bytes line.Local ls) ∙ ap (λ (l : List ℕ). flat_map local_bytes ls ++ l) (one_expr c))

global_head : (g : _) (c : Code) → flat_map line_bytes (headed (GlobalHead g) (c ∷ [])) ≡ line_bytes (line.Global g) ++ code_bytes c
unfolding head_lines
global_head g c = behind_one (line.Global g) c

pub item_written : (it : Item) → flat_map line_bytes (item_lines it) ≡ item_bytes it
unfolding item_lines
item_written (Group g) = group_written g.types
item_written (Imported i) = one_line (line.Import i)
item_written (TableItem t) = table_written t.kind t.init
item_written (Memory l) = one_line (line.Memory l)
item_written (TagItem t) = one_line (line.Tag t)
item_written (Global g) = global_head g.kind g.init
item_written (Exported e) = one_line (line.Export e)
item_written (Start x) = one_line (line.Start x)
item_written (Elements e) = elements_written e.mode e.kind e.items
item_written (Bytes d) = data_written d.mode d.bytes
item_written (Function x f) = function_written x f.locals f.body

-- and those of all
pub items_written : (its : List Item) → flat_map line_bytes (flat_map item_lines its) ≡ flat_map item_bytes its
items_written [] = refl
items_written (it ∷ its) = flat_map-append line_bytes (item_lines it) (flat_map item_lines its) ∙ ap (λ (l : List ℕ). l ++ flat_map line_bytes (flat_map item_lines its)) (item_written it) ∙ ap (λ (l : List ℕ). item_bytes it ++ l) (items_written its)

-- ## Item by item

next_of : {A : Type 0} (f : A → List ℕ) (xs : List A) (i : ℕ) (x : A) → slice_get xs i ≡ Some x → flat_map f (drop i xs) ≡ f x ++ flat_map f (drop (suc i) xs)
next_of f [] i x e = absurd cc
next_of f (y ∷ xs) zero x e = let s : y ≡ x = cc in ap (λ z. f z ++ flat_map f xs) s
next_of f (y ∷ xs) (suc i) x e = next_of f xs i x e

-- the next of a list
pub next_written : {A : Type 0} (f : A → List ℕ) (xs : List A) (i : ℕ) (x : A) → slice_get xs i ≡ Some x → flat_map f (drop i xs) ≡ f x ++ flat_map f (drop (i + 1) xs)
next_written f xs i x e = let s : suc i ≡ i + 1 = omega arith in next_of f xs i x e ∙ ap (λ (k : ℕ). f x ++ flat_map f (drop k xs)) s

function_at : (xs : List ℕ) (fs : List Func) (i x : ℕ) (f : Func) → slice_get xs i ≡ Some x → slice_get fs i ≡ Some f → function_items (drop i xs) (drop i fs) ≡ Function x f ∷ function_items (drop (suc i) xs) (drop (suc i) fs)
unfolding function_items
function_at [] fs i x f e g = absurd cc
function_at (y ∷ xs) [] i x f e g = absurd cc
function_at (y ∷ xs) (h ∷ fs) zero x f e g = let s : y ≡ x = cc in let t : h ≡ f = cc in ap (λ z. Function z h ∷ function_items xs fs) s ∙ ap (λ z. Function x z ∷ function_items xs fs) t
function_at (y ∷ xs) (h ∷ fs) (suc i) x f e g = function_at xs fs i x f e g

-- what stands at a place before the end
pub there_at : (xs : List ℕ) (i : ℕ) → i < length xs → slice_get xs i ≡ Some (get_or xs i 0)
there_at [] i lt = absurd (omega (arith, lt))
there_at (x ∷ xs) zero lt = refl
there_at (x ∷ xs) (suc i) lt = there_at xs i (omega (arith, lt))

pub found_at : (fs : List Func) (i : ℕ) (f : Func) → i < length fs → f ≡ get_or fs i f → slice_get fs i ≡ Some f
found_at [] i f lt e = absurd (omega (arith, lt))
found_at (h ∷ fs) zero f lt e = ap Some (sym e)
found_at (h ∷ fs) (suc i) f lt e = found_at fs i f (omega (arith, lt)) e

-- the next function
pub next_function : (xs : List ℕ) (fs : List Func) (i x : ℕ) (f : Func) → slice_get xs i ≡ Some x → slice_get fs i ≡ Some f → function_items (drop i xs) (drop i fs) ≡ Function x f ∷ function_items (drop (i + 1) xs) (drop (i + 1) fs)
next_function xs fs i x f e g = let s : suc i ≡ i + 1 = omega arith in function_at xs fs i x f e g ∙ ap (λ (k : ℕ). Function x f ∷ function_items (drop k xs) (drop k fs)) s

-- no function is left
pub no_functions : (xs : List ℕ) (fs : List Func) (i : ℕ) → length xs ≤ i → function_items (drop i xs) (drop i fs) ≡ []
unfolding function_items
no_functions xs fs i le = ap (λ (l : List ℕ). function_items l (drop i fs)) (drop_all i xs le) ∙ none (drop i fs)
  where
    none : (gs : List Func) → function_items [] gs ≡ []
    none gs = refl

pub no_codes : (xs : List ℕ) (fs : List Func) (i : ℕ) → length fs ≤ i → function_items (drop i xs) (drop i fs) ≡ []
unfolding function_items
no_codes xs fs i le = ap (λ (l : List Func). function_items (drop i xs) l) (drop_all i fs le) ∙ none (drop i xs)
  where
    none : (ys : List ℕ) → function_items ys [] ≡ []
    none [] = refl
    none (y ∷ ys) = refl

-- ## A module

abbrev bytes_of : List Item → List ℕ
bytes_of its = flat_map item_bytes its

split : (xs ys : List Item) (l : List ℕ) → bytes_of ys ≡ l → bytes_of (xs ++ ys) ≡ bytes_of xs ++ l
split xs ys l e = flat_map-append item_bytes xs ys ∙ ap (λ (k : List ℕ). bytes_of xs ++ k) e

-- the lists of a module, one behind the other
pub module_written : (m : Module) → text_of m ≡ line_bytes line.Module ++ (bytes_of (map Group m.types) ++ (bytes_of (map Imported m.imports) ++ (bytes_of (map TableItem m.tables) ++ (bytes_of (map Memory m.memories) ++ (bytes_of (map TagItem m.tags) ++ (bytes_of (map Global m.globals) ++ (bytes_of (map Exported m.exports) ++ (bytes_of (start_items m.start) ++ (bytes_of (map Elements m.elements) ++ (bytes_of (map Bytes m.datas) ++ (bytes_of (function_items m.functions m.codes))))))))))))
unfolding lists joined_lists
module_written m = ap (λ (l : List ℕ). line_bytes line.Module ++ l) (items_written (items m) ∙ (split (map Group m.types) _ _ (split (map Imported m.imports) _ _ (split (map TableItem m.tables) _ _ (split (map Memory m.memories) _ _ (split (map TagItem m.tags) _ _ (split (map Global m.globals) _ _ (split (map Exported m.exports) _ _ (split (start_items m.start) _ _ (split (map Elements m.elements) _ _ (split (map Bytes m.datas) _ _ (ap bytes_of (append-nil (function_items m.functions m.codes))))))))))))))

-- what is written behind what was
pub behind : (new old b rest : List ℕ) (out : List ℕ) → out ≡ old ++ b → new ≡ out ++ rest → new ≡ old ++ (b ++ rest)
behind new old b rest out e f = f ∙ ap (λ (l : List ℕ). l ++ rest) e ∙ append_assoc old b rest

pub where_written : {T E : Type 0} (r : Result T E) (P Q : Type 0) → (P → Q) → OnOk r P → OnOk r Q
where_written (Ok t) P Q f p = f p
where_written (Err e) P Q f p = tt
