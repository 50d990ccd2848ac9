-- All lines of a module lead to it.
use Rattle.std.proofs.Common.{◌≡◌, ℕ, ◌≤◌, List, [], ◌∷◌, ◌++◌, length, map, Option, Some, None, refl, sym, ap, subst, ◌∙◌, append_assoc, arith}
use Rattle.std.specs.List.{flat_map}
use Rattle.std.proofs.lemmas.List.{append-nil}
use Rattle.w_types.specs.declared.types.RecGroup.{RecGroup}
use Rattle.w_syntax.specs.declared.locals.LocalRun.{LocalRun}
use Rattle.w_syntax.specs.declared.module.Limits.{Limits}
use Rattle.w_syntax.specs.declared.module.Tag.{Tag}
use Rattle.w_syntax.specs.declared.module.Import.{Import}
use Rattle.w_syntax.specs.declared.module.Table.{Table}
use Rattle.w_syntax.specs.declared.module.GlobalVariable.{GlobalVariable}
use Rattle.w_syntax.specs.declared.module.Export.{Export}
use Rattle.w_syntax.specs.declared.module.Elem.{Elem}
use Rattle.w_syntax.specs.declared.module.Data.{Data}
use Rattle.w_syntax.specs.declared.module.Func.{Func}
use Rattle.w_syntax.specs.declared.module.Module.{Module}
use Rattle.w_syntax.specs.Module.{empty_module}
use Rattle.w_syntax.specs.LocalsLaws.{IsJoined, all_joined, joined_twice}
use Rattle.w_text.specs.Parts.{LocalsFit, EachLocalsFit, PartsFit}
use Rattle.w_lines.specs.declared.line.Line.{Line}
use Rattle.w_lines.specs.declared.line.Line.TheVariants as line
use Rattle.w_text.specs.declared.item.Item.{Item}
use Rattle.w_text.specs.declared.item.Item.TheVariants.{Group, Imported, TableItem, Memory, TagItem, Global, Exported, Elements, Bytes, Function}
use Rattle.w_text.specs.Items.{item_lines, start_items, function_items, lists, joined_lists, items, module_lines}
use Rattle.w_text.specs.Machine.{Between, rank, rank_after, add, Fresh, Reading, step, run}
use Rattle.w_text.proofs.Told.{FewJoined, ItemFits}
use Rattle.w_text.proofs.Sound.{EachFew}
use Rattle.w_text.proofs.Complete.{Ordered, added_all, items_run}

-- ## Order

ordered_before : (j k : ℕ) (its : List Item) → j ≤ k → Ordered k its → Ordered j its
ordered_before j k [] le o = tt
ordered_before j k (it ∷ its) le o = (omega (arith, o.0), o.1, o.2)

-- a list of items of one place
ordered_list : {A : Type 0} (make : A → Item) (r k : ℕ) → ((x : A) → rank (make x) ≡ r) → ((x : A) → rank_after (make x) ≡ r) → ((x : A) → ItemFits (make x)) → (xs : List A) (more : List Item) → k ≤ r → Ordered r more → Ordered k (map make xs ++ more)
ordered_list make r k a b f [] more le o = ordered_before k r more le o
ordered_list make r k a b f (x ∷ xs) more le o =
    (omega (arith, a x), f x, subst (λ (n : ℕ). Ordered n (map make xs ++ more)) (sym (b x)) (ordered_list make r r a b f xs more (omega arith) o))

ordered_start : (k : ℕ) (o : Option ℕ) (more : List Item) → k ≤ 7 → Ordered 8 more → Ordered k (start_items o ++ more)
ordered_start k None more le o = ordered_before k 8 more (omega arith) o
ordered_start k (Some x) more le o = (le, tt, o)

pub to_few : (ls : List LocalRun) → LocalsFit ls → FewJoined ls
to_few ls f = record { alone = subst IsJoined f.alone (all_joined ls); few = f.few }

pub from_few : (ls : List LocalRun) → FewJoined ls → LocalsFit ls
from_few ls f = record { alone = joined_twice ls f.alone; few = f.few }

ordered_functions : (k : ℕ) (xs : List ℕ) (fs : List Func) → k ≤ 10 → EachLocalsFit fs → Ordered k (function_items xs fs ++ [])
unfolding function_items
ordered_functions k [] fs le e = tt
ordered_functions k (x ∷ xs) [] le e = tt
ordered_functions k (x ∷ xs) (f ∷ fs) le e = (le, to_few f.locals e.0, ordered_functions 10 xs fs (omega arith) e.1)

ordered_items : (m : Module) → PartsFit m → Ordered 0 (items m)
unfolding lists joined_lists
ordered_items m f =
    ordered_list Group 0 0 (λ x. refl) (λ x. refl) (λ x. tt) m.types _ (omega arith)
    (ordered_list Imported 1 0 (λ x. refl) (λ x. refl) (λ x. tt) m.imports _ (omega arith)
    (ordered_list TableItem 2 1 (λ x. refl) (λ x. refl) (λ x. tt) m.tables _ (omega arith)
    (ordered_list Memory 3 2 (λ x. refl) (λ x. refl) (λ x. tt) m.memories _ (omega arith)
    (ordered_list TagItem 4 3 (λ x. refl) (λ x. refl) (λ x. tt) m.tags _ (omega arith)
    (ordered_list Global 5 4 (λ x. refl) (λ x. refl) (λ x. tt) m.globals _ (omega arith)
    (ordered_list Exported 6 5 (λ x. refl) (λ x. refl) (λ x. tt) m.exports _ (omega arith)
    (ordered_start 6 m.start _ (omega arith)
    (ordered_list Elements 8 8 (λ x. refl) (λ x. refl) (λ x. tt) m.elements _ (omega arith)
    (ordered_list Bytes 9 8 (λ x. refl) (λ x. refl) (λ x. tt) m.datas _ (omega arith)
    (ordered_functions 9 m.functions m.codes (omega arith) f.locals))))))))))

-- ## What the items add

added_more : (xs ys : List Item) (m : Module) → added_all (xs ++ ys) m ≡ added_all ys (added_all xs m)
unfolding added_all
added_more [] ys m = refl
added_more (x ∷ xs) ys m = added_more xs ys (add x m)

adds_types : (xs : List RecGroup) (m : Module) → added_all (map Group xs) m ≡ record m { types = m.types ++ xs }
unfolding added_all
adds_types [] m = ap (λ (l : List RecGroup). record m { types = l }) (sym (append-nil m.types))
adds_types (x ∷ xs) m = adds_types xs (add (Group x) m) ∙ ap (λ (l : List RecGroup). record m { types = l }) (append_assoc m.types (x ∷ []) xs)

adds_imports : (xs : List Import) (m : Module) → added_all (map Imported xs) m ≡ record m { imports = m.imports ++ xs }
unfolding added_all
adds_imports [] m = ap (λ (l : List Import). record m { imports = l }) (sym (append-nil m.imports))
adds_imports (x ∷ xs) m = adds_imports xs (add (Imported x) m) ∙ ap (λ (l : List Import). record m { imports = l }) (append_assoc m.imports (x ∷ []) xs)

adds_tables : (xs : List Table) (m : Module) → added_all (map TableItem xs) m ≡ record m { tables = m.tables ++ xs }
unfolding added_all
adds_tables [] m = ap (λ (l : List Table). record m { tables = l }) (sym (append-nil m.tables))
adds_tables (x ∷ xs) m = adds_tables xs (add (TableItem x) m) ∙ ap (λ (l : List Table). record m { tables = l }) (append_assoc m.tables (x ∷ []) xs)

adds_memories : (xs : List Limits) (m : Module) → added_all (map Memory xs) m ≡ record m { memories = m.memories ++ xs }
unfolding added_all
adds_memories [] m = ap (λ (l : List Limits). record m { memories = l }) (sym (append-nil m.memories))
adds_memories (x ∷ xs) m = adds_memories xs (add (Memory x) m) ∙ ap (λ (l : List Limits). record m { memories = l }) (append_assoc m.memories (x ∷ []) xs)

adds_tags : (xs : List Tag) (m : Module) → added_all (map TagItem xs) m ≡ record m { tags = m.tags ++ xs }
unfolding added_all
adds_tags [] m = ap (λ (l : List Tag). record m { tags = l }) (sym (append-nil m.tags))
adds_tags (x ∷ xs) m = adds_tags xs (add (TagItem x) m) ∙ ap (λ (l : List Tag). record m { tags = l }) (append_assoc m.tags (x ∷ []) xs)

adds_globals : (xs : List GlobalVariable) (m : Module) → added_all (map Global xs) m ≡ record m { globals = m.globals ++ xs }
unfolding added_all
adds_globals [] m = ap (λ (l : List GlobalVariable). record m { globals = l }) (sym (append-nil m.globals))
adds_globals (x ∷ xs) m = adds_globals xs (add (Global x) m) ∙ ap (λ (l : List GlobalVariable). record m { globals = l }) (append_assoc m.globals (x ∷ []) xs)

adds_exports : (xs : List Export) (m : Module) → added_all (map Exported xs) m ≡ record m { exports = m.exports ++ xs }
unfolding added_all
adds_exports [] m = ap (λ (l : List Export). record m { exports = l }) (sym (append-nil m.exports))
adds_exports (x ∷ xs) m = adds_exports xs (add (Exported x) m) ∙ ap (λ (l : List Export). record m { exports = l }) (append_assoc m.exports (x ∷ []) xs)

adds_elements : (xs : List Elem) (m : Module) → added_all (map Elements xs) m ≡ record m { elements = m.elements ++ xs }
unfolding added_all
adds_elements [] m = ap (λ (l : List Elem). record m { elements = l }) (sym (append-nil m.elements))
adds_elements (x ∷ xs) m = adds_elements xs (add (Elements x) m) ∙ ap (λ (l : List Elem). record m { elements = l }) (append_assoc m.elements (x ∷ []) xs)

adds_datas : (xs : List Data) (m : Module) → added_all (map Bytes xs) m ≡ record m { datas = m.datas ++ xs }
unfolding added_all
adds_datas [] m = ap (λ (l : List Data). record m { datas = l }) (sym (append-nil m.datas))
adds_datas (x ∷ xs) m = adds_datas xs (add (Bytes x) m) ∙ ap (λ (l : List Data). record m { datas = l }) (append_assoc m.datas (x ∷ []) xs)

adds_start : (o : Option ℕ) (m : Module) → m.start ≡ None → added_all (start_items o) m ≡ record m { start = o }
unfolding added_all
adds_start None m e = ap (λ (o : Option ℕ). record m { start = o }) e
adds_start (Some x) m e = refl

adds_functions : (xs : List ℕ) (fs : List Func) (m : Module) → length xs ≡ length fs → added_all (function_items xs fs ++ []) m ≡ record m { functions = m.functions ++ xs; codes = m.codes ++ fs }
unfolding added_all function_items
adds_functions [] [] m e =
    ap (λ (l : List ℕ). record m { functions = l }) (sym (append-nil m.functions))
    ∙ ap (λ (l : List Func). record m { functions = m.functions ++ []; codes = l }) (sym (append-nil m.codes))
adds_functions [] (f ∷ fs) m e = absurd (omega (arith, e))
adds_functions (x ∷ xs) [] m e = absurd (omega (arith, e))
adds_functions (x ∷ xs) (f ∷ fs) m e =
    adds_functions xs fs (add (Function x f) m) (omega (arith, e))
    ∙ ap (λ (l : List ℕ). record m { functions = l; codes = (m.codes ++ f ∷ []) ++ fs }) (append_assoc m.functions (x ∷ []) xs)
    ∙ ap (λ (l : List Func). record m { functions = m.functions ++ x ∷ xs; codes = l }) (append_assoc m.codes (f ∷ []) fs)

-- one list after the other
added_in_turn : (xs ys : List Item) (m n : Module) → added_all xs m ≡ n → added_all (xs ++ ys) m ≡ added_all ys n
added_in_turn xs ys m n e = added_more xs ys m ∙ ap (added_all ys) e

module_of_items : (m : Module) → PartsFit m → added_all (items m) empty_module ≡ m
unfolding lists joined_lists
module_of_items m f =
    let m1 = record empty_module { types = m.types } in
    let m2 = record m1 { imports = m.imports } in
    let m3 = record m2 { tables = m.tables } in
    let m4 = record m3 { memories = m.memories } in
    let m5 = record m4 { tags = m.tags } in
    let m6 = record m5 { globals = m.globals } in
    let m7 = record m6 { exports = m.exports } in
    let m8 = record m7 { start = m.start } in
    let m9 = record m8 { elements = m.elements } in
    let m10 = record m9 { datas = m.datas } in
    added_in_turn (map Group m.types) _ empty_module m1 (adds_types m.types empty_module)
    ∙ added_in_turn (map Imported m.imports) _ m1 m2 (adds_imports m.imports m1)
    ∙ added_in_turn (map TableItem m.tables) _ m2 m3 (adds_tables m.tables m2)
    ∙ added_in_turn (map Memory m.memories) _ m3 m4 (adds_memories m.memories m3)
    ∙ added_in_turn (map TagItem m.tags) _ m4 m5 (adds_tags m.tags m4)
    ∙ added_in_turn (map Global m.globals) _ m5 m6 (adds_globals m.globals m5)
    ∙ added_in_turn (map Exported m.exports) _ m6 m7 (adds_exports m.exports m6)
    ∙ added_in_turn (start_items m.start) _ m7 m8 (adds_start m.start m7 refl)
    ∙ added_in_turn (map Elements m.elements) _ m8 m9 (adds_elements m.elements m8)
    ∙ added_in_turn (map Bytes m.datas) _ m9 m10 (adds_datas m.datas m9)
    ∙ adds_functions m.functions m.codes m10 f.paired

module_begins : (ls : List Line) → run Fresh (line.Module ∷ ls) ≡ run (Reading 0 empty_module Between) ls
unfolding run step
module_begins ls = refl

-- the lines of a module lead to it
pub module_run : (m : Module) → PartsFit m → (j : ℕ) × (run Fresh (module_lines m) ≡ Some (Reading j m Between))
module_run m f =
    let r = items_run (items m) 0 empty_module (ordered_items m f) in
    (r.0, module_begins (flat_map item_lines (items m)) ∙ r.1 ∙ ap (λ (n : Module). Some (Reading r.0 n Between)) (module_of_items m f))

pub each_fits : (fs : List Func) → EachFew fs → EachLocalsFit fs
each_fits [] e = tt
each_fits (f ∷ fs) e = (from_few f.locals e.0, each_fits fs e.1)
