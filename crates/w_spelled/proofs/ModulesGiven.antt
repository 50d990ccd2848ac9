-- What the spelling of a module gives: it has a text.
use Rattle.std.proofs.Common.{◌≡◌, ℕ, List, [], ◌∷◌, ◌++◌, Option, Some, None, refl, sym, subst}
use Rattle.std.specs.Prelude.{⊤, nat_eq}
use Rattle.hex.specs.Hex.{IsBytes}
use Rattle.w_leb.specs.Format.{Format}
use Rattle.w_leb.specs.CanonicalTableLaws.{◌&◌}
use Rattle.w_syntax.specs.declared.module.Func.{Func}
use Rattle.w_syntax.specs.declared.module.Module.{Module}
use Rattle.w_syntax.specs.declared.module.Section.{Section}
use Rattle.w_syntax.specs.declared.module.Section.TheVariants as part
use Rattle.w_syntax.specs.Contents.{Contents, wholly, IsChosen}
use Rattle.w_syntax.specs.Sections.{frame, kinds, IsSection, section}
use Rattle.w_syntax.specs.Module.{empty_module, with_contents, with_all_contents, header}
use Rattle.w_syntax.specs.Spells.{Spells}
use Rattle.w_words.specs.Words.{Each}
use Rattle.w_words.specs.Numbers.{Index32}
use Rattle.w_lines.specs.Spelling.{LineFits}
use Rattle.w_text.specs.Items.{item_lines, start_items, function_items, lists, joined_lists, items, module_lines}
use Rattle.w_text.specs.Parts.{EachLocalsFit}
use Rattle.w_text.specs.Text.{Text, text_of}
use Rattle.w_text.proofs.Least.{one_module}
use Rattle.w_spelled.proofs.Given.{both_bytes, front_bytes, Gives, weaker, in_either, each_given, of_any, of_number, of_pair, of_vec, of_bytes}
use Rattle.w_spelled.proofs.FieldsFit.{AllFit, GroupFits, ImportFits, TableFits, MemoryFits, TagFits, GlobalFits, ExportFits, ElemFits, DataFits, CodeFits, each_append, each_map, each_flat_map, function_fits}
use Rattle.w_spelled.proofs.FieldsGiven.{group_given, import_given, table_given, memory_given, tag_item_given, global_given, export_given, elem_given, data_given, code_given}

-- ## Sections

-- what a section has fits
abbrev SectionFits : Section → Type 0
SectionFits part.Custom = ⊤
SectionFits (part.Types ts) = Each GroupFits ts
SectionFits (part.Imports is) = Each ImportFits is
SectionFits (part.Functions xs) = Each Index32 xs
SectionFits (part.Tables ts) = Each TableFits ts
SectionFits (part.Memories ls) = Each MemoryFits ls
SectionFits (part.Tags ts) = Each TagFits ts
SectionFits (part.Globals gs) = Each GlobalFits gs
SectionFits (part.Exports es) = Each ExportFits es
SectionFits (part.Start x) = Index32 x
SectionFits (part.Elements es) = Each ElemFits es
SectionFits (part.DataCount n) = ⊤
SectionFits (part.Codes cs) = Each CodeFits cs
SectionFits (part.Datas ds) = Each DataFits ds

-- what contents say in bytes fits
record ContentsGive (c : Contents) : Type 0 where
  holds : (b : List ℕ) (p : Section) → IsBytes b → c.Say b p → SectionFits p

of_wholly : {A : Type 0} {f : Format A} {make : A → Section} → Gives f (λ x. SectionFits (make x)) → ContentsGive (wholly f make)
of_wholly g = record { holds = λ b p i h. subst SectionFits h.2 (g.holds b h.0 i h.1) }

abbrev AllContentsGive : List (ℕ × Contents) → Type 0
AllContentsGive [] = ⊤
AllContentsGive (e ∷ es) = ContentsGive e.1 × AllContentsGive es

chosen_gives : (es : List (ℕ × Contents)) → AllContentsGive es → (id : ℕ) (b : List ℕ) (p : Section) → IsBytes b → IsChosen es id b p → SectionFits p
chosen_gives [] a id b p i h = absurd h
chosen_gives (e ∷ es) a id b p i h = in_either (nat_eq id e.0) (e.1.Say b p) (IsChosen es id b p) (SectionFits p) (a.0.holds b p i) (chosen_gives es a.1 id b p i) h

kinds_give : AllContentsGive kinds
kinds_give =
    record { holds = λ b p i h. subst SectionFits (sym h.5) tt }
    & of_wholly (of_vec group_given)
    & of_wholly (of_vec import_given)
    & of_wholly (of_vec (of_number 32))
    & of_wholly (of_vec table_given)
    & of_wholly (of_vec memory_given)
    & of_wholly (of_vec tag_item_given)
    & of_wholly (of_vec global_given)
    & of_wholly (of_vec export_given)
    & of_wholly (of_number 32)
    & of_wholly (of_vec elem_given)
    & of_wholly of_any
    & of_wholly (of_vec code_given)
    & of_wholly (of_vec data_given)
    & tt

frame_given : Gives frame (λ f. IsBytes f.1)
unfolding frame
frame_given = weaker (λ f h. h.1) (of_pair of_any of_bytes)

section_given : Gives section SectionFits
unfolding section IsSection
section_given = record { holds = λ b p i h. chosen_gives kinds kinds_give h.0.0 h.0.1 p (frame_given.holds b h.0 i h.1) h.2 }

-- ## Modules

abbrev StartFits : Option ℕ → Type 0
StartFits None = ⊤
StartFits (Some x) = Index32 x

-- each list of a module fits, in the order of its fields
abbrev ListsFit : Module → Type 0
ListsFit m =
    Each GroupFits m.types
    × Each ImportFits m.imports
    × Each Index32 m.functions
    × Each TableFits m.tables
    × Each MemoryFits m.memories
    × Each TagFits m.tags
    × Each GlobalFits m.globals
    × Each ExportFits m.exports
    × StartFits m.start
    × Each ElemFits m.elements
    × Each CodeFits m.codes
    × Each DataFits m.datas

with_section : (p : Section) (m : Module) → SectionFits p → ListsFit m → ListsFit (with_contents p m)
with_section part.Custom m h l = l
with_section (part.Types ts) m h l = (h, l.1, l.2, l.3, l.4, l.5, l.6, l.7, l.8, l.9, l.10, l.11)
with_section (part.Imports is) m h l = (l.0, h, l.2, l.3, l.4, l.5, l.6, l.7, l.8, l.9, l.10, l.11)
with_section (part.Functions xs) m h l = (l.0, l.1, h, l.3, l.4, l.5, l.6, l.7, l.8, l.9, l.10, l.11)
with_section (part.Tables ts) m h l = (l.0, l.1, l.2, h, l.4, l.5, l.6, l.7, l.8, l.9, l.10, l.11)
with_section (part.Memories ls) m h l = (l.0, l.1, l.2, l.3, h, l.5, l.6, l.7, l.8, l.9, l.10, l.11)
with_section (part.Tags ts) m h l = (l.0, l.1, l.2, l.3, l.4, h, l.6, l.7, l.8, l.9, l.10, l.11)
with_section (part.Globals gs) m h l = (l.0, l.1, l.2, l.3, l.4, l.5, h, l.7, l.8, l.9, l.10, l.11)
with_section (part.Exports es) m h l = (l.0, l.1, l.2, l.3, l.4, l.5, l.6, h, l.8, l.9, l.10, l.11)
with_section (part.Start x) m h l = (l.0, l.1, l.2, l.3, l.4, l.5, l.6, l.7, h, l.9, l.10, l.11)
with_section (part.Elements es) m h l = (l.0, l.1, l.2, l.3, l.4, l.5, l.6, l.7, l.8, h, l.10, l.11)
with_section (part.DataCount n) m h l = l
with_section (part.Codes cs) m h l = (l.0, l.1, l.2, l.3, l.4, l.5, l.6, l.7, l.8, l.9, h, l.11)
with_section (part.Datas ds) m h l = (l.0, l.1, l.2, l.3, l.4, l.5, l.6, l.7, l.8, l.9, l.10, h)

with_sections : (ps : List Section) (m : Module) → Each SectionFits ps → ListsFit m → ListsFit (with_all_contents m ps)
unfolding with_all_contents
with_sections [] m h l = l
with_sections (p ∷ ps) m h l = with_sections ps (with_contents p m) h.1 (with_section p m h.0 l)

lists_given : (b : List ℕ) (m : Module) → IsBytes b → Spells b m → ListsFit m
lists_given b m i h =
    let s = h.2 in
    let behind = (both_bytes b header (s.sections ++ []) i s.parts).1 in
    subst ListsFit h.3 (with_sections h.0 empty_module (each_given section_given s.sections h.0 (front_bytes s.sections [] behind) s.each) (tt, tt, tt, tt, tt, tt, tt, tt, tt, tt, tt, tt))

-- ## Their lines, item by item

start_fits : (o : Option ℕ) → StartFits o → Each (AllFit item_lines) (start_items o)
unfolding item_lines
start_fits None h = tt
start_fits (Some x) h = ((h, tt), tt)

functions_fit : (xs : List ℕ) (fs : List Func) → Each Index32 xs → Each CodeFits fs → Each (AllFit item_lines) (function_items xs fs)
unfolding function_items item_lines
functions_fit [] fs f g = tt
functions_fit (x ∷ xs) [] f g = tt
functions_fit (x ∷ xs) (h ∷ fs) f g = (function_fits x h f.0 g.0, functions_fit xs fs f.1 g.1)

locals_fit : (fs : List Func) → Each CodeFits fs → EachLocalsFit fs
locals_fit [] f = tt
locals_fit (h ∷ fs) f = (f.0.0, locals_fit fs f.1)

each_joined : (xss : List (List _)) → Each (Each (AllFit item_lines)) xss → Each (AllFit item_lines) (joined_lists xss)
unfolding joined_lists
each_joined [] f = tt
each_joined (xs ∷ xss) f = each_append _ xs (joined_lists xss) f.0 (each_joined xss f.1)

-- list by list; an item has no name outside `w_text`, so which one a field is of is left open
each_list : (m : Module) → ListsFit m → Each (Each (AllFit item_lines)) (lists m)
unfolding lists item_lines
each_list m l =
    each_map _ _ m.types l.0
    & each_map _ _ m.imports l.1
    & each_map _ _ m.tables l.3
    & each_map _ _ m.memories l.4
    & each_map _ _ m.tags l.5
    & each_map _ _ m.globals l.6
    & each_map _ _ m.exports l.7
    & start_fits m.start l.8
    & each_map _ _ m.elements l.9
    & each_map _ _ m.datas l.11
    & functions_fit m.functions m.codes l.2 l.10
    & tt

-- each line of a module, where its lists fit
lines_fit : (m : Module) → ListsFit m → Each LineFits (module_lines m)
lines_fit m l = (tt, each_flat_map LineFits item_lines (items m) (each_joined (lists m) (each_list m l)))

-- ## The laws

-- a module that bytes spell has a text
pub spelled_fits : (b : List ℕ) (m : Module) → IsBytes b → Spells b m → Text (text_of m) m
spelled_fits b m i h =
    let l = lists_given b m i h in
    record { parts = record { paired = h.4.0; locals = locals_fit m.codes l.10 }; lines = lines_fit m l; same = refl }

-- that text is of no other module
pub text_keeps_module : (b : List ℕ) (m n : Module) → IsBytes b → Spells b m → Text (text_of m) n → n ≡ m
text_keeps_module b m n i h t = one_module (text_of m) n m t (spelled_fits b m i h)

pub one_text : (t : List ℕ) (m : Module) → Text t m → text_of m ≡ t
one_text t m h = sym h.same
