-- The canonical spelling of a module that 2^30 bytes or fewer spell is a spelling of it.
use Rattle.std.proofs.Common.{◌≡◌, ℕ, zero, suc, ◌+◌, ◌/◌, ◌%◌, ◌^◌, ◌<◌, ◌≤◌, ◌⊎◌, inl, inr, Bool, true, false, cond, List, [], ◌∷◌, ◌++◌, length, Option, Some, None, Result, Ok, Err, refl, sym, ap, subst, ◌∙◌, append_assoc, arith}
use Rattle.std.specs.Prelude.{nat_eq, nat_lt, IfOk, IsFalse}
use Rattle.std.specs.Global.{Vec}
use Rattle.std.proofs.lemmas.List.{append-nil, length-append}
use Rattle.std.proofs.lemmas.Bool.{lt-ltb}
use Rattle.w_leb.specs.Format.{Format, Each, Counted}
use Rattle.w_leb.specs.Formats.{any_byte, vec, number}
use Rattle.w_leb.specs.Number.{shortest, shortest_in}
use Rattle.w_leb.specs.ShortestLaws.{shortest_spells, shortest_is_short, within_bits}
use Rattle.w_leb.specs.CanonicalLaws.{IsCanonical, canon_vec, canon_number, vec_written, sized_written, each_byte}
use Rattle.w_leb.specs.CanonicalTableLaws.{◌&◌}
use Rattle.w_syntax.specs.declared.module.Module.{Module}
use Rattle.w_syntax.specs.declared.module.Section.{Section}
use Rattle.w_syntax.specs.declared.module.Section.TheVariants as part
use Rattle.w_syntax.specs.Types.{rectype, limits}
use Rattle.w_syntax.specs.Fields.{tag, import, export, table_of, global, elem, data_segment, code}
use Rattle.w_syntax.specs.Contents.{Contents, IsChosen}
use Rattle.w_syntax.specs.Sections.{frame, kinds, IsSection, section, rank, next_rank, id_of, rank_after}
use Rattle.w_syntax.specs.Module.{empty_module, with_contents, with_all_contents, header, any_uses_data, with_count, count_after, DataAgrees}
use Rattle.w_syntax.specs.Spells.{Spells}
use Rattle.w_encode.specs.TypesWritten.{rectype_written, limits_written}
use Rattle.w_encode.specs.FieldsWritten.{import_written, tag_written, export_written, table_written, global_written, elem_written, data_written}
use Rattle.w_encode.specs.Canon.{code_written, list_section, number_section, data_count, Canon}
use Rattle.w_encode.specs.Spelled.{StartSpelled}
use Rattle.w_encode.proofs.Cases.{in_either}
use Rattle.w_encode.proofs.TypesCanonical.{canon_rectype, canon_limits}
use Rattle.w_encode.proofs.FieldsCanonical.{canon_import, canon_tag, canon_export, canon_table_of, canon_global}
use Rattle.w_encode.proofs.SegmentsCanonical.{canon_elem, canon_data}
use Rattle.w_encode.proofs.FunctionsCanonical.{canon_code}

-- ## What the sections say

-- what contents say, by the part that they are
abbrev Says : List ℕ → Section → Type 0
Says b part.Custom = Unit {0}
Says b (part.Types ts) = (vec rectype).Spells b ts
Says b (part.Imports is) = (vec import).Spells b is
Says b (part.Functions xs) = (vec (number 32)).Spells b xs
Says b (part.Tables ts) = (vec table_of).Spells b ts
Says b (part.Memories ms) = (vec limits).Spells b ms
Says b (part.Tags ts) = (vec tag).Spells b ts
Says b (part.Globals gs) = (vec global).Spells b gs
Says b (part.Exports es) = (vec export).Spells b es
Says b (part.Start x) = (number 32).Spells b x
Says b (part.Elements es) = (vec elem).Spells b es
Says b (part.DataCount n) = (number 32).Spells b n
Says b (part.Codes cs) = (vec code).Spells b cs
Says b (part.Datas ds) = (vec data_segment).Spells b ds

-- what is asked of each kind of contents
abbrev AllSay : List (ℕ × Contents) → Type 0
AllSay [] = Unit {0}
AllSay (e ∷ es) = ((b : List ℕ) (p : Section) → e.1.Say b p → Says b p) × AllSay es

chosen_says : (es : List (ℕ × Contents)) → AllSay es → (id : ℕ) (b : List ℕ) (p : Section) → IsChosen es id b p → Says b p
chosen_says [] a id b p h = absurd h
chosen_says (e ∷ es) a id b p h = in_either (nat_eq id e.0) (e.1.Say b p) (IsChosen es id b p) (Says b p) (a.0 b p) (chosen_says es a.1 id b p) h

section_says : (f : ℕ × List ℕ) (p : Section) → IsSection f p → Says f.1 p
unfolding IsSection
section_says f p h = chosen_says kinds
    ((λ b p h. subst (Says b) (sym h.5) tt)
    & (λ b p h. subst (Says b) h.2 h.1)
    & (λ b p h. subst (Says b) h.2 h.1)
    & (λ b p h. subst (Says b) h.2 h.1)
    & (λ b p h. subst (Says b) h.2 h.1)
    & (λ b p h. subst (Says b) h.2 h.1)
    & (λ b p h. subst (Says b) h.2 h.1)
    & (λ b p h. subst (Says b) h.2 h.1)
    & (λ b p h. subst (Says b) h.2 h.1)
    & (λ b p h. subst (Says b) h.2 h.1)
    & (λ b p h. subst (Says b) h.2 h.1)
    & (λ b p h. subst (Says b) h.2 h.1)
    & (λ b p h. subst (Says b) h.2 h.1)
    & (λ b p h. subst (Says b) h.2 h.1)
    & tt)
    f.0 f.1 p h

-- a list that is empty, or that at most n bytes spell
abbrev pub Decoded : {A : Type 0} → Format A → ℕ → List A → Type 0
Decoded f n xs = (xs ≡ []) ⊎ ((e : List ℕ) × (vec f).Spells e xs × (length e ≤ n))

-- each list of the module is, in the order of its fields, and the start function is a number of 32 bits
abbrev pub Lists : ℕ → Module → Type 0
Lists n m =
    Decoded rectype n m.types
    × Decoded import n m.imports
    × Decoded (number 32) n m.functions
    × Decoded table_of n m.tables
    × Decoded limits n m.memories
    × Decoded tag n m.tags
    × Decoded global n m.globals
    × Decoded export n m.exports
    × StartSpelled m.start
    × Decoded elem n m.elements
    × Decoded code n m.codes
    × Decoded data_segment n m.datas

one_list : (n : ℕ) (m : Module) (p : Section) (b : List ℕ) → Says b p → length b ≤ n → Lists n m → Lists n (with_contents p m)
one_list n m part.Custom b h le l = l
one_list n m (part.Types ts) b h le l = (inr (b, h, le), l.1, l.2, l.3, l.4, l.5, l.6, l.7, l.8, l.9, l.10, l.11)
one_list n m (part.Imports is) b h le l = (l.0, inr (b, h, le), l.2, l.3, l.4, l.5, l.6, l.7, l.8, l.9, l.10, l.11)
one_list n m (part.Functions xs) b h le l = (l.0, l.1, inr (b, h, le), l.3, l.4, l.5, l.6, l.7, l.8, l.9, l.10, l.11)
one_list n m (part.Tables ts) b h le l = (l.0, l.1, l.2, inr (b, h, le), l.4, l.5, l.6, l.7, l.8, l.9, l.10, l.11)
one_list n m (part.Memories ms) b h le l = (l.0, l.1, l.2, l.3, inr (b, h, le), l.5, l.6, l.7, l.8, l.9, l.10, l.11)
one_list n m (part.Tags ts) b h le l = (l.0, l.1, l.2, l.3, l.4, inr (b, h, le), l.6, l.7, l.8, l.9, l.10, l.11)
one_list n m (part.Globals gs) b h le l = (l.0, l.1, l.2, l.3, l.4, l.5, inr (b, h, le), l.7, l.8, l.9, l.10, l.11)
one_list n m (part.Exports es) b h le l = (l.0, l.1, l.2, l.3, l.4, l.5, l.6, inr (b, h, le), l.8, l.9, l.10, l.11)
one_list n m (part.Start x) b h le l = (l.0, l.1, l.2, l.3, l.4, l.5, l.6, l.7, within_bits 32 x b h, l.9, l.10, l.11)
one_list n m (part.Elements es) b h le l = (l.0, l.1, l.2, l.3, l.4, l.5, l.6, l.7, l.8, inr (b, h, le), l.10, l.11)
one_list n m (part.DataCount k) b h le l = l
one_list n m (part.Codes cs) b h le l = (l.0, l.1, l.2, l.3, l.4, l.5, l.6, l.7, l.8, l.9, inr (b, h, le), l.11)
one_list n m (part.Datas ds) b h le l = (l.0, l.1, l.2, l.3, l.4, l.5, l.6, l.7, l.8, l.9, l.10, inr (b, h, le))

bytes_len : (b l : List ℕ) → Each any_byte.Spells b l → length l ≤ length b
unfolding Each
bytes_len b [] h = omega arith
bytes_len b (k ∷ l) h = omega (arith, ap length h.2, length-append h.0 h.1, ap length h.3, bytes_len h.1 l h.4)

frame_len : (a : List ℕ) (f : ℕ × List ℕ) → frame.Spells a f → length f.1 ≤ length a
unfolding frame Counted
frame_len a f h = let c = h.4 in omega (arith, ap length h.2, length-append h.0 h.1, ap length c.2, length-append c.0 c.1, bytes_len c.1 f.1 c.4)

all_lists : (n : ℕ) (ps : List Section) (c : List ℕ) (m : Module) → Each section.Spells c ps → length c ≤ n → Lists n m → Lists n (with_all_contents m ps)
unfolding Each with_all_contents section
all_lists n [] c m h le l = l
all_lists n (p ∷ ps) c m h le l =
    let f = h.3.0 in
    let len : length c ≡ length h.0 + length h.1 = ap length h.2 ∙ length-append h.0 h.1 in
    all_lists n ps h.1 (with_contents p m) h.4 (omega arith) (one_list n m p f.1 (section_says f p h.3.2) (omega (arith, frame_len h.0 f h.3.1)) l)

lists_of : (b : List ℕ) (m : Module) → Spells b m → length b ≤ 2 ^ 30 → Lists (2 ^ 30) m
lists_of b m h le =
    let s = h.2 in
    let len : length b ≡ length header + (length s.sections + 0) = ap length s.parts ∙ length-append header (s.sections ++ []) ∙ ap (λ (n : ℕ). length header + n) (length-append s.sections []) in
    subst (Lists (2 ^ 30)) h.3 (all_lists (2 ^ 30) h.0 s.sections empty_module s.each (omega arith) (inl refl, inl refl, inl refl, inl refl, inl refl, inl refl, inl refl, inl refl, tt, inl refl, inl refl, inl refl))

-- ## A section that is written

section_spelled : (id : ℕ) (e : List ℕ) (p : Section) → length e < 2 ^ 32 → IsSection (id, e) p → section.Spells (id ∷ (shortest (length e) ++ e)) p
unfolding section frame Counted
section_spelled id e p lt h = ((id, e), (id ∷ [], shortest (length e) ++ e, refl, refl, (shortest (length e), e, refl, shortest_spells 9 32 (length e) (omega arith) lt, each_byte e)), h)

each_one : (a : List ℕ) (p : Section) → section.Spells a p → Each section.Spells a (p ∷ [])
unfolding Each
each_one a p h = (a, [], sym (append-nil a), h, refl)

each_none : Each section.Spells [] []
unfolding Each
each_none = refl

each_both : (ps qs : List Section) (a b : List ℕ) → Each section.Spells a ps → Each section.Spells b qs → Each section.Spells (a ++ b) (ps ++ qs)
unfolding Each
each_both [] qs a b h g = subst (λ (l : List ℕ). Each section.Spells (l ++ b) qs) (sym h) g
each_both (p ∷ ps) qs a b h g = (h.0, h.1 ++ b, ap (λ (l : List ℕ). l ++ b) h.2 ∙ append_assoc h.0 h.1 b, h.3, each_both ps qs h.1 b h.4 g)

-- the part of a list, where it is not empty
abbrev section_of_list : {A : Type 0} → (List A → Section) → List A → List Section
section_of_list make [] = []
section_of_list make (x ∷ xs) = make (x ∷ xs) ∷ []

abbrev number_part : (ℕ → Section) → Option ℕ → List Section
number_part make None = []
number_part make (Some n) = make n ∷ []

list_spelled : {A : Type 0} (f : Format A) (w : A → List ℕ) (id : ℕ) (make : List A → Section) (xs : List A) → IsCanonical f w → Decoded f (2 ^ 30) xs → ((e : List ℕ) (ys : List A) → (vec f).Spells e ys → IsSection (id, e) (make ys)) → Each section.Spells (list_section id w xs) (section_of_list make xs)
list_spelled f w id make [] p h s = each_none
list_spelled f w id make (x ∷ xs) p (inl e) s = absurd cc
list_spelled f w id make (x ∷ xs) p (inr h) s =
    let v = canon_vec f w p in
    let e = vec_written w (x ∷ xs) in
    each_one (id ∷ sized_written (vec_written w) (x ∷ xs)) (make (x ∷ xs))
    (section_spelled id e (make (x ∷ xs)) (omega (arith, v.short h.0 (x ∷ xs) h.1, h.2)) (s e (x ∷ xs) (v.again h.0 (x ∷ xs) h.1 h.2)))

few_or : (v : Bool) (k n : ℕ) → length (shortest_in k (n / 128)) ≤ suc k → length (cond v (n ∷ []) ((n % 128 + 128) ∷ shortest_in k (n / 128))) ≤ suc (suc k)
few_or true k n h = omega arith
few_or false k n h = omega (arith, h)

few_bytes : (k n : ℕ) → length (shortest_in k n) ≤ suc k
unfolding shortest_in
few_bytes zero n = omega arith
few_bytes (suc k) n = few_or (nat_lt n 128) k n (few_bytes k (n / 128))

number_spelled : (id : ℕ) (make : ℕ → Section) (o : Option ℕ) → StartSpelled o → ((e : List ℕ) (n : ℕ) → (number 32).Spells e n → IsSection (id, e) (make n)) → Each section.Spells (number_section id o) (number_part make o)
number_spelled id make None h s = each_none
number_spelled id make (Some n) h s =
    let e = shortest n in
    let c = shortest_spells 9 32 n (omega arith) h in
    each_one (id ∷ sized_written shortest n) (make n) (section_spelled id e (make n) (omega (arith, shortest_is_short 9 32 n e c, few_bytes 9 n)) (s e n c))

-- ## The sections in their order

abbrev parts_of : Module → List Section
parts_of m =
    section_of_list part.Types m.types
    ++ (section_of_list part.Imports m.imports
    ++ (section_of_list part.Functions m.functions
    ++ (section_of_list part.Tables m.tables
    ++ (section_of_list part.Memories m.memories
    ++ (section_of_list part.Tags m.tags
    ++ (section_of_list part.Globals m.globals
    ++ (section_of_list part.Exports m.exports
    ++ (number_part part.Start m.start
    ++ (section_of_list part.Elements m.elements
    ++ (number_part part.DataCount (data_count m)
    ++ (section_of_list part.Codes m.codes
    ++ section_of_list part.Datas m.datas)))))))))))

-- after a rank up to j these parts are in order
abbrev StandsAfter : ℕ → List Section → Type 0
StandsAfter j ps = (k : ℕ) → k ≤ j → (r : ℕ) × (rank_after k ps ≡ Some r)

none_stands : (j : ℕ) → StandsAfter j []
unfolding rank_after
none_stands j k le = (k, refl)

earlier : (j : ℕ) (ps : List Section) → StandsAfter (suc j) ps → StandsAfter j ps
earlier j ps s k le = s k (omega arith)

-- a part of the next rank before them
part_stands : (j : ℕ) (p : Section) (ps : List Section) → nat_eq (id_of p) 0x00 ≡ false → rank (id_of p) ≡ Some (suc j) → StandsAfter (suc j) ps → StandsAfter j (p ∷ ps)
unfolding rank_after next_rank
part_stands j p ps n e s k le =
    let lt : nat_lt k (suc j) ≡ true = lt-ltb k (suc j) (omega arith) in
    let r = s (suc j) (omega arith) in
    (r.0, rw (n, e, lt) r.1)

list_stands : {A : Type 0} (j : ℕ) (make : List A → Section) (xs : List A) (ps : List Section) → ((ys : List A) → nat_eq (id_of (make ys)) 0x00 ≡ false) → ((ys : List A) → rank (id_of (make ys)) ≡ Some (suc j)) → StandsAfter (suc j) ps → StandsAfter j (section_of_list make xs ++ ps)
list_stands j make [] ps n e s = earlier j ps s
list_stands j make (x ∷ xs) ps n e s = part_stands j (make (x ∷ xs)) ps (n (x ∷ xs)) (e (x ∷ xs)) s

number_stands : (j : ℕ) (make : ℕ → Section) (o : Option ℕ) (ps : List Section) → ((n : ℕ) → nat_eq (id_of (make n)) 0x00 ≡ false) → ((n : ℕ) → rank (id_of (make n)) ≡ Some (suc j)) → StandsAfter (suc j) ps → StandsAfter j (number_part make o ++ ps)
number_stands j make None ps n e s = earlier j ps s
number_stands j make (Some x) ps n e s = part_stands j (make x) ps (n x) (e x) s

in_order : (m : Module) → StandsAfter 0 (parts_of m)
unfolding rank
in_order m =
    (list_stands 0 part.Types m.types _ (λ n. refl) (λ n. refl)
    (list_stands 1 part.Imports m.imports _ (λ n. refl) (λ n. refl)
    (list_stands 2 part.Functions m.functions _ (λ n. refl) (λ n. refl)
    (list_stands 3 part.Tables m.tables _ (λ n. refl) (λ n. refl)
    (list_stands 4 part.Memories m.memories _ (λ n. refl) (λ n. refl)
    (list_stands 5 part.Tags m.tags _ (λ n. refl) (λ n. refl)
    (list_stands 6 part.Globals m.globals _ (λ n. refl) (λ n. refl)
    (list_stands 7 part.Exports m.exports _ (λ n. refl) (λ n. refl)
    (number_stands 8 part.Start m.start _ (λ n. refl) (λ n. refl)
    (list_stands 9 part.Elements m.elements _ (λ n. refl) (λ n. refl)
    (number_stands 10 part.DataCount (data_count m) _ (λ n. refl) (λ n. refl)
    (list_stands 11 part.Codes m.codes _ (λ n. refl) (λ n. refl)
    (subst (StandsAfter 12) (append-nil (section_of_list part.Datas m.datas)) (list_stands 12 part.Datas m.datas [] (λ n. refl) (λ n. refl) (none_stands 13)))))))))))))))

-- ## The module of these sections

list_made : {A : Type 0} (make : List A → Section) (xs : List A) (m : Module) (ps : List Section) → with_contents (make []) m ≡ m → with_all_contents m (section_of_list make xs ++ ps) ≡ with_all_contents (with_contents (make xs) m) ps
unfolding with_all_contents
list_made make [] m ps e = ap (λ (t : Module). with_all_contents t ps) (sym e)
list_made make (x ∷ xs) m ps e = refl

start_made : (o : Option ℕ) (m : Module) (ps : List Section) → m.start ≡ None → with_all_contents m (number_part part.Start o ++ ps) ≡ with_all_contents (record m { start = o }) ps
unfolding with_all_contents
start_made None m ps e = ap (λ (o : Option ℕ). with_all_contents (record m { start = o }) ps) e
start_made (Some x) m ps e = refl

count_made : (o : Option ℕ) (m : Module) (ps : List Section) → with_all_contents m (number_part part.DataCount o ++ ps) ≡ with_all_contents m ps
unfolding with_all_contents
count_made None m ps = refl
count_made (Some n) m ps = refl

made : (m : Module) → with_all_contents empty_module (parts_of m) ≡ m
unfolding with_all_contents
made m =
    let r12 = section_of_list part.Datas m.datas in
    let r11 = section_of_list part.Codes m.codes ++ r12 in
    let r10 = number_part part.DataCount (data_count m) ++ r11 in
    let r9 = section_of_list part.Elements m.elements ++ r10 in
    let r8 = number_part part.Start m.start ++ r9 in
    let r7 = section_of_list part.Exports m.exports ++ r8 in
    let r6 = section_of_list part.Globals m.globals ++ r7 in
    let r5 = section_of_list part.Tags m.tags ++ r6 in
    let r4 = section_of_list part.Memories m.memories ++ r5 in
    let r3 = section_of_list part.Tables m.tables ++ r4 in
    let r2 = section_of_list part.Functions m.functions ++ r3 in
    let r1 = section_of_list part.Imports m.imports ++ r2 in
    let m0 = empty_module in
    let m1 = with_contents (part.Types m.types) m0 in
    let m2 = with_contents (part.Imports m.imports) m1 in
    let m3 = with_contents (part.Functions m.functions) m2 in
    let m4 = with_contents (part.Tables m.tables) m3 in
    let m5 = with_contents (part.Memories m.memories) m4 in
    let m6 = with_contents (part.Tags m.tags) m5 in
    let m7 = with_contents (part.Globals m.globals) m6 in
    let m8 = with_contents (part.Exports m.exports) m7 in
    let m9 = record m8 { start = m.start } in
    let m10 = with_contents (part.Elements m.elements) m9 in
    let m11 = m10 in
    let m12 = with_contents (part.Codes m.codes) m11 in
    list_made part.Types m.types m0 r1 refl
    ∙ list_made part.Imports m.imports m1 r2 refl
    ∙ list_made part.Functions m.functions m2 r3 refl
    ∙ list_made part.Tables m.tables m3 r4 refl
    ∙ list_made part.Memories m.memories m4 r5 refl
    ∙ list_made part.Tags m.tags m5 r6 refl
    ∙ list_made part.Globals m.globals m6 r7 refl
    ∙ list_made part.Exports m.exports m7 r8 refl
    ∙ start_made m.start m8 r9 refl
    ∙ list_made part.Elements m.elements m9 r10 refl
    ∙ count_made (data_count m) m10 r11
    ∙ list_made part.Codes m.codes m11 r12 refl
    ∙ ap (with_all_contents m12) (sym (append-nil (section_of_list part.Datas m.datas))) ∙ list_made part.Datas m.datas m12 [] refl

-- ## Their counts

list_counts : {A : Type 0} (make : List A → Section) (xs : List A) (c : Option ℕ) (ps : List Section) → ((ys : List A) → with_count (make ys) c ≡ c) → count_after c (section_of_list make xs ++ ps) ≡ count_after c ps
unfolding count_after
list_counts make [] c ps e = refl
list_counts make (x ∷ xs) c ps e = ap (λ (d : Option ℕ). count_after d ps) (e (x ∷ xs))

start_counts : (o c : Option ℕ) (ps : List Section) → count_after c (number_part part.Start o ++ ps) ≡ count_after c ps
unfolding count_after
start_counts None c ps = refl
start_counts (Some x) c ps = refl

number_counts : (o : Option ℕ) (ps : List Section) → count_after None (number_part part.DataCount o ++ ps) ≡ count_after o ps
unfolding count_after
number_counts None ps = refl
number_counts (Some n) ps = refl

counted : (m : Module) → count_after None (parts_of m) ≡ data_count m
unfolding count_after
counted m =
    let r12 = section_of_list part.Datas m.datas in
    let r11 = section_of_list part.Codes m.codes ++ r12 in
    let r10 = number_part part.DataCount (data_count m) ++ r11 in
    let r9 = section_of_list part.Elements m.elements ++ r10 in
    let r8 = number_part part.Start m.start ++ r9 in
    let r7 = section_of_list part.Exports m.exports ++ r8 in
    let r6 = section_of_list part.Globals m.globals ++ r7 in
    let r5 = section_of_list part.Tags m.tags ++ r6 in
    let r4 = section_of_list part.Memories m.memories ++ r5 in
    let r3 = section_of_list part.Tables m.tables ++ r4 in
    let r2 = section_of_list part.Functions m.functions ++ r3 in
    let r1 = section_of_list part.Imports m.imports ++ r2 in
    list_counts part.Types m.types None r1 (λ ys. refl)
    ∙ list_counts part.Imports m.imports None r2 (λ ys. refl)
    ∙ list_counts part.Functions m.functions None r3 (λ ys. refl)
    ∙ list_counts part.Tables m.tables None r4 (λ ys. refl)
    ∙ list_counts part.Memories m.memories None r5 (λ ys. refl)
    ∙ list_counts part.Tags m.tags None r6 (λ ys. refl)
    ∙ list_counts part.Globals m.globals None r7 (λ ys. refl)
    ∙ list_counts part.Exports m.exports None r8 (λ ys. refl)
    ∙ start_counts m.start None r9
    ∙ list_counts part.Elements m.elements None r10 (λ ys. refl)
    ∙ number_counts (data_count m) r11
    ∙ list_counts part.Codes m.codes (data_count m) r12 (λ ys. refl)
    ∙ ap (count_after (data_count m)) (sym (append-nil (section_of_list part.Datas m.datas))) ∙ list_counts part.Datas m.datas (data_count m) [] (λ ys. refl)

count_agrees : (v : Bool) (m : Module) → any_uses_data m.codes ≡ v → DataAgrees (cond v (Some (length m.datas)) None) m
count_agrees true m e = refl
count_agrees false m e = subst IsFalse (sym e) refl

few_of : (m : Module) (v : Bool) → Decoded data_segment (2 ^ 30) m.datas → StartSpelled (cond v (Some (length m.datas)) None)
unfolding Counted
few_of m true (inl e) = omega (arith, ap length e)
few_of m true (inr h) = within_bits 32 (length m.datas) h.1.0 h.1.3
few_of m false w = tt

-- ## Modules

all_spelled : (m : Module) → Lists (2 ^ 30) m → (all : List ℕ) × (Canon m ≡ header ++ all) × Each section.Spells all (parts_of m)
unfolding IsSection
all_spelled m l =
    let e1 = list_spelled rectype rectype_written 0x01 part.Types m.types canon_rectype l.0 (λ e ys s. (ys, s, refl)) in
    let e2 = list_spelled import import_written 0x02 part.Imports m.imports canon_import l.1 (λ e ys s. (ys, s, refl)) in
    let e3 = list_spelled (number 32) shortest 0x03 part.Functions m.functions (canon_number 32 (omega arith)) l.2 (λ e ys s. (ys, s, refl)) in
    let e4 = list_spelled table_of table_written 0x04 part.Tables m.tables canon_table_of l.3 (λ e ys s. (ys, s, refl)) in
    let e5 = list_spelled limits limits_written 0x05 part.Memories m.memories canon_limits l.4 (λ e ys s. (ys, s, refl)) in
    let e6 = list_spelled tag tag_written 0x0D part.Tags m.tags canon_tag l.5 (λ e ys s. (ys, s, refl)) in
    let e7 = list_spelled global global_written 0x06 part.Globals m.globals canon_global l.6 (λ e ys s. (ys, s, refl)) in
    let e8 = list_spelled export export_written 0x07 part.Exports m.exports canon_export l.7 (λ e ys s. (ys, s, refl)) in
    let e9 = number_spelled 0x08 part.Start m.start l.8 (λ e n s. (n, s, refl)) in
    let e10 = list_spelled elem elem_written 0x09 part.Elements m.elements canon_elem l.9 (λ e ys s. (ys, s, refl)) in
    let e11 = number_spelled 0x0C part.DataCount (data_count m) (few_of m (any_uses_data m.codes) l.11) (λ e n s. (n, s, refl)) in
    let e12 = list_spelled code code_written 0x0A part.Codes m.codes canon_code l.10 (λ e ys s. (ys, s, refl)) in
    let e13 = list_spelled data_segment data_written 0x0B part.Datas m.datas canon_data l.11 (λ e ys s. (ys, s, refl)) in
    (_, refl, each_both (section_of_list part.Types m.types) _ _ _ e1 (each_both (section_of_list part.Imports m.imports) _ _ _ e2 (each_both (section_of_list part.Functions m.functions) _ _ _ e3 (each_both (section_of_list part.Tables m.tables) _ _ _ e4 (each_both (section_of_list part.Memories m.memories) _ _ _ e5 (each_both (section_of_list part.Tags m.tags) _ _ _ e6 (each_both (section_of_list part.Globals m.globals) _ _ _ e7 (each_both (section_of_list part.Exports m.exports) _ _ _ e8 (each_both (number_part part.Start m.start) _ _ _ e9 (each_both (section_of_list part.Elements m.elements) _ _ _ e10 (each_both (number_part part.DataCount (data_count m)) _ _ _ e11 (each_both (section_of_list part.Codes m.codes) _ _ _ e12 (e13)))))))))))))

-- a module whose lists are within 2^30 bytes, and whose functions have their codes
pub lists_spell : (m : Module) → Lists (2 ^ 30) m → length m.functions ≡ length m.codes → Spells (Canon m) m
lists_spell m l e =
    let s = all_spelled m l in
    let o = in_order m 0 (omega arith) in (
      parts_of m,
      o.0,
      record { sections = s.0; parts = s.1 ∙ ap (λ (t : List ℕ). header ++ t) (sym (append-nil s.0)); each = s.2; order = o.1 },
      made m,
      (e, subst (λ (c : Option ℕ). DataAgrees c m) (sym (counted m)) (count_agrees (any_uses_data m.codes) m refl)),
    )

pub canon_spells : (b : List ℕ) (m : Module) → Spells b m → length b ≤ 2 ^ 30 → Spells (Canon m) m
canon_spells b m h le = lists_spell m (lists_of b m h le) h.4.0

-- what is the canonical spelling is a spelling
pub canon_ok : {E : Type 0} (m : Module) (r : Result (Vec ℕ) E) → IfOk r (λ v. v.items ≡ Canon m) → IfOk r (λ v. (b : List ℕ) → Spells b m → length b ≤ 2 ^ 30 → Spells v.items m)
canon_ok m (Ok v) h = λ b s le. subst (λ (l : List ℕ). Spells l m) (sym h) (canon_spells b m s le)
canon_ok m (Err e) h = h
