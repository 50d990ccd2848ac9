-- The canonical spelling of a module whose parts can be spelled spells it, where it is no longer than 2^30 bytes.
use Rattle.std.proofs.Common.{ℕ, ◌^◌, ◌<◌, ◌≤◌, inl, inr, List, [], ◌∷◌, ◌++◌, length, refl, arith}
use Rattle.std.specs.List.{flat_map}
use Rattle.std.proofs.lemmas.List.{length-append}
use Rattle.w_leb.specs.Format.{Format}
use Rattle.w_leb.specs.Formats.{number}
use Rattle.w_leb.specs.Number.{shortest}
use Rattle.w_leb.specs.CanonicalLaws.{vec_written}
use Rattle.w_syntax.specs.declared.module.Func.{Func}
use Rattle.w_syntax.specs.declared.module.Module.{Module}
use Rattle.w_syntax.specs.Types.{rectype, limits}
use Rattle.w_syntax.specs.Fields.{tag, import, export, table_of, global, elem, data_segment, code}
use Rattle.w_syntax.specs.Module.{header}
use Rattle.w_syntax.specs.Spells.{Spells}
use Rattle.w_encode.specs.TypesWritten.{rectype_written, limits_written}
use Rattle.w_encode.specs.FieldsWritten.{import_written, tag_written, export_written, table_written, global_written, elem_written, data_written}
use Rattle.w_encode.specs.Canon.{code_written, list_section, number_section, data_count, Canon}
use Rattle.w_encode.specs.Spelled.{ListSpelled, FunctionsSpelled, PartsSpelled}
use Rattle.w_encode.proofs.Canonical.{Decoded, Lists, lists_spell}
use Rattle.w_encode.proofs.SpelledCode.{list_spells, codes_spelled}

-- ## Lengths of parts

-- each of two parts is no longer than both together
first_part : (a b : List ℕ) (n : ℕ) → length (a ++ b) ≤ n → length a ≤ n
first_part a b n le = omega (arith, le, length-append a b)

second_part : (a b : List ℕ) (n : ℕ) → length (a ++ b) ≤ n → length b ≤ n
second_part a b n le = omega (arith, le, length-append a b)

-- what a section holds is no longer than the section
content_part : {A : Type 0} (id : ℕ) (w : A → List ℕ) (x : A) (xs : List A) (n : ℕ) → length (list_section id w (x ∷ xs)) ≤ n → length (vec_written w (x ∷ xs)) ≤ n
content_part id w x xs n le = let e = vec_written w (x ∷ xs) in omega (arith, le, length-append (shortest (length e)) e)

-- ## Lists

list_decoded : {A : Type 0} (f : Format A) (w : A → List ℕ) (id n : ℕ) (xs : List A) → ListSpelled f w xs → length (list_section id w xs) ≤ n → Decoded f n xs
list_decoded f w id n [] h le = inl refl
list_decoded f w id n (x ∷ xs) h le = inr (vec_written w (x ∷ xs), list_spells f w (x ∷ xs) h, content_part id w x xs n le)

codes_decoded : (id : ℕ) (fs : List Func) → length fs < 2 ^ 32 → FunctionsSpelled fs → length (list_section id code_written fs) ≤ 2 ^ 30 → Decoded code (2 ^ 30) fs
codes_decoded id [] few h le = inl refl
codes_decoded id (f ∷ fs) few h le =
    let gs = f ∷ fs in
    let small = second_part (shortest (length gs)) (flat_map code_written gs) (2 ^ 30) (content_part id code_written f fs (2 ^ 30) le) in
    list_decoded code code_written id (2 ^ 30) gs (few, codes_spelled gs h small) le

-- ## Modules

lists_decoded : (m : Module) → PartsSpelled m → length (Canon m) ≤ 2 ^ 30 → Lists (2 ^ 30) m
lists_decoded m h le =
    let n : ℕ = 2 ^ 30 in
    let s1 = list_section 0x01 rectype_written m.types in
    let s2 = list_section 0x02 import_written m.imports in
    let s3 = list_section 0x03 shortest m.functions in
    let s4 = list_section 0x04 table_written m.tables in
    let s5 = list_section 0x05 limits_written m.memories in
    let s6 = list_section 0x0D tag_written m.tags in
    let s7 = list_section 0x06 global_written m.globals in
    let s8 = list_section 0x07 export_written m.exports in
    let s9 = number_section 0x08 m.start in
    let s10 = list_section 0x09 elem_written m.elements in
    let s11 = number_section 0x0C (data_count m) in
    let s12 = list_section 0x0A code_written m.codes in
    let s13 = list_section 0x0B data_written m.datas in
    let r12 = s12 ++ s13 in
    let r11 = s11 ++ r12 in
    let r10 = s10 ++ r11 in
    let r9 = s9 ++ r10 in
    let r8 = s8 ++ r9 in
    let r7 = s7 ++ r8 in
    let r6 = s6 ++ r7 in
    let r5 = s5 ++ r6 in
    let r4 = s4 ++ r5 in
    let r3 = s3 ++ r4 in
    let r2 = s2 ++ r3 in
    let r1 = s1 ++ r2 in
    let l1 = second_part header r1 n le in
    let l2 = second_part s1 r2 n l1 in
    let l3 = second_part s2 r3 n l2 in
    let l4 = second_part s3 r4 n l3 in
    let l5 = second_part s4 r5 n l4 in
    let l6 = second_part s5 r6 n l5 in
    let l7 = second_part s6 r7 n l6 in
    let l8 = second_part s7 r8 n l7 in
    let l9 = second_part s8 r9 n l8 in
    let l10 = second_part s9 r10 n l9 in
    let l11 = second_part s10 r11 n l10 in
    let l12 = second_part s11 r12 n l11 in
    let l13 = second_part s12 s13 n l12 in (
      list_decoded rectype rectype_written 0x01 n m.types h.types (first_part s1 r2 n l1),
      list_decoded import import_written 0x02 n m.imports h.imports (first_part s2 r3 n l2),
      list_decoded (number 32) shortest 0x03 n m.functions h.functions (first_part s3 r4 n l3),
      list_decoded table_of table_written 0x04 n m.tables h.tables (first_part s4 r5 n l4),
      list_decoded limits limits_written 0x05 n m.memories h.memories (first_part s5 r6 n l5),
      list_decoded tag tag_written 0x0D n m.tags h.tags (first_part s6 r7 n l6),
      list_decoded global global_written 0x06 n m.globals h.globals (first_part s7 r8 n l7),
      list_decoded export export_written 0x07 n m.exports h.exports (first_part s8 r9 n l8),
      h.start,
      list_decoded elem elem_written 0x09 n m.elements h.elements (first_part s10 r11 n l10),
      codes_decoded 0x0A m.codes h.few_codes h.codes (first_part s12 s13 n l12),
      list_decoded data_segment data_written 0x0B n m.datas h.datas l13,
    )

pub parts_spelled : (m : Module) → PartsSpelled m → length (Canon m) ≤ 2 ^ 30 → Spells (Canon m) m
parts_spelled m h le = lists_spell m (lists_decoded m h le) h.paired
