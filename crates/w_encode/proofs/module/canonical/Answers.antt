use Rattle.std.proofs.Common.{◌≡◌, ◌∙◌, ap, List, ℕ, ◌++◌}
use Rattle.w_leb.specs.Number.{shortest}
use Rattle.w_syntax.specs.Module.{header}
use Rattle.w_encode.specs.TypesWritten.{rectype_written, limits_written}
use Rattle.w_encode.specs.FieldsWritten.{import_written, table_written, tag_written, global_written, export_written, elem_written, data_written}
use Rattle.w_encode.specs.Canon.{list_section, number_section, data_count, code_written}
use Rattle.w_encode.proofs.BytesBehindBytes.{before}
use Rattle.w_encode.proofs.module.canonical.Goals as goal

-- from the last section to the first, what is written from it on
pub returns : goal.returns
returns c =
    let m = c.args.program.now in
    let new = c.put_list-10.new.out.items in
    let rest13 = list_section 0x0B data_written m.datas in
    let after13 = c.in_ok-put_list-10.ensures ∙ ap (λ xs. c.put_code_section.new.out.items ++ list_section 0x0B data_written xs) c.as_slice-11.ensures in
    let s12 = list_section 0x0A code_written m.codes in
    let after12 : new ≡ c.put_number-2.new.out.items ++ (s12 ++ rest13) = before new c.put_number-2.new.out.items c.put_code_section.new.out.items s12 rest13 (c.in_ok-put_code_section.ensures ∙ ap (λ xs. c.put_number-2.new.out.items ++ list_section 0x0A code_written xs) c.as_slice-10.ensures) after13 in
    let rest12 = s12 ++ rest13 in
    let s11 = number_section 0x0C (data_count m) in
    let after11 : new ≡ c.put_list-9.new.out.items ++ (s11 ++ rest12) = before new c.put_list-9.new.out.items c.put_number-2.new.out.items s11 rest12 (c.in_ok-put_number-2.ensures ∙ ap (λ o. c.put_list-9.new.out.items ++ number_section 0x0C o) c.data_count.ensures) after12 in
    let rest11 = s11 ++ rest12 in
    let s10 = list_section 0x09 elem_written m.elements in
    let after10 : new ≡ c.put_number.new.out.items ++ (s10 ++ rest11) = before new c.put_number.new.out.items c.put_list-9.new.out.items s10 rest11 (c.in_ok-put_list-9.ensures ∙ ap (λ xs. c.put_number.new.out.items ++ list_section 0x09 elem_written xs) c.as_slice-9.ensures) after11 in
    let rest10 = s10 ++ rest11 in
    let s9 = number_section 0x08 m.start in
    let after9 : new ≡ c.put_list-8.new.out.items ++ (s9 ++ rest10) = before new c.put_list-8.new.out.items c.put_number.new.out.items s9 rest10 (c.in_ok-put_number.ensures ∙ ap (λ o. c.put_list-8.new.out.items ++ number_section 0x08 o) c.start_of.ensures) after10 in
    let rest9 = s9 ++ rest10 in
    let s8 = list_section 0x07 export_written m.exports in
    let after8 : new ≡ c.put_list-7.new.out.items ++ (s8 ++ rest9) = before new c.put_list-7.new.out.items c.put_list-8.new.out.items s8 rest9 (c.in_ok-put_list-8.ensures ∙ ap (λ xs. c.put_list-7.new.out.items ++ list_section 0x07 export_written xs) c.as_slice-8.ensures) after9 in
    let rest8 = s8 ++ rest9 in
    let s7 = list_section 0x06 global_written m.globals in
    let after7 : new ≡ c.put_list-6.new.out.items ++ (s7 ++ rest8) = before new c.put_list-6.new.out.items c.put_list-7.new.out.items s7 rest8 (c.in_ok-put_list-7.ensures ∙ ap (λ xs. c.put_list-6.new.out.items ++ list_section 0x06 global_written xs) c.as_slice-7.ensures) after8 in
    let rest7 = s7 ++ rest8 in
    let s6 = list_section 0x0D tag_written m.tags in
    let after6 : new ≡ c.put_list-5.new.out.items ++ (s6 ++ rest7) = before new c.put_list-5.new.out.items c.put_list-6.new.out.items s6 rest7 (c.in_ok-put_list-6.ensures ∙ ap (λ xs. c.put_list-5.new.out.items ++ list_section 0x0D tag_written xs) c.as_slice-6.ensures) after7 in
    let rest6 = s6 ++ rest7 in
    let s5 = list_section 0x05 limits_written m.memories in
    let after5 : new ≡ c.put_list-4.new.out.items ++ (s5 ++ rest6) = before new c.put_list-4.new.out.items c.put_list-5.new.out.items s5 rest6 (c.in_ok-put_list-5.ensures ∙ ap (λ xs. c.put_list-4.new.out.items ++ list_section 0x05 limits_written xs) c.as_slice-5.ensures) after6 in
    let rest5 = s5 ++ rest6 in
    let s4 = list_section 0x04 table_written m.tables in
    let after4 : new ≡ c.put_list-3.new.out.items ++ (s4 ++ rest5) = before new c.put_list-3.new.out.items c.put_list-4.new.out.items s4 rest5 (c.in_ok-put_list-4.ensures ∙ ap (λ xs. c.put_list-3.new.out.items ++ list_section 0x04 table_written xs) c.as_slice-4.ensures) after5 in
    let rest4 = s4 ++ rest5 in
    let s3 = list_section 0x03 shortest m.functions in
    let after3 : new ≡ c.put_list-2.new.out.items ++ (s3 ++ rest4) = before new c.put_list-2.new.out.items c.put_list-3.new.out.items s3 rest4 (c.in_ok-put_list-3.ensures ∙ ap (λ xs. c.put_list-2.new.out.items ++ list_section 0x03 shortest xs) c.as_slice-3.ensures) after4 in
    let rest3 = s3 ++ rest4 in
    let s2 = list_section 0x02 import_written m.imports in
    let after2 : new ≡ c.put_list.new.out.items ++ (s2 ++ rest3) = before new c.put_list.new.out.items c.put_list-2.new.out.items s2 rest3 (c.in_ok-put_list-2.ensures ∙ ap (λ xs. c.put_list.new.out.items ++ list_section 0x02 import_written xs) c.as_slice-2.ensures) after3 in
    let rest2 = s2 ++ rest3 in
    let s1 = list_section 0x01 rectype_written m.types in
    let after1 : new ≡ c.extend_from_slice.new.self.items ++ (s1 ++ rest2) = before new c.extend_from_slice.new.self.items c.put_list.new.out.items s1 rest2 (c.in_ok-put_list.ensures ∙ ap (λ xs. c.extend_from_slice.new.self.items ++ list_section 0x01 rectype_written xs) c.as_slice.ensures) after2 in
    let rest1 = s1 ++ rest2 in
    after1 ∙ ap (λ (l : List ℕ). l ++ rest1) (c.in_ok-extend_from_slice.ensures.items ∙ ap (λ (l : List ℕ). l ++ header) c.new-out.ensures.items)
