use Rattle.std.proofs.Common.{◌≡◌, ℕ, ◌++◌, List, map, ap, sym, ◌∙◌}
use Rattle.std.specs.List.{flat_map}
use Rattle.w_syntax.specs.declared.module.Func.{Func}
use Rattle.w_lines.specs.declared.line.Line.TheVariants as line
use Rattle.w_lines.specs.Spelling.{line_bytes}
use Rattle.w_text.specs.declared.item.Item.TheVariants.{Group, Imported, TableItem, Memory, TagItem, Global, Exported, Elements, Bytes}
use Rattle.w_text.specs.Items.{function_items}
use Rattle.w_text.specs.Written.{item_bytes}
use Rattle.w_text.proofs.ItemsWritten.{behind, where_written, module_written}
use Rattle.w_text.proofs.dumping.put_module.Goals as goal

pub returns : goal.returns
returns c =
    let m = c.args.program.now in
    let old = c.args.out.now.items in
    where_written c.put_functions.result _ _ (λ written.
    let to10 : c.put_functions.new.out.items ≡ c.put_items-9.new.out.items ++ flat_map item_bytes (function_items m.functions m.codes) = written ∙ ap (λ (xs : List ℕ). c.put_items-9.new.out.items ++ flat_map item_bytes (function_items xs c.as_slice-11.result.now)) c.as_slice-10.ensures ∙ ap (λ (fs : List Func). c.put_items-9.new.out.items ++ flat_map item_bytes (function_items m.functions fs)) c.as_slice-11.ensures in
    let to9 = behind c.put_functions.new.out.items c.put_items-8.new.out.items _ _ _ (c.in_ok-put_items-9.ensures ∙ ap (λ xs. c.put_items-8.new.out.items ++ flat_map item_bytes (map Bytes xs)) c.as_slice-9.ensures) to10 in
    let to8 = behind c.put_functions.new.out.items c.put_start.new.out.items _ _ _ (c.in_ok-put_items-8.ensures ∙ ap (λ xs. c.put_start.new.out.items ++ flat_map item_bytes (map Elements xs)) c.as_slice-8.ensures) to9 in
    let to7 = behind c.put_functions.new.out.items c.put_items-7.new.out.items _ _ _ c.in_ok-put_start.ensures to8 in
    let to6 = behind c.put_functions.new.out.items c.put_items-6.new.out.items _ _ _ (c.in_ok-put_items-7.ensures ∙ ap (λ xs. c.put_items-6.new.out.items ++ flat_map item_bytes (map Exported xs)) c.as_slice-7.ensures) to7 in
    let to5 = behind c.put_functions.new.out.items c.put_items-5.new.out.items _ _ _ (c.in_ok-put_items-6.ensures ∙ ap (λ xs. c.put_items-5.new.out.items ++ flat_map item_bytes (map Global xs)) c.as_slice-6.ensures) to6 in
    let to4 = behind c.put_functions.new.out.items c.put_items-4.new.out.items _ _ _ (c.in_ok-put_items-5.ensures ∙ ap (λ xs. c.put_items-4.new.out.items ++ flat_map item_bytes (map TagItem xs)) c.as_slice-5.ensures) to5 in
    let to3 = behind c.put_functions.new.out.items c.put_items-3.new.out.items _ _ _ (c.in_ok-put_items-4.ensures ∙ ap (λ xs. c.put_items-3.new.out.items ++ flat_map item_bytes (map Memory xs)) c.as_slice-4.ensures) to4 in
    let to2 = behind c.put_functions.new.out.items c.put_items-2.new.out.items _ _ _ (c.in_ok-put_items-3.ensures ∙ ap (λ xs. c.put_items-2.new.out.items ++ flat_map item_bytes (map TableItem xs)) c.as_slice-3.ensures) to3 in
    let to1 = behind c.put_functions.new.out.items c.put_items.new.out.items _ _ _ (c.in_ok-put_items-2.ensures ∙ ap (λ xs. c.put_items.new.out.items ++ flat_map item_bytes (map Imported xs)) c.as_slice-2.ensures) to2 in
    let to0 = behind c.put_functions.new.out.items c.put_module_line.new.out.items _ _ _ (c.in_ok-put_items.ensures ∙ ap (λ xs. c.put_module_line.new.out.items ++ flat_map item_bytes (map Group xs)) c.as_slice.ensures) to1 in
    behind c.put_functions.new.out.items old (line_bytes line.Module) _ _ c.in_ok-put_module_line.ensures to0 ∙ ap (λ (l : List ℕ). old ++ l) (sym (module_written m))) c.put_functions.ensures
