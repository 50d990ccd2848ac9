use Rattle.std.proofs.Common.{◌≡◌, List, sym, ap, ◌∙◌}
use Rattle.std.specs.Prelude.{Bool, Some}
use Rattle.w_syntax.specs.declared.module.Data.{Data}
use Rattle.w_syntax.specs.declared.module.Elem.{Elem}
use Rattle.w_reduce.specs.Program.{Program}
use Rattle.w_reduce.specs.Store.{Store}
use Rattle.w_reduce.specs.Start.{allocated, in_order}
use Rattle.w_stands.specs.Values.{store_of}
use Rattle.w_inst.specs.Imports.{found_of}
use Rattle.w_inst.specs.Segments.{left_by_copy}
use Rattle.w_inst.proofs.InOrder.{by_element, by_data, whole_part}
use Rattle.w_inst.proofs.FirstTerms.{begins_past_table, begins_past_memory, begins_ready}
use Rattle.w_inst.proofs.instantiation.instantiate.Goals as goal

-- segments that were read as a slice
in_elements : (p : Program) (s : Store) {part all : List Elem} → part ≡ all → in_order (by_element p) (Some s) 0 all ≡ in_order (by_element p) (Some s) 0 part
in_elements p s e = ap (in_order (by_element p) (Some s) 0) (sym e)

in_datas : (p : Program) (s : Store) {part all : List Data} → part ≡ all → in_order (by_data p) (Some s) 0 all ≡ in_order (by_data p) (Some s) 0 part
in_datas p s e = ap (in_order (by_data p) (Some s) 0) (sym e)

pub start_elements-requires-clause-part : goal.start_elements-requires-clause-part
start_elements-requires-clause-part c = whole_part c.as_slice-elements.result.now c.module-program.result.now.elements c.as_slice-elements.ensures

pub start_datas-requires-clause-part : goal.start_datas-requires-clause-part
start_datas-requires-clause-part c = whole_part c.as_slice-datas.result.now c.module-program.result.now.datas c.as_slice-datas.ensures

pub returns-then-not-branch : goal.returns-then-not-branch
returns-then-not-branch c = record {
  begins = λ p e.
      let m = c.module-program.result.now in
      let ps = c.in-All.printers.items in
      let main = c.in-Some.main in
      let q = e ∙ sym (c.module-program.ensures.same ∙ c.runnable.ensures) in
      let imports = c.in_ok-printers.ensures.found ∙ ap found_of c.in-All.is in
      let limits = sym c.in_default-exceeded.ensures in
      let first = c.in_ok-store.ensures.allocated p q ∙ ap (allocated p) c.as_slice.ensures.value in
      let passed = in_elements p (store_of c.in_ok-store.field-0.store) c.as_slice-elements.ensures ∙ c.in_ok-start_elements.ensures.started p ∙ ap (λ (b : Bool). left_by_copy b c.start_elements.new.store) c.if-not-branch.true in
      begins_past_table p m q ps main (store_of c.in_ok-store.field-0.store) imports (sym c.in-Some.ensures) limits first passed;
}

pub returns-then-not-branch-2 : goal.returns-then-not-branch-2
returns-then-not-branch-2 c = record {
  begins = λ p e.
      let m = c.module-program.result.now in
      let ps = c.in-All.printers.items in
      let main = c.in-Some.main in
      let q = e ∙ sym (c.module-program.ensures.same ∙ c.runnable.ensures) in
      let imports = c.in_ok-printers.ensures.found ∙ ap found_of c.in-All.is in
      let limits = sym c.in_default-exceeded.ensures in
      let first = c.in_ok-store.ensures.allocated p q ∙ ap (allocated p) c.as_slice.ensures.value in
      let elements = in_elements p (store_of c.in_ok-store.field-0.store) c.as_slice-elements.ensures ∙ c.in_ok-start_elements.ensures.started p ∙ ap (λ (b : Bool). left_by_copy b c.start_elements.new.store) c.if-not-branch.false in
      let passed = in_datas p (store_of c.start_elements.new.store) c.as_slice-datas.ensures ∙ c.in_ok-start_datas.ensures.started p ∙ ap (λ (b : Bool). left_by_copy b c.start_datas.new.store) c.if-not-branch-2.true in
      begins_past_memory p m q ps main (store_of c.in_ok-store.field-0.store) (store_of c.start_elements.new.store) imports (sym c.in-Some.ensures) limits first elements passed;
}

pub returns : goal.returns
returns c = record {
  begins = λ p e.
      let m = c.module-program.result.now in
      let ps = c.in-All.printers.items in
      let main = c.in-Some.main in
      let q = e ∙ sym (c.module-program.ensures.same ∙ c.runnable.ensures) in
      let imports = c.in_ok-printers.ensures.found ∙ ap found_of c.in-All.is in
      let limits = sym c.in_default-exceeded.ensures in
      let first = c.in_ok-store.ensures.allocated p q ∙ ap (allocated p) c.as_slice.ensures.value in
      let elements = in_elements p (store_of c.in_ok-store.field-0.store) c.as_slice-elements.ensures ∙ c.in_ok-start_elements.ensures.started p ∙ ap (λ (b : Bool). left_by_copy b c.start_elements.new.store) c.if-not-branch.false in
      let datas = in_datas p (store_of c.start_elements.new.store) c.as_slice-datas.ensures ∙ c.in_ok-start_datas.ensures.started p ∙ ap (λ (b : Bool). left_by_copy b c.start_datas.new.store) c.if-not-branch-2.false in
      begins_ready p m q ps main (store_of c.in_ok-store.field-0.store) (store_of c.start_elements.new.store) (store_of c.start_datas.new.store) imports (sym c.in-Some.ensures) limits first elements datas;
}
