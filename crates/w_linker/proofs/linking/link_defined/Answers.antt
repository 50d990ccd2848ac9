use Rattle.std.proofs.Common.{◌≡◌, List, [], sym, ap, subst, ◌∙◌}
use Rattle.std.specs.Prelude.{All}
use Rattle.w_syntax.specs.declared.module.Module.{Module}
use Rattle.w_canon.specs.IsClassesOf.{IsClassesOf}
use Rattle.w_linked.specs.Definitions.{Definitions, definitions, hosts}
use Rattle.w_linked.specs.Linked.{at_first, placing}
use Rattle.w_linked.specs.Starting.{last_entry, first_exceeded}
use Rattle.w_placing.specs.Placing.{zipped, placing_of, HasAll}
use Rattle.w_placing.specs.Tests.{tests_of}
use Rattle.w_linker.specs.Parts.{IsAccepted}
use Rattle.w_linker.proofs.Begun.{without_import, too_large}
use Rattle.w_linker.proofs.LinkedProgram.{tells_by}
use Rattle.w_linker.proofs.linking.link_defined.Goals as goal

pub returns-in-NoImport-clause-links : goal.returns-in-NoImport-clause-links
returns-in-NoImport-clause-links c =
    let ms = c.args.modules.items in
    let tests = tests_of c.args.classes in
    let found = c.in_ok-instances.ensures.placed tests (tells_by c.args.definitions.types c.args.classes c.requires.classes) in
    let here = subst (λ (l : List Module). placing tests (definitions l) [] (at_first (hosts l)) l ≡ placing_of l c.in_ok-instances.field-0) c.as_slice-2.ensures.value found in
    without_import tests ms c.in-Some.main c.in-NoImport.file c.in-NoImport.import (ap last_entry (sym c.as_slice.ensures.value) ∙ sym c.in-Some.ensures)
    (here ∙ ap (placing_of ms) c.in-NoImport.is)

pub returns-in-Some-first_exceeded-clause-links : goal.returns-in-Some-first_exceeded-clause-links
returns-in-Some-first_exceeded-clause-links c =
    let ms = c.args.modules.items in
    let tests = tests_of c.args.classes in
    let found = c.in_ok-instances.ensures.placed tests (tells_by c.args.definitions.types c.args.classes c.requires.classes) in
    let here = subst (λ (l : List Module). placing tests (definitions l) [] (at_first (hosts l)) l ≡ placing_of l c.in_ok-instances.field-0) c.as_slice-2.ensures.value found in
    too_large tests ms c.in-Some.main (zipped ms c.in-Placed.instances.items) c.in-Some-first_exceeded.file c.in-Some-first_exceeded.limit
    (ap last_entry (sym c.as_slice.ensures.value) ∙ sym c.in-Some.ensures)
    (here ∙ ap (placing_of ms) c.in-Placed.is)
    (ap (first_exceeded 0) (sym c.as_slice-3.ensures.value) ∙ sym c.in-Some-first_exceeded.ensures.first)

pub link_placed-requires-clause-linked : goal.link_placed-requires-clause-linked
link_placed-requires-clause-linked c =
    let ms = c.args.modules.items in
    let tests = tests_of c.args.classes in
    let found = c.in_ok-instances.ensures.placed tests (tells_by c.args.definitions.types c.args.classes c.requires.classes) in
    let here = subst (λ (l : List Module). placing tests (definitions l) [] (at_first (hosts l)) l ≡ placing_of l c.in_ok-instances.field-0) c.as_slice-2.ensures.value found in
    record {
      as_many = subst (HasAll ms) c.in-Placed.is (subst (λ (l : List Module). HasAll l c.in_ok-instances.field-0) c.as_slice-2.ensures.value c.in_ok-instances.ensures.as_many);
      classes = subst (λ (d : Definitions). IsClassesOf d.types c.args.classes) c.requires.defined c.requires.classes;
      accepted = subst (All IsAccepted) c.as_slice-3.ensures.value c.in_default-first_exceeded.ensures.accepted;
      placed = here ∙ ap (placing_of ms) c.in-Placed.is;
    }
