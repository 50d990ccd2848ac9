use Rattle.std.proofs.Common.{◌≡◌, ◌≤◌, map, length, sym, ap, ◌∙◌, arith}
use Rattle.std.specs.Option.{option_map}
use Rattle.std.proofs.lemmas.List.{length-map, map_push}
use Rattle.w_linked.specs.Imports.{import_address}
use Rattle.w_placing.specs.Addresses.{stands}
use Rattle.w_placing.specs.Found.{counted_of}
use Rattle.w_placing.specs.Tests.{tests_of}
use Rattle.w_placing.proofs.Found.{found_next, found_none, found_all}
use Rattle.w_placing.proofs.imports.find_imports.Goals as goal

pub returns-in_default : goal.returns-in_default
returns-in_default c = λ ps are.
    let tests = tests_of c.args.classes.now in
    let b = c.args.before.now in
    let e = c.import-item.result in
    let none = ap (option_map counted_of) (sym c.in_default.is) ∙ c.in_ok-next.ensures ps are ∙ ap (import_address tests c.args.definitions.now ps c.args.module.now b.types c.loop-import.printers) c.import-item.is in
    let many : c.len.result ≡ length (map stands c.loop-import.found.items) = omega (arith, c.len.ensures, length-map c.loop-import.found.items stands) in
    found_none tests c.args.definitions.now ps c.args.module.now b.types c.as_slice-import-items.result.now _ c.loop-import.import-index c.loop-import.printers e (map stands c.loop-import.found.items) c.len.result
    c.loop-import-test.true none many (c.loop-import.invariant ps are)

pub loop-import-preserved : goal.loop-import-preserved
loop-import-preserved c = λ ps are.
    let tests = tests_of c.args.classes.now in
    let b = c.args.before.now in
    let e = c.import-item.result in
    let counted = c.in-Some.counted in
    let some = ap (option_map counted_of) (sym c.in-Some.is) ∙ c.in_ok-next.ensures ps are ∙ ap (import_address tests c.args.definitions.now ps c.args.module.now b.types c.loop-import.printers) c.import-item.is in
    found_next tests c.args.definitions.now ps c.args.module.now b.types c.as_slice-import-items.result.now _ c.loop-import.import-index c.loop-import.printers e (map stands c.loop-import.found.items) _ (counted_of counted)
    c.loop-import-test.true some (ap (map stands) c.in_ok-push.ensures.items ∙ map_push stands c.loop-import.found.items counted.address) (c.loop-import.invariant ps are)

pub returns : goal.returns
returns c = λ ps are.
    let b = c.args.before.now in
    let past : length c.as_slice-import-items.result.now ≤ c.loop-import.import-index = omega arith in
    found_all (tests_of c.args.classes.now) c.args.definitions.now ps c.args.module.now b.types c.as_slice-import-items.result.now _ c.loop-import.import-index c.loop-import.printers (map stands c.loop-import.found.items)
    past (c.loop-import.invariant ps are)
