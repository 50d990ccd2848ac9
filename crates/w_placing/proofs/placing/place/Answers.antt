use Rattle.std.proofs.Common.{◌≡◌, ◌≤◌, List, map, length, sym, ap, subst, ◌∙◌, arith}
use Rattle.std.proofs.lemmas.List.{get_or_read, length-map}
use Rattle.w_link.specs.Resolved.{Instance}
use Rattle.w_linked.specs.Imports.{file_name}
use Rattle.w_linked.specs.Linked.{at_first, placed, instance_of}
use Rattle.w_placing.specs.declared.exports.File.{File}
use Rattle.w_placing.specs.declared.address.Address.{Address}
use Rattle.w_placing.specs.Addresses.{stands}
use Rattle.w_placing.specs.Counting.{counts}
use Rattle.w_placing.specs.Files.{AreFiles, instances_of}
use Rattle.w_placing.specs.Found.{imported_of}
use Rattle.w_placing.specs.Placing.{zipped}
use Rattle.w_placing.specs.Tests.{tests_of}
use Rattle.w_placing.proofs.FilesPlaced.{placed_none, placed_more, placed_missing, placed_all, with_tests}
use Rattle.w_placing.proofs.placing.place.Goals as goal

pub loop-checked-init : goal.loop-checked-init
loop-checked-init c =
    placed_none (tests_of c.args.classes.now) c.args.definitions.now c.args.modules.now c.new-files.result.items (counts c.at_first-before.result)
    c.new-files.ensures.items (c.at_first-before.ensures ∙ ap at_first c.in_ok-count_hosts.ensures)

pub returns-in-Missing-clause-placed : goal.returns-in-Missing-clause-placed
returns-in-Missing-clause-placed c =
    let tests = tests_of c.args.classes.now in
    let d = c.args.definitions.now in
    let ms = c.args.modules.now in
    let xs = c.loop-checked.files.items in
    let b = counts c.loop-checked.before in
    let i = c.loop-checked.checked-index in
    let m = c.module-module.result.now in
    let at = c.module-module.ensures.same ∙ get_or_read ms i c.checked-item.result c.loop-checked-test.true c.checked-item.is m in
    let ps = zipped ms (instances_of xs) in
    let are = subst (λ (ys : List File). AreFiles 0 ys ps) (sym c.as_slice.ensures.value) c.loop-checked.invariant.files in
    let found = c.in_ok-import.ensures ps are ∙ ap imported_of c.in-Missing.is in
    let many : c.len.result ≡ length xs = omega (arith, c.len.ensures) in
    with_tests c.args.classes.now d _ ms _ c.requires.classes c.requires.defined
    (placed_missing tests d ms i xs b m c.loop-checked.invariant c.loop-checked-test.true at c.in-Missing.import c.len.result found many)

pub loop-checked-preserved : goal.loop-checked-preserved
loop-checked-preserved c =
    let tests = tests_of c.args.classes.now in
    let d = c.args.definitions.now in
    let ms = c.args.modules.now in
    let xs = c.loop-checked.files.items in
    let b = counts c.loop-checked.before in
    let i = c.loop-checked.checked-index in
    let m = c.module-module.result.now in
    let at = c.module-module.ensures.same ∙ get_or_read ms i c.checked-item.result c.loop-checked-test.true c.checked-item.is m in
    let ps = zipped ms (instances_of xs) in
    let are = subst (λ (ys : List File). AreFiles 0 ys ps) (sym c.as_slice.ensures.value) c.loop-checked.invariant.files in
    let found = c.in_ok-import.ensures ps are ∙ ap imported_of c.in-All.is in
    let many : c.len-in-All.result ≡ length xs = omega (arith, c.len-in-All.ensures) in
    let instance = c.in_ok-file-in-All.ensures.instance ∙ c.in_ok-instance-in-All.ensures ∙ ap (λ (l : List Address). instance_of b (map stands l) m) c.as_slice-in-All.ensures.value in
    placed_more tests d ms i xs b m c.loop-checked.invariant c.loop-checked-test.true at (map stands c.in-All.found.items) c.in-All.printers c.in_ok-file-in-All.file c.push.new.self.items
    (counts c.in_ok-before-in-All.before) found (c.in_ok-file-in-All.ensures.name ∙ ap file_name many) c.in_ok-file-in-All.ensures.exports instance c.in_ok-before-in-All.ensures c.in_ok-push-in-All.ensures.items

pub returns-clause-placed : goal.returns-clause-placed
returns-clause-placed c =
    let tests = tests_of c.args.classes.now in
    let d = c.args.definitions.now in
    let ms = c.args.modules.now in
    let past : length ms ≤ c.loop-checked.checked-index = omega arith in
    with_tests c.args.classes.now d _ ms _ c.requires.classes c.requires.defined
    (placed_all tests d ms c.loop-checked.checked-index c.loop-checked.files.items (counts c.loop-checked.before) past c.loop-checked.invariant
    ∙ ap (λ (is : List Instance). placed (zipped ms is)) (sym c.in_ok-into_instances.ensures))

pub returns-clause-as_many : goal.returns-clause-as_many
returns-clause-as_many c =
    let xs = c.loop-checked.files.items in
    let many : length xs ≡ length c.args.modules.now = omega (arith, c.loop-checked.invariant.many) in
    ap length c.in_ok-into_instances.ensures ∙ length-map xs (λ (x : File). x.instance) ∙ many
