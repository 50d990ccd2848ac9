use Rattle.std.proofs.Common.{ℕ, List, length, map, sym, ap, subst, subst₂, ◌∙◌}
use Rattle.std.specs.Prelude.{Result, Ok, Err}
use Rattle.std.proofs.lemmas.Result.{err_from_is_err_and}
use Rattle.w_syntax.specs.declared.module.Module.{Module}
use Rattle.w_reduce.specs.Start.{exceeded, first_term}
use Rattle.w_stands.specs.Values.{store_of}
use Rattle.w_link.specs.Resolved.{Instance}
use Rattle.w_linked.specs.Linked.{all_starts, linked}
use Rattle.w_linked.specs.Starting.{Ready, in_last, program_of}
use Rattle.w_placing.specs.Placing.{zipped}
use Rattle.w_placing.specs.Tests.{tests_of}
use Rattle.w_machine.specs.Beginning.{BeginsAt}
use Rattle.w_linker.specs.declared.linking.LinkFault.{LinkFault}
use Rattle.w_linker.specs.declared.linking.Linked.{Linked}
use Rattle.w_linker.specs.declared.starting.Sizes.{Sizes}
use Rattle.w_linker.specs.Links.{LinksAs}
use Rattle.w_linker.specs.Parts.{in_last_of}
use Rattle.w_linker.specs.Segments.{sizes_of, element_count, data_count, StartsAs}
use Rattle.w_linker.proofs.Begun.{begins, in_last_is, sizes_are, is_within, fault_is, ready}
use Rattle.w_linker.proofs.FilesCopied.{elements_counted, datas_counted}
use Rattle.w_linker.proofs.LinkedProgram.{types_are}
use Rattle.w_linker.proofs.linking.link_placed.Goals as goal

pub first_store-requires-clause-within : goal.first_store-requires-clause-within
first_store-requires-clause-within c =
    let ms = c.args.modules.items in
    let is = c.args.instances.items in
    let program = c.module.ensures.same ∙ c.in_ok-program.ensures ∙ ap (λ (l : List Instance). linked (zipped ms l)) c.as_slice-6.ensures.value in
    ap exceeded program ∙ is_within c.args.classes ms is c.requires.linked c.args.main c.requires.entry c.requires.within

pub first_store-requires-clause-elements : goal.first_store-requires-clause-elements
first_store-requires-clause-elements c =
    let ms = c.args.modules.items in
    let is = c.args.instances.items in
    let program = c.module.ensures.same ∙ c.in_ok-program.ensures ∙ ap (λ (l : List Instance). linked (zipped ms l)) c.as_slice-6.ensures.value in
    let sizes = c.as_slice-7.ensures.value ∙ c.in_ok-sizes.ensures ∙ ap (map sizes_of) c.as_slice.ensures.value ∙ sizes_are ms is c.requires.linked.as_many in
    ap element_count sizes ∙ elements_counted (zipped ms is) ∙ ap (λ (m : Module). length m.elements) (sym program)

pub first_store-requires-clause-datas : goal.first_store-requires-clause-datas
first_store-requires-clause-datas c =
    let ms = c.args.modules.items in
    let is = c.args.instances.items in
    let program = c.module.ensures.same ∙ c.in_ok-program.ensures ∙ ap (λ (l : List Instance). linked (zipped ms l)) c.as_slice-6.ensures.value in
    let sizes = c.as_slice-7.ensures.value ∙ c.in_ok-sizes.ensures ∙ ap (map sizes_of) c.as_slice.ensures.value ∙ sizes_are ms is c.requires.linked.as_many in
    ap data_count sizes ∙ datas_counted (zipped ms is) ∙ ap (λ (m : Module). length m.datas) (sym program)

pub returns-in_err-store-clause-links : goal.returns-in_err-store-clause-links
returns-in_err-store-clause-links c =
    let ms = c.args.modules.items in
    let is = c.args.instances.items in
    let program = c.module.ensures.same ∙ c.in_ok-program.ensures ∙ ap (λ (l : List Instance). linked (zipped ms l)) c.as_slice-6.ensures.value in
    let sizes = c.as_slice-7.ensures.value ∙ c.in_ok-sizes.ensures ∙ ap (map sizes_of) c.as_slice.ensures.value in
    let fault = c.in_err-store.field-0.0 in
    let k = subst₂ (λ (m : Module) (l : List Sizes). StartsAs m l (Err fault)) program sizes c.in_err-store.ensures in
    let told = err_from_is_err_and c.from_residual-in_err-store.result c.from_residual-in_err-store.ensures.1 in
    subst (λ (r : Result Linked LinkFault). LinksAs (tests_of c.args.classes) ms r) (sym (told.1 ∙ ap (λ (f : LinkFault). Err f) told.2))
    (fault_is c.args.classes ms is c.requires.linked c.args.main c.requires.entry c.requires.within fault k)

pub returns-clause-links : goal.returns-clause-links
returns-clause-links c =
    let ms = c.args.modules.items in
    let is = c.args.instances.items in
    let x = c.args.main in
    let s = c.in_ok-store.store in
    let tests = tests_of c.args.classes in
    let program = c.in_ok-program.ensures ∙ ap (λ (l : List Instance). linked (zipped ms l)) c.as_slice-6.ensures.value in
    let sizes = c.as_slice-7.ensures.value ∙ c.in_ok-sizes.ensures ∙ ap (map sizes_of) c.as_slice.ensures.value in
    let starts = c.in_ok-starts.ensures ∙ ap (λ (l : List Module). all_starts (zipped l c.as_slice-3.result.now)) c.as_slice-2.ensures.value
    ∙ ap (λ (l : List Instance). all_starts (zipped ms l)) c.as_slice-3.ensures.value in
    let main = c.in_last-main.ensures ∙ ap (λ (l : List Instance). in_last_of l x) c.as_slice-5.ensures.value ∙ in_last_is ms is x c.requires.linked.as_many in
    let k = subst₂ (λ (m : Module) (l : List Sizes). StartsAs m l (Ok s)) (c.module.ensures.same ∙ program) sizes c.in_ok-store.ensures in
    ready c.args.classes ms is c.requires.linked x c.requires.entry c.requires.within s k
    ∙ ap (λ (m : Module). Ready (program_of tests m) (store_of s) (first_term (all_starts (zipped ms is)) (in_last (zipped ms is) x))) (sym program)
    ∙ ap (λ (fs : List ℕ). Ready (program_of tests c.in_ok-program.program) (store_of s) (first_term fs (in_last (zipped ms is) x))) (sym starts)
    ∙ ap (λ (n : ℕ). Ready (program_of tests c.in_ok-program.program) (store_of s) (first_term c.in_ok-starts.starts.items n)) (sym main)

pub returns-clause-types : goal.returns-clause-types
returns-clause-types c =
    let ms = c.args.modules.items in
    let is = c.args.instances.items in
    let program = c.in_ok-program.ensures ∙ ap (λ (l : List Instance). linked (zipped ms l)) c.as_slice-6.ensures.value in
    ap (λ (m : Module). m.types) program ∙ types_are c.args.classes ms is c.requires.linked

pub returns-clause-begins : goal.returns-clause-begins
returns-clause-begins c =
    let ms = c.args.modules.items in
    let is = c.args.instances.items in
    let x = c.args.main in
    let s = c.in_ok-store.store in
    let program = c.in_ok-program.ensures ∙ ap (λ (l : List Instance). linked (zipped ms l)) c.as_slice-6.ensures.value in
    let sizes = c.as_slice-7.ensures.value ∙ c.in_ok-sizes.ensures ∙ ap (map sizes_of) c.as_slice.ensures.value in
    let starts = c.in_ok-starts.ensures ∙ ap (λ (l : List Module). all_starts (zipped l c.as_slice-3.result.now)) c.as_slice-2.ensures.value
    ∙ ap (λ (l : List Instance). all_starts (zipped ms l)) c.as_slice-3.ensures.value in
    let main = c.in_last-main.ensures ∙ ap (λ (l : List Instance). in_last_of l x) c.as_slice-5.ensures.value ∙ in_last_is ms is x c.requires.linked.as_many in
    let k = subst₂ (λ (m : Module) (l : List Sizes). StartsAs m l (Ok s)) (c.module.ensures.same ∙ program) sizes c.in_ok-store.ensures in
    subst (λ (m : Module). BeginsAt m s c.in_ok-starts.starts.items c.in_last-main.result) (sym program)
    (subst₂ (λ (fs : List ℕ) (n : ℕ). BeginsAt (linked (zipped ms is)) s fs n) (sym starts) (sym main)
    (begins c.args.classes ms is c.requires.linked x c.requires.entry c.requires.within s k))
