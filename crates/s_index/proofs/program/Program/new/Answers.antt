use Rattle.std.proofs.Common.{◌∙◌, List, Bor, length, arith, subst, sym, ap}
use Rattle.w_types.specs.declared.types.CompType.{CompType}
use Rattle.s_syntax.specs.declared.name.Name.{Name}
use Rattle.s_syntax.specs.declared.script.Declaration.{Declaration}
use Rattle.s_check.specs.Views.{HasNames}
use Rattle.s_index.specs.Handled.{handled_names}
use Rattle.s_index.specs.Indices.{function_types, type_table}
use Rattle.s_index.specs.Types.{with_types}
use Rattle.s_index.specs.Views.{names_of}
use Rattle.s_index.proofs.Lengths.{few_declarations, few_function_types, few_in_table}
use Rattle.s_index.proofs.program.Program.new.Goals as goal

pub new-requires : goal.new-requires
new-requires c = let f = few_declarations c.args.all.now in let h = c.requires in omega (arith, f, h)

pub continuation_types-requires-clause-few : goal.continuation_types-requires-clause-few
continuation_types-requires-clause-few c =
    let f = few_function_types c.args.all.now c.requires in
    let e = ap (λ (ts : List CompType). length ts) (c.as_slice-2.ensures.value ∙ c.in_ok-types.ensures.value) in
    omega (arith, f, e)

pub invariant_of-result : goal.invariant_of-result
invariant_of-result c =
    let v = c.in_ok-declarations.ensures.value in
    let types =
    c.in_ok-add_types.ensures.value
    ∙ ap (λ (ts : List CompType). with_types ts c.in_ok-continuations.continuations.items) (c.in_ok-types.ensures.value ∙ ap (λ (ds : List Declaration). function_types ds) (sym v))
    ∙ ap (λ (ts : List CompType). with_types (function_types c.in_ok-declarations.declarations) ts) c.in_ok-continuations.ensures.value in
    let f = few_in_table c.args.all.now c.requires in
    let e = ap (λ (ts : List CompType). length ts) (types ∙ ap (λ (ds : List Declaration). type_table ds) v) in (
      subst (λ (xs : List Name). HasNames c.in_ok-handled.handled xs) (ap (λ (xs : List (Bor Name)). names_of xs) c.as_slice.ensures.value ∙ c.in_ok-names.ensures.value ∙ ap (λ (ds : List Declaration). handled_names ds) (sym v)) c.in_ok-handled.ensures.value,
      types,
      omega (arith, f, e),
    )
