use Rattle.std.proofs.Common.{◌≡◌, ◌∙◌, ◌+◌, ◌≤◌, ℕ, List, length, map, arith, ap, subst}
use Rattle.std.specs.Prelude.{IfOk, Some, sum_by}
use Rattle.std.proofs.lemmas.List.{length-map}
use Rattle.w_syntax.specs.Code.{Code}
use Rattle.s_check.specs.Scopes.{parameter}
use Rattle.s_check.specs.Size.{clause_size}
use Rattle.s_code.specs.Handlers.{Placed, handler_body}
use Rattle.s_code.specs.Clauses.{placed_all}
use Rattle.s_code.specs.Layouts.{Layout}
use Rattle.s_code.specs.Places.{return_layout}
use Rattle.s_lower.specs.Views.{bound_of, bounds_of, layout_of}
use Rattle.s_lower.proofs.Lengths.{as_many, clauses_few}
use Rattle.s_lower.proofs.NumberedNames.{handler_laid, handler_placed, placed_first, as_many_kept, all_fit}
use Rattle.s_index.specs.Limits.{number_limit}
use Rattle.s_lower.proofs.code.handler_body_with.Goals as goal

pub handler_body-requires-clause-clauses : goal.handler_body-requires-clause-clauses
handler_body-requires-clause-clauses c =
    let ds = c.args.program.now in
    let h = c.args.name.now in
    let i = c.args.handler.now in
    let us = bounds_of c.args.parameters.now in
    let from = length c.args.parameters.now + 1 + length c.args.own.now in
    let temps = c.args.temporaries in
    let few = clauses_few i.clauses in
    let room : temps + length i.clauses + sum_by clause_size i.clauses ≤ number_limit = omega (arith, few) in
    all_fit ds c.as_slice.result.now h us temps from i.clauses
    (placed_first ds c.new-placed.result.items c.push_all_placed.new.placed.items c.as_slice.result.now h us temps from c.as_slice-clauses.result.now i.clauses c.new-placed.ensures.items c.in_ok-push_all_placed.ensures.value c.as_slice.ensures.value c.as_slice-clauses.ensures) room

pub handler_body-requires-clause-few : goal.handler_body-requires-clause-few
handler_body-requires-clause-few c =
    let ds = c.args.program.now in
    let h = c.args.name.now in
    let i = c.args.handler.now in
    let us = bounds_of c.args.parameters.now in
    let from = length c.args.parameters.now + 1 + length c.args.own.now in
    let temps = c.args.temporaries in
    let few = clauses_few i.clauses in
    let many = as_many_kept ds c.as_slice.result.now h us temps from i.clauses
    (placed_first ds c.new-placed.result.items c.push_all_placed.new.placed.items c.as_slice.result.now h us temps from c.as_slice-clauses.result.now i.clauses c.new-placed.ensures.items c.in_ok-push_all_placed.ensures.value c.as_slice.ensures.value c.as_slice-clauses.ensures) in
    omega (arith, few, many)

pub handler_body-requires-clause-returns : goal.handler_body-requires-clause-returns
handler_body-requires-clause-returns c =
    let few = clauses_few c.args.handler.now.clauses in
    let temporaries = ap (λ (l : Layout). l.temporaries) c.in_ok-returning.ensures.value in
    omega (arith, few, temporaries)

pub returns : goal.returns
returns c =
    let ds = c.args.program.now in
    let h = c.args.name.now in
    let i = c.args.handler.now in
    let us = bounds_of c.args.parameters.now in
    let from = length c.args.parameters.now + 1 + length c.args.own.now in
    let temps = c.args.temporaries in
    let vs = bounds_of c.args.own.now in
    let many = as_many c.args.parameters.now (map parameter i.parameters) c.requires.parameters ∙ length-map i.parameters parameter in
    let own = length-map c.args.own.now bound_of in
    let start : length c.args.parameters.now + 1 ≡ length i.parameters + 1 = omega (arith, many) in
    let place : from ≡ length i.parameters + 1 + length vs = omega (arith, many, own) in
    let laid = c.in_ok-returning.ensures.value
    ∙ ap (λ (n : ℕ). layout_of us vs (length c.args.parameters.now + 1) temps (Some (record { name = h; parameters = n }))) many
    ∙ handler_laid ds h i us vs (length c.args.parameters.now + 1) temps c.requires.parameters c.requires.own start c.requires.temporaries in
    let placed = placed_first ds c.new-placed.result.items c.push_all_placed.new.placed.items c.as_slice.result.now h us temps from c.as_slice-clauses.result.now i.clauses c.new-placed.ensures.items c.in_ok-push_all_placed.ensures.value c.as_slice.ensures.value c.as_slice-clauses.ensures
    ∙ handler_placed ds h i us vs from temps c.requires.parameters c.requires.own place c.requires.temporaries in
    record {
      value = subst (λ (ps : List Placed). IfOk c.handler_body.result (λ (made : Code). made ≡ handler_body ds (return_layout ds h i) i ps)) placed
          (subst (λ (l : Layout). IfOk c.handler_body.result (λ (made : Code). made ≡ handler_body ds l i (placed_all c.as_slice.result.now))) laid c.handler_body.ensures.value);
    }
