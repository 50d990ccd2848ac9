use Rattle.std.proofs.Common.{◌≡◌, ◌∙◌, ◌+◌, ℕ, length, map, sym, ap, subst}
use Rattle.std.specs.Prelude.{IfOk}
use Rattle.std.proofs.lemmas.List.{length-map}
use Rattle.w_syntax.specs.Code.{Code}
use Rattle.s_check.specs.Scopes.{parameter}
use Rattle.s_code.specs.Layouts.{Layout}
use Rattle.s_code.specs.Statements.{body}
use Rattle.s_lower.specs.Views.{bound_of, bounds_of}
use Rattle.s_lower.proofs.Lengths.{as_many}
use Rattle.s_lower.proofs.NumberedNames.{function_laid}
use Rattle.s_lower.proofs.code.body_with.Goals as goal

pub returns : goal.returns
returns c =
    let f = c.args.function.now in
    let ps = c.args.parameters.now in
    let own = c.args.own.now in
    let from = as_many ps (map parameter f.parameters) c.requires.parameters ∙ length-map f.parameters parameter in
    let temporaries = ap (λ (n : ℕ). length ps + n) (sym (length-map own bound_of)) in
    let laid = c.in_ok-layout.ensures.value ∙ function_laid c.args.program.now f (bounds_of ps) (bounds_of own) (length ps) (length ps + length own) c.requires.parameters c.requires.own from temporaries in
    record { value = subst (λ (l : Layout). IfOk c.function_body.result (λ (made : Code). made ≡ body c.args.program.now l 0 f.body)) laid c.function_body.ensures.value }
