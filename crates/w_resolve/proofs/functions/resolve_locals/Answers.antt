use Rattle.std.proofs.Common.{map, sym, ap, ◌∙◌}
use Rattle.w_syntax.specs.Locals.{locals_of_runs}
use Rattle.w_link.specs.Resolved.{run_shifted}
use Rattle.w_resolve.proofs.Runs.{runs_kept}
use Rattle.w_resolve.proofs.functions.resolve_locals.Goals as goal

pub returns-in-Some : goal.returns-in-Some
returns-in-Some c =
    runs_kept c.args.n c.into_runs.result.items c.in-Some.locals c.into_runs.ensures.joined (sym c.in-Some.is ∙ c.in_ok-locals.ensures ∙ ap locals_of_runs c.in_ok-runs.ensures)
    ∙ ap (map (run_shifted c.args.n)) c.into_runs.ensures.runs
