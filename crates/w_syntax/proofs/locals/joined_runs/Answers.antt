use Rattle.std.proofs.Common.{◌≡◌, [], List, reverse, sym, ap, ◌∙◌, arith, rules, refl}
use Rattle.std.proofs.lemmas.List.{nil_from_length}
use Rattle.w_syntax.specs.declared.locals.LocalRun.{LocalRun}
use Rattle.w_syntax.specs.Locals.{join_all}
use Rattle.w_syntax.specs.Locals.{total}
use Rattle.w_syntax.specs.LocalsLaws.{total_join}
use Rattle.w_syntax.proofs.JoinedRuns.{join_last, join_done}
use Rattle.w_syntax.proofs.Totals.{total_last, total_none}
use Rattle.w_syntax.proofs.locals.joined_runs.Goals as goal

pub loop-run-init : goal.loop-run-init
loop-run-init c = rw c.in_ok-backwards.ensures.items (record { so_far = refl; few = omega (arith, c.requires, total_none) })

pub prepend_run-requires : goal.prepend_run-requires
prepend_run-requires c =
    let run = c.in-Some.run' in
    omega (arith, c.loop-run.invariant.few, ap total c.in-Some.ensures.items, total_last c.pop.new.self.items run)

pub loop-run-preserved : goal.loop-run-preserved
loop-run-preserved c =
    let run = c.in-Some.run' in
    let e = c.in_ok-prepend_run.ensures in
    record {
      so_far = rw e (sym (join_last c.pop.new.self.items run (reverse c.loop-run.backwards.items)) ∙ ap (λ (l : List LocalRun). join_all l (reverse c.loop-run.backwards.items)) (sym c.in-Some.ensures.items) ∙ c.loop-run.invariant.so_far);
      few = rw e (omega (arith, c.loop-run.invariant.few, ap total c.in-Some.ensures.items, total_last c.pop.new.self.items run, total_join run (reverse c.loop-run.backwards.items)));
    }

pub returns : goal.returns
returns c =
    let none : c.loop-run.runs.items ≡ [] = nil_from_length c.loop-run.runs.items (search rules) in
    c.reverse.ensures.items ∙ sym (join_done (reverse c.loop-run.backwards.items)) ∙ ap (λ (l : List LocalRun). join_all l (reverse c.loop-run.backwards.items)) (sym none) ∙ c.loop-run.invariant.so_far
