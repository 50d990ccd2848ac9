use Rattle.std.proofs.Common.{◌+◌, List, drop, ap, arith}
use Rattle.std.specs.Prelude.{sum_by}
use Rattle.std.proofs.lemmas.List.Sums.{sum_by-cons}
use Rattle.s_syntax.specs.declared.script.Clause.{Clause}
use Rattle.s_check.specs.Size.{clause_size}
use Rattle.lists.proofs.Lists.{cell}
use Rattle.s_lower.specs.Views.{bounds_of}
use Rattle.s_lower.proofs.NumberedNames.{placed_more}
use Rattle.s_lower.proofs.code.push_all_placed.Goals as goal

pub loop-clause-preserved : goal.loop-clause-preserved
loop-clause-preserved c =
    let cs = c.args.clauses.now in
    let i = c.loop-clause.clause-index in
    let x = c.clause-item.result in
    let d = ap (λ (ds : List Clause). sum_by clause_size ds) (cell cs i x c.loop-clause-test.true c.clause-item.is) in
    let s = sum_by-cons clause_size x (drop (i + 1) cs) in
    let n = c.in_ok-next.ensures.next in
    let f = c.in_ok-next.ensures.few in
    let r = c.loop-clause.invariant.room in
    record {
      placed = placed_more c.args.program.now c.args.handler.now (bounds_of c.args.parameters.now) c.args.temporaries c.loop-clause.next _ cs i x c.loop-clause.placed.items c.push_placed.new.placed.items _
          c.loop-clause-test.true c.clause-item.is c.in_ok-next.ensures.value n c.loop-clause.invariant.placed;
      room = omega (arith, d, s, n, f, r);
    }
