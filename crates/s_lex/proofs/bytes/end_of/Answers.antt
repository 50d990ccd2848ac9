use Rattle.std.proofs.Common.{rules, ◌≡◌, ◌≤◌, ◌<◌, true, false, length, get_or, arith}
use Rattle.s_lex.specs.Bytes.{is_of}
use Rattle.s_lex.proofs.Runs.{run_more, run_ends, run_done}
use Rattle.s_lex.proofs.bytes.end_of.Goals as goal

pub loop-at-preserved : goal.loop-at-preserved
loop-at-preserved c =
    let bs = c.args.bytes.now in
    let h : c.loop-at.at < length bs = c.loop-at-test.true in
    let t : is_of c.args.class (get_or bs c.loop-at.at 0) ≡ true = search rules in
    let m = run_more (is_of c.args.class) bs c.loop-at.at h t in
    let i = c.loop-at.invariant.runs in
    record { runs = omega (arith, m, i); within = omega arith }

pub returns-else-has-clause-runs : goal.returns-else-has-clause-runs
returns-else-has-clause-runs c =
    let bs = c.args.bytes.now in
    let h : c.loop-at.at < length bs = c.loop-at-test.true in
    let t : is_of c.args.class (get_or bs c.loop-at.at 0) ≡ false = search rules in
    let m = run_ends (is_of c.args.class) bs c.loop-at.at h t in
    let i = c.loop-at.invariant.runs in
    omega (arith, m, i)

pub returns-after-loop-at-clause-runs : goal.returns-after-loop-at-clause-runs
returns-after-loop-at-clause-runs c =
    let bs = c.args.bytes.now in
    let h : length bs ≤ c.loop-at.at = c.loop-at-test.false in
    let m = run_done (is_of c.args.class) bs c.loop-at.at h in
    let i = c.loop-at.invariant.runs in
    omega (arith, m, i)
