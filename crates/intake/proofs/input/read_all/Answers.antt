use Rattle.std.proofs.Common.{ℕ, ◌+◌, ◌∙◌, Ok, ap, arith}
use Rattle.intake.proofs.FilesTakenIn.{part_more, all_read, read_too_long, rest_left, rest_left_at}
use Rattle.intake.proofs.LongFiles.{reads_part}
use Rattle.intake.proofs.input.read_all.Goals as goal

pub loop-length-preserved : goal.loop-length-preserved
loop-length-preserved g c = record {
  whole = λ known start.
      part_more known (g.F.Inputs.left c.loop-length.files) (g.F.Inputs.left c.read_more.new.files) c.args.takes c.loop-length.intake c.read_more.new.intake c.loop-length.length c.in_ok-count.count
      (c.loop-length.invariant.whole known start) c.in_ok-count.ensures.more;
  short = omega (arith, c.in_ok-count.ensures.most, c.min-most.ensures, c.loop-length-test.true);
  names = λ n. c.in_ok-count.ensures.names n ∙ c.loop-length.invariant.names n;
  later = omega (arith, c.loop-length.invariant.later, c.in_ok-count.ensures.cause.later);
}

pub returns-clause-too_long : goal.returns-clause-too_long
returns-clause-too_long g c = λ _ known start.
    read_too_long known (g.F.Inputs.left c.loop-length.files) c.args.takes c.loop-length.intake c.loop-length.length (omega (arith, c.loop-length-test.false)) (c.loop-length.invariant.whole known start)

pub returns-clause-part : goal.returns-clause-part
returns-clause-part g c = λ known start.
    rest_left_at known (g.F.Inputs.left c.loop-length.files) c.args.takes c.loop-length.intake c.loop-length.length c.loop-length.invariant.short (c.loop-length.invariant.whole known start)

pub returns-in_err-count-clause-part : goal.returns-in_err-count-clause-part
returns-in_err-count-clause-part g c = λ known start.
    reads_part known _ c.from_residual.result
    (rest_left known c.min-most.result (g.F.Inputs.left c.loop-length.files) _ c.args.takes c.loop-length.intake c.loop-length.length (c.loop-length.invariant.whole known start) c.in_err-count.ensures.err (omega arith))

pub returns-then-count-eq0-clause-bytes : goal.returns-then-count-eq0-clause-bytes
returns-then-count-eq0-clause-bytes g c = λ known start.
    all_read known (g.F.Inputs.left c.read_more.new.files) c.args.takes c.read_more.new.intake (c.loop-length.length + c.in_ok-count.count)
    (omega (arith, c.if-count-eq0.true, c.loop-length-test.true))
    (part_more known (g.F.Inputs.left c.loop-length.files) (g.F.Inputs.left c.read_more.new.files) c.args.takes c.loop-length.intake c.read_more.new.intake c.loop-length.length c.in_ok-count.count
    (c.loop-length.invariant.whole known start) c.in_ok-count.ensures.more)
    (c.in_ok-count.ensures.end (ap (λ (n : ℕ). Ok n) c.if-count-eq0.true))

pub returns-then-count-eq0-clause-part : goal.returns-then-count-eq0-clause-part
returns-then-count-eq0-clause-part g c = λ known start.
    rest_left_at known (g.F.Inputs.left c.read_more.new.files) c.args.takes c.read_more.new.intake (c.loop-length.length + c.in_ok-count.count)
    (omega (arith, c.if-count-eq0.true, c.loop-length-test.true))
    (part_more known (g.F.Inputs.left c.loop-length.files) (g.F.Inputs.left c.read_more.new.files) c.args.takes c.loop-length.intake c.read_more.new.intake c.loop-length.length c.in_ok-count.count
    (c.loop-length.invariant.whole known start) c.in_ok-count.ensures.more)
