use Rattle.std.proofs.Common.{drop, arith}
use Rattle.std.proofs.lemmas.List.{length-drop}
use Rattle.w_fields.proofs.SizedBytes.{no_size, too_short, cut_out}
use Rattle.w_fields.proofs.fields.sized_at.Goals as goal

pub returns-in_default : goal.returns-in_default
returns-in_default c = no_size (drop c.args.at c.args.bytes.now) c.in_default.ensures.reads

pub returns-then-bytes-start : goal.returns-then-bytes-start
returns-then-bytes-start c = too_short (drop c.args.at c.args.bytes.now) (drop c.in-Some.start c.args.bytes.now) c.in-Some.size c.in-Some.ensures.reads.0 (omega (arith, c.if-bytes-start.true, length-drop c.in-Some.start c.args.bytes.now))

pub returns : goal.returns
returns c =
    let h = c.in-Some.ensures.reads in
    (cut_out c.args.bytes.now (drop c.args.at c.args.bytes.now) c.in-Some.start c.in-Some.size h.0 (omega (arith, h.2, c.if-bytes-start.false)), h.1, omega arith, omega (arith, h.2, c.if-bytes-start.false))
