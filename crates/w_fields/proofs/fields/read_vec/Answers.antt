use Rattle.std.proofs.Common.{drop, arith}
use Rattle.w_leb.specs.Formats.{vec}
use Rattle.w_fields.proofs.Loop.{goes_on, ends, is_done, starts, no_count}
use Rattle.w_fields.proofs.fields.read_vec.Goals as goal

pub returns-in_default : goal.returns-in_default
returns-in_default g c = no_count g.F.Field.format.read (drop c.args.at c.args.bytes.now) c.in_default.ensures.reads

pub loop-init : goal.loop-init
loop-init g c = record {
  so_far = rw c.new-items.ensures (starts g.F.Field.format.read c.in-Some.count (drop c.args.at c.args.bytes.now) (drop c.in-Some.place c.args.bytes.now) c.in-Some.ensures.reads.0);
  after = c.in-Some.ensures.reads.1;
  within = c.in-Some.ensures.reads.2;
}

pub returns-in_default-2 : goal.returns-in_default-2
returns-in_default-2 g c =
    let h = rw c.in_default-2.is at c.in_ok-item.ensures in
    ends g.F.Field.format.read c.loop.items c.in-Some.count c.loop.counter (drop c.loop.place c.args.bytes.now) ((vec g.F.Field.format).read (drop c.args.at c.args.bytes.now)) c.loop-test.true h c.loop.invariant.so_far

pub loop-preserved : goal.loop-preserved
loop-preserved g c =
    let h = rw c.in-Some-2.is at c.in_ok-item.ensures in
    let e = c.in_ok-push.ensures.ok in
    record {
      so_far = rw e (goes_on g.F.Field.format.read c.loop.items c.in-Some.count c.loop.counter (drop c.loop.place c.args.bytes.now) c.in-Some-2.item (drop c.in-Some-2.next c.args.bytes.now) ((vec g.F.Field.format).read (drop c.args.at c.args.bytes.now)) c.loop-test.true h.0 c.loop.invariant.so_far);
      after = omega (arith, h.1);
      within = h.2;
    }

pub returns : goal.returns
returns g c = (is_done g.F.Field.format.read c.loop.items c.in-Some.count c.loop.counter (drop c.loop.place c.args.bytes.now) ((vec g.F.Field.format).read (drop c.args.at c.args.bytes.now)) c.loop-test.false c.loop.invariant.so_far, c.loop.invariant.after, c.loop.invariant.within)
