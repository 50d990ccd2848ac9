use Rattle.std.proofs.Common.{sym, ap, ◌∙◌}
use Rattle.w_leb.specs.Format.{whole}
use Rattle.w_fields.proofs.SizedBytes.{not_whole}
use Rattle.w_fields.proofs.fields.list_of.Goals as goal

pub returns-then-next-bytes : goal.returns-then-next-bytes
returns-then-next-bytes g c =
    let h = rw c.in-Some.is at c.in_ok-items.ensures.reads in
    sym (ap whole h.0 ∙ not_whole _ c.args.bytes.now c.in-Some.next c.if-next-bytes.true)
