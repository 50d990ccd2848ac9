use Rattle.w_encode.proofs.ItemsWritten.{reference_put}
use Rattle.w_encode.proofs.segments.put_reference.Goals as goal

pub returns : goal.returns
returns c = reference_put c.args.out.now.items c.put.new.out.items _ c.args.reference c.in_ok-put.ensures c.in_ok-push.ensures.items
