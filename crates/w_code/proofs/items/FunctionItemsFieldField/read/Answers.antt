use Rattle.std.proofs.Common.{Some, None}
use Rattle.w_code.proofs.ShortItems.{indices_read}
use Rattle.w_code.proofs.items.FunctionItemsFieldField.read.Goals as goal

pub returns-in_default : goal.returns-in_default
returns-in_default c =
    let h = rw c.in_default.is at c.in_ok-functions.ensures.reads in
    indices_read c.args.bytes.now c.args.at None h

pub returns : goal.returns
returns c =
    let h = rw c.in-Some.is at c.in_ok-functions.ensures.reads in
    rw c.of_functions.ensures (indices_read c.args.bytes.now c.args.at (Some (c.in-Some.functions, c.in-Some.next)) h)
