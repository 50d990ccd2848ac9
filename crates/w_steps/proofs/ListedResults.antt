-- The results of a function, as a list again.
use Rattle.std.proofs.Common.{◌≡◌, List, ap}
use Rattle.w_types.specs.declared.types.ValType.{ValType}
use Rattle.lists.specs.Rows.{row_of, listed}
use Rattle.lists.proofs.Rows.{listed-row_of}
use Rattle.w_canon.specs.declared.entry.Entry.{Entry}
use Rattle.w_canon.specs.Tests.{result_test}

-- they are what they were
pub result_listed : (es : List Entry) (ts us : List ValType) → result_test es ts (listed (row_of us)) ≡ result_test es ts us
result_listed es ts us = ap (result_test es ts) (listed-row_of us)
