use Rattle.std.proofs.Common.{◌≡◌, ◌++◌, drop}
use Rattle.w_placing.specs.Addresses.{numbers_of}
use Rattle.w_placing.proofs.address.push_numbers.Given as goal

abbrev pub invariant-loop-address : goal.invariant-loop-address
invariant-loop-address l = l.fn.all.items ++ numbers_of l.kind l.found ≡ l.all.items ++ numbers_of l.kind (drop l.address-index l.found)
