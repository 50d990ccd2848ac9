use Rattle.std.proofs.Common.{sym}
use Rattle.w_canon.proofs.OneMoreKey.{found_before, found_now}
use Rattle.w_canon.proofs.classes.first_with.Goals as goal

pub returns-in-Some : goal.returns-in-Some
returns-in-Some c = found_before c.args.numbers.now c.args.key.items c.args.number c.in-Some.first.now (sym c.in-Some.ensures.value)

pub returns : goal.returns
returns c = found_now c.args.numbers.now c.insert.new.self c.args.key c.args.number (sym c.in_default.ensures.value) c.in_ok-insert.ensures.entries
