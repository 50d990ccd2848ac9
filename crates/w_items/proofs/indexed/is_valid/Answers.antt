use Rattle.std.proofs.Common.{rules}
use Rattle.w_items.proofs.indexed.is_valid.Goals as goal

pub returns-in-Table : goal.returns-in-Table
returns-in-Table c = rw c.in-Table.is (search rules)

pub returns-in-Global : goal.returns-in-Global
returns-in-Global c = rw c.in-Global.is (search rules)

pub returns-in-Element : goal.returns-in-Element
returns-in-Element c = rw c.in-Element.is (search rules)

pub returns-in-Data : goal.returns-in-Data
returns-in-Data c = rw c.in-Data.is (search rules)
