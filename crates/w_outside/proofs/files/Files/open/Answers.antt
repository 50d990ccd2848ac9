use Rattle.std.proofs.Common.{sym}
use Rattle.w_outside.proofs.NamedFiles.{known-position, known-no_position}
use Rattle.w_outside.proofs.files.Files.open.Goals as goal

pub returns-in-Some-clause-found : goal.returns-in-Some-clause-found
returns-in-Some-clause-found c = λ _. known-position c.close.new.self.files.items c.args.name.now c.in-Some.place (sym c.in-Some.ensures)

pub returns-in-None-clause-none : goal.returns-in-None-clause-none
returns-in-None-clause-none c = λ _. known-no_position c.close.new.self.files.items c.args.name.now (sym c.in-None.ensures)
