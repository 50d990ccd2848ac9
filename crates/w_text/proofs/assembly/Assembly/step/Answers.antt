use Rattle.w_text.proofs.Assemblies.{first_line, line_behind}
use Rattle.w_text.proofs.assembly.Assembly.step.Goals as goal

pub returns-then-self : goal.returns-then-self
returns-then-self c = line_behind c.read.result c.args.self.now c.read.new.self c.args.line c.if-self.true c.read.ensures

pub returns-else-self : goal.returns-else-self
returns-else-self c = first_line c.args.self.now c.begin.new.self c.args.line c.begin.result c.if-self.false c.begin.ensures
