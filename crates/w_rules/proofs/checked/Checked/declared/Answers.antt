use Rattle.std.proofs.Common.{◌≡◌, false, rules}
use Rattle.std.specs.Prelude.{slice_index_or}
use Rattle.w_rules.specs.Spaces.{declared_of}
use Rattle.w_rules.proofs.Marks.{declared_decided}
use Rattle.w_rules.proofs.checked.Checked.declared.Goals as goal

pub returns-in-Some-clause-declared : goal.returns-in-Some-clause-declared
returns-in-Some-clause-declared c =
    let flag : c.in-Some.declared.now ≡ slice_index_or (declared_of c.args.self.now) c.args.function false = search rules in
    declared_decided c.args.self.now c.args.function c.in-Some.declared.now flag

pub returns-in-None-clause-declared : goal.returns-in-None-clause-declared
returns-in-None-clause-declared c =
    let flag : false ≡ slice_index_or (declared_of c.args.self.now) c.args.function false = search rules in
    declared_decided c.args.self.now c.args.function false flag
