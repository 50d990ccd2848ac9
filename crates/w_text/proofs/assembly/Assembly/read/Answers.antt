use Rattle.w_text.specs.Assembled.{so_far}
use Rattle.w_text.proofs.OpenExpressions.{otherwise, goes_on, is_wrong, is_closed}
use Rattle.w_text.proofs.assembly.Assembly.read.Goals as goal

pub returns-in_default-line : goal.returns-in_default-line
returns-in_default-line c =
    let old = c.args.self.now in
    let at = c.in-Expression in
    otherwise old.opened at.field-0 at.builder at.is old.place (so_far old.program old.groups.items) _ c.args.line c.in_default-line.not-Token

pub returns-in-More : goal.returns-in-More
returns-in-More c =
    let old = c.args.self.now in
    let at = c.in-Expression in
    goes_on old.opened at.field-0 at.builder at.is old.place (so_far old.program old.groups.items) c.args.line c.in-Token.token c.in-Token.is c.push.new.self c.in_ok-push.field-0 c.in_ok-push.ensures c.in-More.is
    c.stay.result c.stay.new.self c.stay.ensures

pub returns-in-Wrong : goal.returns-in-Wrong
returns-in-Wrong c =
    let old = c.args.self.now in
    let at = c.in-Expression in
    is_wrong old.opened at.field-0 at.builder at.is old.place (so_far old.program old.groups.items) c.args.line c.in-Token.token c.in-Token.is c.push.new.self c.in_ok-push.field-0 c.in_ok-push.ensures c.in-Wrong.is _

pub returns-in-Finished : goal.returns-in-Finished
returns-in-Finished c =
    let old = c.args.self.now in
    let at = c.in-Expression in
    is_closed old.opened at.field-0 at.builder at.is old.place (so_far old.program old.groups.items) c.args.line c.in-Token.token c.in-Token.is c.push.new.self c.in_ok-push.field-0 c.in_ok-push.ensures c.in-Finished.is
    c.close.result c.close.new.self c.close.ensures
