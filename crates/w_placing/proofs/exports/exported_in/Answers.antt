use Rattle.std.proofs.Common.{Some, sym, ap, ◌∙◌}
use Rattle.std.specs.Option.{option_map}
use Rattle.w_linked.specs.Imports.{Address, address_of}
use Rattle.w_placing.proofs.Names.{exported_named}
use Rattle.w_placing.proofs.exports.exported_in.Goals as goal

pub returns-in-Some : goal.returns-in-Some
returns-in-Some c =
    let file = c.args.file.now in
    ap (λ (a : Address). Some a) c.address_of.ensures ∙ ap (option_map (address_of file.instance)) c.in-Some.ensures.value ∙ sym (exported_named file.instance file.exports c.args.name.now)

pub returns-in-None : goal.returns-in-None
returns-in-None c =
    let file = c.args.file.now in
    ap (option_map (address_of file.instance)) c.in-None.ensures.value ∙ sym (exported_named file.instance file.exports c.args.name.now)
