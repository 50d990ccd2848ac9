use Rattle.std.proofs.Common.{ap, ◌∙◌}
use Rattle.w_types.specs.declared.types.ValType.{ValType}
use Rattle.w_types.specs.declared.types.ValType.TheVariants.{Ref}
use Rattle.lists.proofs.Tests.{decided_by}
use Rattle.w_canon.specs.Tests.{val_test}
use Rattle.w_canon.proofs.MatchingTests.{ref_decided}
use Rattle.w_canon.proofs.classes.Classes.matches_ref.Goals as goal

pub returns-clause-related : goal.returns-clause-related
returns-clause-related c = λ gs h. decided_by c.matches_val.result _
    (c.matches_val.ensures.computed ∙ ap (λ (t : ValType). val_test c.args.self.now t c.reference-2.result) c.reference.ensures
    ∙ ap (val_test c.args.self.now (Ref c.args.a)) c.reference-2.ensures)
    (ref_decided gs c.args.self.now h c.args.a c.args.b)
