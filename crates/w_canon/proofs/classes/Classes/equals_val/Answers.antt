use Rattle.std.proofs.Common.{◌≡◌, refl, eqb, eq-eqb, ne_eqb}
use Rattle.w_types.specs.PackedTypes.{kind_of, index_of}
use Rattle.lists.proofs.Tests.{decided_by}
use Rattle.w_canon.specs.Tests.{same_test, val_same_test}
use Rattle.w_canon.proofs.MatchingTests.{val_same_decided}
use Rattle.w_canon.proofs.ShapesOfTypes.{val_same_by_numbers, second_decides, both_decided}
use Rattle.w_canon.proofs.classes.Classes.equals_val.Goals as goal

pub returns-then-kind-clause-related : goal.returns-then-kind-clause-related
returns-then-kind-clause-related c = λ gs h. decided_by c.same.result _
    (let e : kind_of c.args.a ≡ kind_of c.args.b = cc in
    second_decides (eqb (kind_of c.args.a) (kind_of c.args.b)) (same_test c.args.self.now (index_of c.args.a) (index_of c.args.b))
    (val_same_test c.args.self.now c.args.a c.args.b) c.same.result _ (val_same_by_numbers c.args.self.now c.args.a c.args.b) refl (eq-eqb _ _ e) (cc))
    (val_same_decided gs c.args.self.now h c.args.a c.args.b)

pub returns-else-kind-clause-related : goal.returns-else-kind-clause-related
returns-else-kind-clause-related c = λ gs h. decided_by (eqb c.kind.result c.kind-2.result) _
    (both_decided (eqb (kind_of c.args.a) (kind_of c.args.b)) (same_test c.args.self.now (index_of c.args.a) (index_of c.args.b))
    (val_same_test c.args.self.now c.args.a c.args.b) (eqb c.kind.result c.kind-2.result) (val_same_by_numbers c.args.self.now c.args.a c.args.b) (cc) (ne_eqb _ _ c.if-kind.false))
    (val_same_decided gs c.args.self.now h c.args.a c.args.b)
