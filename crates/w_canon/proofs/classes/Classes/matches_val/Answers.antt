use Rattle.lists.proofs.Tests.{decided_by}
use Rattle.w_canon.specs.Tests.{val_test}
use Rattle.w_canon.specs.Shapes.{null_test, shapes_test, shape_of}
use Rattle.w_types.specs.PackedTypes.{index_of}
use Rattle.w_canon.proofs.MatchingTests.{val_decided}
use Rattle.w_canon.proofs.ShapesOfTypes.{val_by_shape, second_decides, both_decided}
use Rattle.w_canon.proofs.classes.Classes.matches_val.Goals as goal

pub returns-then-keeps_null-clause-related : goal.returns-then-keeps_null-clause-related
returns-then-keeps_null-clause-related c = λ gs h. decided_by c.matches_shape.result _
    (second_decides (null_test c.args.a c.args.b) (shapes_test c.args.self.now (shape_of c.args.a) (index_of c.args.a) (shape_of c.args.b) (index_of c.args.b))
    (val_test c.args.self.now c.args.a c.args.b) c.matches_shape.result c.keeps_null.result (val_by_shape c.args.self.now c.args.a c.args.b) c.keeps_null.ensures c.if-keeps_null.true (cc))
    (val_decided gs c.args.self.now h c.args.a c.args.b)

pub returns-else-keeps_null-clause-related : goal.returns-else-keeps_null-clause-related
returns-else-keeps_null-clause-related c = λ gs h. decided_by c.keeps_null.result _
    (both_decided (null_test c.args.a c.args.b) (shapes_test c.args.self.now (shape_of c.args.a) (index_of c.args.a) (shape_of c.args.b) (index_of c.args.b))
    (val_test c.args.self.now c.args.a c.args.b) c.keeps_null.result (val_by_shape c.args.self.now c.args.a c.args.b) c.keeps_null.ensures c.if-keeps_null.false)
    (val_decided gs c.args.self.now h c.args.a c.args.b)
