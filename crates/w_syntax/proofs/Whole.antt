-- Lists that are those of bodies.
use Rattle.std.proofs.Common.{◌≡◌, List, [], sym, ap, ◌∙◌}
use Rattle.w_syntax.specs.declared.instructions.Instr.{Instr}
use Rattle.w_syntax.specs.declared.builder.BodyBuilder.{BodyBuilder}
use Rattle.w_syntax.specs.Code.{Code, Done}
use Rattle.w_syntax.specs.Expr.{Top}
use Rattle.w_syntax.specs.Flat.{laid, tree_of, IsFlat, whole}
use Rattle.w_syntax.specs.FlatLaws.{tree_of-whole}
use Rattle.w_syntax.specs.Packed.{unpacked_all}
use Rattle.w_syntax.specs.Builds.{Builds, open_laid, place, heads}

-- a list that is laid out from a tree is that of its own tree
pub flat_is : (d : Code) (is : List Instr) → is ≡ whole d → IsFlat is
unfolding IsFlat
flat_is d is e = e ∙ ap whole (sym (tree_of-whole d) ∙ ap tree_of (sym e))

-- and its tree is the one that it was laid out from
pub tree_is : (d : Code) (is : List Instr) → is ≡ whole d → tree_of is ≡ d
tree_is d is e = ap tree_of e ∙ tree_of-whole d

-- with nothing, nothing is open
pub starts : (s : BodyBuilder) → s.code.items ≡ [] → s.opens.items ≡ [] → Builds Top Done s
unfolding open_laid laid place heads
starts s e f = record { code = ap unpacked_all e; opens = f }
