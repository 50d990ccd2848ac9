use Rattle.std.proofs.Common.{◌≡◌, ◌∙◌, ◌++◌, ℤ, pos, to_z, w64, sym, ap, arith}
use Rattle.std.proofs.lemmas.Int.{to_z_pos}
use Rattle.std.proofs.lemmas.Result.{on_ok_weaker}
use Rattle.w_syntax.specs.declared.numeric.Relop.TheVariants.{LtU}
use Rattle.w_syntax.specs.Code.{Plain}
use Rattle.w_syntax.specs.Expr.{tokens}
use Rattle.s_code.specs.Instructions.{constant, compare, select}
use Rattle.s_code.proofs.slots.write_to_place.Goals as goal

pub returns : goal.returns
returns c = record {
  writes = on_ok_weaker c.write_op.result (λ last k.
      let few = c.requires in
      let many : to_z w64 c.args.places ≡ pos c.args.places = to_z_pos w64 c.args.places (omega (arith, few)) in
      c.in_ok-write_set.ensures.writes _ ∙ c.in_ok-write_get.ensures.writes _ ∙ c.in_ok-write_numeric.ensures.writes _ ∙ c.in_ok-write_numeric-2.ensures.writes _
      ∙ c.in_ok-write_get-2.ensures.writes _
      ∙ ap (λ (z : ℤ). c.write_get-2.new.out.items ++ tokens (Plain (constant z) (Plain (compare LtU) (Plain select k)))) (sym many)
      ∙ c.in_ok-write_numeric-3.ensures.writes _ ∙ c.in_ok-write_numeric-4.ensures.writes _ ∙ last k)
      c.write_op.ensures.writes;
}
