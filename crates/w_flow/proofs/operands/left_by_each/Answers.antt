use Rattle.std.proofs.Common.{◌-◌, get_or, ap, ◌∙◌, sym, arith}
use Rattle.w_rows.specs.Operands.{type_of}
use Rattle.w_rows.specs.declared.operand.Operand.{Operand}
use Rattle.w_flow.specs.Flow.{operand_test}
use Rattle.w_flow.proofs.RowsOfLists.{none_there, compared, decided}
use Rattle.w_flow.proofs.operands.left_by_each.Goals as goal

-- what stands for a place that is not there
abbrev first : Operand
first = record { word = 0; index = 0 }

pub returns-then-any-clause-what : goal.returns-then-any-clause-what
returns-then-any-clause-what c =
    c.loop-i.invariant.same ∙ none_there _ _ _ _ _ _ c.if-n-eq0.true c.loop-i-test.true c.loop-i.invariant.types ∙ decided _ _ _ _ c.if-any.true

pub returns-else-any-clause-what : goal.returns-else-any-clause-what
returns-else-any-clause-what c =
    c.loop-i.invariant.same ∙ none_there _ _ _ _ _ _ c.if-n-eq0.true c.loop-i-test.true c.loop-i.invariant.types ∙ decided _ _ _ _ c.if-any.false

pub returns-then-not-matches_type-clause-what : goal.returns-then-not-matches_type-clause-what
returns-then-not-matches_type-clause-what c =
    c.loop-i.invariant.same ∙ compared _ _ _ _ _ _ first c.index-wanted-i.result (omega arith) c.loop-i.invariant.operands c.loop-i-test.true c.loop-i.invariant.types
    ∙ decided _ _ _ _ (ap (operand_test c.args.classes.now (type_of (get_or c.args.operands.now (c.loop-i.n - 1) first))) (sym c.index-wanted-i.is)
    ∙ sym c.matches_type.ensures ∙ c.if-not-matches_type.true)

pub loop-i-preserved : goal.loop-i-preserved
loop-i-preserved c =
    record {
      types = omega arith;
      operands = omega arith;
      same = c.loop-i.invariant.same ∙ compared _ _ _ _ _ _ first c.index-wanted-i.result (omega arith) c.loop-i.invariant.operands c.loop-i-test.true c.loop-i.invariant.types
          ∙ decided _ _ _ _ (ap (operand_test c.args.classes.now (type_of (get_or c.args.operands.now (c.loop-i.n - 1) first))) (sym c.index-wanted-i.is)
          ∙ sym c.matches_type.ensures ∙ c.if-not-matches_type.false);
    }
