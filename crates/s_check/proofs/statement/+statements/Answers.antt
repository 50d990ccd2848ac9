use Rattle.std.proofs.Common.{◌<◌, ◌∙◌, length, Option, sym, ap, arith}
use Rattle.s_syntax.specs.declared.statement.Statement.{Statement}
use Rattle.s_syntax.specs.BlockOf.{statement_of}
use Rattle.s_syntax.specs.BlockTree.{depth_within}
use Rattle.s_check.specs.declared.rule.Rule.{Rule}
use Rattle.s_check.specs.Least.{least_of}
use Rattle.s_check.specs.Parts.{in_blocks}
use Rattle.s_check.specs.Rules.{bound_after}
use Rattle.s_check.specs.Scopes.{Scope}
use Rattle.s_syntax.proofs.Children.{depth_at}
use Rattle.s_check.proofs.Scopes.{kept_after}
use Rattle.s_check.proofs.Statements.{block_more, in_parts}
use Rattle.s_check.proofs.statement.+statements.Goals as goal

pub in_statements-in_blocks-requires : goal.in_statements-in_blocks-requires
in_statements-in_blocks-requires t c =
    let h : c.loop-statement.statement-index < length c.args.statements.now = c.loop-statement-test.true in
    let q = depth_at c.args.statements.now c.loop-statement.statement-index c.statement-item.result h in
    let e = ap (λ (s : Statement). depth_within (statement_of s)) c.statement-item.is in
    (omega (arith, q, e, c.decreases), tt)

pub in_statements-loop-statement-preserved : goal.in_statements-loop-statement-preserved
in_statements-loop-statement-preserved t c =
    let s = c.statement-item.result in
    let after = c.in_ok-bind_name.ensures.value ∙ ap (λ (x : Scope). bound_after c.args.declarations.now (statement_of s) x) c.in_ok-least.ensures.restored in
    let now = c.in_ok-least.ensures.value ∙ ap (λ (o : Option Rule). least_of o (in_blocks c.args.declarations.now c.loop-statement.scope (statement_of s))) c.in_front-least.ensures.value ∙ sym (in_parts c.args.declarations.now c.loop-statement.scope (statement_of s) c.loop-statement.least) in
    record {
      goes = block_more c.args.declarations.now c.args.statements.now c.loop-statement.statement-index s c.loop-statement.scope c.bind_name.new.scope c.loop-statement.least c.in_ok-least.least _ c.loop-statement-test.true c.statement-item.is c.loop-statement.invariant.goes now after;
      kept = kept_after c.args.declarations.now (statement_of s) c.args.scope.now c.loop-statement.scope c.bind_name.new.scope c.loop-statement.invariant.kept after;
    }
