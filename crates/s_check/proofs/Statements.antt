-- Statements of a block, one by one.
use Rattle.std.proofs.Common.{◌≡◌, ℕ, ◌+◌, ◌<◌, List, ◌++◌, length, drop, get_or, Option, refl, sym, ap, ◌∙◌, append_assoc, false}
use Rattle.s_syntax.specs.declared.name.Name.{Name}
use Rattle.s_syntax.specs.declared.script.Declaration.{Declaration}
use Rattle.s_syntax.specs.declared.statement.Statement.{Statement}
use Rattle.s_syntax.specs.BlockOf.{statement_of, block_of}
use Rattle.s_check.specs.declared.rule.Rule.{Rule}
use Rattle.s_syntax.specs.BlockTree.{StatementTree, Evaluate, If, While, Fail, Spawn}
use Rattle.s_check.specs.Least.{least_of}
use Rattle.s_check.specs.Parts.{in_front, in_blocks}
use Rattle.s_check.specs.Rules.{in_expr, in_statement, in_block, bound_after}
use Rattle.s_check.specs.Scopes.{Scope, lets_of, lets_in}
use Rattle.s_check.proofs.Least.{least_append}
use Rattle.lists.proofs.Lists.{cell}

-- ## Names that lets bind

-- one statement more
pub lets_more : (ss : List Statement) (i : ℕ) (s : Statement) (names new whole : List Name) → i < length ss → s ≡ get_or ss i s → names ++ lets_in (block_of (drop i ss)) ≡ whole
    → new ≡ names ++ lets_of (statement_of s) → new ++ lets_in (block_of (drop (i + 1) ss)) ≡ whole
lets_more ss i s names new whole h e inv n =
    ap (λ (l : List Name). l ++ lets_in (block_of (drop (i + 1) ss))) n ∙ append_assoc names (lets_of (statement_of s)) (lets_in (block_of (drop (i + 1) ss)))
    ∙ ap (λ (l : List Statement). names ++ lets_in (block_of l)) (sym (cell ss i s h e)) ∙ inv

-- ## Rules

-- one statement more, with what it binds
pub block_more : (ds : List Declaration) (ss : List Statement) (i : ℕ) (s : Statement) (scope after : Scope) (least now all : Option Rule) → i < length ss → s ≡ get_or ss i s
    → least_of least (in_block ds scope (block_of (drop i ss))) ≡ all → now ≡ least_of least (in_statement ds scope (statement_of s)) → after ≡ bound_after ds (statement_of s) scope
    → least_of now (in_block ds after (block_of (drop (i + 1) ss))) ≡ all
block_more ds ss i s scope after least now all h e inv n a =
    ap (λ (x : Scope). least_of now (in_block ds x (block_of (drop (i + 1) ss)))) a
    ∙ ap (λ (o : Option Rule). least_of o (in_block ds (bound_after ds (statement_of s) scope) (block_of (drop (i + 1) ss)))) n
    ∙ sym (least_append least (in_statement ds scope (statement_of s)) (in_block ds (bound_after ds (statement_of s) scope) (block_of (drop (i + 1) ss))))
    ∙ ap (λ (l : List Statement). least_of least (in_block ds scope (block_of l))) (sym (cell ss i s h e))
    ∙ inv

-- a statement's rules are those of its front and then those of its blocks
pub in_parts : (ds : List Declaration) (bs : Scope) (s : StatementTree) (least : Option Rule) → least_of least (in_statement ds bs s) ≡ least_of (least_of least (in_front ds bs s)) (in_blocks ds bs s)
in_parts ds bs (Evaluate u e) least = refl
in_parts ds bs (If c a b) least = least_append least (in_expr ds bs false c) (in_block ds bs a ++ in_block ds bs b)
in_parts ds bs (While c b) least = least_append least (in_expr ds bs false c) (in_block ds bs b)
in_parts ds bs Fail least = refl
in_parts ds bs (Spawn t f) least = refl
