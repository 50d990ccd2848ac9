-- What begins and what ends parts of scripts.
use Rattle.s_syntax.specs.declared.token.Kind.TheVariants as kind
use Rattle.s_grammar.specs.Kinds.{Kinds, either, is, other_than}
use Rattle.s_grammar.specs.Operators.{product_operators, sum_operators, comparisons, and_operators, or_operators}
use Rattle.s_grammar.proofs.KindSets.{both}

-- what may begin an expression, a statement
abbrev pub begins_expr : Kinds
begins_expr = either (is kind.Name) (either (is kind.Int) (either (is kind.Minus) (either (is kind.Not) (either (is kind.OpenParenthesis) (either (is kind.Do) (either (is kind.Handle) (either (is kind.Resume) (is kind.Group))))))))

-- what may begin a statement
abbrev pub begins_statement : Kinds
begins_statement = either begins_expr (either (is kind.Let) (either (is kind.If) (either (is kind.While) (either (is kind.Print) (either (is kind.Return) (either (is kind.Fail) (either (is kind.Store) (either (is kind.Take) (either (is kind.Spawn) (is kind.Switch))))))))))

-- what may begin a type
abbrev pub begins_type : Kinds
begins_type = either (is kind.Res) (is kind.Coro)

-- what may begin a declaration
abbrev pub begins_declaration : Kinds
begins_declaration = either (is kind.Effect) (either (is kind.Fn) (either (is kind.Handler) (is kind.Slots)))

-- what ends an operand of each level
abbrev pub ends_primary : Kinds
ends_primary = other_than (is kind.OpenParenthesis)

-- an operand of a sum
abbrev pub ends_product : Kinds
ends_product = both ends_primary (other_than product_operators)

-- an operand of a comparison
abbrev pub ends_sum : Kinds
ends_sum = both ends_product (other_than sum_operators)

-- an operand of `&&`
abbrev pub ends_compare : Kinds
ends_compare = both ends_sum (other_than comparisons)

-- an operand of `||`
abbrev pub ends_and : Kinds
ends_and = both ends_compare (other_than and_operators)

-- an expression
abbrev pub ends_expr : Kinds
ends_expr = both ends_and (other_than or_operators)

-- a statement
abbrev pub ends_statement : Kinds
ends_statement = other_than (is kind.Else)
