-- Operators between two operands, by how tightly they bind.
use Rattle.s_syntax.specs.declared.token.Kind.{Kind}
use Rattle.s_syntax.specs.declared.token.Kind.TheVariants as kind
use Rattle.s_syntax.specs.declared.token.Token.{Token}
use Rattle.s_syntax.specs.declared.operators.Connective.TheVariants as connective
use Rattle.s_syntax.specs.declared.operators.Comparison.TheVariants as comparison
use Rattle.s_syntax.specs.declared.operators.Arithmetic.TheVariants as arithmetic
use Rattle.s_syntax.specs.declared.operators.BinaryOperator.{BinaryOperator}
use Rattle.s_syntax.specs.declared.operators.BinaryOperator.TheVariants as binary
use Rattle.s_grammar.specs.Kinds.{Kinds, is, either}

-- the operators of each level, the loosest first
abbrev pub or_operators : Kinds
or_operators = is kind.Or

abbrev pub and_operators : Kinds
and_operators = is kind.And

abbrev pub comparisons : Kinds
comparisons = either (is kind.Equal) (either (is kind.NotEqual) (either (is kind.Less) (either (is kind.AtMost) (either (is kind.Greater) (is kind.AtLeast)))))

abbrev pub sum_operators : Kinds
sum_operators = either (is kind.Plus) (is kind.Minus)

abbrev pub product_operators : Kinds
product_operators = either (is kind.Star) (either (is kind.Slash) (is kind.Percent))

-- the operator of a kind, which is one of an operator
abbrev pub operator_of_kind : Kind → BinaryOperator
operator_of_kind kind.Or = binary.Connects connective.Or
operator_of_kind kind.And = binary.Connects connective.And
operator_of_kind kind.Equal = binary.Compares comparison.Equal
operator_of_kind kind.NotEqual = binary.Compares comparison.NotEqual
operator_of_kind kind.Less = binary.Compares comparison.Less
operator_of_kind kind.AtMost = binary.Compares comparison.AtMost
operator_of_kind kind.Greater = binary.Compares comparison.Greater
operator_of_kind kind.AtLeast = binary.Compares comparison.AtLeast
operator_of_kind kind.Plus = binary.Computes arithmetic.Add
operator_of_kind kind.Minus = binary.Computes arithmetic.Subtract
operator_of_kind kind.Star = binary.Computes arithmetic.Multiply
operator_of_kind kind.Slash = binary.Computes arithmetic.Divide
operator_of_kind k = binary.Computes arithmetic.Remainder

abbrev pub operator_of : Token → BinaryOperator
operator_of t = operator_of_kind t.kind
