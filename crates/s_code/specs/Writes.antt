-- What has been written of a body, as tokens.
use Rattle.std.specs.Prelude.{◌≡◌, List, ◌++◌}
use Rattle.w_syntax.specs.declared.instructions.Token.{Token}
use Rattle.w_syntax.specs.Code.{Code}
use Rattle.w_syntax.specs.Expr.{tokens}

-- The tokens ts before the code c are the tokens us before d: what c has more than d was written behind ts.
abbrev pub Writes : List Token → Code → List Token → Code → Type 0
Writes ts c us d = ts ++ tokens c ≡ us ++ tokens d
