-- The blocks of clauses as they are written: all are opened first, and each is closed with its clause behind it.
use Rattle.std.specs.Prelude.{◌≡◌, ℕ, ◌+◌, ◌≤◌, List, [], ◌∷◌, ◌++◌, map, length, Some, slice_get}
use Rattle.w_syntax.specs.declared.instructions.BlockKind.TheVariants as kind
use Rattle.w_syntax.specs.declared.instructions.BlockType.TheVariants as block_type
use Rattle.w_syntax.specs.declared.instructions.Token.{Token}
use Rattle.w_syntax.specs.declared.instructions.Token.TheVariants as tok
use Rattle.w_syntax.specs.Expr.{tokens}
use Rattle.s_syntax.specs.declared.script.Declaration.{Declaration}
use Rattle.s_check.specs.Size.{block_size}
use Rattle.s_index.specs.Indices.{clause_type_index}
use Rattle.s_index.specs.Limits.{number_limit}
use Rattle.s_code.specs.declared.handler.Placed.{Placed as Kept}
use Rattle.s_code.specs.Handlers.{Placed, clause_code}

abbrev pub placed_in : Kept → Placed
placed_in p = record { clause = p.clause.now; layout = p.layout }

abbrev pub placed_all : List Kept → List Placed
placed_all ps = map placed_in ps

abbrev pub open_token : List Declaration → Placed → Token
open_token ds p = tok.Block kind.Block (block_type.Index (clause_type_index ds (length p.clause.arguments)))

abbrev pub opens : List Declaration → List Placed → List Token
opens ds [] = []
opens ds (p ∷ ps) = opens ds ps ++ open_token ds p ∷ []

abbrev pub closes : List Declaration → List Placed → List Token
closes ds [] = []
closes ds (p ∷ ps) = tok.End ∷ (tokens (clause_code ds (length ps) p) ++ closes ds ps)

-- each clause has room for its temporaries and labels
abbrev pub AllFit : List Kept → Type 0
AllFit ps = (i : ℕ) (p : Kept) → slice_get ps i ≡ Some p → p.layout.temporaries + length ps + block_size p.clause.now.body ≤ number_limit
