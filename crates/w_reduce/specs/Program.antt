-- What the rules know of a module: its parts, and which of its types match which.
use Rattle.std.specs.Prelude.{◌↔◌, ℕ, Bool, IsTrue, length, Option, Some, None}
use Rattle.w_types.specs.declared.types.FuncType.{FuncType}
use Rattle.w_syntax.specs.Functions.{func_type}
use Rattle.w_syntax.specs.declared.instructions.BlockType.{BlockType}
use Rattle.w_syntax.specs.declared.instructions.BlockType.TheVariants as block
use Rattle.w_syntax.specs.declared.module.Module.{Module}
use Rattle.w_canon.specs.Matching.{IndexMatches}

pub record Program : Type 0 where
  pub source : Module
  -- whether a type matches another
  pub matches : ℕ → ℕ → Bool

-- it tells of all types which match which
abbrev pub IsProgram : Program → Type 0
IsProgram p = (i j : ℕ) → IsTrue (p.matches i j) ↔ IndexMatches p.source.types i j

-- How many operands a block takes and gives.
pub record Arity : Type 0 where
  pub params : ℕ
  pub results : ℕ

abbrev pub function_arity : Option FuncType → Option Arity
function_arity None = None
function_arity (Some t) = Some (record { params = length t.params; results = length t.results })

-- blocktype (Core, execution, block types)
abbrev pub arity_of : Module → BlockType → Option Arity
arity_of m block.Empty = Some (record { params = 0; results = 0 })
arity_of m (block.Value t) = Some (record { params = 0; results = 1 })
arity_of m (block.Index x) = function_arity (func_type m x)
