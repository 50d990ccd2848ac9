-- Lines as they are written.
use Rattle.std.specs.Prelude.{ℕ, List, [], ◌∷◌, ◌++◌}
use Rattle.std.specs.List.{flat_map}
use Rattle.w_syntax.specs.declared.instructions.Token.{Token}
use Rattle.w_syntax.specs.declared.instructions.Token.TheVariants as tok
use Rattle.w_syntax.specs.declared.packed.PackedInstr.{PackedInstr}
use Rattle.w_syntax.specs.Code.{Code}
use Rattle.w_syntax.specs.Expr.{tokens}
use Rattle.w_syntax.specs.Flat.{as_token}
use Rattle.w_syntax.specs.Packed.{unpacked}
use Rattle.w_words.specs.Words.{Word, behind_spaces}
use Rattle.w_lines.specs.declared.line.Line.TheVariants as line
use Rattle.w_lines.specs.Spelling.{line_bytes}

-- a line of a first word and others
abbrev pub named_bytes : Word → List Word → List ℕ
named_bytes w ws = (w ++ behind_spaces ws) ++ 10 ∷ []

abbrev pub token_bytes : Token → List ℕ
token_bytes t = line_bytes (line.Token t)

abbrev pub packed_bytes : PackedInstr → List ℕ
packed_bytes p = token_bytes (as_token (unpacked p))

-- the lines of instructions, and then of `end`
abbrev pub code_bytes : Code → List ℕ
code_bytes c = flat_map token_bytes (tokens c ++ tok.End ∷ [])
