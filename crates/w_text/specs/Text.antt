-- The text of a module, and which line of a text is wrong.
use Rattle.std.specs.Prelude.{◌≡◌, ℕ, List}
use Rattle.std.specs.List.{flat_map}
use Rattle.w_syntax.specs.declared.module.Module.{Module}
use Rattle.w_words.specs.Words.{Each}
use Rattle.w_words.specs.Pieces.{IsWrongLine}
use Rattle.w_lines.specs.Spelling.{line_bytes, LineFits}
use Rattle.w_text.specs.Items.{module_lines}
use Rattle.w_text.specs.Parts.{PartsFit}

abbrev pub text_of : Module → List ℕ
text_of m = flat_map line_bytes (module_lines m)

-- t is the text of m: m's numbers are in their ranges, its names are UTF-8, and its locals are few and joined
pub record Text (t : List ℕ) (m : Module) : Type 0 where
  pub parts : PartsFit m
  pub lines : Each LineFits (module_lines m)
  pub same : t ≡ text_of m

-- ## Refusals

-- it is the text of some module
abbrev pub IsText : List ℕ → Type 0
IsText t = (m : Module) × Text t m

-- l is the least number such that no text begins with lines 0 to l
abbrev pub IsWrongAt : List ℕ → ℕ → Type 0
IsWrongAt = IsWrongLine IsText
