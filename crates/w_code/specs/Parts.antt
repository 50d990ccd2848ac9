-- Rows of the grammar's tables of instructions that a reader of their own reads.
use Rattle.std.specs.Prelude.{ℕ, List, take, drop}
use Rattle.w_leb.specs.Format.{Format}
use Rattle.w_syntax.specs.declared.instructions.Op.{Op}
use Rattle.w_syntax.specs.Tokens.{others}

-- `drop` and both kinds of `select`
abbrev pub parametrics : List (ℕ × Format Op)
parametrics = take 3 others

-- instructions on variables and on single elements of tables, which have one index
abbrev pub indexed : List (ℕ × Format Op)
indexed = take 7 (drop 3 others)

-- references
abbrev pub references : List (ℕ × Format Op)
references = take 4 (drop 10 others)

-- stack switching
abbrev pub switchings : List (ℕ × Format Op)
switchings = take 5 (drop 14 others)
