-- The one list that a sequence of instructions is kept in, where a block names the places of its else and its end.
use Rattle.std.specs.Prelude.{◌≡◌, ℕ, ◌+◌, Bool, true, false, List, [], ◌∷◌, ◌++◌, Option, Some, None}
use Rattle.w_syntax.specs.declared.instructions.Instr.{Instr}
use Rattle.w_syntax.specs.declared.instructions.Instr.TheVariants as flat
use Rattle.w_syntax.specs.declared.instructions.Op.{Op}
use Rattle.w_syntax.specs.declared.instructions.Token.{Token}
use Rattle.w_syntax.specs.declared.instructions.Token.TheVariants as tok
use Rattle.w_syntax.specs.Code.{Code, Done, Plain, Block, If, IfElse}

-- how many instructions a sequence is written with
unfoldable pub size : Code → ℕ
size Done = 0
size (Plain o r) = 1 + size r
size (Block kind b x r) = 2 + size x + size r
size (If b x r) = 2 + size x + size r
size (IfElse b x y r) = 3 + size x + size y + size r

-- the instructions of a sequence that begins at place k
unfoldable pub laid : ℕ → Code → List Instr
laid k Done = []
laid k (Plain o r) = flat.Plain o ∷ laid (k + 1) r
laid k (Block kind b x r) = flat.Block kind b (k + 1 + size x) ∷ (laid (k + 1) x ++ flat.End ∷ laid (k + 2 + size x) r)
laid k (If b x r) = flat.If b None (k + 1 + size x) ∷ (laid (k + 1) x ++ flat.End ∷ laid (k + 2 + size x) r)
laid k (IfElse b x y r) =
    flat.If b (Some (k + 1 + size x)) (k + 2 + size x + size y)
    ∷ (laid (k + 1) x ++ flat.Else ∷ (laid (k + 2 + size x) y ++ flat.End ∷ laid (k + 3 + size x + size y) r))

-- the sequences that begin in a list, from its end: the innermost first, each with whether an else follows it
unfoldable pub put : Instr → List (Bool × Code) → List (Bool × Code)
put (flat.Plain o) [] = []
put (flat.Plain o) (c ∷ s) = (c.0, Plain o c.1) ∷ s
put (flat.Block kind b e) [] = []
put (flat.Block kind b e) (x ∷ []) = []
put (flat.Block kind b e) (x ∷ c ∷ s) = (c.0, Block kind b x.1 c.1) ∷ s
put (flat.If b None e) [] = []
put (flat.If b None e) (x ∷ []) = []
put (flat.If b None e) (x ∷ c ∷ s) = (c.0, If b x.1 c.1) ∷ s
put (flat.If b (Some m) e) [] = []
put (flat.If b (Some m) e) (x ∷ []) = []
put (flat.If b (Some m) e) (x ∷ y ∷ []) = []
put (flat.If b (Some m) e) (x ∷ y ∷ c ∷ s) = (c.0, IfElse b x.1 y.1 c.1) ∷ s
put flat.Else s = (true, Done) ∷ s
put flat.End s = (false, Done) ∷ s

unfoldable pub begun : List Instr → List (Bool × Code)
begun [] = []
begun (i ∷ is) = put i (begun is)

abbrev pub first_of : List (Bool × Code) → Code
first_of [] = Done
first_of (c ∷ s) = c.1

-- the tree that a list is laid out from
unfoldable pub tree_of : List Instr → Code
tree_of is = first_of (begun is)

-- the list of a body, with its end
abbrev pub whole : Code → List Instr
whole c = laid 0 c ++ flat.End ∷ []

-- the list is that of a body
unfoldable pub IsFlat : List Instr → Type 0
IsFlat is = is ≡ whole (tree_of is)

-- the token that an instruction of the list is written as
abbrev pub as_token : Instr → Token
as_token (flat.Plain o) = tok.Plain o
as_token (flat.Block k b e) = tok.Block k b
as_token (flat.If b m e) = tok.If b
as_token flat.Else = tok.Else
as_token flat.End = tok.End

-- the instruction, where the sequence is one alone that holds no others
abbrev pub only : Code → Option Op
only (Plain o Done) = Some o
only c = None
