-- The code of handlers: a loop, each turn of which resumes a computation under the clauses. A clause is a block, which is left with the
-- arguments and the resumption.
use Rattle.std.specs.Prelude.{ℕ, ◌+◌, List, [], ◌∷◌, length}
use Rattle.w_types.specs.declared.types.ValType.TheVariants.{I64}
use Rattle.w_syntax.specs.Code.{Code, Done, Plain, Block}
use Rattle.w_syntax.specs.declared.instructions.Clause.{Clause as HandlerClause}
use Rattle.w_syntax.specs.declared.instructions.Clause.TheVariants.{Label}
use Rattle.w_syntax.specs.declared.instructions.BlockKind.TheVariants as kind
use Rattle.w_syntax.specs.declared.instructions.BlockType.TheVariants as block_type
use Rattle.s_syntax.specs.declared.name.Name.{Name}
use Rattle.s_syntax.specs.declared.script.Clause.{Clause}
use Rattle.s_syntax.specs.declared.script.Handler.{Handler}
use Rattle.s_syntax.specs.declared.script.Declaration.{Declaration}
use Rattle.s_index.specs.Numbers.{tag_index}
use Rattle.s_index.specs.Indices.{clause_type_index}
use Rattle.s_index.specs.Types.{computation_type}
use Rattle.s_code.specs.Instructions.{local_get, local_set, resume}
use Rattle.s_code.specs.Layouts.{Layout, local_number}
use Rattle.s_code.specs.Statements.{body}

-- a clause, with where its names are
pub record Placed : Type 0 where
  pub clause : Clause
  pub layout : Layout

-- names set from the stack, the last one first
abbrev pub set_names : Layout → List Name → Code → Code
set_names Γ [] c = c
set_names Γ (x ∷ xs) c = set_names Γ xs (Plain (local_set (local_number Γ x)) c)

abbrev pub clause_code : List Declaration → ℕ → Placed → Code
clause_code ds D p =
    Plain (local_set (local_number p.layout p.clause.resumption)) (set_names p.layout p.clause.arguments (body ds p.layout D p.clause.body))

-- the blocks of clauses around what runs in them, the first clause's the innermost, each with its clause behind it
abbrev pub blocks : List Declaration → List Placed → Code → Code
blocks ds [] c = c
blocks ds (p ∷ ps) c =
    blocks ds ps (Block kind.Block (block_type.Index (clause_type_index ds (length p.clause.arguments))) c (clause_code ds (length ps) p))

-- the clauses of the resume: each leaves its own block
abbrev pub labels : List Declaration → ℕ → List Clause → List HandlerClause
labels ds l [] = []
labels ds l (c ∷ cs) = Label (tag_index ds c.effect) l ∷ labels ds (l + 1) cs

-- the return clause
abbrev pub return_code : List Declaration → Layout → ℕ → Handler → Code
return_code ds Γ D i = Plain (local_set (local_number Γ i.return_clause.value)) (body ds Γ D i.return_clause.body)

-- the resume of what is handled, which lies behind the parameters, and the return clause
abbrev pub handling : List Declaration → Layout → Handler → Code
handling ds Γ i =
    Plain (local_get (length i.parameters))
    (Plain (resume computation_type (labels ds 0 i.clauses)) (return_code ds Γ (length i.clauses) i))

-- one turn
abbrev pub turn : List Declaration → Layout → Handler → List Placed → Code
turn ds Γ i ps = blocks ds ps (handling ds Γ i)

abbrev pub handler_body : List Declaration → Layout → Handler → List Placed → Code
handler_body ds Γ i ps = Block kind.Loop (block_type.Value I64) (turn ds Γ i ps) Done
