-- What a sequence of instructions is typed in (Core, validation, contexts).
use Rattle.std.specs.Prelude.{ℕ, Bool, List, ◌∷◌, length, Option, Some, None, slice_get, cond}
use Rattle.w_types.specs.declared.types.CompType.{CompType}
use Rattle.w_types.specs.declared.types.CompType.TheVariants as comp
use Rattle.w_types.specs.declared.types.FuncType.{FuncType}
use Rattle.w_types.specs.declared.types.RecGroup.{RecGroup}
use Rattle.w_types.specs.declared.types.RefType.{RefType}
use Rattle.w_types.specs.declared.types.ValType.{ValType}
use Rattle.w_types.specs.Groups.{types_of}
use Rattle.lists.specs.Rows.{Row, ε, ◌▹◌, row_of}
use Rattle.w_syntax.specs.Functions.{function_type}
use Rattle.w_syntax.specs.declared.instructions.BlockKind.{BlockKind}
use Rattle.w_syntax.specs.declared.instructions.BlockKind.TheVariants as kind
use Rattle.w_syntax.specs.declared.instructions.BlockType.{BlockType}
use Rattle.w_syntax.specs.declared.instructions.BlockType.TheVariants as blocktype
use Rattle.w_syntax.specs.declared.module.GlobalType.{GlobalType}
use Rattle.w_syntax.specs.declared.module.Limits.{Limits}
use Rattle.w_syntax.specs.declared.module.TableType.{TableType}
use Rattle.w_syntax.specs.declared.module.Tag.{Tag}
use Rattle.w_rules.specs.Types.{has_type}

-- The lists of a context; what is imported stands in front of what the module defines.
pub record Context : Type 0 where
  pub types : List RecGroup
  -- the index of each function's type
  pub functions : List ℕ
  pub tables : List TableType
  pub memories : List Limits
  pub globals : List GlobalType
  pub tags : List Tag
  -- the type of each element segment
  pub elements : List RefType
  -- how many data segments there are
  pub datas : ℕ
  -- of each function, whether ref.func may name it
  pub declared : List Bool
  pub locals : List ValType
  -- what a return takes
  pub results : Row ValType
  -- what a branch to each label takes, the innermost label first
  pub labels : List (Row ValType)

-- what a block takes and gives
pub record Arrow : Type 0 where
  pub from : Row ValType
  pub to : Row ValType

abbrev pub arrow_of_type : FuncType → Arrow
arrow_of_type t = record { from = row_of t.params; to = row_of t.results }

-- ## Types by their indices

abbrev pub type_count : Context → ℕ
type_count c = length (types_of c.types)

abbrev pub type_of : Context → ℕ → Option CompType
type_of c x = slice_get (types_of c.types) x

-- the function type of this index
abbrev pub func_of : Context → ℕ → Option FuncType
func_of c x = function_type (type_of c x)

abbrev pub func_at : Context → Option ℕ → Option FuncType
func_at c (Some x) = func_of c x
func_at c None = None

abbrev pub index_in_cont : Option CompType → Option ℕ
index_in_cont (Some (comp.Cont f)) = Some f
index_in_cont (Some (comp.Func t)) = None
index_in_cont None = None

-- the index of the function type of the continuation type of this index
abbrev pub func_index_of_cont : Context → ℕ → Option ℕ
func_index_of_cont c x = index_in_cont (type_of c x)

-- the function type of the continuation type of this index
abbrev pub cont_of : Context → ℕ → Option FuncType
cont_of c x = func_at c (func_index_of_cont c x)

-- the type of the function of this index
abbrev pub type_of_func : Context → ℕ → Option FuncType
type_of_func c x = func_at c (slice_get c.functions x)

abbrev pub tag_in : Context → Option Tag → Option FuncType
tag_in c (Some tag) = func_of c tag.type_index
tag_in c None = None

-- the type of the tag of this index
abbrev pub type_of_tag : Context → ℕ → Option FuncType
type_of_tag c x = tag_in c (slice_get c.tags x)

-- ## Blocks (Core, validation, block types)

abbrev pub arrow_at : Option FuncType → Option Arrow
arrow_at (Some t) = Some (arrow_of_type t)
arrow_at None = None

abbrev pub arrow_of : Context → BlockType → Option Arrow
arrow_of c blocktype.Empty = Some (record { from = ε; to = ε })
arrow_of c (blocktype.Value t) = cond (has_type (type_count c) t) (Some (record { from = ε; to = ε ▹ t })) None
arrow_of c (blocktype.Index x) = arrow_at (func_of c x)

-- what a branch to the block's label takes
abbrev pub label_of : BlockKind → Arrow → Row ValType
label_of kind.Block a = a.to
label_of kind.Loop a = a.from

-- the context inside a block, whose label takes these
abbrev pub labelled : Context → Row ValType → Context
labelled c us = record c { labels = us ∷ c.labels }
