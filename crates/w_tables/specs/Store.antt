-- The store of a run (Core, execution, runtime structure, store).
use Rattle.std.specs.Prelude.{ℕ, List, Option}
use Rattle.w_types.specs.declared.value.Value.{Value}
use Rattle.w_memory.specs.Memory.{Memory}
use Rattle.w_tables.specs.declared.entries.FuncEntry.{FuncEntry}

-- A table instance: its elements, and the maximum of its type.
pub record Table : Type 0 where
  pub elements : List Value
  pub max : Option ℕ

-- All instances, each at its address, which is its place; of an element segment its values, and of a data segment its bytes.
pub record Store : Type 0 where
  pub functions : List FuncEntry
  pub tables : List Table
  pub memories : List Memory
  pub globals : List Value
  pub tags : List ℕ
  pub elems : List (List Value)
  pub datas : List (List ℕ)
