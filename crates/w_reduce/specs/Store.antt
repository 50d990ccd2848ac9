-- The store (Core, execution, store).
use Rattle.std.specs.Prelude.{ℕ, suc, List, [], ◌∷◌, ◌++◌, length, Option, Some, None, slice_set}
use Rattle.w_memory.specs.Memory.{Memory}
use Rattle.w_tables.specs.declared.entries.FuncEntry.{FuncEntry}
use Rattle.w_reduce.specs.Values.{Val}
use Rattle.w_reduce.specs.Terms.{Continuation}

-- A table instance: its elements, and the maximum of its type.
pub record Table : Type 0 where
  pub elements : List Val
  pub max : Option ℕ

-- What a program shares while it runs. An address is a place of its list. A segment that was dropped has nothing left, and neither has
-- a continuation that was consumed.
pub record Store : Type 0 where
  pub functions : List FuncEntry
  pub tables : List Table
  pub memories : List Memory
  pub globals : List Val
  -- the indices of the tags' types
  pub tags : List ℕ
  pub elements : List (List Val)
  pub datas : List (List ℕ)
  pub conts : List (Option Continuation)

-- ## Continuations (stack-switching explainer, execution)

-- the address of the next one
abbrev pub next_cont : Store → ℕ
next_cont s = length s.conts

-- the store with one more, which has the next address
abbrev pub with_cont : Continuation → Store → Store
with_cont k s = record s { conts = s.conts ++ Some k ∷ [] }

-- the store with one consumed
abbrev pub without_cont : ℕ → Store → Store
without_cont a s = record s { conts = slice_set s.conts a None }

abbrev pub with_conts : List (Option Continuation) → Store → Store
with_conts ks s = record s { conts = ks }

-- how many were made
abbrev pub made : Store → ℕ
made s = length s.conts

abbrev pub live_in : List (Option Continuation) → ℕ
live_in [] = 0
live_in (None ∷ ks) = live_in ks
live_in (Some k ∷ ks) = suc (live_in ks)

-- how many of them aren't consumed
abbrev pub live : Store → ℕ
live s = live_in s.conts

abbrev pub consumed_in : List (Option Continuation) → ℕ
consumed_in [] = 0
consumed_in (None ∷ ks) = suc (consumed_in ks)
consumed_in (Some k ∷ ks) = consumed_in ks

-- how many are
abbrev pub consumed : Store → ℕ
consumed s = consumed_in s.conts
