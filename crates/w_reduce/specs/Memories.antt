-- Memory instructions (Core, execution, memory instructions).
use Rattle.std.specs.Prelude.{ℕ, ◌+◌, ◌%◌, [], slice_get, slice_set}
use Rattle.lists.specs.Rows.{Row, ◌▹◌}
use Rattle.w_num.specs.Signed.{inverse}
use Rattle.w_num.specs.Conversions.{extend_s}
use Rattle.w_memory.specs.Memory.{Memory, page_count, load, store, fill, init, grow}
use Rattle.w_syntax.specs.Code.{Code}
use Rattle.w_syntax.specs.declared.numeric.IntType.{IntType}
use Rattle.w_syntax.specs.declared.numeric.IntType.TheVariants as int
use Rattle.w_syntax.specs.declared.memory_instructions.LoadOp.{LoadOp}
use Rattle.w_syntax.specs.declared.memory_instructions.LoadOp.TheVariants as load_op
use Rattle.w_syntax.specs.declared.memory_instructions.StoreOp.{StoreOp}
use Rattle.w_syntax.specs.declared.memory_instructions.StoreOp.TheVariants as store_op
use Rattle.w_syntax.specs.declared.memory_instructions.MemoryOp.{MemoryOp}
use Rattle.w_syntax.specs.declared.memory_instructions.MemoryOp.TheVariants as memory
use Rattle.w_reduce.specs.declared.trap.Trap.TheVariants as trap
use Rattle.w_reduce.specs.Values.{Val, I32}
use Rattle.w_reduce.specs.Store.{Store}
use Rattle.w_reduce.specs.Terms.{rest_of, Context}
use Rattle.w_reduce.specs.Reduced.{Reduced, steps_to, ◌>>=◌, or_stuck, or_trap, take_number, take_i32, number}

-- ## What loads and stores move

-- the type that a load gives, and how many bytes it reads
abbrev pub loaded_type : LoadOp → IntType
loaded_type load_op.I32Load = int.I32
loaded_type load_op.I32Load8S = int.I32
loaded_type load_op.I32Load8U = int.I32
loaded_type load_op.I32Load16S = int.I32
loaded_type load_op.I32Load16U = int.I32
loaded_type _ = int.I64

abbrev pub loaded_size : LoadOp → ℕ
loaded_size load_op.I32Load = 4
loaded_size load_op.I64Load = 8
loaded_size load_op.I32Load8S = 1
loaded_size load_op.I32Load8U = 1
loaded_size load_op.I32Load16S = 2
loaded_size load_op.I32Load16U = 2
loaded_size load_op.I64Load8S = 1
loaded_size load_op.I64Load8U = 1
loaded_size load_op.I64Load16S = 2
loaded_size load_op.I64Load16U = 2
loaded_size load_op.I64Load32S = 4
loaded_size load_op.I64Load32U = 4

-- extend_sx: what is made of the number that was read
abbrev pub loaded : LoadOp → ℕ → ℕ
loaded load_op.I32Load8S = extend_s 8 32
loaded load_op.I32Load16S = extend_s 16 32
loaded load_op.I64Load8S = extend_s 8 64
loaded load_op.I64Load16S = extend_s 16 64
loaded load_op.I64Load32S = extend_s 32 64
loaded _ = λ n. n

-- the type that a store takes, and how many of its low bytes it writes
abbrev pub stored_type : StoreOp → IntType
stored_type store_op.I32Store = int.I32
stored_type store_op.I32Store8 = int.I32
stored_type store_op.I32Store16 = int.I32
stored_type _ = int.I64

abbrev pub stored_size : StoreOp → ℕ
stored_size store_op.I32Store = 4
stored_size store_op.I64Store = 8
stored_size store_op.I32Store8 = 1
stored_size store_op.I32Store16 = 2
stored_size store_op.I64Store8 = 1
stored_size store_op.I64Store16 = 2
stored_size store_op.I64Store32 = 4

-- ## The rules

abbrev pub with_memory : Store → ℕ → Memory → Store
with_memory s x m = record s { memories = slice_set s.memories x m }

-- what is left of a data segment that was dropped
abbrev pub without_data : Store → ℕ → Store
without_data s y = record s { datas = slice_set s.datas y [] }

abbrev pub memory_op : Store → Context → Row Val → MemoryOp → Code → Reduced
-- [Step_read/load-num-oob, load-num-val, load-pack-oob, load-pack-val]
-- S; (i32.const i) (t.loadN_sx ao)  ↪  S; (t.const c)   where c is read at i + ao.offset
memory_op s e vs (memory.Load o arg) c = do
  (vs, i) ← take_i32 vs
  m ← or_stuck (slice_get s.memories arg.memory)
  n ← or_trap trap.MemoryOutOfBounds (load m (i + arg.offset) (loaded_size o))
  steps_to s e (vs ▹ number (loaded_type o) (loaded o n)) (rest_of c)
-- [Step/store-num-oob, store-num-val, store-pack-oob, store-pack-val]
-- S; (i32.const i) (t.const c) (t.storeN ao)  ↪  S'; ε   where S' = S with the low bytes of c at i + ao.offset
memory_op s e vs (memory.Store o arg) c = do
  (vs, n) ← take_number (stored_type o) vs
  (vs, i) ← take_i32 vs
  m ← or_stuck (slice_get s.memories arg.memory)
  m ← or_trap trap.MemoryOutOfBounds (store m (i + arg.offset) (stored_size o) n)
  steps_to (with_memory s arg.memory m) e vs (rest_of c)
-- [Step_read/memory.size]
-- S; (memory.size x)  ↪  S; (i32.const n)   where memory x has n pages
memory_op s e vs (memory.Size x) c = do
  m ← or_stuck (slice_get s.memories x)
  steps_to s e (vs ▹ I32 (page_count m)) (rest_of c)
-- [Step/memory.grow-succeed, memory.grow-fail]
-- S; (i32.const n) (memory.grow x)  ↪  S'; (i32.const k)   where S' = S with n pages more, which were k; or  ↪  S; (i32.const -1)
memory_op s e vs (memory.Grow x) c = do
  (vs, n) ← take_i32 vs
  m ← or_stuck (slice_get s.memories x)
  let g = grow m n in
      steps_to (with_memory s x g.1) e (vs ▹ I32 (inverse 32 g.0)) (rest_of c)
-- [Step_read/memory.init-oob, memory.init-zero, memory.init-succ]
-- S; (i32.const d) (i32.const j) (i32.const n) (memory.init y x)  ↪  S'; ε
memory_op s e vs (memory.Init y x) c = do
  (vs, n) ← take_i32 vs
  (vs, j) ← take_i32 vs
  (vs, d) ← take_i32 vs
  m ← or_stuck (slice_get s.memories x)
  segment ← or_stuck (slice_get s.datas y)
  m ← or_trap trap.MemoryOutOfBounds (init m segment d j n)
  steps_to (with_memory s x m) e vs (rest_of c)
-- [Step/data.drop]
-- S; (data.drop y)  ↪  S'; ε   where S' = S with data segment y empty
memory_op s e vs (memory.DataDrop y) c = do
  segment ← or_stuck (slice_get s.datas y)
  steps_to (without_data s y) e vs (rest_of c)
-- [Step_read/memory.copy-oob, memory.copy-zero, memory.copy-le, memory.copy-gt]
-- S; (i32.const d) (i32.const j) (i32.const n) (memory.copy x y)  ↪  S'; ε
memory_op s e vs (memory.Copy x y) c = do
  (vs, n) ← take_i32 vs
  (vs, j) ← take_i32 vs
  (vs, d) ← take_i32 vs
  m ← or_stuck (slice_get s.memories x)
  source ← or_stuck (slice_get s.memories y)
  m ← or_trap trap.MemoryOutOfBounds (init m source.bytes d j n)
  steps_to (with_memory s x m) e vs (rest_of c)
-- [Step_read/memory.fill-oob, memory.fill-zero, memory.fill-succ]
-- S; (i32.const d) val (i32.const n) (memory.fill x)  ↪  S'; ε
memory_op s e vs (memory.Fill x) c = do
  (vs, n) ← take_i32 vs
  (vs, b) ← take_i32 vs
  (vs, d) ← take_i32 vs
  m ← or_stuck (slice_get s.memories x)
  m ← or_trap trap.MemoryOutOfBounds (fill m d (b % 256) n)
  steps_to (with_memory s x m) e vs (rest_of c)
