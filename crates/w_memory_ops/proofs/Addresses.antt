-- Accesses at addresses that are the same as far as the memory goes.
use Rattle.std.proofs.Common.{◌≡◌, ℕ, ◌+◌, ◌<◌, Some, None, Bool, true, false, length, refl, sym, ap, ◌∙◌, arith}
use Rattle.std.specs.Prelude.{min, nat_le, if◌then◌else◌, Option}
use Rattle.std.proofs.lemmas.Bool.Decides.{nat_tests}
use Rattle.w_memory.specs.Memory.{Memory, load, store, with_bytes}
use Rattle.w_memory.specs.Bytes.{number_of, bytes_of}
use Rattle.w_memory.specs.Parts.{part, written}
use Rattle.w_syntax.specs.declared.memory_instructions.LoadOp.{LoadOp}
use Rattle.w_syntax.specs.declared.memory_instructions.LoadOp.TheVariants as load_op
use Rattle.w_syntax.specs.declared.memory_instructions.StoreOp.{StoreOp}
use Rattle.w_syntax.specs.declared.memory_instructions.StoreOp.TheVariants as store_op
use Rattle.w_reduce.specs.Memories.{loaded_size, stored_size}

-- two addresses are one, or both lie past the end
data Cases (a b n l : ℕ) : Type 0 where
  one : a ≡ b → Cases a b n l
  past : nat_le (a + n) l ≡ false → nat_le (b + n) l ≡ false → Cases a b n l

-- which of them
cases_of : (a b n l : ℕ) (within : Bool) → nat_le (a + n) l ≡ within → min a l ≡ min b l → 0 < n → Cases a b n l
cases_of a b n l true w h k = one (grind (arith, nat_tests))
cases_of a b n l false w h k = past w (grind (arith, nat_tests))

-- a load, by these cases
load_by : (m : Memory) (a b n : ℕ) → Cases a b n (length m.bytes) → load m a n ≡ load m b n
unfolding load
load_by m a b n (one e) = ap (λ (x : ℕ). load m x n) e
load_by m a b n (past h k) =
    ap (λ (x : Bool). if x then Some (number_of (part m.bytes a n)) else None) h
    ∙ sym (ap (λ (x : Bool). if x then Some (number_of (part m.bytes b n)) else None) k)

-- a store
store_by : (m : Memory) (a b n v : ℕ) → Cases a b n (length m.bytes) → store m a n v ≡ store m b n v
unfolding store
store_by m a b n v (one e) = ap (λ (x : ℕ). store m x n v) e
store_by m a b n v (past h k) =
    ap (λ (x : Bool). if x then Some (with_bytes m (written m.bytes a (bytes_of n v))) else None) h
    ∙ sym (ap (λ (x : Bool). if x then Some (with_bytes m (written m.bytes b (bytes_of n v))) else None) k)

-- a load at one address is a load at the other
pub load_same : (m : Memory) (a b n : ℕ) → min a (length m.bytes) ≡ min b (length m.bytes) → 0 < n → load m a n ≡ load m b n
load_same m a b n h k = load_by m a b n (cases_of a b n (length m.bytes) (nat_le (a + n) (length m.bytes)) refl h k)

-- so is a store
pub store_same : (m : Memory) (a b n v : ℕ) → min a (length m.bytes) ≡ min b (length m.bytes) → 0 < n → store m a n v ≡ store m b n v
store_same m a b n v h k = store_by m a b n v (cases_of a b n (length m.bytes) (nat_le (a + n) (length m.bytes)) refl h k)

-- ## What loads and stores reach

-- they reach one byte at least
loads_some : (o : LoadOp) → 0 < loaded_size o
loads_some load_op.I32Load = omega arith
loads_some load_op.I64Load = omega arith
loads_some load_op.I32Load8S = omega arith
loads_some load_op.I32Load8U = omega arith
loads_some load_op.I32Load16S = omega arith
loads_some load_op.I32Load16U = omega arith
loads_some load_op.I64Load8S = omega arith
loads_some load_op.I64Load8U = omega arith
loads_some load_op.I64Load16S = omega arith
loads_some load_op.I64Load16U = omega arith
loads_some load_op.I64Load32S = omega arith
loads_some load_op.I64Load32U = omega arith

stores_some : (o : StoreOp) → 0 < stored_size o
stores_some store_op.I32Store = omega arith
stores_some store_op.I64Store = omega arith
stores_some store_op.I32Store8 = omega arith
stores_some store_op.I32Store16 = omega arith
stores_some store_op.I64Store8 = omega arith
stores_some store_op.I64Store16 = omega arith
stores_some store_op.I64Store32 = omega arith

-- a load of the sum, told by the address that the code computes
pub load_at : (m : Memory) (o : LoadOp) (offset : ℕ) (at : ℕ) {base base' size : ℕ} {r : Option ℕ} → min at (length m.bytes) ≡ min (base' + offset) (length m.bytes) → base' ≡ base →
    size ≡ loaded_size o → r ≡ load m at size → load m (base + offset) (loaded_size o) ≡ r
load_at m o offset at {base} {base'} {size} {r} h b n l =
    ap (λ (x : ℕ). load m (x + offset) (loaded_size o)) (sym b)
    ∙ load_same m (base' + offset) at (loaded_size o) (sym h) (loads_some o)
    ∙ sym (l ∙ ap (load m at) n)

-- a store to it
pub store_at : (m : Memory) (o : StoreOp) (offset : ℕ) (at : ℕ) {base base' size v v' : ℕ} {r : Option Memory} → min at (length m.bytes) ≡ min (base' + offset) (length m.bytes) →
    base' ≡ base → size ≡ stored_size o → v' ≡ v → store m at size v' ≡ r → store m (base + offset) (stored_size o) v ≡ r
store_at m o offset at {base} {base'} {size} {v} {v'} {r} h b n w l =
    ap (λ (x : ℕ). store m (x + offset) (stored_size o) v) (sym b)
    ∙ store_same m (base' + offset) at (stored_size o) v (sym h) (stores_some o)
    ∙ sym (ap (λ (x : ℕ). store m at x v') n ∙ ap (store m at (stored_size o)) w) ∙ l
