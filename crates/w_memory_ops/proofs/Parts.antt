-- The memory and the data segments of a store, found by their indices.
use Rattle.std.proofs.Common.{◌≡◌, ℕ, zero, suc, ◌<◌, List, [], ◌∷◌, Option, Some, None, length, slice_get, refl, sym, ap, ◌∙◌}
use Rattle.std.specs.Prelude.{◌≢◌, ⊤, slice_set, option_map}
use Rattle.std.proofs.lemmas.Option.{slice_get_within, slice_get-get_or}
use Rattle.w_memory.specs.Memory.{Memory}
use Rattle.w_tables.specs.Store as instances
use Rattle.w_tables.specs.Operations.{bytes_at, with_memory}
use Rattle.w_reduce.specs.Reduced.{Reduced, Stuck, or_stuck}
use Rattle.w_reduce.specs.Store.{Store}
use Rattle.w_stands.specs.Values.{store_of}
use Rattle.w_stands.proofs.LookedUp.{found}
use Rattle.w_memory_ops.specs.Changing.{Source, Nowhere, InSegment, InMemory, source_of, reading}

-- the bytes that a rule reads, where it applies
pub record Read (s : Store) (y : Source) (go : List ℕ → Reduced) : Type 0 where
  pub bytes : List ℕ
  pub is : source_of s y ≡ Some bytes
  pub applies : go bytes ≢ Stuck

-- they are there
pub read : (s : Store) (y : Source) (go : List ℕ → Reduced) → reading s y go ≢ Stuck → Read s y go
read s Nowhere go h = record { bytes = []; is = refl; applies = h }
read s (InSegment y) go h = let r = found (slice_get s.datas y) go h in record { bytes = r.item; is = r.is; applies = r.applies }
read s (InMemory y) go h =
    let r = found (slice_get s.memories y) (λ (m : Memory). go m.bytes) h in
    record { bytes = r.item.bytes; is = ap (option_map (λ (m : Memory). m.bytes)) r.is; applies = r.applies }

-- and the rule goes on with them
pub reads : (s : Store) (y : Source) (go : List ℕ → Reduced) (bytes : List ℕ) → source_of s y ≡ Some bytes → reading s y go ≡ go bytes
reads s Nowhere go bytes h = ap go (let e : [] ≡ bytes = cc in e)
reads s (InSegment y) go bytes h = ap (λ (o : Option (List ℕ)). or_stuck o go) h
reads s (InMemory y) go bytes h = by_memory (slice_get s.memories y) h where
  by_memory : (o : Option Memory) → option_map (λ (m : Memory). m.bytes) o ≡ Some bytes → or_stuck o (λ (m : Memory). go m.bytes) ≡ go bytes
  by_memory (Some m) e = ap go (let f : m.bytes ≡ bytes = cc in f)
  by_memory None e = absurd cc

-- what a source names is there
abbrev pub IsThere : instances.Store → Source → Type 0
IsThere u Nowhere = ⊤
IsThere u (InSegment y) = y < length u.datas
IsThere u (InMemory y) = y < length u.memories

pub source_there : (u : instances.Store) (y : Source) (bytes : List ℕ) → source_of (store_of u) y ≡ Some bytes → IsThere u y
source_there u Nowhere bytes h = tt
source_there u (InSegment y) bytes h = slice_get_within u.datas y bytes h
source_there u (InMemory y) bytes h = by_memory (slice_get u.memories y) refl h where
  by_memory : (o : Option Memory) → slice_get u.memories y ≡ o → option_map (λ (m : Memory). m.bytes) o ≡ Some bytes → y < length u.memories
  by_memory (Some m) is e = slice_get_within u.memories y m is
  by_memory None is e = absurd cc

-- the bytes of a data segment that are lent are those that the rule reads
pub segment_lent : (u : instances.Store) (y : ℕ) (bytes : List ℕ) → y < length u.datas → bytes ≡ bytes_at u.datas (Some y) → source_of (store_of u) (InSegment y) ≡ Some bytes
segment_lent u y bytes lt is = slice_get-get_or u.datas y [] lt ∙ ap (λ (l : List ℕ). Some l) (sym is)

-- and so are those of a memory
pub memory_lent : (u : instances.Store) (y : ℕ) (m : Memory) → slice_get u.memories y ≡ Some m → source_of (store_of u) (InMemory y) ≡ Some m.bytes
memory_lent u y m is = ap (option_map (λ (n : Memory). n.bytes)) is

-- an item in its own place changes nothing
pub set_same : {A : Type 0} (xs : List A) (x : ℕ) (a : A) → slice_get xs x ≡ Some a → slice_set xs x a ≡ xs
set_same [] x a h = absurd cc
set_same (y ∷ ys) zero a h = let e : y ≡ a = cc in ap (λ z. z ∷ ys) (sym e)
set_same (y ∷ ys) (suc x) a h = ap (λ l. y ∷ l) (set_same ys x a h)

-- so does the memory of a store
pub same_memory : (u : instances.Store) (x : ℕ) (m : Memory) → slice_get u.memories x ≡ Some m → with_memory u x m ≡ u
same_memory u x m h = ap (λ (ms : List Memory). record u { memories = ms }) (set_same u.memories x m h)
