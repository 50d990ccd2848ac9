-- Memories of a declared type, after the operations on them; and what data segments have.
use Rattle.std.proofs.Common.{◌≡◌, inl, inr, ℕ, ◌+◌, ◌*◌, ◌/◌, ◌%◌, ◌^◌, ◌<◌, ◌≤◌, List, ◌++◌, length, replicate, Option, Some, None, option_map, slice_get, refl, sym, subst, arith}
use Rattle.std.specs.Prelude.{nat_le}
use Rattle.std.proofs.lemmas.Bool.{leb-true}
use Rattle.std.proofs.lemmas.List.{length-append, length-replicate}
use Rattle.std.proofs.lemmas.List.Elements.{All-nil, All-append}
use Rattle.w_num.specs.Signed.{inverse}
use Rattle.w_syntax.specs.declared.module.Data.{Data}
use Rattle.w_syntax.specs.declared.module.Limits.{Limits}
use Rattle.w_syntax.specs.declared.module.Module.{Module}
use Rattle.w_memory.specs.Bytes.{bytes_of}
use Rattle.w_memory.specs.Memory.{Memory, with_bytes, page_size, page_limit, fresh, page_count, most_pages, store, fill, init, grown, answered, grow}
use Rattle.w_memory.specs.Parts.{is_within, written, filled, copied}
use Rattle.w_typed.specs.Ranges.{AreBytes, NumbersFit}
use Rattle.w_typed.specs.Stores.{MemoryTyped, DataTyped}
use Rattle.w_typed.proofs.Bytes.{bytes_written, bytes_same, bytes_spelled, length-low_bytes, bytes_filled, bytes_copied}
use Rattle.w_typed.proofs.OneWay.{chosen}
use Rattle.w_typed.proofs.Lengths.{length-written, length-filled, length-copied}
use Rattle.w_typed.proofs.Places.{all_there}

-- no memory has more pages
pub most_pages_few : (max : Option ℕ) → most_pages max ≤ page_limit
most_pages_few (Some n) = omega arith
most_pages_few None = omega arith

-- pages of zeros, as many as are declared at least
pub fresh_typed : (m : Module) (l : Limits) → l.min ≤ most_pages l.max → MemoryTyped m (fresh l.min l.max) l
unfolding fresh
fresh_typed m l h =
    let long : length ((fresh l.min l.max).bytes) ≡ page_size * l.min = length-replicate (page_size * l.min) 0 in
    let few = most_pages_few l.max in
    record {
      max = refl;
      whole = (omega arith, omega arith);
      least = omega arith;
      most = omega arith;
      bytes = λ n. bytes_same (page_size * l.min) 0 (omega arith);
    }

module _ (m : Module) (l : Limits) (old : Memory) (q : MemoryTyped m old l) where
  -- as many other bytes
  as_many : (new : List ℕ) → length new ≡ length old.bytes → (NumbersFit m → AreBytes new) → MemoryTyped m (with_bytes old new) l
  as_many new e h = record {
    max = q.max;
    whole = subst (λ (n : ℕ). (n % page_size ≡ 0) × (n ≤ page_size * page_limit)) (sym e) q.whole;
    least = subst (λ (n : ℕ). l.min ≤ n / page_size) (sym e) q.least;
    most = subst (λ (n : ℕ). n / page_size ≤ most_pages l.max) (sym e) q.most;
    bytes = h;
  }

  -- bytes that are put there, where some are
  put_typed : (o : Option (List ℕ)) (new : Memory) → ((bs : List ℕ) → o ≡ Some bs → MemoryTyped m (with_bytes old bs) l)
      → option_map (with_bytes old) o ≡ Some new → MemoryTyped m new l
  put_typed None new h is = absurd (cc)
  put_typed (Some bs) new h is = subst (λ (n : Memory). MemoryTyped m n l) (cc) (h bs refl)

  pub store_typed : (at size v : ℕ) (new : Memory) → store old at size v ≡ Some new → MemoryTyped m new l
  unfolding store
  store_typed at size v new is =
      let c = chosen (is_within at size old.bytes) (Some (with_bytes old (written old.bytes at (bytes_of size v)))) new is in
      let within : at + size ≤ length old.bytes = leb-true (at + size) (length old.bytes) c.0 in
      let many : length (bytes_of size v) ≡ size = length-low_bytes 0 size v in
      let same : with_bytes old (written old.bytes at (bytes_of size v)) ≡ new = let e = c.1 in cc in
      subst (λ (n : Memory). MemoryTyped m n l) same
      (as_many (written old.bytes at (bytes_of size v)) (length-written at old.bytes (bytes_of size v) (omega arith))
      (λ n. bytes_written at old.bytes (bytes_of size v) (q.bytes n) (bytes_spelled size v)))

  pub fill_typed : (to b n : ℕ) (new : Memory) → b < 256 → fill old to b n ≡ Some new → MemoryTyped m new l
  unfolding fill
  fill_typed to b n new h is = put_typed (filled old.bytes to b n) new (λ bs e.
      as_many bs (length-filled to b n old.bytes bs e) (λ f. bytes_filled to b n old.bytes bs h (q.bytes f) e)) is

  pub init_typed : (source : List ℕ) (to from n : ℕ) (new : Memory) → (NumbersFit m → AreBytes source) → init old source to from n ≡ Some new
      → MemoryTyped m new l
  unfolding init
  init_typed source to from n new h is = put_typed (copied old.bytes source to from n) new (λ bs e.
      as_many bs (length-copied to from n old.bytes source bs e) (λ f. bytes_copied to from n old.bytes source bs (q.bytes f) (h f) e)) is

  -- ## Growing

  grown_typed : (n : ℕ) (new : Memory) → grown old n ≡ Some new → MemoryTyped m new l
  unfolding grown
  grown_typed n new is =
      let more : List ℕ = replicate (page_size * n) 0 in
      let c = chosen (nat_le (page_count old + n) (most_pages old.max)) (Some (with_bytes old (old.bytes ++ more))) new is in
      let within : page_count old + n ≤ most_pages l.max =
      subst (λ (x : Option ℕ). page_count old + n ≤ most_pages x) q.max (leb-true (page_count old + n) (most_pages old.max) c.0) in
      let same : with_bytes old (old.bytes ++ more) ≡ new = let e = c.1 in cc in
      let long : length (old.bytes ++ more) ≡ length old.bytes + page_size * n = simp (length-append, length-replicate) in
      let few = most_pages_few l.max in
      let whole = q.whole.0 in
      let least = q.least in
      subst (λ (x : Memory). MemoryTyped m x l) same (record {
        max = q.max;
        whole = (omega arith, omega arith);
        least = omega arith;
        most = omega arith;
        bytes = λ f. All-append (λ (b : ℕ). b < 256) old.bytes more (q.bytes f) (bytes_same (page_size * n) 0 (omega arith));
      })

  answered_typed : (o : Option Memory) → ((new : Memory) → o ≡ Some new → MemoryTyped m new l) → MemoryTyped m ((answered old o).1) l
  answered_typed None h = q
  answered_typed (Some new) h = h new refl

  -- what a growth leaves
  pub grow_typed : (n : ℕ) → MemoryTyped m ((grow old n).1) l
  unfolding grow
  grow_typed n = answered_typed (grown old n) (grown_typed n)

  -- a number of pages is in range
  pub pages_below : page_count old < 2 ^ 32
  pages_below = let few = most_pages_few l.max in let most = q.most in omega arith

  answered_below : (o : Option Memory) → inverse 32 ((answered old o).0) < 2 ^ 32
  answered_below None = omega arith
  answered_below (Some new) = pages_below

  -- and what a growth answers
  pub grow_below : (n : ℕ) → inverse 32 ((grow old n).0) < 2 ^ 32
  unfolding grow
  grow_below n = answered_below (grown old n)

-- ## Data segments

-- what is left of one is bytes, where the module's are
pub data_bytes : (m : Module) (y : ℕ) (d : Data) (bytes : List ℕ) → slice_get m.datas y ≡ Some d → DataTyped bytes d → NumbersFit m → AreBytes bytes
data_bytes m y d bytes is (inl e) n = subst AreBytes (sym e) (all_there (λ (d : Data). AreBytes d.bytes) m.datas y d n.datas is)
data_bytes m y d bytes is (inr e) n = subst AreBytes (sym e) (All-nil (λ (b : ℕ). b < 256))
