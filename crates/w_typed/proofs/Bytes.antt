-- Lists of bytes: what the operations on memories make of them, and the numbers that they spell.
use Rattle.std.proofs.Common.{◌≡◌, ℕ, zero, suc, ◌+◌, ◌/◌, ◌^◌, ◌<◌, ◌≤◌, Bool, true, false, ◌&&◌, if◌then◌else◌, List, [], ◌∷◌, ◌++◌, length, take, drop, replicate, Some, None, refl, ap, subst, arith}
use Rattle.std.specs.Int.{byte_at, bytes_low_first}
use Rattle.std.proofs.Math.Nat.{pow-suc, mod-lt}
use Rattle.std.proofs.lemmas.Bool.{leb-true}
use Rattle.std.proofs.lemmas.List.{length-take, length-drop}
use Rattle.std.proofs.lemmas.List.Elements.{All-nil, All-cons, All-head, All-tail, All-append, All-take, All-drop, All-replicate}
use Rattle.w_memory.specs.Bytes.{bytes_of, number_of}
use Rattle.w_memory.specs.Memory.{Memory, load}
use Rattle.w_memory.specs.Parts.{is_within, part, written, filled, copied}
use Rattle.w_typed.specs.Ranges.{AreBytes}
use Rattle.w_typed.proofs.OneWay.{chosen}

abbrev IsByte : ℕ → Type 0
IsByte b = b < 256

-- others in place of those from a place on
pub bytes_written : (at : ℕ) (xs new : List ℕ) → AreBytes xs → AreBytes new → AreBytes (written xs at new)
bytes_written at xs new h k =
    All-append IsByte (take at xs ++ new) (drop (at + length new) xs) (All-append IsByte (take at xs) new (All-take IsByte at xs h) k)
    (All-drop IsByte (at + length new) xs h)

-- some of them
pub bytes_part : (at n : ℕ) (xs : List ℕ) → AreBytes xs → AreBytes (part xs at n)
bytes_part at n xs h = All-take IsByte n (drop at xs) (All-drop IsByte at xs h)

-- one byte n times
pub bytes_same : (n b : ℕ) → b < 256 → AreBytes (replicate n b)
bytes_same n b h = All-replicate IsByte n b h

-- the low bytes of a number
byte_below : (i v : ℕ) → byte_at i v < 256
byte_below zero v = mod-lt v (omega arith)
byte_below (suc i) v = mod-lt (v / 256 ^ suc i) (omega arith)

low_bytes : (i size v : ℕ) → AreBytes (bytes_low_first i size v)
low_bytes i zero v = All-nil IsByte
low_bytes i (suc size) v = All-cons IsByte (byte_at i v) (bytes_low_first (suc i) size v) (byte_below i v) (low_bytes (suc i) size v)

pub bytes_spelled : (size v : ℕ) → AreBytes (bytes_of size v)
bytes_spelled size v = low_bytes 0 size v

pub length-low_bytes : (i size v : ℕ) → length (bytes_low_first i size v) ≡ size
length-low_bytes i zero v = refl
length-low_bytes i (suc size) v = ap suc (length-low_bytes (suc i) size v)

-- the number that bytes spell
number_below : (bs : List ℕ) → AreBytes bs → number_of bs < 256 ^ length bs
number_below [] h = omega arith
number_below (b ∷ bs) h =
    let first : b < 256 = All-head IsByte b bs h in
    let rest : number_of bs < 256 ^ length bs = number_below bs (All-tail IsByte b bs h) in
    omega (arith, pow-suc 256 (length bs))

read_below : (t : Bool) (at size n : ℕ) (xs : List ℕ) → is_within at size xs ≡ t → (if t then Some (number_of (part xs at size)) else None) ≡ Some n
    → AreBytes xs → n < 256 ^ size
read_below false at size n xs w is h = absurd (cc)
read_below true at size n xs w is h =
    let within : at + size ≤ length xs = leb-true (at + size) (length xs) w in
    let many : length (part xs at size) ≡ size = simp (length-take, length-drop) (omega arith) in
    let same : number_of (part xs at size) ≡ n = cc in
    let below : number_of (part xs at size) < 256 ^ size = subst (λ (k : ℕ). number_of (part xs at size) < 256 ^ k) many (number_below (part xs at size) (bytes_part at size xs h)) in
    omega arith

-- a number of so many bytes is loaded
pub loaded_bytes : (m : Memory) (at size n : ℕ) → load m at size ≡ Some n → AreBytes m.bytes → n < 256 ^ size
unfolding load
loaded_bytes m at size n is h = read_below (is_within at size m.bytes) at size n m.bytes refl is h

-- ## Bulk operations

-- one byte, written n times
pub bytes_filled : (to b n : ℕ) (xs new : List ℕ) → b < 256 → AreBytes xs → filled xs to b n ≡ Some new → AreBytes new
bytes_filled to b n xs new h k is =
    let c = chosen (is_within to n xs) (Some (written xs to (replicate n b))) new is in
    let same : written xs to (replicate n b) ≡ new = let e = c.1 in cc in
    subst AreBytes same (bytes_written to xs (replicate n b) k (bytes_same n b h))

-- n bytes of another list
pub bytes_copied : (to from n : ℕ) (xs source new : List ℕ) → AreBytes xs → AreBytes source → copied xs source to from n ≡ Some new → AreBytes new
bytes_copied to from n xs source new h k is =
    let c = chosen (is_within to n xs && is_within from n source) (Some (written xs to (part source from n))) new is in
    let same : written xs to (part source from n) ≡ new = let e = c.1 in cc in
    subst AreBytes same (bytes_written to xs (part source from n) h (bytes_part from n source k))
