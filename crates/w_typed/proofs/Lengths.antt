-- How long a list is after the operations on memories and tables.
use Rattle.std.proofs.Common.{◌≡◌, ℕ, ◌+◌, ◌≤◌, ◌&&◌, List, ◌++◌, length, replicate, Option, Some, slice_set, sym, ap, ◌∙◌, arith}
use Rattle.std.specs.Prelude.{nat_le, nat_lt}
use Rattle.std.proofs.lemmas.Bool.{leb-true}
use Rattle.std.proofs.lemmas.List.{length-append, length-take, length-drop, length-replicate, length-set}
use Rattle.w_memory.specs.Parts.{is_within, part, written, filled, copied}
use Rattle.w_tables.specs.Elements.{replaced, grown, most_elements}
use Rattle.w_typed.proofs.OneWay.{both_hold, chosen}

-- what is written in place of others that don't pass the end
pub length-written : {A : Type 0} (at : ℕ) (xs new : List A) → at + length new ≤ length xs → length (written xs at new) ≡ length xs
length-written at xs new h = simp (length-append, length-take, length-drop) (omega arith)

-- a value written n times
pub length-filled : {A : Type 0} (to : ℕ) (v : A) (n : ℕ) (xs new : List A) → filled xs to v n ≡ Some new → length new ≡ length xs
length-filled to v n xs new is =
    let c = chosen (is_within to n xs) (Some (written xs to (replicate n v))) new is in
    let within : to + n ≤ length xs = leb-true (to + n) (length xs) c.0 in
    let many : length (replicate n v) ≡ n = length-replicate n v in
    let same : written xs to (replicate n v) ≡ new = let e = c.1 in cc in
    ap length (sym same) ∙ length-written to xs (replicate n v) (omega arith)

-- n items of another list
pub length-copied : {A : Type 0} (to from n : ℕ) (xs source new : List A) → copied xs source to from n ≡ Some new → length new ≡ length xs
length-copied to from n xs source new is =
    let c = chosen (is_within to n xs && is_within from n source) (Some (written xs to (part source from n))) new is in
    let both = both_hold (is_within to n xs) (is_within from n source) c.0 in
    let there : to + n ≤ length xs = leb-true (to + n) (length xs) both.0 in
    let here : from + n ≤ length source = leb-true (from + n) (length source) both.1 in
    let many : length (part source from n) ≡ n = simp (length-take, length-drop) (omega arith) in
    let same : written xs to (part source from n) ≡ new = let e = c.1 in cc in
    ap length (sym same) ∙ length-written to xs (part source from n) (omega arith)

-- one item
pub length-replaced : {A : Type 0} (i : ℕ) (v : A) (xs new : List A) → replaced xs i v ≡ Some new → length new ≡ length xs
length-replaced i v xs new is =
    let c = chosen (nat_lt i (length xs)) (Some (slice_set xs i v)) new is in
    let same : slice_set xs i v ≡ new = let e = c.1 in cc in
    ap length (sym same) ∙ length-set xs i v

-- more of them
pub length-grown : {A : Type 0} (max : Option ℕ) (v : A) (n : ℕ) (xs new : List A) → grown xs max v n ≡ Some new
    → (length new ≡ length xs + n) × (length new ≤ most_elements max)
length-grown max v n xs new is =
    let c = chosen (nat_le (length xs + n) (most_elements max)) (Some (xs ++ replicate n v)) new is in
    let fits : length xs + n ≤ most_elements max = leb-true (length xs + n) (most_elements max) c.0 in
    let same : xs ++ replicate n v ≡ new = let e = c.1 in cc in
    let long : length new ≡ length xs + n = ap length (sym same) ∙ simp (length-append, length-replicate) in
    (long, omega arith)
