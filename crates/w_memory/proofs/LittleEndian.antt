-- What `bytes_of` spells, `number_of` reads.
use Rattle.std.proofs.Common.{◌≡◌, ℕ, zero, suc, ◌+◌, ◌*◌, ◌/◌, ◌%◌, ◌^◌, refl, sym, ap, ◌∙◌, arith}
use Rattle.std.specs.Int.{byte_at, bytes_low_first}
use Rattle.std.proofs.Math.Arith.{mod-mul}
use Rattle.std.proofs.Math.Nat.{div-div-eq-div-mul, div-one, one-le-pow, pow-suc}
use Rattle.w_memory.specs.Bytes.{bytes_of, number_of}

byte_at-is : (i v : ℕ) → byte_at i v ≡ v / 256 ^ i % 256
byte_at-is zero v = ap (λ n. n % 256) (sym (div-one v))
byte_at-is (suc i) v = refl

-- as many bytes as `size`, from byte i on
number_of-bytes_low_first : (size i v : ℕ) → number_of (bytes_low_first i size v) ≡ v / 256 ^ i % 256 ^ size
number_of-bytes_low_first zero i v = omega arith
number_of-bytes_low_first (suc size) i v =
    let next : v / 256 ^ suc i ≡ v / 256 ^ i / 256 = ap (λ n. v / n) (pow-suc 256 i) ∙ sym (div-div-eq-div-mul v (256 ^ i) 256) in
    let digits : v / 256 ^ i % 256 ^ suc size ≡ (v / 256 ^ i / 256 % 256 ^ size) * 256 + v / 256 ^ i % 256 =
    ap (λ n. v / 256 ^ i % n) (pow-suc 256 size) ∙ mod-mul (v / 256 ^ i) (omega (arith, one-le-pow size 256 (omega arith))) (omega arith) in
    let rest : number_of (bytes_low_first (suc i) size v) ≡ v / 256 ^ i / 256 % 256 ^ size = number_of-bytes_low_first size (suc i) v ∙ ap (λ n. n % 256 ^ size) next in
    omega (arith, byte_at-is i v, rest, digits)

-- the low bytes of a number spell what is left of it in so many bytes
pub number_of-bytes_of : (size v : ℕ) → number_of (bytes_of size v) ≡ v % 256 ^ size
number_of-bytes_of size v = number_of-bytes_low_first size 0 v ∙ ap (λ n. n % 256 ^ size) (div-one v)
