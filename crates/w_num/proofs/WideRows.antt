-- The definitions at edge values: 0, 1, -1, the least and the greatest number of 64 bits, counts at and past the width, and quotients of
-- both signs. The values were computed apart from the definitions.
use Rattle.std.proofs.Common.{◌≡◌, Ok, Err, refl, pos, negsuc}
use Rattle.w_num.specs.declared.fault.NumFault.TheVariants.{DivZero, Overflow}
use Rattle.w_num.specs.Signed.{signed, inverse}
use Rattle.w_num.specs.Arithmetic.{iadd, isub, imul}
use Rattle.w_num.specs.Division.{idiv_u, idiv_s, irem_u, irem_s}
use Rattle.w_num.specs.Bits.{ibits, leading, iclz, ictz, ipopcnt, iand, ior, ixor}
use Rattle.w_num.specs.Shifts.{ishl, ishr_u, ishr_s, irotl, irotr}
use Rattle.w_num.specs.Comparisons.{ieqz, ieq, ine, ilt_u, ilt_s, igt_u, igt_s, ile_u, ile_s, ige_u, ige_s}
use Rattle.w_num.specs.Conversions.{iextend_s}

signed_zero_of_64 : signed 64 0 ≡ pos 0
signed_zero_of_64 = refl

inverse_zero_of_64 : inverse 64 (pos 0) ≡ 0
inverse_zero_of_64 = refl

signed_one_of_64 : signed 64 1 ≡ pos 1
signed_one_of_64 = refl

inverse_one_of_64 : inverse 64 (pos 1) ≡ 1
inverse_one_of_64 = refl

signed_minus_one_of_64 : signed 64 18446744073709551615 ≡ negsuc 0
signed_minus_one_of_64 = refl

inverse_minus_one_of_64 : inverse 64 (negsuc 0) ≡ 18446744073709551615
inverse_minus_one_of_64 = refl

signed_greatest_of_64 : signed 64 9223372036854775807 ≡ pos 9223372036854775807
signed_greatest_of_64 = refl

inverse_greatest_of_64 : inverse 64 (pos 9223372036854775807) ≡ 9223372036854775807
inverse_greatest_of_64 = refl

signed_least_of_64 : signed 64 9223372036854775808 ≡ negsuc 9223372036854775807
signed_least_of_64 = refl

inverse_least_of_64 : inverse 64 (negsuc 9223372036854775807) ≡ 9223372036854775808
inverse_least_of_64 = refl

iadd_past_the_greatest_of_64 : iadd 64 18446744073709551615 2 ≡ 1
iadd_past_the_greatest_of_64 = refl

iadd_small_of_64 : iadd 64 40 2 ≡ 42
iadd_small_of_64 = refl

isub_below_zero_of_64 : isub 64 0 1 ≡ 18446744073709551615
isub_below_zero_of_64 = refl

isub_of_itself_of_64 : isub 64 9223372036854775808 9223372036854775808 ≡ 0
isub_of_itself_of_64 = refl

isub_small_of_64 : isub 64 44 2 ≡ 42
isub_small_of_64 = refl

imul_minus_ones_of_64 : imul 64 18446744073709551615 18446744073709551615 ≡ 1
imul_minus_ones_of_64 = refl

imul_least_by_two_of_64 : imul 64 9223372036854775808 2 ≡ 0
imul_least_by_two_of_64 = refl

imul_small_of_64 : imul 64 6 7 ≡ 42
imul_small_of_64 = refl

idiv_s_by_zero_of_64 : idiv_s 64 7 0 ≡ Err DivZero
idiv_s_by_zero_of_64 = refl

idiv_u_by_zero_of_64 : idiv_u 64 7 0 ≡ Err DivZero
idiv_u_by_zero_of_64 = refl

irem_s_by_zero_of_64 : irem_s 64 7 0 ≡ Err DivZero
irem_s_by_zero_of_64 = refl

irem_u_by_zero_of_64 : irem_u 64 7 0 ≡ Err DivZero
irem_u_by_zero_of_64 = refl

idiv_s_of_zero_by_zero_of_64 : idiv_s 64 0 0 ≡ Err DivZero
idiv_s_of_zero_by_zero_of_64 = refl

idiv_u_of_zero_by_zero_of_64 : idiv_u 64 0 0 ≡ Err DivZero
idiv_u_of_zero_by_zero_of_64 = refl

irem_s_of_zero_by_zero_of_64 : irem_s 64 0 0 ≡ Err DivZero
irem_s_of_zero_by_zero_of_64 = refl

irem_u_of_zero_by_zero_of_64 : irem_u 64 0 0 ≡ Err DivZero
irem_u_of_zero_by_zero_of_64 = refl

idiv_s_least_by_minus_one_of_64 : idiv_s 64 9223372036854775808 18446744073709551615 ≡ Err Overflow
idiv_s_least_by_minus_one_of_64 = refl

idiv_u_least_by_minus_one_of_64 : idiv_u 64 9223372036854775808 18446744073709551615 ≡ Ok 0
idiv_u_least_by_minus_one_of_64 = refl

irem_s_least_by_minus_one_of_64 : irem_s 64 9223372036854775808 18446744073709551615 ≡ Ok 0
irem_s_least_by_minus_one_of_64 = refl

irem_u_least_by_minus_one_of_64 : irem_u 64 9223372036854775808 18446744073709551615 ≡ Ok 9223372036854775808
irem_u_least_by_minus_one_of_64 = refl

idiv_s_least_by_one_of_64 : idiv_s 64 9223372036854775808 1 ≡ Ok 9223372036854775808
idiv_s_least_by_one_of_64 = refl

idiv_u_least_by_one_of_64 : idiv_u 64 9223372036854775808 1 ≡ Ok 9223372036854775808
idiv_u_least_by_one_of_64 = refl

irem_s_least_by_one_of_64 : irem_s 64 9223372036854775808 1 ≡ Ok 0
irem_s_least_by_one_of_64 = refl

irem_u_least_by_one_of_64 : irem_u 64 9223372036854775808 1 ≡ Ok 0
irem_u_least_by_one_of_64 = refl

idiv_s_seven_by_two_of_64 : idiv_s 64 7 2 ≡ Ok 3
idiv_s_seven_by_two_of_64 = refl

idiv_u_seven_by_two_of_64 : idiv_u 64 7 2 ≡ Ok 3
idiv_u_seven_by_two_of_64 = refl

irem_s_seven_by_two_of_64 : irem_s 64 7 2 ≡ Ok 1
irem_s_seven_by_two_of_64 = refl

irem_u_seven_by_two_of_64 : irem_u 64 7 2 ≡ Ok 1
irem_u_seven_by_two_of_64 = refl

idiv_s_minus_seven_by_two_of_64 : idiv_s 64 18446744073709551609 2 ≡ Ok 18446744073709551613
idiv_s_minus_seven_by_two_of_64 = refl

idiv_u_minus_seven_by_two_of_64 : idiv_u 64 18446744073709551609 2 ≡ Ok 9223372036854775804
idiv_u_minus_seven_by_two_of_64 = refl

irem_s_minus_seven_by_two_of_64 : irem_s 64 18446744073709551609 2 ≡ Ok 18446744073709551615
irem_s_minus_seven_by_two_of_64 = refl

irem_u_minus_seven_by_two_of_64 : irem_u 64 18446744073709551609 2 ≡ Ok 1
irem_u_minus_seven_by_two_of_64 = refl

idiv_s_seven_by_minus_two_of_64 : idiv_s 64 7 18446744073709551614 ≡ Ok 18446744073709551613
idiv_s_seven_by_minus_two_of_64 = refl

idiv_u_seven_by_minus_two_of_64 : idiv_u 64 7 18446744073709551614 ≡ Ok 0
idiv_u_seven_by_minus_two_of_64 = refl

irem_s_seven_by_minus_two_of_64 : irem_s 64 7 18446744073709551614 ≡ Ok 1
irem_s_seven_by_minus_two_of_64 = refl

irem_u_seven_by_minus_two_of_64 : irem_u 64 7 18446744073709551614 ≡ Ok 7
irem_u_seven_by_minus_two_of_64 = refl

idiv_s_minus_seven_by_minus_two_of_64 : idiv_s 64 18446744073709551609 18446744073709551614 ≡ Ok 3
idiv_s_minus_seven_by_minus_two_of_64 = refl

idiv_u_minus_seven_by_minus_two_of_64 : idiv_u 64 18446744073709551609 18446744073709551614 ≡ Ok 0
idiv_u_minus_seven_by_minus_two_of_64 = refl

irem_s_minus_seven_by_minus_two_of_64 : irem_s 64 18446744073709551609 18446744073709551614 ≡ Ok 18446744073709551615
irem_s_minus_seven_by_minus_two_of_64 = refl

irem_u_minus_seven_by_minus_two_of_64 : irem_u 64 18446744073709551609 18446744073709551614 ≡ Ok 18446744073709551609
irem_u_minus_seven_by_minus_two_of_64 = refl

idiv_s_minus_one_by_two_of_64 : idiv_s 64 18446744073709551615 2 ≡ Ok 0
idiv_s_minus_one_by_two_of_64 = refl

idiv_u_minus_one_by_two_of_64 : idiv_u 64 18446744073709551615 2 ≡ Ok 9223372036854775807
idiv_u_minus_one_by_two_of_64 = refl

irem_s_minus_one_by_two_of_64 : irem_s 64 18446744073709551615 2 ≡ Ok 18446744073709551615
irem_s_minus_one_by_two_of_64 = refl

irem_u_minus_one_by_two_of_64 : irem_u 64 18446744073709551615 2 ≡ Ok 1
irem_u_minus_one_by_two_of_64 = refl

idiv_s_least_by_least_of_64 : idiv_s 64 9223372036854775808 9223372036854775808 ≡ Ok 1
idiv_s_least_by_least_of_64 = refl

idiv_u_least_by_least_of_64 : idiv_u 64 9223372036854775808 9223372036854775808 ≡ Ok 1
idiv_u_least_by_least_of_64 = refl

irem_s_least_by_least_of_64 : irem_s 64 9223372036854775808 9223372036854775808 ≡ Ok 0
irem_s_least_by_least_of_64 = refl

irem_u_least_by_least_of_64 : irem_u 64 9223372036854775808 9223372036854775808 ≡ Ok 0
irem_u_least_by_least_of_64 = refl

idiv_s_least_by_two_of_64 : idiv_s 64 9223372036854775808 2 ≡ Ok 13835058055282163712
idiv_s_least_by_two_of_64 = refl

idiv_u_least_by_two_of_64 : idiv_u 64 9223372036854775808 2 ≡ Ok 4611686018427387904
idiv_u_least_by_two_of_64 = refl

irem_s_least_by_two_of_64 : irem_s 64 9223372036854775808 2 ≡ Ok 0
irem_s_least_by_two_of_64 = refl

irem_u_least_by_two_of_64 : irem_u 64 9223372036854775808 2 ≡ Ok 0
irem_u_least_by_two_of_64 = refl

idiv_s_greatest_by_minus_one_of_64 : idiv_s 64 9223372036854775807 18446744073709551615 ≡ Ok 9223372036854775809
idiv_s_greatest_by_minus_one_of_64 = refl

idiv_u_greatest_by_minus_one_of_64 : idiv_u 64 9223372036854775807 18446744073709551615 ≡ Ok 0
idiv_u_greatest_by_minus_one_of_64 = refl

irem_s_greatest_by_minus_one_of_64 : irem_s 64 9223372036854775807 18446744073709551615 ≡ Ok 0
irem_s_greatest_by_minus_one_of_64 = refl

irem_u_greatest_by_minus_one_of_64 : irem_u 64 9223372036854775807 18446744073709551615 ≡ Ok 9223372036854775807
irem_u_greatest_by_minus_one_of_64 = refl

idiv_s_least_by_greatest_of_64 : idiv_s 64 9223372036854775808 9223372036854775807 ≡ Ok 18446744073709551615
idiv_s_least_by_greatest_of_64 = refl

idiv_u_least_by_greatest_of_64 : idiv_u 64 9223372036854775808 9223372036854775807 ≡ Ok 1
idiv_u_least_by_greatest_of_64 = refl

irem_s_least_by_greatest_of_64 : irem_s 64 9223372036854775808 9223372036854775807 ≡ Ok 18446744073709551615
irem_s_least_by_greatest_of_64 = refl

irem_u_least_by_greatest_of_64 : irem_u 64 9223372036854775808 9223372036854775807 ≡ Ok 1
irem_u_least_by_greatest_of_64 = refl

iclz_zero_of_64 : iclz 64 0 ≡ 64
unfolding ibits leading
iclz_zero_of_64 = refl

ictz_zero_of_64 : ictz 64 0 ≡ 64
unfolding ibits leading
ictz_zero_of_64 = refl

ipopcnt_zero_of_64 : ipopcnt 64 0 ≡ 0
unfolding ibits leading
ipopcnt_zero_of_64 = refl

iclz_one_of_64 : iclz 64 1 ≡ 63
unfolding ibits leading
iclz_one_of_64 = refl

ictz_one_of_64 : ictz 64 1 ≡ 0
unfolding ibits leading
ictz_one_of_64 = refl

ipopcnt_one_of_64 : ipopcnt 64 1 ≡ 1
unfolding ibits leading
ipopcnt_one_of_64 = refl

iclz_minus_one_of_64 : iclz 64 18446744073709551615 ≡ 0
unfolding ibits leading
iclz_minus_one_of_64 = refl

ictz_minus_one_of_64 : ictz 64 18446744073709551615 ≡ 0
unfolding ibits leading
ictz_minus_one_of_64 = refl

ipopcnt_minus_one_of_64 : ipopcnt 64 18446744073709551615 ≡ 64
unfolding ibits leading
ipopcnt_minus_one_of_64 = refl

iclz_least_of_64 : iclz 64 9223372036854775808 ≡ 0
unfolding ibits leading
iclz_least_of_64 = refl

ictz_least_of_64 : ictz 64 9223372036854775808 ≡ 63
unfolding ibits leading
ictz_least_of_64 = refl

ipopcnt_least_of_64 : ipopcnt 64 9223372036854775808 ≡ 1
unfolding ibits leading
ipopcnt_least_of_64 = refl

iclz_greatest_of_64 : iclz 64 9223372036854775807 ≡ 1
unfolding ibits leading
iclz_greatest_of_64 = refl

ictz_greatest_of_64 : ictz 64 9223372036854775807 ≡ 0
unfolding ibits leading
ictz_greatest_of_64 = refl

ipopcnt_greatest_of_64 : ipopcnt 64 9223372036854775807 ≡ 63
unfolding ibits leading
ipopcnt_greatest_of_64 = refl

iclz_low_half_of_64 : iclz 64 4294967296 ≡ 31
unfolding ibits leading
iclz_low_half_of_64 = refl

ictz_low_half_of_64 : ictz 64 4294967296 ≡ 32
unfolding ibits leading
ictz_low_half_of_64 = refl

ipopcnt_low_half_of_64 : ipopcnt 64 4294967296 ≡ 1
unfolding ibits leading
ipopcnt_low_half_of_64 = refl

iclz_mixed_of_64 : iclz 64 15733248 ≡ 40
unfolding ibits leading
iclz_mixed_of_64 = refl

ictz_mixed_of_64 : ictz 64 15733248 ≡ 9
unfolding ibits leading
ictz_mixed_of_64 = refl

ipopcnt_mixed_of_64 : ipopcnt 64 15733248 ≡ 6
unfolding ibits leading
ipopcnt_mixed_of_64 = refl

iand_mixed_of_64 : iand 64 12379718583590344312 18302870782469996799 ≡ 12249958112517161080
iand_mixed_of_64 = refl

ior_mixed_of_64 : ior 64 12379718583590344312 18302870782469996799 ≡ 18432631253543180031
ior_mixed_of_64 = refl

ixor_mixed_of_64 : ixor 64 12379718583590344312 18302870782469996799 ≡ 6182673141026018951
ixor_mixed_of_64 = refl

iand_with_ones_of_64 : iand 64 12379718583590344312 18446744073709551615 ≡ 12379718583590344312
iand_with_ones_of_64 = refl

ixor_with_itself_of_64 : ixor 64 12379718583590344312 12379718583590344312 ≡ 0
ixor_with_itself_of_64 = refl

ior_with_zero_of_64 : ior 64 0 12379718583590344312 ≡ 12379718583590344312
ior_with_zero_of_64 = refl

ishl_by_zero_of_64 : ishl 64 12379718583590344312 0 ≡ 12379718583590344312
ishl_by_zero_of_64 = refl

ishr_u_by_zero_of_64 : ishr_u 64 12379718583590344312 0 ≡ 12379718583590344312
ishr_u_by_zero_of_64 = refl

ishr_s_by_zero_of_64 : ishr_s 64 12379718583590344312 0 ≡ 12379718583590344312
ishr_s_by_zero_of_64 = refl

irotl_by_zero_of_64 : irotl 64 12379718583590344312 0 ≡ 12379718583590344312
irotl_by_zero_of_64 = refl

irotr_by_zero_of_64 : irotr 64 12379718583590344312 0 ≡ 12379718583590344312
irotr_by_zero_of_64 = refl

ishl_by_one_of_64 : ishl 64 12379718583590344312 1 ≡ 6312693093471137008
ishl_by_one_of_64 = refl

ishr_u_by_one_of_64 : ishr_u 64 12379718583590344312 1 ≡ 6189859291795172156
ishr_u_by_one_of_64 = refl

ishr_s_by_one_of_64 : ishr_s 64 12379718583590344312 1 ≡ 15413231328649947964
ishr_s_by_one_of_64 = refl

irotl_by_one_of_64 : irotl 64 12379718583590344312 1 ≡ 6312693093471137009
irotl_by_one_of_64 = refl

irotr_by_one_of_64 : irotr 64 12379718583590344312 1 ≡ 6189859291795172156
irotr_by_one_of_64 = refl

ishl_by_the_last_of_64 : ishl 64 12379718583590344312 63 ≡ 0
ishl_by_the_last_of_64 = refl

ishr_u_by_the_last_of_64 : ishr_u 64 12379718583590344312 63 ≡ 1
ishr_u_by_the_last_of_64 = refl

ishr_s_by_the_last_of_64 : ishr_s 64 12379718583590344312 63 ≡ 18446744073709551615
ishr_s_by_the_last_of_64 = refl

irotl_by_the_last_of_64 : irotl 64 12379718583590344312 63 ≡ 6189859291795172156
irotl_by_the_last_of_64 = refl

irotr_by_the_last_of_64 : irotr 64 12379718583590344312 63 ≡ 6312693093471137009
irotr_by_the_last_of_64 = refl

ishl_by_the_width_of_64 : ishl 64 12379718583590344312 64 ≡ 12379718583590344312
ishl_by_the_width_of_64 = refl

ishr_u_by_the_width_of_64 : ishr_u 64 12379718583590344312 64 ≡ 12379718583590344312
ishr_u_by_the_width_of_64 = refl

ishr_s_by_the_width_of_64 : ishr_s 64 12379718583590344312 64 ≡ 12379718583590344312
ishr_s_by_the_width_of_64 = refl

irotl_by_the_width_of_64 : irotl 64 12379718583590344312 64 ≡ 12379718583590344312
irotl_by_the_width_of_64 = refl

irotr_by_the_width_of_64 : irotr 64 12379718583590344312 64 ≡ 12379718583590344312
irotr_by_the_width_of_64 = refl

ishl_past_the_width_of_64 : ishl 64 12379718583590344312 68 ≡ 13608056600349992832
ishl_past_the_width_of_64 = refl

ishr_u_past_the_width_of_64 : ishr_u 64 12379718583590344312 68 ≡ 773732411474396519
ishr_u_past_the_width_of_64 = refl

ishr_s_past_the_width_of_64 : ishr_s 64 12379718583590344312 68 ≡ 18067554980577101159
ishr_s_past_the_width_of_64 = refl

irotl_past_the_width_of_64 : irotl 64 12379718583590344312 68 ≡ 13608056600349992842
irotl_past_the_width_of_64 = refl

irotr_past_the_width_of_64 : irotr 64 12379718583590344312 68 ≡ 9997104448329172327
irotr_past_the_width_of_64 = refl

ishl_by_minus_one_of_64 : ishl 64 12379718583590344312 18446744073709551615 ≡ 0
ishl_by_minus_one_of_64 = refl

ishr_u_by_minus_one_of_64 : ishr_u 64 12379718583590344312 18446744073709551615 ≡ 1
ishr_u_by_minus_one_of_64 = refl

ishr_s_by_minus_one_of_64 : ishr_s 64 12379718583590344312 18446744073709551615 ≡ 18446744073709551615
ishr_s_by_minus_one_of_64 = refl

irotl_by_minus_one_of_64 : irotl 64 12379718583590344312 18446744073709551615 ≡ 6189859291795172156
irotl_by_minus_one_of_64 = refl

irotr_by_minus_one_of_64 : irotr 64 12379718583590344312 18446744073709551615 ≡ 6312693093471137009
irotr_by_minus_one_of_64 = refl

ishl_of_minus_one_of_64 : ishl 64 18446744073709551615 5 ≡ 18446744073709551584
ishl_of_minus_one_of_64 = refl

ishr_u_of_minus_one_of_64 : ishr_u 64 18446744073709551615 5 ≡ 576460752303423487
ishr_u_of_minus_one_of_64 = refl

ishr_s_of_minus_one_of_64 : ishr_s 64 18446744073709551615 5 ≡ 18446744073709551615
ishr_s_of_minus_one_of_64 = refl

irotl_of_minus_one_of_64 : irotl 64 18446744073709551615 5 ≡ 18446744073709551615
irotl_of_minus_one_of_64 = refl

irotr_of_minus_one_of_64 : irotr 64 18446744073709551615 5 ≡ 18446744073709551615
irotr_of_minus_one_of_64 = refl

ishl_of_positive_of_64 : ishl 64 9223372036854775807 3 ≡ 18446744073709551608
ishl_of_positive_of_64 = refl

ishr_u_of_positive_of_64 : ishr_u 64 9223372036854775807 3 ≡ 1152921504606846975
ishr_u_of_positive_of_64 = refl

ishr_s_of_positive_of_64 : ishr_s 64 9223372036854775807 3 ≡ 1152921504606846975
ishr_s_of_positive_of_64 = refl

irotl_of_positive_of_64 : irotl 64 9223372036854775807 3 ≡ 18446744073709551611
irotl_of_positive_of_64 = refl

irotr_of_positive_of_64 : irotr 64 9223372036854775807 3 ≡ 17293822569102704639
irotr_of_positive_of_64 = refl

ishl_of_least_of_64 : ishl 64 9223372036854775808 63 ≡ 0
ishl_of_least_of_64 = refl

ishr_u_of_least_of_64 : ishr_u 64 9223372036854775808 63 ≡ 1
ishr_u_of_least_of_64 = refl

ishr_s_of_least_of_64 : ishr_s 64 9223372036854775808 63 ≡ 18446744073709551615
ishr_s_of_least_of_64 = refl

irotl_of_least_of_64 : irotl 64 9223372036854775808 63 ≡ 4611686018427387904
irotl_of_least_of_64 = refl

irotr_of_least_of_64 : irotr 64 9223372036854775808 63 ≡ 1
irotr_of_least_of_64 = refl

ieqz_zero_of_64 : ieqz 64 0 ≡ 1
ieqz_zero_of_64 = refl

ieqz_least_of_64 : ieqz 64 9223372036854775808 ≡ 0
ieqz_least_of_64 = refl

ieq_same_of_64 : ieq 64 12379718583590344312 12379718583590344312 ≡ 1
ieq_same_of_64 = refl

ine_same_of_64 : ine 64 12379718583590344312 12379718583590344312 ≡ 0
ine_same_of_64 = refl

ilt_s_same_of_64 : ilt_s 64 12379718583590344312 12379718583590344312 ≡ 0
ilt_s_same_of_64 = refl

ilt_u_same_of_64 : ilt_u 64 12379718583590344312 12379718583590344312 ≡ 0
ilt_u_same_of_64 = refl

igt_s_same_of_64 : igt_s 64 12379718583590344312 12379718583590344312 ≡ 0
igt_s_same_of_64 = refl

igt_u_same_of_64 : igt_u 64 12379718583590344312 12379718583590344312 ≡ 0
igt_u_same_of_64 = refl

ile_s_same_of_64 : ile_s 64 12379718583590344312 12379718583590344312 ≡ 1
ile_s_same_of_64 = refl

ile_u_same_of_64 : ile_u 64 12379718583590344312 12379718583590344312 ≡ 1
ile_u_same_of_64 = refl

ige_s_same_of_64 : ige_s 64 12379718583590344312 12379718583590344312 ≡ 1
ige_s_same_of_64 = refl

ige_u_same_of_64 : ige_u 64 12379718583590344312 12379718583590344312 ≡ 1
ige_u_same_of_64 = refl

ieq_zero_and_one_of_64 : ieq 64 0 1 ≡ 0
ieq_zero_and_one_of_64 = refl

ine_zero_and_one_of_64 : ine 64 0 1 ≡ 1
ine_zero_and_one_of_64 = refl

ilt_s_zero_and_one_of_64 : ilt_s 64 0 1 ≡ 1
ilt_s_zero_and_one_of_64 = refl

ilt_u_zero_and_one_of_64 : ilt_u 64 0 1 ≡ 1
ilt_u_zero_and_one_of_64 = refl

igt_s_zero_and_one_of_64 : igt_s 64 0 1 ≡ 0
igt_s_zero_and_one_of_64 = refl

igt_u_zero_and_one_of_64 : igt_u 64 0 1 ≡ 0
igt_u_zero_and_one_of_64 = refl

ile_s_zero_and_one_of_64 : ile_s 64 0 1 ≡ 1
ile_s_zero_and_one_of_64 = refl

ile_u_zero_and_one_of_64 : ile_u 64 0 1 ≡ 1
ile_u_zero_and_one_of_64 = refl

ige_s_zero_and_one_of_64 : ige_s 64 0 1 ≡ 0
ige_s_zero_and_one_of_64 = refl

ige_u_zero_and_one_of_64 : ige_u 64 0 1 ≡ 0
ige_u_zero_and_one_of_64 = refl

ieq_minus_one_and_zero_of_64 : ieq 64 18446744073709551615 0 ≡ 0
ieq_minus_one_and_zero_of_64 = refl

ine_minus_one_and_zero_of_64 : ine 64 18446744073709551615 0 ≡ 1
ine_minus_one_and_zero_of_64 = refl

ilt_s_minus_one_and_zero_of_64 : ilt_s 64 18446744073709551615 0 ≡ 1
ilt_s_minus_one_and_zero_of_64 = refl

ilt_u_minus_one_and_zero_of_64 : ilt_u 64 18446744073709551615 0 ≡ 0
ilt_u_minus_one_and_zero_of_64 = refl

igt_s_minus_one_and_zero_of_64 : igt_s 64 18446744073709551615 0 ≡ 0
igt_s_minus_one_and_zero_of_64 = refl

igt_u_minus_one_and_zero_of_64 : igt_u 64 18446744073709551615 0 ≡ 1
igt_u_minus_one_and_zero_of_64 = refl

ile_s_minus_one_and_zero_of_64 : ile_s 64 18446744073709551615 0 ≡ 1
ile_s_minus_one_and_zero_of_64 = refl

ile_u_minus_one_and_zero_of_64 : ile_u 64 18446744073709551615 0 ≡ 0
ile_u_minus_one_and_zero_of_64 = refl

ige_s_minus_one_and_zero_of_64 : ige_s 64 18446744073709551615 0 ≡ 0
ige_s_minus_one_and_zero_of_64 = refl

ige_u_minus_one_and_zero_of_64 : ige_u 64 18446744073709551615 0 ≡ 1
ige_u_minus_one_and_zero_of_64 = refl

ieq_least_and_greatest_of_64 : ieq 64 9223372036854775808 9223372036854775807 ≡ 0
ieq_least_and_greatest_of_64 = refl

ine_least_and_greatest_of_64 : ine 64 9223372036854775808 9223372036854775807 ≡ 1
ine_least_and_greatest_of_64 = refl

ilt_s_least_and_greatest_of_64 : ilt_s 64 9223372036854775808 9223372036854775807 ≡ 1
ilt_s_least_and_greatest_of_64 = refl

ilt_u_least_and_greatest_of_64 : ilt_u 64 9223372036854775808 9223372036854775807 ≡ 0
ilt_u_least_and_greatest_of_64 = refl

igt_s_least_and_greatest_of_64 : igt_s 64 9223372036854775808 9223372036854775807 ≡ 0
igt_s_least_and_greatest_of_64 = refl

igt_u_least_and_greatest_of_64 : igt_u 64 9223372036854775808 9223372036854775807 ≡ 1
igt_u_least_and_greatest_of_64 = refl

ile_s_least_and_greatest_of_64 : ile_s 64 9223372036854775808 9223372036854775807 ≡ 1
ile_s_least_and_greatest_of_64 = refl

ile_u_least_and_greatest_of_64 : ile_u 64 9223372036854775808 9223372036854775807 ≡ 0
ile_u_least_and_greatest_of_64 = refl

ige_s_least_and_greatest_of_64 : ige_s 64 9223372036854775808 9223372036854775807 ≡ 0
ige_s_least_and_greatest_of_64 = refl

ige_u_least_and_greatest_of_64 : ige_u 64 9223372036854775808 9223372036854775807 ≡ 1
ige_u_least_and_greatest_of_64 = refl

ieq_minus_two_and_minus_one_of_64 : ieq 64 18446744073709551614 18446744073709551615 ≡ 0
ieq_minus_two_and_minus_one_of_64 = refl

ine_minus_two_and_minus_one_of_64 : ine 64 18446744073709551614 18446744073709551615 ≡ 1
ine_minus_two_and_minus_one_of_64 = refl

ilt_s_minus_two_and_minus_one_of_64 : ilt_s 64 18446744073709551614 18446744073709551615 ≡ 1
ilt_s_minus_two_and_minus_one_of_64 = refl

ilt_u_minus_two_and_minus_one_of_64 : ilt_u 64 18446744073709551614 18446744073709551615 ≡ 1
ilt_u_minus_two_and_minus_one_of_64 = refl

igt_s_minus_two_and_minus_one_of_64 : igt_s 64 18446744073709551614 18446744073709551615 ≡ 0
igt_s_minus_two_and_minus_one_of_64 = refl

igt_u_minus_two_and_minus_one_of_64 : igt_u 64 18446744073709551614 18446744073709551615 ≡ 0
igt_u_minus_two_and_minus_one_of_64 = refl

ile_s_minus_two_and_minus_one_of_64 : ile_s 64 18446744073709551614 18446744073709551615 ≡ 1
ile_s_minus_two_and_minus_one_of_64 = refl

ile_u_minus_two_and_minus_one_of_64 : ile_u 64 18446744073709551614 18446744073709551615 ≡ 1
ile_u_minus_two_and_minus_one_of_64 = refl

ige_s_minus_two_and_minus_one_of_64 : ige_s 64 18446744073709551614 18446744073709551615 ≡ 0
ige_s_minus_two_and_minus_one_of_64 = refl

ige_u_minus_two_and_minus_one_of_64 : ige_u 64 18446744073709551614 18446744073709551615 ≡ 0
ige_u_minus_two_and_minus_one_of_64 = refl

iextend_8_greatest_of_64 : iextend_s 8 64 127 ≡ 127
iextend_8_greatest_of_64 = refl

iextend_8_least_of_64 : iextend_s 8 64 128 ≡ 18446744073709551488
iextend_8_least_of_64 = refl

iextend_8_minus_one_of_64 : iextend_s 8 64 255 ≡ 18446744073709551615
iextend_8_minus_one_of_64 = refl

iextend_8_with_more_above_of_64 : iextend_s 8 64 9223372036854776065 ≡ 1
iextend_8_with_more_above_of_64 = refl

iextend_16_greatest_of_64 : iextend_s 16 64 32767 ≡ 32767
iextend_16_greatest_of_64 = refl

iextend_16_least_of_64 : iextend_s 16 64 32768 ≡ 18446744073709518848
iextend_16_least_of_64 = refl

iextend_16_minus_one_of_64 : iextend_s 16 64 65535 ≡ 18446744073709551615
iextend_16_minus_one_of_64 = refl

iextend_16_with_more_above_of_64 : iextend_s 16 64 9223372036854841345 ≡ 1
iextend_16_with_more_above_of_64 = refl

iextend_32_greatest_of_64 : iextend_s 32 64 2147483647 ≡ 2147483647
iextend_32_greatest_of_64 = refl

iextend_32_least_of_64 : iextend_s 32 64 2147483648 ≡ 18446744071562067968
iextend_32_least_of_64 = refl

iextend_32_minus_one_of_64 : iextend_s 32 64 4294967295 ≡ 18446744073709551615
iextend_32_minus_one_of_64 = refl

iextend_32_with_more_above_of_64 : iextend_s 32 64 9223372041149743105 ≡ 1
iextend_32_with_more_above_of_64 = refl
