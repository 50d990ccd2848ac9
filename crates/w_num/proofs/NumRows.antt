-- The definitions at edge values: 0, 1, -1, the least and the greatest number of 32 bits, counts at and past the width, and quotients of
-- both signs. The values were computed apart from the definitions. `WideRows.antt` has those of 64 bits.
use Rattle.std.proofs.Common.{◌≡◌, Ok, Err, refl, pos, negsuc}
use Rattle.w_num.specs.declared.fault.NumFault.TheVariants.{DivZero, Overflow}
use Rattle.w_num.specs.Signed.{signed, inverse}
use Rattle.w_num.specs.Arithmetic.{iadd, isub, imul}
use Rattle.w_num.specs.Division.{idiv_u, idiv_s, irem_u, irem_s}
use Rattle.w_num.specs.Bits.{ibits, leading, iclz, ictz, ipopcnt, iand, ior, ixor}
use Rattle.w_num.specs.Shifts.{ishl, ishr_u, ishr_s, irotl, irotr}
use Rattle.w_num.specs.Comparisons.{ieqz, ieq, ine, ilt_u, ilt_s, igt_u, igt_s, ile_u, ile_s, ige_u, ige_s}
use Rattle.w_num.specs.Conversions.{wrap, extend_u, extend_s, iextend_s}

signed_zero_of_32 : signed 32 0 ≡ pos 0
signed_zero_of_32 = refl

inverse_zero_of_32 : inverse 32 (pos 0) ≡ 0
inverse_zero_of_32 = refl

signed_one_of_32 : signed 32 1 ≡ pos 1
signed_one_of_32 = refl

inverse_one_of_32 : inverse 32 (pos 1) ≡ 1
inverse_one_of_32 = refl

signed_minus_one_of_32 : signed 32 4294967295 ≡ negsuc 0
signed_minus_one_of_32 = refl

inverse_minus_one_of_32 : inverse 32 (negsuc 0) ≡ 4294967295
inverse_minus_one_of_32 = refl

signed_greatest_of_32 : signed 32 2147483647 ≡ pos 2147483647
signed_greatest_of_32 = refl

inverse_greatest_of_32 : inverse 32 (pos 2147483647) ≡ 2147483647
inverse_greatest_of_32 = refl

signed_least_of_32 : signed 32 2147483648 ≡ negsuc 2147483647
signed_least_of_32 = refl

inverse_least_of_32 : inverse 32 (negsuc 2147483647) ≡ 2147483648
inverse_least_of_32 = refl

iadd_past_the_greatest_of_32 : iadd 32 4294967295 2 ≡ 1
iadd_past_the_greatest_of_32 = refl

iadd_small_of_32 : iadd 32 40 2 ≡ 42
iadd_small_of_32 = refl

isub_below_zero_of_32 : isub 32 0 1 ≡ 4294967295
isub_below_zero_of_32 = refl

isub_of_itself_of_32 : isub 32 2147483648 2147483648 ≡ 0
isub_of_itself_of_32 = refl

isub_small_of_32 : isub 32 44 2 ≡ 42
isub_small_of_32 = refl

imul_minus_ones_of_32 : imul 32 4294967295 4294967295 ≡ 1
imul_minus_ones_of_32 = refl

imul_least_by_two_of_32 : imul 32 2147483648 2 ≡ 0
imul_least_by_two_of_32 = refl

imul_small_of_32 : imul 32 6 7 ≡ 42
imul_small_of_32 = refl

idiv_s_by_zero_of_32 : idiv_s 32 7 0 ≡ Err DivZero
idiv_s_by_zero_of_32 = refl

idiv_u_by_zero_of_32 : idiv_u 32 7 0 ≡ Err DivZero
idiv_u_by_zero_of_32 = refl

irem_s_by_zero_of_32 : irem_s 32 7 0 ≡ Err DivZero
irem_s_by_zero_of_32 = refl

irem_u_by_zero_of_32 : irem_u 32 7 0 ≡ Err DivZero
irem_u_by_zero_of_32 = refl

idiv_s_of_zero_by_zero_of_32 : idiv_s 32 0 0 ≡ Err DivZero
idiv_s_of_zero_by_zero_of_32 = refl

idiv_u_of_zero_by_zero_of_32 : idiv_u 32 0 0 ≡ Err DivZero
idiv_u_of_zero_by_zero_of_32 = refl

irem_s_of_zero_by_zero_of_32 : irem_s 32 0 0 ≡ Err DivZero
irem_s_of_zero_by_zero_of_32 = refl

irem_u_of_zero_by_zero_of_32 : irem_u 32 0 0 ≡ Err DivZero
irem_u_of_zero_by_zero_of_32 = refl

idiv_s_least_by_minus_one_of_32 : idiv_s 32 2147483648 4294967295 ≡ Err Overflow
idiv_s_least_by_minus_one_of_32 = refl

idiv_u_least_by_minus_one_of_32 : idiv_u 32 2147483648 4294967295 ≡ Ok 0
idiv_u_least_by_minus_one_of_32 = refl

irem_s_least_by_minus_one_of_32 : irem_s 32 2147483648 4294967295 ≡ Ok 0
irem_s_least_by_minus_one_of_32 = refl

irem_u_least_by_minus_one_of_32 : irem_u 32 2147483648 4294967295 ≡ Ok 2147483648
irem_u_least_by_minus_one_of_32 = refl

idiv_s_least_by_one_of_32 : idiv_s 32 2147483648 1 ≡ Ok 2147483648
idiv_s_least_by_one_of_32 = refl

idiv_u_least_by_one_of_32 : idiv_u 32 2147483648 1 ≡ Ok 2147483648
idiv_u_least_by_one_of_32 = refl

irem_s_least_by_one_of_32 : irem_s 32 2147483648 1 ≡ Ok 0
irem_s_least_by_one_of_32 = refl

irem_u_least_by_one_of_32 : irem_u 32 2147483648 1 ≡ Ok 0
irem_u_least_by_one_of_32 = refl

idiv_s_seven_by_two_of_32 : idiv_s 32 7 2 ≡ Ok 3
idiv_s_seven_by_two_of_32 = refl

idiv_u_seven_by_two_of_32 : idiv_u 32 7 2 ≡ Ok 3
idiv_u_seven_by_two_of_32 = refl

irem_s_seven_by_two_of_32 : irem_s 32 7 2 ≡ Ok 1
irem_s_seven_by_two_of_32 = refl

irem_u_seven_by_two_of_32 : irem_u 32 7 2 ≡ Ok 1
irem_u_seven_by_two_of_32 = refl

idiv_s_minus_seven_by_two_of_32 : idiv_s 32 4294967289 2 ≡ Ok 4294967293
idiv_s_minus_seven_by_two_of_32 = refl

idiv_u_minus_seven_by_two_of_32 : idiv_u 32 4294967289 2 ≡ Ok 2147483644
idiv_u_minus_seven_by_two_of_32 = refl

irem_s_minus_seven_by_two_of_32 : irem_s 32 4294967289 2 ≡ Ok 4294967295
irem_s_minus_seven_by_two_of_32 = refl

irem_u_minus_seven_by_two_of_32 : irem_u 32 4294967289 2 ≡ Ok 1
irem_u_minus_seven_by_two_of_32 = refl

idiv_s_seven_by_minus_two_of_32 : idiv_s 32 7 4294967294 ≡ Ok 4294967293
idiv_s_seven_by_minus_two_of_32 = refl

idiv_u_seven_by_minus_two_of_32 : idiv_u 32 7 4294967294 ≡ Ok 0
idiv_u_seven_by_minus_two_of_32 = refl

irem_s_seven_by_minus_two_of_32 : irem_s 32 7 4294967294 ≡ Ok 1
irem_s_seven_by_minus_two_of_32 = refl

irem_u_seven_by_minus_two_of_32 : irem_u 32 7 4294967294 ≡ Ok 7
irem_u_seven_by_minus_two_of_32 = refl

idiv_s_minus_seven_by_minus_two_of_32 : idiv_s 32 4294967289 4294967294 ≡ Ok 3
idiv_s_minus_seven_by_minus_two_of_32 = refl

idiv_u_minus_seven_by_minus_two_of_32 : idiv_u 32 4294967289 4294967294 ≡ Ok 0
idiv_u_minus_seven_by_minus_two_of_32 = refl

irem_s_minus_seven_by_minus_two_of_32 : irem_s 32 4294967289 4294967294 ≡ Ok 4294967295
irem_s_minus_seven_by_minus_two_of_32 = refl

irem_u_minus_seven_by_minus_two_of_32 : irem_u 32 4294967289 4294967294 ≡ Ok 4294967289
irem_u_minus_seven_by_minus_two_of_32 = refl

idiv_s_minus_one_by_two_of_32 : idiv_s 32 4294967295 2 ≡ Ok 0
idiv_s_minus_one_by_two_of_32 = refl

idiv_u_minus_one_by_two_of_32 : idiv_u 32 4294967295 2 ≡ Ok 2147483647
idiv_u_minus_one_by_two_of_32 = refl

irem_s_minus_one_by_two_of_32 : irem_s 32 4294967295 2 ≡ Ok 4294967295
irem_s_minus_one_by_two_of_32 = refl

irem_u_minus_one_by_two_of_32 : irem_u 32 4294967295 2 ≡ Ok 1
irem_u_minus_one_by_two_of_32 = refl

idiv_s_least_by_least_of_32 : idiv_s 32 2147483648 2147483648 ≡ Ok 1
idiv_s_least_by_least_of_32 = refl

idiv_u_least_by_least_of_32 : idiv_u 32 2147483648 2147483648 ≡ Ok 1
idiv_u_least_by_least_of_32 = refl

irem_s_least_by_least_of_32 : irem_s 32 2147483648 2147483648 ≡ Ok 0
irem_s_least_by_least_of_32 = refl

irem_u_least_by_least_of_32 : irem_u 32 2147483648 2147483648 ≡ Ok 0
irem_u_least_by_least_of_32 = refl

idiv_s_least_by_two_of_32 : idiv_s 32 2147483648 2 ≡ Ok 3221225472
idiv_s_least_by_two_of_32 = refl

idiv_u_least_by_two_of_32 : idiv_u 32 2147483648 2 ≡ Ok 1073741824
idiv_u_least_by_two_of_32 = refl

irem_s_least_by_two_of_32 : irem_s 32 2147483648 2 ≡ Ok 0
irem_s_least_by_two_of_32 = refl

irem_u_least_by_two_of_32 : irem_u 32 2147483648 2 ≡ Ok 0
irem_u_least_by_two_of_32 = refl

idiv_s_greatest_by_minus_one_of_32 : idiv_s 32 2147483647 4294967295 ≡ Ok 2147483649
idiv_s_greatest_by_minus_one_of_32 = refl

idiv_u_greatest_by_minus_one_of_32 : idiv_u 32 2147483647 4294967295 ≡ Ok 0
idiv_u_greatest_by_minus_one_of_32 = refl

irem_s_greatest_by_minus_one_of_32 : irem_s 32 2147483647 4294967295 ≡ Ok 0
irem_s_greatest_by_minus_one_of_32 = refl

irem_u_greatest_by_minus_one_of_32 : irem_u 32 2147483647 4294967295 ≡ Ok 2147483647
irem_u_greatest_by_minus_one_of_32 = refl

idiv_s_least_by_greatest_of_32 : idiv_s 32 2147483648 2147483647 ≡ Ok 4294967295
idiv_s_least_by_greatest_of_32 = refl

idiv_u_least_by_greatest_of_32 : idiv_u 32 2147483648 2147483647 ≡ Ok 1
idiv_u_least_by_greatest_of_32 = refl

irem_s_least_by_greatest_of_32 : irem_s 32 2147483648 2147483647 ≡ Ok 4294967295
irem_s_least_by_greatest_of_32 = refl

irem_u_least_by_greatest_of_32 : irem_u 32 2147483648 2147483647 ≡ Ok 1
irem_u_least_by_greatest_of_32 = refl

iclz_zero_of_32 : iclz 32 0 ≡ 32
unfolding ibits leading
iclz_zero_of_32 = refl

ictz_zero_of_32 : ictz 32 0 ≡ 32
unfolding ibits leading
ictz_zero_of_32 = refl

ipopcnt_zero_of_32 : ipopcnt 32 0 ≡ 0
unfolding ibits leading
ipopcnt_zero_of_32 = refl

iclz_one_of_32 : iclz 32 1 ≡ 31
unfolding ibits leading
iclz_one_of_32 = refl

ictz_one_of_32 : ictz 32 1 ≡ 0
unfolding ibits leading
ictz_one_of_32 = refl

ipopcnt_one_of_32 : ipopcnt 32 1 ≡ 1
unfolding ibits leading
ipopcnt_one_of_32 = refl

iclz_minus_one_of_32 : iclz 32 4294967295 ≡ 0
unfolding ibits leading
iclz_minus_one_of_32 = refl

ictz_minus_one_of_32 : ictz 32 4294967295 ≡ 0
unfolding ibits leading
ictz_minus_one_of_32 = refl

ipopcnt_minus_one_of_32 : ipopcnt 32 4294967295 ≡ 32
unfolding ibits leading
ipopcnt_minus_one_of_32 = refl

iclz_least_of_32 : iclz 32 2147483648 ≡ 0
unfolding ibits leading
iclz_least_of_32 = refl

ictz_least_of_32 : ictz 32 2147483648 ≡ 31
unfolding ibits leading
ictz_least_of_32 = refl

ipopcnt_least_of_32 : ipopcnt 32 2147483648 ≡ 1
unfolding ibits leading
ipopcnt_least_of_32 = refl

iclz_greatest_of_32 : iclz 32 2147483647 ≡ 1
unfolding ibits leading
iclz_greatest_of_32 = refl

ictz_greatest_of_32 : ictz 32 2147483647 ≡ 0
unfolding ibits leading
ictz_greatest_of_32 = refl

ipopcnt_greatest_of_32 : ipopcnt 32 2147483647 ≡ 31
unfolding ibits leading
ipopcnt_greatest_of_32 = refl

iclz_low_half_of_32 : iclz 32 65536 ≡ 15
unfolding ibits leading
iclz_low_half_of_32 = refl

ictz_low_half_of_32 : ictz 32 65536 ≡ 16
unfolding ibits leading
ictz_low_half_of_32 = refl

ipopcnt_low_half_of_32 : ipopcnt 32 65536 ≡ 1
unfolding ibits leading
ipopcnt_low_half_of_32 = refl

iclz_mixed_of_32 : iclz 32 15733248 ≡ 8
unfolding ibits leading
iclz_mixed_of_32 = refl

ictz_mixed_of_32 : ictz 32 15733248 ≡ 9
unfolding ibits leading
ictz_mixed_of_32 = refl

ipopcnt_mixed_of_32 : ipopcnt 32 15733248 ≡ 6
unfolding ibits leading
ipopcnt_mixed_of_32 = refl

iand_mixed_of_32 : iand 32 2882377846 4261469184 ≡ 2852165632
iand_mixed_of_32 = refl

ior_mixed_of_32 : ior 32 2882377846 4261469184 ≡ 4291681398
ior_mixed_of_32 = refl

ixor_mixed_of_32 : ixor 32 2882377846 4261469184 ≡ 1439515766
ixor_mixed_of_32 = refl

iand_with_ones_of_32 : iand 32 2882377846 4294967295 ≡ 2882377846
iand_with_ones_of_32 = refl

ixor_with_itself_of_32 : ixor 32 2882377846 2882377846 ≡ 0
ixor_with_itself_of_32 = refl

ior_with_zero_of_32 : ior 32 0 2882377846 ≡ 2882377846
ior_with_zero_of_32 = refl

ishl_by_zero_of_32 : ishl 32 2882377846 0 ≡ 2882377846
ishl_by_zero_of_32 = refl

ishr_u_by_zero_of_32 : ishr_u 32 2882377846 0 ≡ 2882377846
ishr_u_by_zero_of_32 = refl

ishr_s_by_zero_of_32 : ishr_s 32 2882377846 0 ≡ 2882377846
ishr_s_by_zero_of_32 = refl

irotl_by_zero_of_32 : irotl 32 2882377846 0 ≡ 2882377846
irotl_by_zero_of_32 = refl

irotr_by_zero_of_32 : irotr 32 2882377846 0 ≡ 2882377846
irotr_by_zero_of_32 = refl

ishl_by_one_of_32 : ishl 32 2882377846 1 ≡ 1469788396
ishl_by_one_of_32 = refl

ishr_u_by_one_of_32 : ishr_u 32 2882377846 1 ≡ 1441188923
ishr_u_by_one_of_32 = refl

ishr_s_by_one_of_32 : ishr_s 32 2882377846 1 ≡ 3588672571
ishr_s_by_one_of_32 = refl

irotl_by_one_of_32 : irotl 32 2882377846 1 ≡ 1469788397
irotl_by_one_of_32 = refl

irotr_by_one_of_32 : irotr 32 2882377846 1 ≡ 1441188923
irotr_by_one_of_32 = refl

ishl_by_the_last_of_32 : ishl 32 2882377846 31 ≡ 0
ishl_by_the_last_of_32 = refl

ishr_u_by_the_last_of_32 : ishr_u 32 2882377846 31 ≡ 1
ishr_u_by_the_last_of_32 = refl

ishr_s_by_the_last_of_32 : ishr_s 32 2882377846 31 ≡ 4294967295
ishr_s_by_the_last_of_32 = refl

irotl_by_the_last_of_32 : irotl 32 2882377846 31 ≡ 1441188923
irotl_by_the_last_of_32 = refl

irotr_by_the_last_of_32 : irotr 32 2882377846 31 ≡ 1469788397
irotr_by_the_last_of_32 = refl

ishl_by_the_width_of_32 : ishl 32 2882377846 32 ≡ 2882377846
ishl_by_the_width_of_32 = refl

ishr_u_by_the_width_of_32 : ishr_u 32 2882377846 32 ≡ 2882377846
ishr_u_by_the_width_of_32 = refl

ishr_s_by_the_width_of_32 : ishr_s 32 2882377846 32 ≡ 2882377846
ishr_s_by_the_width_of_32 = refl

irotl_by_the_width_of_32 : irotl 32 2882377846 32 ≡ 2882377846
irotl_by_the_width_of_32 = refl

irotr_by_the_width_of_32 : irotr 32 2882377846 32 ≡ 2882377846
irotr_by_the_width_of_32 = refl

ishl_past_the_width_of_32 : ishl 32 2882377846 36 ≡ 3168372576
ishl_past_the_width_of_32 = refl

ishr_u_past_the_width_of_32 : ishr_u 32 2882377846 36 ≡ 180148615
ishr_u_past_the_width_of_32 = refl

ishr_s_past_the_width_of_32 : ishr_s 32 2882377846 36 ≡ 4206680455
ishr_s_past_the_width_of_32 = refl

irotl_past_the_width_of_32 : irotl 32 2882377846 36 ≡ 3168372586
irotl_past_the_width_of_32 = refl

irotr_past_the_width_of_32 : irotr 32 2882377846 36 ≡ 1790761351
irotr_past_the_width_of_32 = refl

ishl_by_minus_one_of_32 : ishl 32 2882377846 4294967295 ≡ 0
ishl_by_minus_one_of_32 = refl

ishr_u_by_minus_one_of_32 : ishr_u 32 2882377846 4294967295 ≡ 1
ishr_u_by_minus_one_of_32 = refl

ishr_s_by_minus_one_of_32 : ishr_s 32 2882377846 4294967295 ≡ 4294967295
ishr_s_by_minus_one_of_32 = refl

irotl_by_minus_one_of_32 : irotl 32 2882377846 4294967295 ≡ 1441188923
irotl_by_minus_one_of_32 = refl

irotr_by_minus_one_of_32 : irotr 32 2882377846 4294967295 ≡ 1469788397
irotr_by_minus_one_of_32 = refl

ishl_of_minus_one_of_32 : ishl 32 4294967295 5 ≡ 4294967264
ishl_of_minus_one_of_32 = refl

ishr_u_of_minus_one_of_32 : ishr_u 32 4294967295 5 ≡ 134217727
ishr_u_of_minus_one_of_32 = refl

ishr_s_of_minus_one_of_32 : ishr_s 32 4294967295 5 ≡ 4294967295
ishr_s_of_minus_one_of_32 = refl

irotl_of_minus_one_of_32 : irotl 32 4294967295 5 ≡ 4294967295
irotl_of_minus_one_of_32 = refl

irotr_of_minus_one_of_32 : irotr 32 4294967295 5 ≡ 4294967295
irotr_of_minus_one_of_32 = refl

ishl_of_positive_of_32 : ishl 32 2147483647 3 ≡ 4294967288
ishl_of_positive_of_32 = refl

ishr_u_of_positive_of_32 : ishr_u 32 2147483647 3 ≡ 268435455
ishr_u_of_positive_of_32 = refl

ishr_s_of_positive_of_32 : ishr_s 32 2147483647 3 ≡ 268435455
ishr_s_of_positive_of_32 = refl

irotl_of_positive_of_32 : irotl 32 2147483647 3 ≡ 4294967291
irotl_of_positive_of_32 = refl

irotr_of_positive_of_32 : irotr 32 2147483647 3 ≡ 4026531839
irotr_of_positive_of_32 = refl

ishl_of_least_of_32 : ishl 32 2147483648 31 ≡ 0
ishl_of_least_of_32 = refl

ishr_u_of_least_of_32 : ishr_u 32 2147483648 31 ≡ 1
ishr_u_of_least_of_32 = refl

ishr_s_of_least_of_32 : ishr_s 32 2147483648 31 ≡ 4294967295
ishr_s_of_least_of_32 = refl

irotl_of_least_of_32 : irotl 32 2147483648 31 ≡ 1073741824
irotl_of_least_of_32 = refl

irotr_of_least_of_32 : irotr 32 2147483648 31 ≡ 1
irotr_of_least_of_32 = refl

ieqz_zero_of_32 : ieqz 32 0 ≡ 1
ieqz_zero_of_32 = refl

ieqz_least_of_32 : ieqz 32 2147483648 ≡ 0
ieqz_least_of_32 = refl

ieq_same_of_32 : ieq 32 2882377846 2882377846 ≡ 1
ieq_same_of_32 = refl

ine_same_of_32 : ine 32 2882377846 2882377846 ≡ 0
ine_same_of_32 = refl

ilt_s_same_of_32 : ilt_s 32 2882377846 2882377846 ≡ 0
ilt_s_same_of_32 = refl

ilt_u_same_of_32 : ilt_u 32 2882377846 2882377846 ≡ 0
ilt_u_same_of_32 = refl

igt_s_same_of_32 : igt_s 32 2882377846 2882377846 ≡ 0
igt_s_same_of_32 = refl

igt_u_same_of_32 : igt_u 32 2882377846 2882377846 ≡ 0
igt_u_same_of_32 = refl

ile_s_same_of_32 : ile_s 32 2882377846 2882377846 ≡ 1
ile_s_same_of_32 = refl

ile_u_same_of_32 : ile_u 32 2882377846 2882377846 ≡ 1
ile_u_same_of_32 = refl

ige_s_same_of_32 : ige_s 32 2882377846 2882377846 ≡ 1
ige_s_same_of_32 = refl

ige_u_same_of_32 : ige_u 32 2882377846 2882377846 ≡ 1
ige_u_same_of_32 = refl

ieq_zero_and_one_of_32 : ieq 32 0 1 ≡ 0
ieq_zero_and_one_of_32 = refl

ine_zero_and_one_of_32 : ine 32 0 1 ≡ 1
ine_zero_and_one_of_32 = refl

ilt_s_zero_and_one_of_32 : ilt_s 32 0 1 ≡ 1
ilt_s_zero_and_one_of_32 = refl

ilt_u_zero_and_one_of_32 : ilt_u 32 0 1 ≡ 1
ilt_u_zero_and_one_of_32 = refl

igt_s_zero_and_one_of_32 : igt_s 32 0 1 ≡ 0
igt_s_zero_and_one_of_32 = refl

igt_u_zero_and_one_of_32 : igt_u 32 0 1 ≡ 0
igt_u_zero_and_one_of_32 = refl

ile_s_zero_and_one_of_32 : ile_s 32 0 1 ≡ 1
ile_s_zero_and_one_of_32 = refl

ile_u_zero_and_one_of_32 : ile_u 32 0 1 ≡ 1
ile_u_zero_and_one_of_32 = refl

ige_s_zero_and_one_of_32 : ige_s 32 0 1 ≡ 0
ige_s_zero_and_one_of_32 = refl

ige_u_zero_and_one_of_32 : ige_u 32 0 1 ≡ 0
ige_u_zero_and_one_of_32 = refl

ieq_minus_one_and_zero_of_32 : ieq 32 4294967295 0 ≡ 0
ieq_minus_one_and_zero_of_32 = refl

ine_minus_one_and_zero_of_32 : ine 32 4294967295 0 ≡ 1
ine_minus_one_and_zero_of_32 = refl

ilt_s_minus_one_and_zero_of_32 : ilt_s 32 4294967295 0 ≡ 1
ilt_s_minus_one_and_zero_of_32 = refl

ilt_u_minus_one_and_zero_of_32 : ilt_u 32 4294967295 0 ≡ 0
ilt_u_minus_one_and_zero_of_32 = refl

igt_s_minus_one_and_zero_of_32 : igt_s 32 4294967295 0 ≡ 0
igt_s_minus_one_and_zero_of_32 = refl

igt_u_minus_one_and_zero_of_32 : igt_u 32 4294967295 0 ≡ 1
igt_u_minus_one_and_zero_of_32 = refl

ile_s_minus_one_and_zero_of_32 : ile_s 32 4294967295 0 ≡ 1
ile_s_minus_one_and_zero_of_32 = refl

ile_u_minus_one_and_zero_of_32 : ile_u 32 4294967295 0 ≡ 0
ile_u_minus_one_and_zero_of_32 = refl

ige_s_minus_one_and_zero_of_32 : ige_s 32 4294967295 0 ≡ 0
ige_s_minus_one_and_zero_of_32 = refl

ige_u_minus_one_and_zero_of_32 : ige_u 32 4294967295 0 ≡ 1
ige_u_minus_one_and_zero_of_32 = refl

ieq_least_and_greatest_of_32 : ieq 32 2147483648 2147483647 ≡ 0
ieq_least_and_greatest_of_32 = refl

ine_least_and_greatest_of_32 : ine 32 2147483648 2147483647 ≡ 1
ine_least_and_greatest_of_32 = refl

ilt_s_least_and_greatest_of_32 : ilt_s 32 2147483648 2147483647 ≡ 1
ilt_s_least_and_greatest_of_32 = refl

ilt_u_least_and_greatest_of_32 : ilt_u 32 2147483648 2147483647 ≡ 0
ilt_u_least_and_greatest_of_32 = refl

igt_s_least_and_greatest_of_32 : igt_s 32 2147483648 2147483647 ≡ 0
igt_s_least_and_greatest_of_32 = refl

igt_u_least_and_greatest_of_32 : igt_u 32 2147483648 2147483647 ≡ 1
igt_u_least_and_greatest_of_32 = refl

ile_s_least_and_greatest_of_32 : ile_s 32 2147483648 2147483647 ≡ 1
ile_s_least_and_greatest_of_32 = refl

ile_u_least_and_greatest_of_32 : ile_u 32 2147483648 2147483647 ≡ 0
ile_u_least_and_greatest_of_32 = refl

ige_s_least_and_greatest_of_32 : ige_s 32 2147483648 2147483647 ≡ 0
ige_s_least_and_greatest_of_32 = refl

ige_u_least_and_greatest_of_32 : ige_u 32 2147483648 2147483647 ≡ 1
ige_u_least_and_greatest_of_32 = refl

ieq_minus_two_and_minus_one_of_32 : ieq 32 4294967294 4294967295 ≡ 0
ieq_minus_two_and_minus_one_of_32 = refl

ine_minus_two_and_minus_one_of_32 : ine 32 4294967294 4294967295 ≡ 1
ine_minus_two_and_minus_one_of_32 = refl

ilt_s_minus_two_and_minus_one_of_32 : ilt_s 32 4294967294 4294967295 ≡ 1
ilt_s_minus_two_and_minus_one_of_32 = refl

ilt_u_minus_two_and_minus_one_of_32 : ilt_u 32 4294967294 4294967295 ≡ 1
ilt_u_minus_two_and_minus_one_of_32 = refl

igt_s_minus_two_and_minus_one_of_32 : igt_s 32 4294967294 4294967295 ≡ 0
igt_s_minus_two_and_minus_one_of_32 = refl

igt_u_minus_two_and_minus_one_of_32 : igt_u 32 4294967294 4294967295 ≡ 0
igt_u_minus_two_and_minus_one_of_32 = refl

ile_s_minus_two_and_minus_one_of_32 : ile_s 32 4294967294 4294967295 ≡ 1
ile_s_minus_two_and_minus_one_of_32 = refl

ile_u_minus_two_and_minus_one_of_32 : ile_u 32 4294967294 4294967295 ≡ 1
ile_u_minus_two_and_minus_one_of_32 = refl

ige_s_minus_two_and_minus_one_of_32 : ige_s 32 4294967294 4294967295 ≡ 0
ige_s_minus_two_and_minus_one_of_32 = refl

ige_u_minus_two_and_minus_one_of_32 : ige_u 32 4294967294 4294967295 ≡ 0
ige_u_minus_two_and_minus_one_of_32 = refl

iextend_8_greatest_of_32 : iextend_s 8 32 127 ≡ 127
iextend_8_greatest_of_32 = refl

iextend_8_least_of_32 : iextend_s 8 32 128 ≡ 4294967168
iextend_8_least_of_32 = refl

iextend_8_minus_one_of_32 : iextend_s 8 32 255 ≡ 4294967295
iextend_8_minus_one_of_32 = refl

iextend_8_with_more_above_of_32 : iextend_s 8 32 2147483905 ≡ 1
iextend_8_with_more_above_of_32 = refl

iextend_16_greatest_of_32 : iextend_s 16 32 32767 ≡ 32767
iextend_16_greatest_of_32 = refl

iextend_16_least_of_32 : iextend_s 16 32 32768 ≡ 4294934528
iextend_16_least_of_32 = refl

iextend_16_minus_one_of_32 : iextend_s 16 32 65535 ≡ 4294967295
iextend_16_minus_one_of_32 = refl

iextend_16_with_more_above_of_32 : iextend_s 16 32 2147549185 ≡ 1
iextend_16_with_more_above_of_32 = refl

wrap_of_64 : wrap 64 32 1311768467463790320 ≡ 2596069104
wrap_of_64 = refl

wrap_two_to_the_32 : wrap 64 32 4294967296 ≡ 0
wrap_two_to_the_32 = refl

extend_u_minus_one : extend_u 32 64 4294967295 ≡ 4294967295
extend_u_minus_one = refl

extend_s_minus_one : extend_s 32 64 4294967295 ≡ 18446744073709551615
extend_s_minus_one = refl

extend_s_least : extend_s 32 64 2147483648 ≡ 18446744071562067968
extend_s_least = refl

extend_s_greatest : extend_s 32 64 2147483647 ≡ 2147483647
extend_s_greatest = refl
