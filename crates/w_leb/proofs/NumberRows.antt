-- What numbers are spelled by, computed by the definitions. The examples are those of LEB128 in DWARF, and the least and greatest
-- numbers of each width.
use Rattle.std.proofs.Common.{◌≡◌, [], ◌∷◌, Some, None, refl, pos, negsuc}
use Rattle.w_leb.specs.Number.{unsigned, signed, shortest, shortest_in, shortest_signed, signed_in}

-- ## Unsigned numbers: a spelling, the number, and what stands behind

unsigned_one_byte : unsigned 32 (0x03 ∷ []) ≡ Some (3, [])
unfolding unsigned
unsigned_one_byte = refl

unsigned_three_bytes : unsigned 32 (0xE5 ∷ 0x8E ∷ 0x26 ∷ []) ≡ Some (624485, [])
unfolding unsigned
unsigned_three_bytes = refl

unsigned_longer : unsigned 32 (0x83 ∷ 0x00 ∷ []) ≡ Some (3, [])
unfolding unsigned
unsigned_longer = refl

unsigned_of_five_bytes : unsigned 32 (0x83 ∷ 0x80 ∷ 0x80 ∷ 0x80 ∷ 0x00 ∷ []) ≡ Some (3, [])
unfolding unsigned
unsigned_of_five_bytes = refl

unsigned_greatest_of_32 : unsigned 32 (0xFF ∷ 0xFF ∷ 0xFF ∷ 0xFF ∷ 0x0F ∷ []) ≡ Some (4294967295, [])
unfolding unsigned
unsigned_greatest_of_32 = refl

unsigned_of_33_bits : unsigned 32 (0xFF ∷ 0xFF ∷ 0xFF ∷ 0xFF ∷ 0x1F ∷ []) ≡ None
unfolding unsigned
unsigned_of_33_bits = refl

unsigned_of_six_bytes : unsigned 32 (0x83 ∷ 0x80 ∷ 0x80 ∷ 0x80 ∷ 0x80 ∷ 0x00 ∷ []) ≡ None
unfolding unsigned
unsigned_of_six_bytes = refl

unsigned_without_end : unsigned 32 (0x83 ∷ []) ≡ None
unfolding unsigned
unsigned_without_end = refl

unsigned_before_another : unsigned 32 (0x01 ∷ 0x02 ∷ []) ≡ Some (1, 0x02 ∷ [])
unfolding unsigned
unsigned_before_another = refl

unsigned_nothing : unsigned 32 ([]) ≡ None
unfolding unsigned
unsigned_nothing = refl

unsigned_wide : unsigned 64 (0xE5 ∷ 0x8E ∷ 0x26 ∷ []) ≡ Some (624485, [])
unfolding unsigned
unsigned_wide = refl

unsigned_greatest_of_64 : unsigned 64 (0xFF ∷ 0xFF ∷ 0xFF ∷ 0xFF ∷ 0xFF ∷ 0xFF ∷ 0xFF ∷ 0xFF ∷ 0xFF ∷ 0x01 ∷ []) ≡ Some (18446744073709551615, [])
unfolding unsigned
unsigned_greatest_of_64 = refl

unsigned_of_65_bits : unsigned 64 (0xFF ∷ 0xFF ∷ 0xFF ∷ 0xFF ∷ 0xFF ∷ 0xFF ∷ 0xFF ∷ 0xFF ∷ 0xFF ∷ 0x02 ∷ []) ≡ None
unfolding unsigned
unsigned_of_65_bits = refl

-- ## Signed numbers

signed_two : signed 64 (0x02 ∷ []) ≡ Some (pos 2, [])
unfolding signed
signed_two = refl

signed_minus_two : signed 64 (0x7E ∷ []) ≡ Some (negsuc 1, [])
unfolding signed
signed_minus_two = refl

signed_minus_two_longer : signed 64 (0xFE ∷ 0xFF ∷ 0x7F ∷ []) ≡ Some (negsuc 1, [])
unfolding signed
signed_minus_two_longer = refl

signed_n127 : signed 64 (0xFF ∷ 0x00 ∷ []) ≡ Some (pos 127, [])
unfolding signed
signed_n127 = refl

signed_minus_127 : signed 64 (0x81 ∷ 0x7F ∷ []) ≡ Some (negsuc 126, [])
unfolding signed
signed_minus_127 = refl

signed_minus_123456 : signed 64 (0xC0 ∷ 0xBB ∷ 0x78 ∷ []) ≡ Some (negsuc 123455, [])
unfolding signed
signed_minus_123456 = refl

signed_least_of_64 : signed 64 (0x80 ∷ 0x80 ∷ 0x80 ∷ 0x80 ∷ 0x80 ∷ 0x80 ∷ 0x80 ∷ 0x80 ∷ 0x80 ∷ 0x7F ∷ []) ≡ Some (negsuc 9223372036854775807, [])
unfolding signed
signed_least_of_64 = refl

signed_past_64 : signed 64 (0x80 ∷ 0x80 ∷ 0x80 ∷ 0x80 ∷ 0x80 ∷ 0x80 ∷ 0x80 ∷ 0x80 ∷ 0x80 ∷ 0x7E ∷ []) ≡ None
unfolding signed
signed_past_64 = refl

signed_of_eleven_bytes : signed 64 (0x80 ∷ 0x80 ∷ 0x80 ∷ 0x80 ∷ 0x80 ∷ 0x80 ∷ 0x80 ∷ 0x80 ∷ 0x80 ∷ 0x80 ∷ 0x00 ∷ []) ≡ None
unfolding signed
signed_of_eleven_bytes = refl

signed_narrow : signed 32 (0xC0 ∷ 0xBB ∷ 0x78 ∷ []) ≡ Some (negsuc 123455, [])
unfolding signed
signed_narrow = refl

signed_narrow_longer : signed 32 (0xFE ∷ 0xFF ∷ 0x7F ∷ []) ≡ Some (negsuc 1, [])
unfolding signed
signed_narrow_longer = refl

signed_least_of_32 : signed 32 (0x80 ∷ 0x80 ∷ 0x80 ∷ 0x80 ∷ 0x78 ∷ []) ≡ Some (negsuc 2147483647, [])
unfolding signed
signed_least_of_32 = refl

signed_greatest_of_32 : signed 32 (0xFF ∷ 0xFF ∷ 0xFF ∷ 0xFF ∷ 0x07 ∷ []) ≡ Some (pos 2147483647, [])
unfolding signed
signed_greatest_of_32 = refl

signed_past_32 : signed 32 (0x80 ∷ 0x80 ∷ 0x80 ∷ 0x80 ∷ 0x70 ∷ []) ≡ None
unfolding signed
signed_past_32 = refl

signed_least_of_33 : signed 33 (0x80 ∷ 0x80 ∷ 0x80 ∷ 0x80 ∷ 0x70 ∷ []) ≡ Some (negsuc 4294967295, [])
unfolding signed
signed_least_of_33 = refl

signed_greatest_of_33 : signed 33 (0xFF ∷ 0xFF ∷ 0xFF ∷ 0xFF ∷ 0x0F ∷ []) ≡ Some (pos 4294967295, [])
unfolding signed
signed_greatest_of_33 = refl

signed_minus_64 : signed 33 (0x40 ∷ []) ≡ Some (negsuc 63, [])
unfolding signed
signed_minus_64 = refl

signed_past_33 : signed 33 (0xFF ∷ 0xFF ∷ 0xFF ∷ 0xFF ∷ 0x1F ∷ []) ≡ None
unfolding signed
signed_past_33 = refl

signed_of_six_bytes : signed 33 (0x83 ∷ 0x80 ∷ 0x80 ∷ 0x80 ∷ 0x80 ∷ 0x00 ∷ []) ≡ None
unfolding signed
signed_of_six_bytes = refl

-- ## The shortest spellings

shortest_127 : shortest 127 ≡ 0x7F ∷ []
unfolding shortest_in
shortest_127 = refl

shortest_128 : shortest 128 ≡ 0x80 ∷ 0x01 ∷ []
unfolding shortest_in
shortest_128 = refl

shortest_12857 : shortest 12857 ≡ 0xB9 ∷ 0x64 ∷ []
unfolding shortest_in
shortest_12857 = refl

shortest_greatest_of_32 : shortest 4294967295 ≡ 0xFF ∷ 0xFF ∷ 0xFF ∷ 0xFF ∷ 0x0F ∷ []
unfolding shortest_in
shortest_greatest_of_32 = refl

shortest_greatest_of_64 : shortest 18446744073709551615 ≡ 0xFF ∷ 0xFF ∷ 0xFF ∷ 0xFF ∷ 0xFF ∷ 0xFF ∷ 0xFF ∷ 0xFF ∷ 0xFF ∷ 0x01 ∷ []
unfolding shortest_in
shortest_greatest_of_64 = refl

shortest_signed_minus_two : shortest_signed (negsuc 1) ≡ 0x7E ∷ []
unfolding signed_in
shortest_signed_minus_two = refl

shortest_signed_127 : shortest_signed (pos 127) ≡ 0xFF ∷ 0x00 ∷ []
unfolding signed_in
shortest_signed_127 = refl

shortest_signed_minus_127 : shortest_signed (negsuc 126) ≡ 0x81 ∷ 0x7F ∷ []
unfolding signed_in
shortest_signed_minus_127 = refl

shortest_signed_128 : shortest_signed (pos 128) ≡ 0x80 ∷ 0x01 ∷ []
unfolding signed_in
shortest_signed_128 = refl

shortest_signed_minus_128 : shortest_signed (negsuc 127) ≡ 0x80 ∷ 0x7F ∷ []
unfolding signed_in
shortest_signed_minus_128 = refl

shortest_signed_minus_129 : shortest_signed (negsuc 128) ≡ 0xFF ∷ 0x7E ∷ []
unfolding signed_in
shortest_signed_minus_129 = refl

shortest_signed_least_of_32 : shortest_signed (negsuc 2147483647) ≡ 0x80 ∷ 0x80 ∷ 0x80 ∷ 0x80 ∷ 0x78 ∷ []
unfolding signed_in
shortest_signed_least_of_32 = refl

shortest_signed_greatest_of_32 : shortest_signed (pos 2147483647) ≡ 0xFF ∷ 0xFF ∷ 0xFF ∷ 0xFF ∷ 0x07 ∷ []
unfolding signed_in
shortest_signed_greatest_of_32 = refl

shortest_signed_least_of_33 : shortest_signed (negsuc 4294967295) ≡ 0x80 ∷ 0x80 ∷ 0x80 ∷ 0x80 ∷ 0x70 ∷ []
unfolding signed_in
shortest_signed_least_of_33 = refl

shortest_signed_greatest_of_33 : shortest_signed (pos 4294967295) ≡ 0xFF ∷ 0xFF ∷ 0xFF ∷ 0xFF ∷ 0x0F ∷ []
unfolding signed_in
shortest_signed_greatest_of_33 = refl

shortest_signed_least_of_64 : shortest_signed (negsuc 9223372036854775807) ≡ 0x80 ∷ 0x80 ∷ 0x80 ∷ 0x80 ∷ 0x80 ∷ 0x80 ∷ 0x80 ∷ 0x80 ∷ 0x80 ∷ 0x7F ∷ []
unfolding signed_in
shortest_signed_least_of_64 = refl

shortest_signed_greatest_of_64 : shortest_signed (pos 9223372036854775807) ≡ 0xFF ∷ 0xFF ∷ 0xFF ∷ 0xFF ∷ 0xFF ∷ 0xFF ∷ 0xFF ∷ 0xFF ∷ 0xFF ∷ 0x00 ∷ []
unfolding signed_in
shortest_signed_greatest_of_64 = refl
