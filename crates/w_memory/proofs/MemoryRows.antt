-- Small memories, and what the definitions make of them. The values were computed by hand or by another program.
use Rattle.std.proofs.Common.{◌≡◌, ℕ, List, [], ◌∷◌, Option, Some, None, refl}
use Rattle.std.specs.Prelude.{pos, negsuc}
use Rattle.w_memory.specs.Bytes.{bytes_of}
use Rattle.w_memory.specs.Memory.{Memory, fresh, load, store, fill, copy, init, grown, grow}

-- ten bytes
abbrev ten : Memory
ten = record { bytes = 1 ∷ 2 ∷ 3 ∷ 4 ∷ 5 ∷ 6 ∷ 7 ∷ 8 ∷ 9 ∷ 250 ∷ []; max = None }

-- a memory of six bytes, and one
abbrev six : List ℕ → Memory
six bs = record { bytes = bs; max = Some 3 }

abbrev before : Memory
before = six (10 ∷ 11 ∷ 12 ∷ 13 ∷ 14 ∷ 15 ∷ [])

-- ## Loads

a_byte : load ten 0 1 ≡ Some 1
unfolding load
a_byte = refl

the_lowest_byte_is_first : load ten 0 2 ≡ Some 513
unfolding load
the_lowest_byte_is_first = refl

four_bytes : load ten 1 4 ≡ Some 84148994
unfolding load
four_bytes = refl

eight_bytes : load ten 0 8 ≡ Some 578437695752307201
unfolding load
eight_bytes = refl

the_last_eight_bytes : load ten 2 8 ≡ Some 18016940610531165187
unfolding load
the_last_eight_bytes = refl

the_last_byte : load ten 9 1 ≡ Some 250
unfolding load
the_last_byte = refl

the_last_two_bytes : load ten 8 2 ≡ Some 64009
unfolding load
the_last_two_bytes = refl

one_byte_past_the_end : load ten 10 1 ≡ None
unfolding load
one_byte_past_the_end = refl

partly_past_the_end : load ten 9 2 ≡ None
unfolding load
partly_past_the_end = refl

far_past_the_end : load ten 18446744073709551615 8 ≡ None
unfolding load
far_past_the_end = refl

-- ## Stores

the_bytes_of_a_number : bytes_of 4 1234605616436508552 ≡ 136 ∷ 119 ∷ 102 ∷ 85 ∷ []
the_bytes_of_a_number = refl

all_the_bytes_of_a_number : bytes_of 8 1234605616436508552 ≡ 136 ∷ 119 ∷ 102 ∷ 85 ∷ 68 ∷ 51 ∷ 34 ∷ 17 ∷ []
all_the_bytes_of_a_number = refl

the_greatest_number : bytes_of 8 18446744073709551615 ≡ 255 ∷ 255 ∷ 255 ∷ 255 ∷ 255 ∷ 255 ∷ 255 ∷ 255 ∷ []
the_greatest_number = refl

a_low_byte_is_stored : store before 0 1 4660 ≡ Some (six (52 ∷ 11 ∷ 12 ∷ 13 ∷ 14 ∷ 15 ∷ []))
unfolding store
a_low_byte_is_stored = refl

two_low_bytes_are_stored : store before 3 2 74565 ≡ Some (six (10 ∷ 11 ∷ 12 ∷ 69 ∷ 35 ∷ 15 ∷ []))
unfolding store
two_low_bytes_are_stored = refl

the_last_four_bytes_are_stored : store before 2 4 1234605616436508552 ≡ Some (six (10 ∷ 11 ∷ 136 ∷ 119 ∷ 102 ∷ 85 ∷ []))
unfolding store
the_last_four_bytes_are_stored = refl

no_store_past_the_end : store before 3 4 0 ≡ None
unfolding store
no_store_past_the_end = refl

no_store_in_a_small_memory : store before 0 8 0 ≡ None
unfolding store
no_store_in_a_small_memory = refl

-- ## Fills

filled_to_the_end : fill before 4 7 2 ≡ Some (six (10 ∷ 11 ∷ 12 ∷ 13 ∷ 7 ∷ 7 ∷ []))
unfolding fill
filled_to_the_end = refl

filled_within : fill before 1 7 3 ≡ Some (six (10 ∷ 7 ∷ 7 ∷ 7 ∷ 14 ∷ 15 ∷ []))
unfolding fill
filled_within = refl

nothing_is_filled_at_the_end : fill before 6 7 0 ≡ Some before
unfolding fill
nothing_is_filled_at_the_end = refl

no_empty_fill_past_the_end : fill before 7 7 0 ≡ None
unfolding fill
no_empty_fill_past_the_end = refl

-- ## Copies

copied_down : copy before 0 2 3 ≡ Some (six (12 ∷ 13 ∷ 14 ∷ 13 ∷ 14 ∷ 15 ∷ []))
unfolding copy
copied_down = refl

copied_up : copy before 2 0 3 ≡ Some (six (10 ∷ 11 ∷ 10 ∷ 11 ∷ 12 ∷ 15 ∷ []))
unfolding copy
copied_up = refl

copied_up_by_one : copy before 1 0 5 ≡ Some (six (10 ∷ 10 ∷ 11 ∷ 12 ∷ 13 ∷ 14 ∷ []))
unfolding copy
copied_up_by_one = refl

copied_down_by_one : copy before 0 1 5 ≡ Some (six (11 ∷ 12 ∷ 13 ∷ 14 ∷ 15 ∷ 15 ∷ []))
unfolding copy
copied_down_by_one = refl

copied_onto_itself : copy before 3 3 3 ≡ Some before
unfolding copy
copied_onto_itself = refl

nothing_is_copied_to_the_end : copy before 6 0 0 ≡ Some before
unfolding copy
nothing_is_copied_to_the_end = refl

nothing_is_copied_from_the_end : copy before 0 6 0 ≡ Some before
unfolding copy
nothing_is_copied_from_the_end = refl

no_empty_copy_to_past_the_end : copy before 7 0 0 ≡ None
unfolding copy
no_empty_copy_to_past_the_end = refl

no_empty_copy_from_past_the_end : copy before 0 7 0 ≡ None
unfolding copy
no_empty_copy_from_past_the_end = refl

no_copy_to_past_the_end : copy before 4 0 3 ≡ None
unfolding copy
no_copy_to_past_the_end = refl

no_copy_from_past_the_end : copy before 0 4 3 ≡ None
unfolding copy
no_copy_from_past_the_end = refl

-- ## Data segments

the_end_of_a_segment : init before (1 ∷ 2 ∷ 3 ∷ []) 4 1 2 ≡ Some (six (10 ∷ 11 ∷ 12 ∷ 13 ∷ 2 ∷ 3 ∷ []))
unfolding init
the_end_of_a_segment = refl

no_empty_init_past_the_segment : init before (1 ∷ 2 ∷ 3 ∷ []) 0 4 0 ≡ None
unfolding init
no_empty_init_past_the_segment = refl

nothing_of_an_empty_segment : init before [] 6 0 0 ≡ Some before
unfolding init
nothing_of_an_empty_segment = refl

no_empty_init_past_the_end : init before (1 ∷ 2 ∷ 3 ∷ []) 7 0 0 ≡ None
unfolding init
no_empty_init_past_the_end = refl

no_init_past_the_segment : init before (1 ∷ 2 ∷ 3 ∷ []) 0 2 2 ≡ None
unfolding init
no_init_past_the_segment = refl

no_init_past_the_end : init before (1 ∷ 2 ∷ 3 ∷ []) 5 0 2 ≡ None
unfolding init
no_init_past_the_end = refl

-- ## Growing

-- a memory of no bytes
abbrev nothing : Option ℕ → Memory
nothing max = record { bytes = []; max = max }

no_pages : fresh 0 (Some 2) ≡ nothing (Some 2)
unfolding fresh
no_pages = refl

grown_by_nothing : grow (nothing (Some 0)) 0 ≡ (pos 0, nothing (Some 0))
unfolding grow grown
grown_by_nothing = refl

not_past_the_maximum : grow (nothing (Some 2)) 3 ≡ (negsuc 0, nothing (Some 2))
unfolding grow grown
not_past_the_maximum = refl

not_past_the_limit : grow (nothing None) 257 ≡ (negsuc 0, nothing None)
unfolding grow grown
not_past_the_limit = refl

not_past_the_limit_below_a_maximum : grow (nothing (Some 65536)) 257 ≡ (negsuc 0, nothing (Some 65536))
unfolding grow grown
not_past_the_limit_below_a_maximum = refl

grown_from_one_page : grow (fresh 1 (Some 2)) 1 ≡ (pos 1, fresh 2 (Some 2))
unfolding grow grown fresh
grown_from_one_page = refl

not_past_the_maximum_from_one_page : grow (fresh 1 (Some 2)) 2 ≡ (negsuc 0, fresh 1 (Some 2))
unfolding grow grown fresh
not_past_the_maximum_from_one_page = refl
