-- Small tables, and what the definitions make of them.
use Rattle.std.proofs.Common.{◌≡◌, ℕ, List, [], ◌∷◌, Some, None, refl}
use Rattle.std.specs.Prelude.{pos, negsuc}
use Rattle.w_types.specs.declared.value.Value.{Value}
use Rattle.w_types.specs.declared.value.Value.TheVariants.{I32, I64, Null, Func}
use Rattle.w_tables.specs.Elements.{get, replaced, filled, copied, most_elements, grown}
use Rattle.w_tables.specs.Store.{Store, Table}
use Rattle.w_tables.specs.Operations.{add_table, add_global, table_size, table_get, table_set, table_fill, table_copy, table_init, table_grow, elem_drop, data_drop, bytes_at, global_set}

-- six elements, and three
abbrev six : List ℕ
six = 10 ∷ 11 ∷ 12 ∷ 13 ∷ 14 ∷ 15 ∷ []

abbrev three : List ℕ
three = 20 ∷ 21 ∷ 22 ∷ []

-- ## One element

the_first : get six 0 ≡ Some 10
the_first = refl

the_last : get six 5 ≡ Some 15
the_last = refl

none_past_the_end : get six 6 ≡ None
none_past_the_end = refl

the_last_is_set : replaced six 5 7 ≡ Some (10 ∷ 11 ∷ 12 ∷ 13 ∷ 14 ∷ 7 ∷ [])
the_last_is_set = refl

none_is_set_past_the_end : replaced six 6 7 ≡ None
none_is_set_past_the_end = refl

none_is_set_of_none : replaced {A = ℕ} [] 0 7 ≡ None
none_is_set_of_none = refl

-- ## Fills

filled_to_the_end : filled six 4 7 2 ≡ Some (10 ∷ 11 ∷ 12 ∷ 13 ∷ 7 ∷ 7 ∷ [])
filled_to_the_end = refl

filled_within : filled six 1 7 3 ≡ Some (10 ∷ 7 ∷ 7 ∷ 7 ∷ 14 ∷ 15 ∷ [])
filled_within = refl

nothing_is_filled_at_the_end : filled six 6 7 0 ≡ Some six
nothing_is_filled_at_the_end = refl

no_empty_fill_past_the_end : filled six 7 7 0 ≡ None
no_empty_fill_past_the_end = refl

no_fill_past_the_end : filled six 5 7 2 ≡ None
no_fill_past_the_end = refl

-- ## Copies within a table

copied_down : copied six six 0 2 3 ≡ Some (12 ∷ 13 ∷ 14 ∷ 13 ∷ 14 ∷ 15 ∷ [])
copied_down = refl

copied_up : copied six six 2 0 3 ≡ Some (10 ∷ 11 ∷ 10 ∷ 11 ∷ 12 ∷ 15 ∷ [])
copied_up = refl

copied_up_by_one : copied six six 1 0 5 ≡ Some (10 ∷ 10 ∷ 11 ∷ 12 ∷ 13 ∷ 14 ∷ [])
copied_up_by_one = refl

copied_down_by_one : copied six six 0 1 5 ≡ Some (11 ∷ 12 ∷ 13 ∷ 14 ∷ 15 ∷ 15 ∷ [])
copied_down_by_one = refl

copied_onto_itself : copied six six 3 3 3 ≡ Some six
copied_onto_itself = refl

-- ## Copies between tables, or from a segment

the_end_of_another : copied three six 1 4 2 ≡ Some (20 ∷ 14 ∷ 15 ∷ [])
the_end_of_another = refl

the_whole_of_another : copied six three 3 0 3 ≡ Some (10 ∷ 11 ∷ 12 ∷ 20 ∷ 21 ∷ 22 ∷ [])
the_whole_of_another = refl

nothing_to_the_end_from_the_end : copied three six 3 6 0 ≡ Some three
nothing_to_the_end_from_the_end = refl

no_empty_copy_to_past_the_end : copied three six 4 0 0 ≡ None
no_empty_copy_to_past_the_end = refl

no_empty_copy_from_past_the_end : copied three six 0 7 0 ≡ None
no_empty_copy_from_past_the_end = refl

no_copy_to_past_the_end : copied three six 2 0 2 ≡ None
no_copy_to_past_the_end = refl

no_copy_from_past_the_end : copied three six 0 5 2 ≡ None
no_copy_from_past_the_end = refl

-- ## Growing

grown_to_the_maximum : grown three (Some 5) 7 2 ≡ Some (20 ∷ 21 ∷ 22 ∷ 7 ∷ 7 ∷ [])
grown_to_the_maximum = refl

not_past_the_maximum : grown three (Some 5) 7 3 ≡ None
not_past_the_maximum = refl

grown_by_nothing : grown three (Some 3) 7 0 ≡ Some three
grown_by_nothing = refl

not_above_a_maximum_by_nothing : grown three (Some 2) 7 0 ≡ None
not_above_a_maximum_by_nothing = refl

not_past_the_limit : grown three None 7 1048574 ≡ None
not_past_the_limit = refl

not_past_the_limit_below_a_maximum : grown three (Some 4294967295) 7 1048574 ≡ None
not_past_the_limit_below_a_maximum = refl

the_limit : most_elements None ≡ 1048576
the_limit = refl

the_limit_below_a_maximum : most_elements (Some 1048577) ≡ 1048576
the_limit_below_a_maximum = refl

a_maximum_below_the_limit : most_elements (Some 1048575) ≡ 1048575
a_maximum_below_the_limit = refl

-- ## A store

-- with two tables, a global, and a segment of each kind
abbrev with_tables : List Table → Store
with_tables tables = record {
  functions = [];
  tables = tables;
  memories = [];
  globals = I64 5 ∷ [];
  tags = [];
  elems = (Func 3 ∷ Null ∷ []) ∷ [];
  datas = (1 ∷ 2 ∷ []) ∷ [];
}

abbrev two : List Value → List Value → Store
two a b = with_tables (record { elements = a; max = Some 3 } ∷ record { elements = b; max = None } ∷ [])

abbrev store : Store
store = two (I32 10 ∷ I32 11 ∷ []) (I32 20 ∷ I32 21 ∷ I32 22 ∷ [])

size_of_the_second : table_size store 1 ≡ 3
size_of_the_second = refl

element_of_the_second : table_get store 1 2 ≡ Some (I32 22)
element_of_the_second = refl

no_element_of_the_first : table_get store 0 2 ≡ None
no_element_of_the_first = refl

set_in_the_second : table_set store 1 0 Null ≡ (Some tt, two (I32 10 ∷ I32 11 ∷ []) (Null ∷ I32 21 ∷ I32 22 ∷ []))
unfolding table_set
set_in_the_second = refl

not_set_in_the_first : table_set store 0 2 Null ≡ (None, store)
unfolding table_set
not_set_in_the_first = refl

filled_in_the_first : table_fill store 0 0 Null 2 ≡ (Some tt, two (Null ∷ Null ∷ []) (I32 20 ∷ I32 21 ∷ I32 22 ∷ []))
unfolding table_fill
filled_in_the_first = refl

copied_from_the_second : table_copy store 0 1 0 1 2 ≡ (Some tt, two (I32 21 ∷ I32 22 ∷ []) (I32 20 ∷ I32 21 ∷ I32 22 ∷ []))
unfolding table_copy
copied_from_the_second = refl

copied_from_the_first : table_copy store 1 0 1 0 2 ≡ (Some tt, two (I32 10 ∷ I32 11 ∷ []) (I32 20 ∷ I32 10 ∷ I32 11 ∷ []))
unfolding table_copy
copied_from_the_first = refl

copied_within_the_second : table_copy store 1 1 1 0 2 ≡ (Some tt, two (I32 10 ∷ I32 11 ∷ []) (I32 20 ∷ I32 20 ∷ I32 21 ∷ []))
unfolding table_copy
copied_within_the_second = refl

not_copied_past_the_first : table_copy store 0 1 1 0 2 ≡ (None, store)
unfolding table_copy
not_copied_past_the_first = refl

not_copied_from_past_the_first : table_copy store 1 0 0 1 2 ≡ (None, store)
unfolding table_copy
not_copied_from_past_the_first = refl

the_segment_in_the_second : table_init store 1 0 1 0 2 ≡ (Some tt, two (I32 10 ∷ I32 11 ∷ []) (I32 20 ∷ Func 3 ∷ Null ∷ []))
unfolding table_init
the_segment_in_the_second = refl

nothing_of_a_dropped_segment : table_init (elem_drop store 0) 1 0 3 0 0 ≡ (Some tt, elem_drop store 0)
unfolding table_init
nothing_of_a_dropped_segment = refl

no_element_of_a_dropped_segment : table_init (elem_drop store 0) 1 0 0 0 1 ≡ (None, elem_drop store 0)
unfolding table_init
no_element_of_a_dropped_segment = refl

the_first_is_grown : table_grow store 0 Null 1 ≡ (pos 2, two (I32 10 ∷ I32 11 ∷ Null ∷ []) (I32 20 ∷ I32 21 ∷ I32 22 ∷ []))
unfolding table_grow
the_first_is_grown = refl

the_first_has_a_maximum : table_grow store 0 Null 2 ≡ (negsuc 0, store)
unfolding table_grow
the_first_has_a_maximum = refl

the_second_has_a_limit : table_grow store 1 Null 1048574 ≡ (negsuc 0, store)
unfolding table_grow
the_second_has_a_limit = refl

a_third_table : add_table store 1 None Null ≡ (2, record store { tables = record { elements = I32 10 ∷ I32 11 ∷ []; max = Some 3 } ∷ record { elements = I32 20 ∷ I32 21 ∷ I32 22 ∷ []; max = None } ∷ record { elements = Null ∷ []; max = None } ∷ [] })
unfolding add_table
a_third_table = refl

a_second_global : add_global store (I32 1) ≡ (1, record store { globals = I64 5 ∷ I32 1 ∷ [] })
unfolding add_global
a_second_global = refl

a_global_is_set : global_set store 0 (I32 1) ≡ record store { globals = I32 1 ∷ [] }
a_global_is_set = refl

the_bytes_of_a_segment : bytes_at store.datas (Some 0) ≡ 1 ∷ 2 ∷ []
the_bytes_of_a_segment = refl

no_bytes_of_no_segment : bytes_at store.datas None ≡ []
no_bytes_of_no_segment = refl

no_bytes_of_a_dropped_segment : bytes_at (data_drop store 0).datas (Some 0) ≡ []
no_bytes_of_a_dropped_segment = refl
