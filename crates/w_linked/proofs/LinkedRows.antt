-- Each reduction reads an index through the lists of its instance: rows by computation.
use Rattle.std.proofs.Common.{refl}
use Rattle.w_linked.specs.Reading.{FunctionsAreRead, TablesAreRead, MemoriesAreRead, GlobalsAreRead, TagsAreRead, TypesAreRead}

-- functions
pub functions_read : FunctionsAreRead
functions_read = record {
  call = λ x i p s e vs c. refl;
  return_call = λ x i p s e vs c. refl;
  ref_func = λ x i p s e vs c. refl;
}

-- tables and element segments
pub tables_read : TablesAreRead
tables_read = record {
  call_indirect = λ y x i p s e vs c. refl;
  return_call_indirect = λ y x i p s e vs c. refl;
  table_get = λ x i p s e vs c. refl;
  table_set = λ x i p s e vs c. refl;
  table_init = λ y x i p s e vs c. refl;
  elem_drop = λ y i p s e vs c. refl;
  table_copy = λ x y i p s e vs c. refl;
  table_grow = λ x i p s e vs c. refl;
  table_size = λ x i p s e vs c. refl;
  table_fill = λ x i p s e vs c. refl;
}

-- memories and data segments
pub memories_read : MemoriesAreRead
memories_read = record {
  of_load = λ o arg i p s e vs c. refl;
  of_store = λ o arg i p s e vs c. refl;
  memory_size = λ x i p s e vs c. refl;
  memory_grow = λ x i p s e vs c. refl;
  memory_init = λ y x i p s e vs c. refl;
  data_drop = λ y i p s e vs c. refl;
  memory_copy = λ x y i p s e vs c. refl;
  memory_fill = λ x i p s e vs c. refl;
}

-- globals
pub globals_read : GlobalsAreRead
globals_read = record {
  global_get = λ x i p s e vs c. refl;
  global_set = λ x i p s e vs c. refl;
}

-- tags
pub tags_read : TagsAreRead
tags_read = record {
  suspend = λ x i p s e vs c. refl;
  resume = λ x hs i p s e vs c. refl;
  switch = λ x y i p s e vs c. refl;
}

-- types
pub types_read : TypesAreRead
types_read = record {
  ref_null = λ h i p s e vs c. refl;
  call_ref = λ y i p s e vs c. refl;
  return_call_ref = λ y i p s e vs c. refl;
  cont_new = λ x i p s e vs c. refl;
  cont_bind = λ x y i p s e vs c. refl;
  typed_block = λ k y b i p s e vs c. refl;
  if_else = λ y b d i p s e vs c. refl;
}
