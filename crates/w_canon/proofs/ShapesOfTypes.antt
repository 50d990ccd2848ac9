-- The tests of types, told of their numbers.
use Rattle.std.proofs.Common.{◌≡◌, ℕ, ◌+◌, ◌*◌, ◌%◌, ◌<◌, Bool, true, false, not, ◌&&◌, ◌||◌, List, get_or, if◌then◌else◌, refl, sym, ap, ◌∙◌, arith}
use Rattle.std.specs.Prelude.{◌==◌}
use Rattle.std.specs.Bool.{beq}
use Rattle.w_types.specs.declared.types.HeapType.{HeapType}
use Rattle.w_types.specs.declared.types.HeapType.TheVariants as heap
use Rattle.w_types.specs.declared.types.ValType.{ValType}
use Rattle.w_types.specs.declared.types.ValType.TheVariants as val
use Rattle.w_types.specs.PackedTypes.{type_at, heap_kind, kind_of, heap_index, index_of}
use Rattle.w_canon.specs.declared.entry.Entry.{Entry}
use Rattle.w_canon.specs.declared.shape.TheConstants.{SHAPES}
use Rattle.w_canon.specs.declared.shape.Shape.{Shape}
use Rattle.w_canon.specs.declared.shape.Shape.TheVariants.{I32, I64}
use Rattle.w_canon.specs.Tests.{same_test, heap_test, val_test, heap_same_test, val_same_test}
use Rattle.w_canon.specs.Shapes.{heap_shape, shape_of, null_test, shapes_test}

-- ## Matching

-- heap types match by their shapes
heap_by_shape : (es : List Entry) (h g : HeapType) → heap_test es h g ≡ shapes_test es (heap_shape h) (heap_index h) (heap_shape g) (heap_index g)
heap_by_shape es heap.Func heap.Func = refl
heap_by_shape es heap.Func g = refl
heap_by_shape es heap.NoFunc heap.Func = refl
heap_by_shape es heap.NoFunc g = refl
heap_by_shape es heap.Cont heap.Func = refl
heap_by_shape es heap.Cont g = refl
heap_by_shape es heap.NoCont heap.Func = refl
heap_by_shape es heap.NoCont g = refl
heap_by_shape es (heap.Index x) heap.Func = refl
heap_by_shape es (heap.Index x) g = refl

-- a number is of no reference's shape
i32_apart : (es : List Entry) (h : HeapType) (x y : ℕ) → shapes_test es I32 x (heap_shape h) y ≡ false
i32_apart es heap.Func x y = refl
i32_apart es h x y = refl

apart_i32 : (es : List Entry) (h : HeapType) (x y : ℕ) → shapes_test es (heap_shape h) x I32 y ≡ false
apart_i32 es heap.Func x y = refl
apart_i32 es h x y = refl

i64_apart : (es : List Entry) (h : HeapType) (x y : ℕ) → shapes_test es I64 x (heap_shape h) y ≡ false
i64_apart es heap.Func x y = refl
i64_apart es h x y = refl

apart_i64 : (es : List Entry) (h : HeapType) (x y : ℕ) → shapes_test es (heap_shape h) x I64 y ≡ false
apart_i64 es heap.Func x y = refl
apart_i64 es h x y = refl

-- the kind of a reference is even where it may be null
null_even : (h : HeapType) (n : Bool) → ((heap_kind h + (if n then 1 else 0)) % 2) == 0 ≡ n
null_even heap.Func true = refl
null_even heap.Func false = refl
null_even heap.NoFunc true = refl
null_even heap.NoFunc false = refl
null_even heap.Cont true = refl
null_even heap.Cont false = refl
null_even heap.NoCont true = refl
null_even heap.NoCont false = refl
null_even (heap.Index x) true = refl
null_even (heap.Index x) false = refl

-- and else odd
non_null_odd : (h : HeapType) (n : Bool) → ((heap_kind h + (if n then 1 else 0)) % 2) == 1 ≡ not n
non_null_odd heap.Func true = refl
non_null_odd heap.Func false = refl
non_null_odd heap.NoFunc true = refl
non_null_odd heap.NoFunc false = refl
non_null_odd heap.Cont true = refl
non_null_odd heap.Cont false = refl
non_null_odd heap.NoCont true = refl
non_null_odd heap.NoCont false = refl
non_null_odd (heap.Index x) true = refl
non_null_odd (heap.Index x) false = refl

-- a test that fails fails beside another
both_fail : (a b : Bool) → b ≡ false → false ≡ a && b
both_fail true b e = sym e
both_fail false b e = refl

-- types match by their numbers
pub val_by_shape : (es : List Entry) (t u : ValType) → val_test es t u ≡ null_test t u && shapes_test es (shape_of t) (index_of t) (shape_of u) (index_of u)
val_by_shape es val.I32 val.I32 = refl
val_by_shape es val.I32 val.I64 = refl
val_by_shape es val.I32 (val.Ref q) = both_fail (null_test val.I32 (val.Ref q)) _ (i32_apart es q.heap 0 (heap_index q.heap))
val_by_shape es val.I64 val.I32 = refl
val_by_shape es val.I64 val.I64 = refl
val_by_shape es val.I64 (val.Ref q) = both_fail (null_test val.I64 (val.Ref q)) _ (i64_apart es q.heap 0 (heap_index q.heap))
val_by_shape es (val.Ref r) val.I32 = both_fail (null_test (val.Ref r) val.I32) _ (apart_i32 es r.heap (heap_index r.heap) 0)
val_by_shape es (val.Ref r) val.I64 = both_fail (null_test (val.Ref r) val.I64) _ (apart_i64 es r.heap (heap_index r.heap) 0)
val_by_shape es (val.Ref r) (val.Ref q) =
    ap (λ (b : Bool). (not r.nullable || q.nullable) && b) (heap_by_shape es r.heap q.heap)
    ∙ ap (λ (b : Bool). (b || q.nullable) && shapes_test es (heap_shape r.heap) (heap_index r.heap) (heap_shape q.heap) (heap_index q.heap)) (sym (non_null_odd r.heap r.nullable))
    ∙ ap (λ (b : Bool). (((kind_of (val.Ref r) % 2) == 1) || b) && shapes_test es (heap_shape r.heap) (heap_index r.heap) (heap_shape q.heap) (heap_index q.heap)) (sym (null_even q.heap q.nullable))

-- ## Equality

-- references are equal by their numbers
equal_numbers : (es : List Entry) (n m : Bool) (h g : HeapType) → beq n m && heap_same_test es h g
    ≡ ((heap_kind h + (if n then 1 else 0)) == (heap_kind g + (if m then 1 else 0))) && same_test es (heap_index h) (heap_index g)
equal_numbers es true true heap.Func heap.Func = refl
equal_numbers es true true heap.Func g = refl
equal_numbers es true false heap.Func heap.Func = refl
equal_numbers es true false heap.Func g = refl
equal_numbers es false true heap.Func heap.Func = refl
equal_numbers es false true heap.Func g = refl
equal_numbers es false false heap.Func heap.Func = refl
equal_numbers es false false heap.Func g = refl
equal_numbers es true true heap.NoFunc heap.Func = refl
equal_numbers es true true heap.NoFunc g = refl
equal_numbers es true false heap.NoFunc heap.Func = refl
equal_numbers es true false heap.NoFunc g = refl
equal_numbers es false true heap.NoFunc heap.Func = refl
equal_numbers es false true heap.NoFunc g = refl
equal_numbers es false false heap.NoFunc heap.Func = refl
equal_numbers es false false heap.NoFunc g = refl
equal_numbers es true true heap.Cont heap.Func = refl
equal_numbers es true true heap.Cont g = refl
equal_numbers es true false heap.Cont heap.Func = refl
equal_numbers es true false heap.Cont g = refl
equal_numbers es false true heap.Cont heap.Func = refl
equal_numbers es false true heap.Cont g = refl
equal_numbers es false false heap.Cont heap.Func = refl
equal_numbers es false false heap.Cont g = refl
equal_numbers es true true heap.NoCont heap.Func = refl
equal_numbers es true true heap.NoCont g = refl
equal_numbers es true false heap.NoCont heap.Func = refl
equal_numbers es true false heap.NoCont g = refl
equal_numbers es false true heap.NoCont heap.Func = refl
equal_numbers es false true heap.NoCont g = refl
equal_numbers es false false heap.NoCont heap.Func = refl
equal_numbers es false false heap.NoCont g = refl
equal_numbers es true true (heap.Index x) heap.Func = refl
equal_numbers es true true (heap.Index x) g = refl
equal_numbers es true false (heap.Index x) heap.Func = refl
equal_numbers es true false (heap.Index x) g = refl
equal_numbers es false true (heap.Index x) heap.Func = refl
equal_numbers es false true (heap.Index x) g = refl
equal_numbers es false false (heap.Index x) heap.Func = refl
equal_numbers es false false (heap.Index x) g = refl

-- a reference's kind is of no number
i32_differs : (h : HeapType) (n : Bool) → 3 == (heap_kind h + (if n then 1 else 0)) ≡ false
i32_differs heap.Func true = refl
i32_differs heap.Func false = refl
i32_differs heap.NoFunc true = refl
i32_differs heap.NoFunc false = refl
i32_differs heap.Cont true = refl
i32_differs heap.Cont false = refl
i32_differs heap.NoCont true = refl
i32_differs heap.NoCont false = refl
i32_differs (heap.Index x) true = refl
i32_differs (heap.Index x) false = refl

differs_i32 : (h : HeapType) (n : Bool) → (heap_kind h + (if n then 1 else 0)) == 3 ≡ false
differs_i32 heap.Func true = refl
differs_i32 heap.Func false = refl
differs_i32 heap.NoFunc true = refl
differs_i32 heap.NoFunc false = refl
differs_i32 heap.Cont true = refl
differs_i32 heap.Cont false = refl
differs_i32 heap.NoCont true = refl
differs_i32 heap.NoCont false = refl
differs_i32 (heap.Index x) true = refl
differs_i32 (heap.Index x) false = refl

i64_differs : (h : HeapType) (n : Bool) → 4 == (heap_kind h + (if n then 1 else 0)) ≡ false
i64_differs heap.Func true = refl
i64_differs heap.Func false = refl
i64_differs heap.NoFunc true = refl
i64_differs heap.NoFunc false = refl
i64_differs heap.Cont true = refl
i64_differs heap.Cont false = refl
i64_differs heap.NoCont true = refl
i64_differs heap.NoCont false = refl
i64_differs (heap.Index x) true = refl
i64_differs (heap.Index x) false = refl

differs_i64 : (h : HeapType) (n : Bool) → (heap_kind h + (if n then 1 else 0)) == 4 ≡ false
differs_i64 heap.Func true = refl
differs_i64 heap.Func false = refl
differs_i64 heap.NoFunc true = refl
differs_i64 heap.NoFunc false = refl
differs_i64 heap.Cont true = refl
differs_i64 heap.Cont false = refl
differs_i64 heap.NoCont true = refl
differs_i64 heap.NoCont false = refl
differs_i64 (heap.Index x) true = refl
differs_i64 (heap.Index x) false = refl

-- a test that fails fails before another
first_fails : (a b : Bool) → a ≡ false → false ≡ a && b
first_fails true b e = absurd (cc)
first_fails false b e = refl

-- types are equal by their numbers
pub val_same_by_numbers : (es : List Entry) (t u : ValType) → val_same_test es t u ≡ (kind_of t == kind_of u) && same_test es (index_of t) (index_of u)
val_same_by_numbers es val.I32 val.I32 = refl
val_same_by_numbers es val.I32 val.I64 = refl
val_same_by_numbers es val.I32 (val.Ref q) = first_fails _ (same_test es 0 (heap_index q.heap)) (i32_differs q.heap q.nullable)
val_same_by_numbers es val.I64 val.I32 = refl
val_same_by_numbers es val.I64 val.I64 = refl
val_same_by_numbers es val.I64 (val.Ref q) = first_fails _ (same_test es 0 (heap_index q.heap)) (i64_differs q.heap q.nullable)
val_same_by_numbers es (val.Ref r) val.I32 = first_fails _ (same_test es (heap_index r.heap) 0) (differs_i32 r.heap r.nullable)
val_same_by_numbers es (val.Ref r) val.I64 = first_fails _ (same_test es (heap_index r.heap) 0) (differs_i64 r.heap r.nullable)
val_same_by_numbers es (val.Ref r) (val.Ref q) = equal_numbers es r.nullable q.nullable r.heap q.heap

-- ## Two tests

-- where the first of two tests passes, the second decides
pub second_decides : (n s t r k : Bool) → t ≡ n && s → k ≡ n → k ≡ true → r ≡ s → r ≡ t
second_decides true s t r k e f g h = h ∙ sym e
second_decides false s t r k e f g h = absurd (cc)

-- where it fails, both do
pub both_decided : (n s t r : Bool) → t ≡ n && s → r ≡ n → r ≡ false → r ≡ t
both_decided true s t r e f g = absurd (cc)
both_decided false s t r e f g = g ∙ sym e

-- ## The numbers of types

kind_below_15 : (h : HeapType) (n : Bool) → heap_kind h + (if n then 1 else 0) < 15
kind_below_15 heap.Func true = omega arith
kind_below_15 heap.Func false = omega arith
kind_below_15 heap.NoFunc true = omega arith
kind_below_15 heap.NoFunc false = omega arith
kind_below_15 heap.Cont true = omega arith
kind_below_15 heap.Cont false = omega arith
kind_below_15 heap.NoCont true = omega arith
kind_below_15 heap.NoCont false = omega arith
kind_below_15 (heap.Index x) true = omega arith
kind_below_15 (heap.Index x) false = omega arith

-- there are 15 kinds
pub kind_below : (t : ValType) → kind_of t < 15
kind_below val.I32 = omega arith
kind_below val.I64 = omega arith
kind_below (val.Ref r) = kind_below_15 r.heap r.nullable

reference_by_numbers : (h : HeapType) (n : Bool) → val.Ref (record { nullable = n; heap = h }) ≡ type_at (heap_kind h + (if n then 1 else 0)) (heap_index h)
reference_by_numbers heap.Func true = refl
reference_by_numbers heap.Func false = refl
reference_by_numbers heap.NoFunc true = refl
reference_by_numbers heap.NoFunc false = refl
reference_by_numbers heap.Cont true = refl
reference_by_numbers heap.Cont false = refl
reference_by_numbers heap.NoCont true = refl
reference_by_numbers heap.NoCont false = refl
reference_by_numbers (heap.Index x) true = refl
reference_by_numbers (heap.Index x) false = refl

-- a type is that of its numbers
by_numbers : (t : ValType) → t ≡ type_at (kind_of t) (index_of t)
by_numbers val.I32 = refl
by_numbers val.I64 = refl
by_numbers (val.Ref r) = reference_by_numbers r.heap r.nullable

-- types of one number are the same
pub same_number : (t u : ValType) → index_of t * 4294967296 + kind_of t ≡ index_of u * 4294967296 + kind_of u → t ≡ u
same_number t u e =
    let below : kind_of t < 15 = kind_below t in
    let other : kind_of u < 15 = kind_below u in
    let index : index_of t ≡ index_of u = omega arith in
    let kind : kind_of t ≡ kind_of u = omega arith in
    by_numbers t ∙ ap (λ (k : ℕ). type_at k (index_of t)) kind ∙ ap (type_at (kind_of u)) index ∙ sym (by_numbers u)

shape_of_reference : (h : HeapType) (n : Bool) (d : Shape) → get_or SHAPES (heap_kind h + (if n then 1 else 0)) d ≡ heap_shape h
shape_of_reference heap.Func true d = refl
shape_of_reference heap.Func false d = refl
shape_of_reference heap.NoFunc true d = refl
shape_of_reference heap.NoFunc false d = refl
shape_of_reference heap.Cont true d = refl
shape_of_reference heap.Cont false d = refl
shape_of_reference heap.NoCont true d = refl
shape_of_reference heap.NoCont false d = refl
shape_of_reference (heap.Index x) true d = refl
shape_of_reference (heap.Index x) false d = refl

-- the shape of a type stands at its kind
pub shape_at : (t : ValType) (d : Shape) → get_or SHAPES (kind_of t) d ≡ shape_of t
shape_at val.I32 d = refl
shape_at val.I64 d = refl
shape_at (val.Ref r) d = shape_of_reference r.heap r.nullable d
