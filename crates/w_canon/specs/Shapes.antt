-- What a value type is but for its index and whether it may be null, and matching as a test on that.
use Rattle.std.specs.Prelude.{ℕ, ◌%◌, Bool, true, false, ◌||◌, ◌==◌, List}
use Rattle.w_types.specs.declared.types.HeapType.{HeapType}
use Rattle.w_types.specs.declared.types.HeapType.TheVariants as heap
use Rattle.w_types.specs.declared.types.ValType.{ValType}
use Rattle.w_types.specs.declared.types.ValType.TheVariants as val
use Rattle.w_types.specs.PackedTypes.{kind_of}
use Rattle.w_canon.specs.declared.entry.Kind.TheVariants as kind
use Rattle.w_canon.specs.declared.entry.Entry.{Entry}
use Rattle.w_canon.specs.declared.shape.Shape.{Shape}
use Rattle.w_canon.specs.declared.shape.Shape.TheVariants.{I32, I64, Func, NoFunc, Cont, NoCont, Index}
use Rattle.w_canon.specs.Tests.{index_test, kind_test}

abbrev pub heap_shape : HeapType → Shape
heap_shape heap.Func = Func
heap_shape heap.NoFunc = NoFunc
heap_shape heap.Cont = Cont
heap_shape heap.NoCont = NoCont
heap_shape (heap.Index x) = Index

abbrev pub shape_of : ValType → Shape
shape_of val.I32 = I32
shape_of val.I64 = I64
shape_of (val.Ref r) = heap_shape r.heap

-- the kinds of references that may be null are even
abbrev pub null_test : ValType → ValType → Bool
null_test t u = (kind_of t % 2) == 1 || (kind_of u % 2) == 0

-- types of these shapes and indices match, where null is no matter
abbrev pub shapes_test : List Entry → Shape → ℕ → Shape → ℕ → Bool
shapes_test es I32 x I32 y = true
shapes_test es I32 x s y = false
shapes_test es I64 x I64 y = true
shapes_test es I64 x s y = false
shapes_test es Func x Func y = true
shapes_test es Func x s y = false
shapes_test es NoFunc x Func y = true
shapes_test es NoFunc x NoFunc y = true
shapes_test es NoFunc x Index y = kind_test es y kind.Func
shapes_test es NoFunc x s y = false
shapes_test es Cont x Cont y = true
shapes_test es Cont x s y = false
shapes_test es NoCont x Cont y = true
shapes_test es NoCont x NoCont y = true
shapes_test es NoCont x Index y = kind_test es y kind.Cont
shapes_test es NoCont x s y = false
shapes_test es Index x Func y = kind_test es x kind.Func
shapes_test es Index x Cont y = kind_test es x kind.Cont
shapes_test es Index x Index y = index_test es x y
shapes_test es Index x s y = false
