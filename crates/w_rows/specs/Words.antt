-- Words that tell which types match. A type has a word where it is given and one where it is wanted: where the two have no bit in common,
-- the first type matches the second. So rows of types are compared with no branch and no type looked up. From the lowest bit: one that
-- tells of null, three that tell what kind of type it is, and twice fourteen that tell a class of types, so that those of two classes have
-- a bit in common. A class is told by where its span begins; beside the word of a type that is wanted stands how long the span is.
use Rattle.std.specs.Prelude.{◌≡◌, ◌⊎◌, ◌≤◌, ◌<◌, bit_and, ℕ, ◌+◌, ◌-◌, ◌*◌, ◌/◌, ◌%◌, ◌==◌, nat_lt, Bool, false, not, ◌&&◌, ◌||◌, IsTrue, List, Option, Some, None, slice_get, if◌then◌else◌}
use Rattle.w_types.specs.declared.types.HeapType.{HeapType}
use Rattle.w_types.specs.declared.types.HeapType.TheVariants.{Func, NoFunc, Cont, NoCont, Index}
use Rattle.w_types.specs.declared.types.ValType.{ValType}
use Rattle.w_types.specs.declared.types.ValType.TheVariants.{I32, I64, Ref}
use Rattle.w_canon.specs.declared.entry.Kind.TheVariants as kind
use Rattle.w_canon.specs.declared.entry.Entry.{Entry}
use Rattle.w_canon.specs.Tests.{kind_test}

-- ## The parts of a word

abbrev pub joined : ℕ → ℕ → ℕ → ℕ
joined classes mark null = (classes * 8 + mark) * 2 + null

abbrev pub bit_of : Bool → ℕ
bit_of b = if b then 1 else 0

-- how many classes have bits of their own
abbrev pub most_classes : ℕ
most_classes = 16384

abbrev pub all_classes : ℕ
all_classes = 268435455

-- the bits of a class where it is given, and where it is wanted: no two classes have none in common
abbrev pub given_class : ℕ → ℕ
given_class c = c * 16384 + (16383 - c)

abbrev pub wanted_class : ℕ → ℕ
wanted_class c = (16383 - c) * 16384 + c

-- the class in a word
abbrev pub class_in : ℕ → ℕ
class_in w = w / 262144

abbrev pub class_wanted_in : ℕ → ℕ
class_wanted_in w = w / 16 % 16384

-- ## A type that is given: its bits tell what it does not match

-- a concrete type's class is not told here; such a type seems to match nothing
abbrev pub given_classes : HeapType → ℕ
given_classes Func = all_classes
given_classes NoFunc = 0
given_classes Cont = all_classes
given_classes NoCont = 0
given_classes (Index x) = all_classes

abbrev pub given_mark : HeapType → ℕ
given_mark Func = 5
given_mark NoFunc = 5
given_mark Cont = 3
given_mark NoCont = 3
given_mark (Index x) = 7

abbrev pub given_word : ValType → ℕ
given_word I32 = joined (given_class 0) 6 0
given_word I64 = joined (given_class 1) 6 0
given_word (Ref r) = joined (given_classes r.heap) (given_mark r.heap) (bit_of r.nullable)

-- the span of a type begins here
abbrev pub begins_test : Option Entry → ℕ → Bool
begins_test None c = false
begins_test (Some e) c = e.span.from == c && nat_lt e.span.from e.span.to

-- the word tells that type x, which may be null or not, has this kind and a span that begins at c
abbrev pub tells_given : List Entry → ℕ → Bool → ℕ → ℕ → Bool
tells_given es x n c w =
    begins_test (slice_get es x) c && (nat_lt c most_classes
    && ((kind_test es x kind.Func && w == joined (given_class c) 5 (bit_of n)) || (kind_test es x kind.Cont && w == joined (given_class c) 3 (bit_of n))))

abbrev pub concrete_given : List Entry → Bool → HeapType → ℕ → Bool
concrete_given es n (Index x) w = tells_given es x n (class_in w) w
concrete_given es n Func w = false
concrete_given es n NoFunc w = false
concrete_given es n Cont w = false
concrete_given es n NoCont w = false

abbrev pub class_given : List Entry → ValType → ℕ → Bool
class_given es I32 w = false
class_given es I64 w = false
class_given es (Ref r) w = concrete_given es r.nullable r.heap w

-- the word of a type where it is given, by these entries: as above, or with the class of a concrete type
abbrev pub IsGiven : List Entry → ValType → ℕ → Type 0
IsGiven es t w = IsTrue (w == given_word t || class_given es t w)

-- ## A type that is wanted: its bits tell what it is

abbrev pub wanted_classes : HeapType → ℕ
wanted_classes Func = 0
wanted_classes NoFunc = all_classes
wanted_classes Cont = 0
wanted_classes NoCont = all_classes
wanted_classes (Index x) = all_classes

abbrev pub wanted_mark : HeapType → ℕ
wanted_mark Func = 2
wanted_mark NoFunc = 2
wanted_mark Cont = 4
wanted_mark NoCont = 4
wanted_mark (Index x) = 7

abbrev pub wanted_word : ValType → ℕ
wanted_word I32 = joined (wanted_class 0) 1 0
wanted_word I64 = joined (wanted_class 1) 1 0
wanted_word (Ref r) = joined (wanted_classes r.heap) (wanted_mark r.heap) (bit_of (not r.nullable))

abbrev pub tells_wanted : List Entry → ℕ → Bool → ℕ → ℕ → Bool
tells_wanted es x n c w =
    begins_test (slice_get es x) c && (nat_lt c most_classes
    && ((kind_test es x kind.Func && w == joined (wanted_class c) 2 (bit_of (not n))) || (kind_test es x kind.Cont && w == joined (wanted_class c) 4 (bit_of (not n)))))

abbrev pub concrete_wanted : List Entry → Bool → HeapType → ℕ → Bool
concrete_wanted es n (Index x) w = tells_wanted es x n (class_wanted_in w) w
concrete_wanted es n Func w = false
concrete_wanted es n NoFunc w = false
concrete_wanted es n Cont w = false
concrete_wanted es n NoCont w = false

abbrev pub class_wanted : List Entry → ValType → ℕ → Bool
class_wanted es I32 w = false
class_wanted es I64 w = false
class_wanted es (Ref r) w = concrete_wanted es r.nullable r.heap w

-- the word of a type where it is wanted, by these entries
abbrev pub IsWanted : List Entry → ValType → ℕ → Type 0
IsWanted es t w = IsTrue (w == wanted_word t || class_wanted es t w)

-- ## How long the span of a type is that is wanted

abbrev pub long_test : Option Entry → ℕ → Bool
long_test None n = false
long_test (Some e) n = e.span.from + n == e.span.to && nat_lt e.span.to most_classes

abbrev pub heap_long : List Entry → HeapType → ℕ → Bool
heap_long es (Index x) n = long_test (slice_get es x) n
heap_long es Func n = false
heap_long es NoFunc n = false
heap_long es Cont n = false
heap_long es NoCont n = false

abbrev pub val_long : List Entry → ValType → ℕ → Bool
val_long es I32 n = false
val_long es I64 n = false
val_long es (Ref r) n = heap_long es r.heap n

-- the length of the span of a concrete type, or none
abbrev pub IsLength : List Entry → ValType → ℕ → Type 0
IsLength es t n = IsTrue (n == 0 || val_long es t n)

-- a word that is given and one that is wanted, with the length of its span, tell that the first type matches the second: they have no bit in
-- common, or only of their classes, and the one that is given begins within the span
abbrev pub TellBelow : ℕ → ℕ → ℕ → Type 0
TellBelow w v n = (bit_and w v ≡ 0) ⊎ ((bit_and w v % 16 ≡ 0) × (class_wanted_in v ≤ class_in w) × (class_in w < class_wanted_in v + n))
