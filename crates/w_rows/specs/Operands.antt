-- The operands of the program: a word that tells what an operand's type matches, and the index of the type that it names.
use Rattle.std.specs.Prelude.{◌≡◌, ℕ, ◌/◌, ◌%◌, ◌==◌, Bool, List, [], ◌∷◌, map, if◌then◌else◌}
use Rattle.w_types.specs.declared.types.HeapType.TheVariants.{Func, NoFunc, Cont, NoCont, Index}
use Rattle.w_types.specs.declared.types.ValType.{ValType}
use Rattle.w_types.specs.declared.types.ValType.TheVariants.{I32, I64, Ref}
use Rattle.lists.specs.Rows.{Row, row_of}
use Rattle.w_canon.specs.declared.entry.Entry.{Entry}
use Rattle.w_rules.specs.Operands.{Operand as TheType, Known, Bottom, BottomRef}
use Rattle.w_rows.specs.Words.{joined, bit_of, IsGiven}
use Rattle.w_rows.specs.declared.operand.Operand.{Operand}
use Rattle.w_rows.specs.declared.operand.OperandView.{OperandView}
use Rattle.w_rows.specs.declared.operand.OperandView.TheVariants as view

-- ## The type of an operand

-- where no class is told, since none is looked at
abbrev pub without_class : ℕ → Bool → TheType
without_class mark n =
    if mark == 5 then Known (Ref (record { nullable = n; heap = NoFunc }))
    else if mark == 3 then Known (Ref (record { nullable = n; heap = NoCont }))
    else if mark == 1 then BottomRef n
    else Bottom

-- where the bits of all classes are there
abbrev pub with_all : ℕ → Bool → ℕ → TheType
with_all mark n x =
    if mark == 5 then Known (Ref (record { nullable = n; heap = Func }))
    else if mark == 3 then Known (Ref (record { nullable = n; heap = Cont }))
    else Known (Ref (record { nullable = n; heap = Index x }))

abbrev pub by_parts : ℕ → ℕ → Bool → ℕ → TheType
by_parts classes mark n x =
    if mark == 6 then (if classes == 16383 then Known I32 else Known I64)
    else if classes == 0 then without_class mark n
    else if classes == 268435455 then with_all mark n x
    else Known (Ref (record { nullable = n; heap = Index x }))

-- the type of a word and an index
abbrev pub type_at : ℕ → ℕ → TheType
type_at w x = by_parts (w / 16) (w / 2 % 8) (w % 2 == 1) x

abbrev pub type_of : Operand → TheType
type_of o = type_at o.word o.index

abbrev pub types_of : List Operand → List TheType
types_of xs = map type_of xs

-- the topmost last
abbrev pub row_in : List Operand → Row TheType
row_in xs = row_of (types_of xs)

-- the type, as it is read
abbrev pub seen : OperandView → TheType
seen (view.Known t) = Known t
seen view.Bottom = Bottom
seen (view.BottomRef n) = BottomRef n

-- ## Words

-- the word of an operand of a type, by these entries
abbrev pub IsWord : List Entry → TheType → ℕ → Type 0
IsWord es (Known t) w = IsGiven es t w
IsWord es Bottom w = w ≡ 0
IsWord es (BottomRef n) w = w ≡ joined 0 1 (bit_of n)

abbrev pub IsWorded : List Entry → Operand → Type 0
IsWorded es o = IsWord es (type_of o) o.word

-- each operand has a word of its type
abbrev pub AreWorded : List Entry → List Operand → Type 0
AreWorded es [] = Unit {0}
AreWorded es (x ∷ xs) = IsWorded es x × AreWorded es xs

-- these are words of these types, each of the one at its place
abbrev pub AreWords : (ValType → ℕ → Type 0) → List ValType → List ℕ → Type 0
AreWords P [] [] = Unit {0}
AreWords P [] (w ∷ ws) = ⊥
AreWords P (t ∷ ts) [] = ⊥
AreWords P (t ∷ ts) (w ∷ ws) = P t w × AreWords P ts ws
