-- That the words of operands and rows are right has one proof at most, so that a struct can keep it.
use Rattle.std.specs.Prelude.{ℕ, List, [], ◌∷◌, Option, Some, None, IfSome, true}
use Rattle.std.specs.Coded.{×_prop, Unit-prop, Coded-set, coded_bool, coded_ℕ}
use Rattle.w_types.specs.declared.types.CompType.{CompType}
use Rattle.w_types.specs.declared.types.CompType.TheVariants as comp
use Rattle.w_types.specs.declared.types.ValType.{ValType}
use Rattle.w_canon.specs.declared.entry.Entry.{Entry}
use Rattle.w_rules.specs.Operands.{Operand as TheType, Known, Bottom, BottomRef}
use Rattle.w_rows.specs.Words.{IsGiven, IsWanted, IsLength}
use Rattle.w_rows.specs.Operands.{type_of, IsWord, AreWorded, AreWords}
use Rattle.w_rows.specs.TypeRows.{AreGiven, AreReady, IsReady, IsReadyFor, HasReady, AreReadyTypes, AreTypeRows}
use Rattle.w_rows.specs.declared.operand.Operand.{Operand}
use Rattle.w_rows.specs.declared.type_row.RowWords.{RowWords}
use Rattle.w_rows.specs.declared.type_row.TypeRow.{TypeRow}
use Rattle.w_rows.specs.declared.type_rows.ReadyRow.{ReadyRow}
use Rattle.w_rows.specs.declared.type_rows.ReadyType.{ReadyType}
use Rattle.w_rows.specs.declared.type_rows.TypeRows.{TypeRows}

none-prop : IsProp ⊥
none-prop x y = absurd x

IsWord-prop : (es : List Entry) (t : TheType) (w : ℕ) → IsProp (IsWord es t w)
IsWord-prop es (Known t) w = Coded-set coded_bool _ true
IsWord-prop es Bottom w = Coded-set coded_ℕ w 0
IsWord-prop es (BottomRef n) w = Coded-set coded_ℕ w _

pub AreWorded-prop : (es : List Entry) (xs : List Operand) → IsProp (AreWorded es xs)
AreWorded-prop es [] = Unit-prop
AreWorded-prop es (x ∷ xs) = ×_prop (IsWord-prop es (type_of x) x.word) (AreWorded-prop es xs)

AreWords-prop : (P : ValType → ℕ → Type 0) (one : (t : ValType) (w : ℕ) → IsProp (P t w)) (ts : List ValType) (ws : List ℕ) → IsProp (AreWords P ts ws)
AreWords-prop P one [] [] = Unit-prop
AreWords-prop P one [] (w ∷ ws) = none-prop
AreWords-prop P one (t ∷ ts) [] = none-prop
AreWords-prop P one (t ∷ ts) (w ∷ ws) = ×_prop (one t w) (AreWords-prop P one ts ws)

AreGiven-prop : (es : List Entry) (ts : List ValType) (xs : List Operand) → IsProp (AreGiven es ts xs)
AreGiven-prop es [] [] = Unit-prop
AreGiven-prop es [] (x ∷ xs) = none-prop
AreGiven-prop es (t ∷ ts) [] = none-prop
AreGiven-prop es (t ∷ ts) (x ∷ xs) = ×_prop (×_prop (Coded-set coded_bool _ true) (Coded-set coded_ℕ _ _)) (AreGiven-prop es ts xs)

AreReady-prop : (es : List Entry) (ts : List ValType) (xs : List Operand) (gs ws ls : List ℕ) → IsProp (AreReady es ts xs gs ws ls)
AreReady-prop es ts xs gs ws ls =
    ×_prop (AreGiven-prop es ts xs) (×_prop (AreWords-prop (IsGiven es) (λ t w. Coded-set coded_bool _ true) ts gs) (×_prop (AreWords-prop (IsWanted es) (λ t w. Coded-set coded_bool _ true) ts ws) (AreWords-prop (IsLength es) (λ t w. Coded-set coded_bool _ true) ts ls)))

by_words : (es : List Entry) (ts : List ValType) (o : Option RowWords) → IsProp (IfSome o (λ (w : RowWords). AreReady es ts w.operands.now w.given.now w.wanted.now w.lengths.now))
by_words es ts None = Unit-prop
by_words es ts (Some w) = AreReady-prop es ts w.operands.now w.given.now w.wanted.now w.lengths.now

pub IsReady-prop : (es : List Entry) (r : TypeRow) → IsProp (IsReady es r)
IsReady-prop es r = by_words es r.types.now r.words

IsReadyFor-prop : (es : List Entry) (ts : List ValType) (o : Option ReadyRow) → IsProp (IsReadyFor es ts o)
IsReadyFor-prop es ts None = Unit-prop
IsReadyFor-prop es ts (Some r) = AreReady-prop es ts r.operands.items r.given.items r.wanted.items r.lengths.items

HasReady-prop : (es : List Entry) (t : CompType) (r : ReadyType) → IsProp (HasReady es t r)
HasReady-prop es (comp.Func f) r = ×_prop (IsReadyFor-prop es f.params r.params) (×_prop (IsReadyFor-prop es f.results r.results) (Coded-set coded_bool _ true))
HasReady-prop es (comp.Cont x) r = Unit-prop

AreReadyTypes-prop : (es : List Entry) (ts : List CompType) (rs : List ReadyType) → IsProp (AreReadyTypes es ts rs)
AreReadyTypes-prop es [] [] = Unit-prop
AreReadyTypes-prop es [] (r ∷ rs) = none-prop
AreReadyTypes-prop es (t ∷ ts) [] = Unit-prop
AreReadyTypes-prop es (t ∷ ts) (r ∷ rs) = ×_prop (HasReady-prop es t r) (AreReadyTypes-prop es ts rs)

pub AreTypeRows-prop : (es : List Entry) (ts : List CompType) (rows : TypeRows) → IsProp (AreTypeRows es ts rows)
AreTypeRows-prop es ts rows = AreReadyTypes-prop es ts rows.types.items
