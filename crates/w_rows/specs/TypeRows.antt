-- Rows of types that stand ready, both to be given and to be wanted.
use Rattle.std.specs.Prelude.{◌≡◌, ◌||◌, ℕ, Bool, true, not, List, [], ◌∷◌, Option, IfSome}
use Rattle.w_types.specs.PackedTypes.{index_of}
use Rattle.w_types.specs.declared.types.CompType.{CompType}
use Rattle.w_types.specs.declared.types.CompType.TheVariants as comp
use Rattle.w_types.specs.declared.types.FuncType.{FuncType}
use Rattle.w_types.specs.declared.types.ValType.{ValType}
use Rattle.w_canon.specs.declared.entry.Entry.{Entry}
use Rattle.w_canon.specs.Tests.{result_test}
use Rattle.w_rows.specs.Words.{IsGiven, IsWanted, IsLength}
use Rattle.w_rows.specs.Operands.{AreWords}
use Rattle.w_rows.specs.declared.operand.Operand.{Operand}
use Rattle.w_rows.specs.declared.type_row.TypeRow.{TypeRow}
use Rattle.w_rows.specs.declared.type_row.RowWords.{RowWords}
use Rattle.w_rows.specs.declared.type_rows.ReadyRow.{ReadyRow}
use Rattle.w_rows.specs.declared.type_rows.ReadyType.{ReadyType}
use Rattle.w_rows.specs.declared.type_rows.TypeRows.{TypeRows}
use Rattle.w_rows.specs.declared.type_rows.FuncRows.{FuncRows}

-- these are operands of these types, each of the one at its place, with words of theirs
abbrev pub AreGiven : List Entry → List ValType → List Operand → Type 0
AreGiven es [] [] = Unit {0}
AreGiven es [] (x ∷ xs) = ⊥
AreGiven es (t ∷ ts) [] = ⊥
AreGiven es (t ∷ ts) (x ∷ xs) = (IsGiven es t x.word × (x.index ≡ index_of t)) × AreGiven es ts xs

-- these are operands of these types, and words of the types, first where they are given and then where they are wanted, and the lengths of
-- their spans
abbrev pub AreReady : List Entry → List ValType → List Operand → List ℕ → List ℕ → List ℕ → Type 0
AreReady es ts xs gs ws ls = AreGiven es ts xs × (AreWords (IsGiven es) ts gs × (AreWords (IsWanted es) ts ws × AreWords (IsLength es) ts ls))

-- what stands ready for the row, if something does, is that of its types
abbrev pub IsReady : List Entry → TypeRow → Type 0
IsReady es r = IfSome r.words (λ (w : RowWords). AreReady es r.types.now w.operands.now w.given.now w.wanted.now w.lengths.now)

abbrev pub IsReadyFor : List Entry → List ValType → Option ReadyRow → Type 0
IsReadyFor es ts o = IfSome o (λ (r : ReadyRow). AreReady es ts r.operands.items r.given.items r.wanted.items r.lengths.items)

-- where it is known that these types match those, they do
abbrev pub FitsIf : List Entry → Bool → List ValType → List ValType → Type 0
FitsIf es known ts us = (not known || result_test es ts us) ≡ true

-- what stands ready for a type, where it is a function type
abbrev pub HasReady : List Entry → CompType → ReadyType → Type 0
HasReady es (comp.Func f) r = IsReadyFor es f.params r.params × (IsReadyFor es f.results r.results × FitsIf es r.fits f.params f.results)
HasReady es (comp.Cont x) r = Unit {0}

-- for each of these types, or for the first ones
abbrev pub AreReadyTypes : List Entry → List CompType → List ReadyType → Type 0
AreReadyTypes es [] [] = Unit {0}
AreReadyTypes es [] (r ∷ rs) = ⊥
AreReadyTypes es (t ∷ ts) [] = Unit {0}
AreReadyTypes es (t ∷ ts) (r ∷ rs) = HasReady es t r × AreReadyTypes es ts rs

-- of each of these types, or of the first ones, that is a function type its parameters and results stand ready, if they are wide
abbrev pub AreTypeRows : List Entry → List CompType → TypeRows → Type 0
AreTypeRows es ts rows = AreReadyTypes es ts rows.types.items

-- the function type of these rows
abbrev pub rows_type : FuncRows → FuncType
rows_type r = record { params = r.params.types.now; results = r.results.types.now }

pub record AreReadyRows (es : List Entry) (r : FuncRows) : Type 0 where
  pub params : IsReady es r.params
  pub results : IsReady es r.results
  pub fits : FitsIf es r.fits r.params.types.now r.results.types.now
