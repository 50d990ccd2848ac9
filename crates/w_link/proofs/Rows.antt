-- Result types that match are rows that match, and rows of value types are as long as those of operands.
use Rattle.std.proofs.Common.{◌≡◌, suc, List, refl, ap}
use Rattle.w_types.specs.declared.types.RecGroup.{RecGroup}
use Rattle.w_types.specs.declared.types.ValType.{ValType}
use Rattle.lists.specs.Rows.{Row, ε, ◌▹◌, onto, row_of, size}
use Rattle.w_canon.specs.Matching.{ResultMatches}
use Rattle.w_canon.specs.Relations.{none, more}
use Rattle.w_rules.specs.Matching.{value, RowMatches, known}

onto_rows : (gs : List RecGroup) {ts us : List ValType} (xs ys : Row ValType) → RowMatches gs (known xs) (known ys) → ResultMatches gs ts us
    → RowMatches gs (known (onto xs ts)) (known (onto ys us))
onto_rows gs xs ys h none = h
onto_rows gs xs ys h (more {x} {y} r k) = onto_rows gs (xs ▹ x) (ys ▹ y) (RowMatches.more h (value r)) k

-- result types that match are rows that match
pub result_rows : (gs : List RecGroup) {ts us : List ValType} → ResultMatches gs ts us → RowMatches gs (known (row_of ts)) (known (row_of us))
result_rows gs h = onto_rows gs ε ε RowMatches.none h

pub size_known : (ts : Row ValType) → size (known ts) ≡ size ts
size_known ε = refl
size_known (ts ▹ t) = ap suc (size_known ts)
