-- Matching of operands and of rows of them is a preorder.
use Rattle.std.proofs.Common.{◌≡◌, List, suc, refl, ap}
use Rattle.w_types.specs.declared.types.RecGroup.{RecGroup}
use Rattle.lists.specs.Rows.{Row, ε, ◌▹◌, ◌⧺◌, size}
use Rattle.w_canon.specs.Matching.{ref}
use Rattle.w_canon.specs.Supertypes.{KeepsKinds}
use Rattle.w_canon.proofs.Preorder.{val_refl, val_trans}
use Rattle.w_rules.specs.Operands.{Operand}
use Rattle.w_rules.specs.Operands.{Known, Bottom, BottomRef}
use Rattle.w_rules.specs.Matching.{OperandMatches, value, bottom, bottom_ref, bottom_refs, RowMatches, none, more}

-- ## Operands

-- an operand matches itself
pub operand_refl : (gs : List RecGroup) (t : Operand) → OperandMatches gs t t
operand_refl gs (Known t) = value (val_refl gs t)
operand_refl gs Bottom = bottom
operand_refl gs (BottomRef n) = bottom_refs (λ h. h)

operand_joined : (gs : List RecGroup) → KeepsKinds gs → {t u v : Operand} → OperandMatches gs t u → OperandMatches gs u v → OperandMatches gs t v
operand_joined gs keeps (value {t} {u} h) (value {u = v} k) = value (val_trans gs keeps t u v h k)
operand_joined gs keeps bottom k = bottom
operand_joined gs keeps (bottom_ref f) (value (ref m)) = bottom_ref (λ t. m.nullable (f t))
operand_joined gs keeps (bottom_refs f) (bottom_ref g) = bottom_ref (λ t. g (f t))
operand_joined gs keeps (bottom_refs f) (bottom_refs g) = bottom_refs (λ t. g (f t))

-- matching of operands is transitive
pub operand_trans : (gs : List RecGroup) → KeepsKinds gs → (t u v : Operand) → OperandMatches gs t u → OperandMatches gs u v → OperandMatches gs t v
operand_trans gs keeps t u v h k = operand_joined gs keeps h k

-- ## Rows

-- a row matches itself
pub row_refl : (gs : List RecGroup) (ts : Row Operand) → RowMatches gs ts ts
row_refl gs ε = none
row_refl gs (ts ▹ t) = more (row_refl gs ts) (operand_refl gs t)

row_joined : (gs : List RecGroup) → KeepsKinds gs → {ts us vs : Row Operand} → RowMatches gs ts us → RowMatches gs us vs → RowMatches gs ts vs
row_joined gs keeps none none = none
row_joined gs keeps (more r h) (more q k) = more (row_joined gs keeps r q) (operand_joined gs keeps h k)

-- matching of rows is transitive
pub row_trans : (gs : List RecGroup) → KeepsKinds gs → (ts us vs : Row Operand) → RowMatches gs ts us → RowMatches gs us vs → RowMatches gs ts vs
row_trans gs keeps ts us vs h k = row_joined gs keeps h k

row_one_size : (gs : List RecGroup) {ts us : Row Operand} → RowMatches gs ts us → size ts ≡ size us
row_one_size gs none = refl
row_one_size gs (more r h) = ap suc (row_one_size gs r)

-- rows that match have one size
pub row_size : (gs : List RecGroup) (ts us : Row Operand) → RowMatches gs ts us → size ts ≡ size us
row_size gs ts us h = row_one_size gs h

-- rows that match, each with a row that it matches at its right
pub row_beside : (gs : List RecGroup) (ts us vs ws : Row Operand) → RowMatches gs ts us → RowMatches gs vs ws → RowMatches gs (ts ⧺ vs) (us ⧺ ws)
row_beside gs ts us _ _ h none = h
row_beside gs ts us _ _ h (more {ts = vs} {us = ws} r k) = more (row_beside gs ts us vs ws h r) k
