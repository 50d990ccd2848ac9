-- What is known of the operands of one block at a place of it, and how an instruction type changes that (Core, validation
-- algorithm).
use Rattle.std.specs.Prelude.{ℕ, nat_eq, Bool, true, false, ◌&&◌, ◌||◌, not, List, [], ◌∷◌, Option, Some, None, if◌then◌else◌, IsTrue, slice_get}
use Rattle.w_types.specs.declared.types.HeapType.{HeapType}
use Rattle.w_types.specs.declared.types.RecGroup.{RecGroup}
use Rattle.w_types.specs.declared.types.ValType.{ValType}
use Rattle.w_types.specs.declared.types.ValType.TheVariants.{I32, I64, Ref}
use Rattle.lists.specs.Rows.{Row, ε, ◌▹◌, ◌⧺◌, size}
use Rattle.w_canon.specs.declared.entry.Entry.{Entry}
use Rattle.w_canon.specs.Tests.{val_test}
use Rattle.w_rules.specs.Operands.{Operand}
use Rattle.w_rules.specs.Operands.{Known, Bottom, BottomRef}
use Rattle.w_rules.specs.Conditions.{Holds}
use Rattle.w_rules.specs.InstructionTypes.{InstrType, fixed, polymorphic, table_polymorphic, drops, selects, tests_null, as_non_null, on_null, untyped}
use Rattle.w_rules.specs.Matching.{OperandMatches, known}
use Rattle.w_rules.specs.Typing.{HasInstrType, ref_to}

-- The operands that stand at a place, and whether more of any type may lie beneath them, since the place cannot be reached.
pub record Flow : Type 0 where
  pub any : Bool
  pub operands : Row Operand

-- the rows of operands that it stands for
abbrev pub Covers : List RecGroup → Bool → Row Operand → Row Operand → Type 0
Covers gs p ε ε = Unit {0}
Covers gs p ε (us ▹ u) = IsTrue p
Covers gs p (ts ▹ t) ε = ⊥
Covers gs p (ts ▹ t) (us ▹ u) = Covers gs p ts us × OperandMatches gs t u

infixl 10 ◌>>=◌
abbrev pub ◌>>=◌ : {A B : Type 0} → Option A → (A → Option B) → Option B
None >>= f = None
(Some x) >>= f = f x

-- ## Taking operands

abbrev pub is_null_test : Bool → ValType → Bool
is_null_test n (Ref r) = not n || r.nullable
is_null_test n I32 = false
is_null_test n I64 = false

-- whether an operand matches a value type; es are the entries of the types
abbrev pub operand_test : List Entry → Operand → ValType → Bool
operand_test es (Known t) u = val_test es t u
operand_test es Bottom u = true
operand_test es (BottomRef n) u = is_null_test n u

-- the operands that are left when these are taken
abbrev pub pops : List Entry → Bool → Row Operand → Row ValType → Option (Row Operand)
pops es p ts ε = Some ts
pops es p ε (us ▹ u) = if p then pops es p ε us else None
pops es p (ts ▹ t) (us ▹ u) = if operand_test es t u then pops es p ts us else None

-- the topmost operand, whatever it is, and those beneath
abbrev pub pop : Bool → Row Operand → Option (Row Operand × Operand)
pop p (ts ▹ t) = Some (ts, t)
pop p ε = if p then Some (ε, Bottom) else None

abbrev pub is_popped : Option (Row Operand) → Bool
is_popped (Some ts) = true
is_popped None = false

abbrev pub none_left : Option (Row Operand) → Bool
none_left (Some ε) = true
none_left (Some (ts ▹ t)) = false
none_left None = false

-- the operands are just these
abbrev pub ends : List Entry → Bool → Row Operand → Row ValType → Bool
ends es p ts us = none_left (pops es p ts us)

-- ## Labels of a br_table

-- each of these rows can be taken
abbrev pub pops_each : List Entry → Bool → Row Operand → List (Row ValType) → Bool
pops_each es p ts [] = true
pops_each es p ts (v ∷ vs) = is_popped (pops es p ts v) && pops_each es p ts vs

-- each of these rows has n types
abbrev pub all_long : ℕ → List (Row ValType) → Bool
all_long n [] = true
all_long n (v ∷ vs) = nat_eq (size v) n && all_long n vs

abbrev pub fits_one : List Entry → Bool → Row Operand → ℕ → Option (Row ValType) → Bool
fits_one es p ts n None = false
fits_one es p ts n (Some v) = nat_eq (size v) n && is_popped (pops es p ts v)

-- each of these labels takes n types that can be taken
abbrev pub fit_each : List Entry → List (Row ValType) → Bool → Row Operand → ℕ → List ℕ → Bool
fit_each es labels p ts n [] = true
fit_each es labels p ts n (x ∷ xs) = fits_one es p ts n (slice_get labels x) && fit_each es labels p ts n xs

-- ## Numbers and references

-- the one type of the two numbers that a select takes
abbrev pub select_of : Operand → Operand → Option Operand
select_of Bottom Bottom = Some Bottom
select_of Bottom (Known I32) = Some (Known I32)
select_of Bottom (Known I64) = Some (Known I64)
select_of (Known I32) Bottom = Some (Known I32)
select_of (Known I32) (Known I32) = Some (Known I32)
select_of (Known I64) Bottom = Some (Known I64)
select_of (Known I64) (Known I64) = Some (Known I64)
select_of t u = None

-- the heap type of a reference, None where that is bottom
abbrev pub heap_of : Operand → Option (Option HeapType)
heap_of Bottom = Some None
heap_of (BottomRef n) = Some None
heap_of (Known (Ref r)) = Some (Some r.heap)
heap_of (Known I32) = None
heap_of (Known I64) = None

-- the heap type of the topmost operand, and the operands beneath
abbrev pub pop_ref : Bool → Row Operand → Option (Row Operand × Option HeapType)
pop_ref p ts = pop p ts >>= λ r. heap_of r.1 >>= λ h. Some (r.0, h)

-- ## An instruction type

abbrev pub step : List Entry → InstrType → Bool → Row Operand → Option Flow
step es (fixed ins outs) p ts = pops es p ts ins >>= λ rest. Some (record { any = p; operands = rest ⧺ known outs })
step es (polymorphic ins) p ts = pops es p ts ins >>= λ rest. Some (record { any = true; operands = ε })
step es (table_polymorphic one others) p ts = pops es p ts (ε ▹ I32) >>= λ rest.
    (if all_long (size one) others && pops_each es p rest (one ∷ others) then Some (record { any = true; operands = ε }) else None)
step es drops p ts = pop p ts >>= λ r. Some (record { any = p; operands = r.0 })
step es selects p ts = pops es p ts (ε ▹ I32) >>= λ rest. pop p rest >>= λ r. pop p r.0 >>= λ q. select_of q.1 r.1 >>= λ t.
    Some (record { any = p; operands = q.0 ▹ t })
step es tests_null p ts = pop_ref p ts >>= λ r. Some (record { any = p; operands = r.0 ▹ Known I32 })
step es as_non_null p ts = pop_ref p ts >>= λ r. Some (record { any = p; operands = r.0 ▹ ref_to false r.1 })
step es (on_null vs) p ts = pop_ref p ts >>= λ r. pops es p r.0 vs >>= λ rest.
    Some (record { any = p; operands = (rest ⧺ known vs) ▹ ref_to false r.1 })
step es untyped p ts = None

-- ## What a step stands for

-- the rows that a flow stands for, if there is one
abbrev pub InFlow : List RecGroup → Option Flow → Row Operand → Type 0
InFlow gs o us = Holds o (λ (f : Flow). Covers gs f.any f.operands us)

-- the rows that the type leads to from the rows of a flow
abbrev pub Image : List RecGroup → InstrType → Bool → Row Operand → Row Operand → Type 0
Image gs l p ts us = (vs : Row Operand) × Covers gs p ts vs × HasInstrType gs l vs us

-- a step of the flow is exact: it stands for just the rows that the type leads to
abbrev pub IsExact : List RecGroup → List Entry → Type 0
IsExact gs es = (l : InstrType) (p : Bool) (ts us : Row Operand) → (Image gs l p ts us → InFlow gs (step es l p ts) us) × (InFlow gs (step es l p ts) us → Image gs l p ts us)
