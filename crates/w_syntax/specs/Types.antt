-- How types are spelled (Core, binary format, types; the explainer, binary format).
use Rattle.std.specs.Prelude.{ℕ, ℤ, pos, negsuc, unsigned_abs, Bool, true, false, List, [], ◌∷◌, Some, None}
use Rattle.w_leb.specs.Format.{Format, IsSolid}
use Rattle.w_leb.specs.Formats.{constant, ◌⊗◌, ◌⇒◌, such_that, table_or, table, number, signed_number, vec}
use Rattle.w_leb.specs.NumberLaws.{signed_solid}
use Rattle.w_types.specs.declared.types.HeapType.{HeapType}
use Rattle.w_types.specs.declared.types.HeapType.TheVariants as heap
use Rattle.w_types.specs.declared.types.RefType.{RefType}
use Rattle.w_types.specs.declared.types.ValType.{ValType}
use Rattle.w_types.specs.declared.types.ValType.TheVariants as val
use Rattle.w_types.specs.declared.types.FuncType.{FuncType}
use Rattle.w_types.specs.declared.types.CompType.{CompType}
use Rattle.w_types.specs.declared.types.CompType.TheVariants as comp
use Rattle.w_types.specs.declared.types.SubType.{SubType}
use Rattle.w_types.specs.declared.types.RecGroup.{RecGroup}
use Rattle.w_syntax.specs.declared.module.Limits.{Limits}
use Rattle.w_syntax.specs.declared.module.TableType.{TableType}
use Rattle.w_syntax.specs.declared.module.GlobalType.{GlobalType}
use Rattle.w_syntax.specs.declared.module.Mutability.{Mutability}
use Rattle.w_syntax.specs.declared.module.Mutability.TheVariants as access

-- ## Value types

abbrev pub is_natural : ℤ → Bool
is_natural (pos n) = true
is_natural (negsuc n) = false

-- the index of a type, a non-negative s33
unfoldable pub index33 : Format ℕ
index33 = such_that is_natural (signed_number 33) ⇒ unsigned_abs

pub index33_solid : IsSolid index33.Spells
unfolding index33
index33_solid x h = signed_solid 33 h.0 h.1.0

abbrev pub heaptypes : List (ℕ × Format HeapType)
heaptypes = (0x70, constant heap.Func) ∷ (0x73, constant heap.NoFunc) ∷ (0x68, constant heap.Cont) ∷ (0x75, constant heap.NoCont) ∷ []

unfoldable pub heaptype : Format HeapType
heaptype = table_or heaptypes (index33 ⇒ heap.Index) (λ x h. index33_solid h.0 h.1)

abbrev pub nullable_to : HeapType → RefType
nullable_to h = record { nullable = true; heap = h }

abbrev pub non_null_to : HeapType → RefType
non_null_to h = record { nullable = false; heap = h }

abbrev pub reftypes : List (ℕ × Format RefType)
reftypes =
    (0x63, heaptype ⇒ nullable_to)
    ∷ (0x64, heaptype ⇒ non_null_to)
    ∷ (0x70, constant (nullable_to heap.Func))
    ∷ (0x73, constant (nullable_to heap.NoFunc))
    ∷ (0x68, constant (nullable_to heap.Cont))
    ∷ (0x75, constant (nullable_to heap.NoCont))
    ∷ []

unfoldable pub reftype : Format RefType
reftype = table reftypes

-- a table's entries, for what f makes of them
abbrev pub entries_of : {A B : Type 0} → (A → B) → List (ℕ × Format A) → List (ℕ × Format B)
entries_of f [] = []
entries_of f (e ∷ es) = (e.0, e.1 ⇒ f) ∷ entries_of f es

abbrev pub valtypes : List (ℕ × Format ValType)
valtypes = (0x7F, constant val.I32) ∷ (0x7E, constant val.I64) ∷ entries_of val.Ref reftypes

unfoldable pub valtype : Format ValType
valtype = table valtypes

-- ## The types of a module

unfoldable pub functype : Format FuncType
functype = vec valtype ⊗ vec valtype ⇒ λ p. record { params = p.0; results = p.1 }

abbrev pub comptypes : List (ℕ × Format CompType)
comptypes = (0x60, functype ⇒ comp.Func) ∷ (0x5D, number 32 ⇒ comp.Cont) ∷ []

unfoldable pub comptype : Format CompType
comptype = table comptypes

pub comptype_solid : IsSolid comptype.Spells
unfolding comptype
comptype_solid x h = h

-- a type that is final or not, with its supertypes
abbrev pub subtype_with : Bool → List ℕ × CompType → SubType
subtype_with f p = record { is_final = f; supertypes = p.0; composite = p.1 }

abbrev pub subtypes : List (ℕ × Format SubType)
subtypes = (0x50, vec (number 32) ⊗ comptype ⇒ subtype_with false) ∷ (0x4F, vec (number 32) ⊗ comptype ⇒ subtype_with true) ∷ []

-- a final type without supertypes
abbrev pub alone_of : CompType → SubType
alone_of c = record { is_final = true; supertypes = []; composite = c }

-- a type with supertypes, or a composite type alone
unfoldable pub subtype : Format SubType
subtype = table_or subtypes (comptype ⇒ alone_of) (λ x h. comptype_solid h.0 h.1)

pub subtype_solid : IsSolid subtype.Spells
unfolding subtype
subtype_solid x h = h

abbrev pub group_of : List SubType → RecGroup
group_of ts = record { types = ts }

abbrev pub groups : List (ℕ × Format RecGroup)
groups = (0x4E, vec subtype ⇒ group_of) ∷ []

-- a group, or one type that is a group of its own
unfoldable pub rectype : Format RecGroup
rectype = table_or groups (subtype ⇒ λ t. group_of (t ∷ [])) (λ x h. subtype_solid h.0 h.1)

-- ## Limits, tables and globals

abbrev pub limits_by_byte : List (ℕ × Format Limits)
limits_by_byte = (0x00, number 64 ⇒ λ n. record { min = n; max = None }) ∷ (0x01, number 64 ⊗ number 64 ⇒ λ p. record { min = p.0; max = Some p.1 }) ∷ []

unfoldable pub limits : Format Limits
limits = table limits_by_byte

unfoldable pub tabletype : Format TableType
tabletype = reftype ⊗ limits ⇒ λ p. record { element = p.0; limits = p.1 }

abbrev pub mutabilities : List (ℕ × Format Mutability)
mutabilities = (0x00, constant access.Const) ∷ (0x01, constant access.Var) ∷ []

unfoldable pub mutability : Format Mutability
mutability = table mutabilities

unfoldable pub globaltype : Format GlobalType
globaltype = valtype ⊗ mutability ⇒ λ p. record { kind = p.0; mutability = p.1 }
