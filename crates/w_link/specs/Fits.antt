-- How a file's indices and the addresses that they stand for agree in type (Core, validation, matching, and execution, modules).
use Rattle.std.specs.Prelude.{◌≡◌, ℕ, ◌+◌, ◌≤◌, ◌<◌, true, List, length, Option, Some, slice_get}
use Rattle.w_types.specs.declared.types.FuncType.{FuncType}
use Rattle.w_types.specs.declared.types.HeapType.TheVariants.{Index}
use Rattle.w_types.specs.declared.types.RecGroup.{RecGroup}
use Rattle.w_types.specs.declared.types.RefType.{RefType}
use Rattle.w_types.specs.declared.types.SubType.{SubType}
use Rattle.w_types.specs.declared.types.ValType.{ValType}
use Rattle.w_types.specs.Groups.{subtypes_of, types_of}
use Rattle.w_syntax.specs.declared.module.GlobalType.{GlobalType}
use Rattle.w_syntax.specs.declared.module.Mutability.{Mutability}
use Rattle.w_syntax.specs.declared.module.Mutability.TheVariants as mutability
use Rattle.w_syntax.specs.declared.module.TableType.{TableType}
use Rattle.w_syntax.specs.declared.module.Tag.{Tag}
use Rattle.w_syntax.specs.Functions.{function_type}
use Rattle.w_canon.specs.Equality.{RefEqual, ValEqual, ResultEqual}
use Rattle.w_canon.specs.Equivalence.{SameIndex}
use Rattle.w_canon.specs.Matching.{HeapMatches, ValMatches, FuncMatches}
use Rattle.w_rules.specs.Context.{Context}
use Rattle.w_link.specs.Shifted.{ref_shifted, type_shifted, types_shifted, func_shifted, sub_shifted, row_shifted, rows_shifted}
use Rattle.w_link.specs.Resolved.{Instance, at}

-- what is there, and what holds of it
pub record There {A : Type 0} (o : Option A) (P : A → Type 0) : Type 0 where
  pub value : A
  pub is : o ≡ Some value
  pub holds : P value

-- The groups gs stand among the groups hs, behind n types: those that are equivalent stay so, and each is there.
pub record Stands (n : ℕ) (gs hs : List RecGroup) : Type 0 where
  pub same : (x y : ℕ) → SameIndex gs x y → SameIndex hs (n + x) (n + y)
  pub type : (x : ℕ) (t : SubType) → slice_get (subtypes_of gs) x ≡ Some t → slice_get (subtypes_of hs) (n + x) ≡ Some (sub_shifted n t)
  pub count : n + length (types_of gs) ≤ length (types_of hs)

abbrev pub func_in : List RecGroup → ℕ → Option FuncType
func_in gs x = function_type (slice_get (types_of gs) x)

-- A function of type z stands for one of type y: its type matches the other.
pub record FunctionFits (n : ℕ) (gs hs : List RecGroup) (y z : ℕ) : Type 0 where
  pub matches : HeapMatches hs (Index z) (Index (n + y))
  pub type : (t : FuncType) → func_in gs y ≡ Some t → There (func_in hs z) (λ (u : FuncType). FuncMatches hs u (func_shifted n t))

-- A global that may be written is of an equal type, and another of one that matches.
abbrev pub KindFits : List RecGroup → Mutability → ValType → ValType → Type 0
KindFits gs mutability.Var t u = ValEqual gs u t
KindFits gs mutability.Const t u = ValMatches gs u t

pub record GlobalFits (n : ℕ) (gs : List RecGroup) (g h : GlobalType) : Type 0 where
  pub mutability : h.mutability ≡ g.mutability
  pub kind : KindFits gs g.mutability (type_shifted n g.kind) h.kind

-- A tag is of an equal type.
pub record TypesFit (n : ℕ) (hs : List RecGroup) (t u : FuncType) : Type 0 where
  pub params : ResultEqual hs u.params (types_shifted n t.params)
  pub results : ResultEqual hs u.results (types_shifted n t.results)

pub record TagFits (n : ℕ) (gs hs : List RecGroup) (g h : Tag) : Type 0 where
  pub type : (t : FuncType) → func_in gs g.type_index ≡ Some t → There (func_in hs h.type_index) (TypesFit n hs t)

-- Each index of context c stands for an address of context d, where what is there fits.
pub record Fits (i : Instance) (c d : Context) : Type 0 where
  pub types : Stands i.types c.types d.types
  pub functions : (x y : ℕ) → slice_get c.functions x ≡ Some y → There (slice_get d.functions (at i.functions x)) (FunctionFits i.types c.types d.types y)
  pub tables : (x : ℕ) (t : TableType) → slice_get c.tables x ≡ Some t
      → There (slice_get d.tables (at i.tables x)) (λ u. RefEqual d.types u.element (ref_shifted i.types t.element))
  pub memories : (x : ℕ) → x < length c.memories → at i.memories x < length d.memories
  pub globals : (x : ℕ) (g : GlobalType) → slice_get c.globals x ≡ Some g → There (slice_get d.globals (at i.globals x)) (GlobalFits i.types d.types g)
  pub tags : (x : ℕ) (g : Tag) → slice_get c.tags x ≡ Some g → There (slice_get d.tags (at i.tags x)) (TagFits i.types c.types d.types g)
  pub elements : (y : ℕ) (r : RefType) → slice_get c.elements y ≡ Some r → slice_get d.elements (i.elements + y) ≡ Some (ref_shifted i.types r)
  pub datas : (y : ℕ) → y < c.datas → i.datas + y < d.datas
  pub declared : (x : ℕ) → slice_get c.declared x ≡ Some true → slice_get d.declared (at i.functions x) ≡ Some true
  pub locals : d.locals ≡ types_shifted i.types c.locals
  pub results : d.results ≡ row_shifted i.types c.results
  pub labels : d.labels ≡ rows_shifted i.types c.labels
