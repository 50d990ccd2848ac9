-- What a sound module within its limits has room for, and that its expressions are constant.
use Rattle.std.proofs.Common.{◌≡◌, ℕ, zero, suc, ◌+◌, ◌<◌, ◌≤◌, List, [], ◌∷◌, length, get_or, map, refl, sym, ap, ◌∙◌, subst, arith}
use Rattle.std.specs.Prelude.{Bool, true, false, if◌then◌else◌, nat_le, All, IfSome, Option, Some, None, slice_get}
use Rattle.std.proofs.lemmas.List.Elements.{All-get_or, All-weaker}
use Rattle.std.proofs.lemmas.Option.{get_or_from_slice_get, slice_get-get_or, slice_get_within}
use Rattle.w_memory.specs.Memory.{page_limit}
use Rattle.w_tables.specs.Elements.{table_limit}
use Rattle.w_syntax.specs.Code.{Code}
use Rattle.w_syntax.specs.declared.module.Data.{Data}
use Rattle.w_syntax.specs.declared.module.DataMode.{DataMode}
use Rattle.w_syntax.specs.declared.module.DataMode.TheVariants as data_mode
use Rattle.w_syntax.specs.declared.module.Elem.{Elem}
use Rattle.w_syntax.specs.declared.module.ElemMode.{ElemMode}
use Rattle.w_syntax.specs.declared.module.ElemMode.TheVariants as elem_mode
use Rattle.w_syntax.specs.declared.module.GlobalVariable.{GlobalVariable}
use Rattle.w_syntax.specs.declared.module.Limits.{Limits}
use Rattle.w_syntax.specs.declared.module.Module.{Module}
use Rattle.w_syntax.specs.declared.module.Table.{Table}
use Rattle.w_rules.specs.Bodies.{ConstTyped}
use Rattle.w_rules.specs.Context.{Context}
use Rattle.w_types.specs.declared.types.ValType.{ValType}
use Rattle.w_types.specs.declared.types.RefType.{RefType}
use Rattle.w_types.specs.declared.types.ValType.TheVariants.{Ref}
use Rattle.w_rules.specs.Spaces.{context_of}
use Rattle.w_rules.specs.Sound.{Sound}
use Rattle.w_rules.specs.Valid.{IsInitValid, IsElemModeValid, IsDataModeValid, IsMaxValid, AreLimitsValid, most_pages, most_elements, TableItem, GlobalItem, ElementItem, DataItem}
use Rattle.w_reduce.specs.declared.limit.StartLimit.TheVariants as limit
use Rattle.w_reduce.specs.Start.{none_above, exceeded}
use Rattle.w_inst.specs.Constants.{IsConstant}
use Rattle.w_inst.proofs.ConstantCode.{each}
use Rattle.w_inst.proofs.InOrder.{whole_part}
use Rattle.w_inst.specs.Instances.{IsPart}
use Rattle.w_inst.specs.Segments.{IsElemConstant, IsDataConstant}

-- ## Limits

-- an item's number is not above the limit
within_at : {A : Type 0} (most : ℕ) (f : A → ℕ) (xs : List A) (i : ℕ) (d : A) → none_above most (map f xs) ≡ true → i < length xs → f (get_or xs i d) ≤ most
within_at most f [] i d e h = absurd (omega (arith, h))
within_at most f (x ∷ xs) zero d e h = let a = (each (nat_le (f x) most) (none_above most (map f xs)) e).0 in grind (arith, a)
within_at most f (x ∷ xs) (suc i) d e h = within_at most f xs i d (each (nat_le (f x) most) (none_above most (map f xs)) e).1 (omega (arith, h))

-- neither of two limits is passed
both_within : (a b : Bool) → (if a then (if b then None else Some limit.Table) else Some limit.Memory) ≡ None → (a ≡ true) × (b ≡ true)
both_within true true e = (refl, refl)
both_within true false e = absurd (cc)
both_within false b e = absurd (cc)

-- no limit is passed
none_exceeded : (m : Module) → exceeded m ≡ None
    → (none_above page_limit (map (λ (l : Limits). l.min) m.memories) ≡ true) × (none_above table_limit (map (λ (t : Table). t.kind.limits.min) m.tables) ≡ true)
none_exceeded m e = both_within (none_above page_limit (map (λ (l : Limits). l.min) m.memories)) (none_above table_limit (map (λ (t : Table). t.kind.limits.min) m.tables)) e

-- a maximum that is valid has its place in 32 bits
max_fits : (bound min : ℕ) (max : Option ℕ) → bound < 4294967296 → IsMaxValid bound min max → IfSome max (λ n. n < 4294967296)
max_fits bound min None h v = tt
max_fits bound min (Some n) h v = omega (arith, h, v.1)

-- the minimum and the maximum have their places
pub record FitsIn (bound : ℕ) (l : Limits) : Type 0 where
  pub min : l.min ≤ bound
  pub max : IfSome l.max (λ n. n < 4294967296)

-- the limits of the memory at a place
pub memory_fits : (m : Module) (xs : List Limits) (i : ℕ) (d : Limits) → Sound m → exceeded m ≡ None → xs ≡ m.memories → i < length xs → FitsIn page_limit (get_or xs i d)
memory_fits m xs i d v w e h =
    let P : List Limits → Type 0 = λ l. i < length l in
    let Q : List Limits → Type 0 = λ l. FitsIn page_limit (get_or l i d) in
    let k = subst P e h in
    let l = get_or m.memories i d in
    subst Q (sym e) (record {
      min = within_at page_limit (λ (n : Limits). n.min) m.memories i d (none_exceeded m w).0 k;
      max = max_fits most_pages l.min l.max (omega arith) (All-get_or (AreLimitsValid most_pages) m.memories i d k v.memories).max;
    })

-- ## Expressions

-- an expression that is typed as a constant is one
constant_typed : (c : Context) (k : Code) (t : ValType) → ConstTyped c k t → IsConstant k
constant_typed c k t w = record { within = c; constant = w.constant }

-- the global at a place begins with constant code
pub global_constant : (m : Module) (xs : List GlobalVariable) (i : ℕ) (d : GlobalVariable) → Sound m → xs ≡ m.globals → i < length xs → d ≡ get_or xs i d → IsConstant d.init
global_constant m xs i d v e h f =
    let P : List GlobalVariable → Type 0 = λ l. i < length l in
    let w = v.items (GlobalItem i) refl (subst P e h) in
    let Q : GlobalVariable → Type 0 = λ g. IsConstant g.init in
    let same = sym (get_or_from_slice_get m.globals i w.global d w.is) ∙ ap (λ (l : List GlobalVariable). get_or l i d) (sym e) ∙ sym f in
    subst Q same (constant_typed _ _ _ w.init)

-- a table's limits have their places, and it is filled by constant code
pub record TableFits (t : Table) : Type 0 where
  pub limits : FitsIn table_limit t.kind.limits
  pub init : IfSome t.init IsConstant

-- so is what a table is filled with
init_constant : (m : Module) (r : RefType) (o : Option Code) → IsInitValid m r o → IfSome o IsConstant
init_constant m r None h = tt
init_constant m r (Some k) h = constant_typed _ _ _ h

-- the table at a place
pub table_fits : (m : Module) (xs : List Table) (i : ℕ) (d : Table) → Sound m → exceeded m ≡ None → xs ≡ m.tables → i < length xs → d ≡ get_or xs i d → TableFits d
table_fits m xs i d v w e h f =
    let P : List Table → Type 0 = λ l. i < length l in
    let k = subst P e h in
    let t = v.items (TableItem i) refl k in
    let here = get_or_from_slice_get m.tables i t.table d t.is in
    let same = sym here ∙ ap (λ (l : List Table). get_or l i d) (sym e) ∙ sym f in
    let at_most : t.table.kind.limits.min ≤ table_limit =
    (let L : Table → Type 0 = λ u. u.kind.limits.min ≤ table_limit in subst L here (within_at table_limit (λ (u : Table). u.kind.limits.min) m.tables i d (none_exceeded m w).1 k)) in
    subst TableFits same (record {
      limits = record { min = at_most; max = max_fits most_elements t.table.kind.limits.min t.table.kind.limits.max (omega arith) t.valid.limits.max };
      init = init_constant m t.table.kind.element t.table.init t.init;
    })

-- an element segment's items are constant, and so is its offset

-- so is the offset of an active segment
elem_constant : (m : Module) (r : RefType) (o : ElemMode) → IsElemModeValid m r o → IsElemConstant o
elem_constant m r (elem_mode.Active x k) h = constant_typed _ _ _ h.1
elem_constant m r elem_mode.Passive h = tt
elem_constant m r elem_mode.Declarative h = tt

-- all expressions of an element segment are constant
pub record ElementConstant (e : Elem) : Type 0 where
  pub items : All IsConstant e.items
  pub mode : IsElemConstant e.mode

-- the element segment at a place of a part of them
pub element_constant : (m : Module) (part : List Elem) (from i : ℕ) (d : Elem) → Sound m → IsPart from part m.elements → i < length part → d ≡ get_or part i d → ElementConstant d
element_constant m part from i d v is h f =
    let there : slice_get m.elements (from + i) ≡ Some d = sym (is i h) ∙ slice_get-get_or part i d h ∙ ap Some (sym f) in
    let w = v.items (ElementItem (from + i)) refl (slice_get_within m.elements (from + i) d there) in
    let same : w.element ≡ d = let a = w.is in cc in
    subst ElementConstant same (record {
      items = All-weaker (λ (k : Code). ConstTyped (context_of m) k (Ref w.element.kind)) IsConstant (λ k t. constant_typed _ _ _ t) w.element.items w.items;
      mode = elem_constant m w.element.kind w.element.mode w.mode;
    })

-- the same of one at a place of all
pub element_constant_at : (m : Module) (xs : List Elem) (i : ℕ) (d : Elem) → Sound m → xs ≡ m.elements → i < length xs → d ≡ get_or xs i d → ElementConstant d
element_constant_at m xs i d v e h f = element_constant m xs 0 i d v (whole_part xs m.elements e) h f

-- so is the offset of an active segment
data_constant : (m : Module) (o : DataMode) → IsDataModeValid m o → IsDataConstant o
data_constant m (data_mode.Active x k) h = constant_typed _ _ _ h.1
data_constant m data_mode.Passive h = tt

-- the data segment at a place of a part of them
pub offset_constant : (m : Module) (part : List Data) (from i : ℕ) (d : Data) → Sound m → IsPart from part m.datas → i < length part → d ≡ get_or part i d → IsDataConstant d.mode
offset_constant m part from i d v is h f =
    let there : slice_get m.datas (from + i) ≡ Some d = sym (is i h) ∙ slice_get-get_or part i d h ∙ ap Some (sym f) in
    let w = v.items (DataItem (from + i)) refl (slice_get_within m.datas (from + i) d there) in
    let same : w.segment ≡ d = let a = w.is in cc in
    subst (λ (x : Data). IsDataConstant x.mode) same (data_constant m w.segment.mode w.mode)
