-- Types that end in a reference to a type by its index.
use Rattle.std.proofs.Common.{◌≡◌, ℕ, ◌+◌, ◌-◌, ◌≤◌, Bool, List, [], ◌∷◌, ◌++◌, length, length-append, length-take, take, Option, Some, None, sym, ap, ◌∙◌, arith}
use Rattle.std.specs.Prelude.{IfSome}
use Rattle.std.proofs.lemmas.List.{take_all, take-append-le}
use Rattle.w_types.specs.declared.types.HeapType.{HeapType}
use Rattle.w_types.specs.declared.types.HeapType.TheVariants.{Func, NoFunc, Cont, NoCont, Index}
use Rattle.w_types.specs.declared.types.ValType.{ValType}
use Rattle.w_types.specs.declared.types.ValType.TheVariants.{I32, I64, Ref}
use Rattle.lists.specs.Rows.{Row, ε, ◌▹◌, row_of}
use Rattle.lists.proofs.Rows.{row_of-more}
use Rattle.w_vswitch.specs.Rows.{index_of, last_index}

-- by the last of the types
pub by_last : (types beneath : List ValType) (top u : ValType) → types ≡ beneath ++ top ∷ [] → top ≡ u → last_index (row_of types) ≡ last_index (row_of beneath ▹ u)
by_last types beneath top u e f = ap last_index (ap row_of e ∙ row_of-more beneath top ∙ ap (λ (v : ValType). row_of beneath ▹ v) f)

-- the types before the last
pub beneath_last : (types beneath : List ValType) (top : ValType) → types ≡ beneath ++ top ∷ [] → take (length types - 1) types ≡ beneath
beneath_last types beneath top e =
    let long : length types ≡ length beneath + 1 = ap length e ∙ length-append beneath (top ∷ []) in
    ap (λ (n : ℕ). take n types) (omega arith) ∙ ap (take (length beneath)) e ∙ take-append-le (length beneath) beneath (top ∷ []) (omega arith) ∙ take_all (length beneath) beneath (omega arith)

-- as many as they are
pub front_same : (types beneath : List ValType) → beneath ≡ take (length types - 1) types → take (length beneath) types ≡ beneath
front_same types beneath e =
    let long : length beneath ≡ length types - 1 = ap length e ∙ omega (arith, length-take (length types - 1) types) in
    ap (λ (n : ℕ). take n types) long ∙ sym e

pub front_within : (types beneath : List ValType) → beneath ≡ take (length types - 1) types → length beneath ≤ length types
front_within types beneath e = let long = ap length e in omega (arith, long, length-take (length types - 1) types)

-- what holds of what there is, if there is something
pub in_option : {A : Type 0} (o : Option A) (P Q : A → Type 0) → IfSome o P → ((a : A) → P a → Q a) → IfSome o Q
in_option None P Q h f = tt
in_option (Some a) P Q h f = f a h

-- what was found stands in the heap type
heap_found : (us : Row ValType) (h : HeapType) (beneath : Row ValType) (y : ℕ) → index_of us h ≡ Some (beneath, y) → (us ≡ beneath) × (h ≡ Index y)
heap_found us (Index z) beneath y e =
    let p : (us, z) ≡ (beneath, y) = cc in
    (ap (λ (q : Row ValType × ℕ). q.0) p, ap (λ (q : Row ValType × ℕ). Index q.1) p)
heap_found us Func beneath y e = absurd (cc)
heap_found us NoFunc beneath y e = absurd (cc)
heap_found us Cont beneath y e = absurd (cc)
heap_found us NoCont beneath y e = absurd (cc)

-- the types that end so
pub last_found : (us : Row ValType) (beneath : Row ValType) (y : ℕ) → last_index us ≡ Some (beneath, y) →
    (n : Bool) × (us ≡ beneath ▹ Ref (record { nullable = n; heap = Index y }))
last_found ε beneath y e = absurd (cc)
last_found (us ▹ I32) beneath y e = absurd (cc)
last_found (us ▹ I64) beneath y e = absurd (cc)
last_found (us ▹ Ref r) beneath y e =
    let f = heap_found us r.heap beneath y e in
    (r.nullable, ap (λ (vs : Row ValType). vs ▹ Ref r) f.0 ∙ ap (λ (h : HeapType). beneath ▹ Ref (record { nullable = r.nullable; heap = h })) f.1)
