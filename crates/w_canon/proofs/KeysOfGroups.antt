-- Groups have one key exactly where they are equal.
use Rattle.std.proofs.Common.{◌≡◌, ◌↔◌, ◌⊎◌, inl, inr, ℕ, suc, ◌-◌, ◌<◌, ◌≤◌, Bool, true, false, List, [], ◌∷◌, ◌++◌, length, Option, Some, None, slice_get, refl, sym, ap, subst, ◌∙◌, append_assoc, arith}
use Rattle.std.specs.List.{flat_map}
use Rattle.std.proofs.lemmas.List.{length-map}
use Rattle.std.proofs.lemmas.Option.{slice_get_cases}
use Rattle.w_types.specs.declared.types.HeapType.{HeapType}
use Rattle.w_types.specs.declared.types.HeapType.TheVariants as heap
use Rattle.w_types.specs.declared.types.ValType.{ValType}
use Rattle.w_types.specs.declared.types.ValType.TheVariants as val
use Rattle.w_types.specs.declared.types.FuncType.{FuncType}
use Rattle.w_types.specs.declared.types.CompType.{CompType}
use Rattle.w_types.specs.declared.types.CompType.TheVariants as comp
use Rattle.w_types.specs.declared.types.SubType.{SubType}
use Rattle.w_types.specs.declared.types.RecGroup.{RecGroup}
use Rattle.w_canon.specs.declared.entry.Entry.{Entry}
use Rattle.w_canon.specs.declared.key.HeapWord.{HeapWord}
use Rattle.w_canon.specs.declared.key.HeapWord.TheVariants as key_heap
use Rattle.w_canon.specs.declared.key.ValueWord.{ValueWord}
use Rattle.w_canon.specs.declared.key.ValueWord.TheVariants as key_value
use Rattle.w_canon.specs.declared.key.Word.{Word}
use Rattle.w_canon.specs.declared.key.Word.TheVariants as key
use Rattle.w_canon.specs.Relations.{Pairwise, none, more}
use Rattle.w_canon.specs.Equivalence.{AlikeIndex, inside, outside, AlikeHeap, AlikeRef, AlikeVal, AlikeFunc, AlikeComp, AlikeSub, AlikeGroup}
use Rattle.w_canon.specs.Equivalence as alike
use Rattle.w_canon.specs.Keys.{seen_as, index_word, heap_word, ref_word, value_word, value_words, type_words, head_word, supertype_words, subtype_words, group_words}

-- the types es in front of one group and fs in front of another have one class exactly where S says that they are equal
abbrev pub ClassedBy : (ℕ → ℕ → Type 0) → List Entry → List Entry → Type 0
ClassedBy S es fs = (x y : ℕ) (a b : Entry) → slice_get es x ≡ Some a → slice_get fs y ≡ Some b → (a.class ≡ b.class) ↔ S x y

-- an index is outside, or inside at its position
abbrev Seen : List Entry → ℕ → Type 0
Seen es x = ((a : Entry) × (x < length es) × (slice_get es x ≡ Some a)) ⊎ ((length es ≤ x) × (slice_get es x ≡ None))

seen : (es : List Entry) (x : ℕ) → Seen es x
seen es x = elim ((slice_get_cases es x).1) [ inl h ↦ inl (h.0, h.1, h.2) | inr h ↦ inr h ]

outside_word : (es : List Entry) (x : ℕ) (a : Entry) → slice_get es x ≡ Some a → index_word es x ≡ key_heap.Outside a.class
outside_word es x a h = ap (λ (o : Option Entry). seen_as o (x - length es)) h

inside_word : (es : List Entry) (x : ℕ) → slice_get es x ≡ None → index_word es x ≡ key_heap.Inside (x - length es)
inside_word es x h = ap (λ (o : Option Entry). seen_as o (x - length es)) h

-- the word is of no index
abbrev IsAbstract : HeapWord → Type 0
IsAbstract (key_heap.Inside p) = ⊥
IsAbstract (key_heap.Outside c) = ⊥
IsAbstract _ = Unit {0}

index_apart : (w : HeapWord) (o : Option Entry) (p : ℕ) → IsAbstract w → w ≡ seen_as o p → ⊥
index_apart w (Some a) p h e = subst IsAbstract e h
index_apart w None p h e = subst IsAbstract e h

-- the word is of no reference
abbrev IsNumber : ValueWord → Type 0
IsNumber key_value.I32 = Unit {0}
IsNumber key_value.I64 = Unit {0}
IsNumber _ = ⊥

ref_apart : (w : ValueWord) (b : Bool) (u : HeapWord) → IsNumber w → w ≡ ref_word b u → ⊥
ref_apart w true u h e = subst IsNumber e h
ref_apart w false u h e = subst IsNumber e h

ref_same : (b c : Bool) (u w : HeapWord) → ref_word b u ≡ ref_word c w → (b ≡ c) × (u ≡ w)
ref_same true true u w e = (refl, cc)
ref_same true false u w e = absurd (cc)
ref_same false true u w e = absurd (cc)
ref_same false false u w e = (refl, cc)

-- equal lists in two parts, the first parts of one length
same_parts : {A : Type 0} (xs ys us vs : List A) → length xs ≡ length ys → xs ++ us ≡ ys ++ vs → (xs ≡ ys) × (us ≡ vs)
same_parts [] [] us vs n e = (refl, e)
same_parts [] (y ∷ ys) us vs n e = absurd (omega (arith, n))
same_parts (x ∷ xs) [] us vs n e = absurd (omega (arith, n))
same_parts (x ∷ xs) (y ∷ ys) us vs n e =
    let r = same_parts xs ys us vs (omega (arith, n)) (cc) in
    let p = r.0 in
    let h : x ≡ y = cc in
    (cc, r.1)

count : (es : List Entry) (vs : List ValType) → length (value_words es vs) ≡ length vs
count es vs = length-map vs (λ (v : ValType). key.Value (value_word es v))

-- as many items
same_length : {A : Type 0} {R : A → A → Type 0} {xs ys : List A} → Pairwise R xs ys → length xs ≡ length ys
same_length none = refl
same_length (more h t) = ap suc (same_length t)

module _ (S : ℕ → ℕ → Type 0) (es fs : List Entry) (by : ClassedBy S es fs) where
  -- ## Indices

  index_from_by : (x y : ℕ) → Seen es x → Seen fs y → index_word es x ≡ index_word fs y → AlikeIndex S (length es) (length fs) x y
  index_from_by x y (inl a) (inl b) h =
      let v = outside_word es x a.0 a.2 in
      let w = outside_word fs y b.0 b.2 in
      outside a.1 b.1 ((by x y a.0 b.0 a.2 b.2).0 (cc))
  index_from_by x y (inl a) (inr b) h =
      let v = outside_word es x a.0 a.2 in
      let w = inside_word fs y b.1 in
      absurd (cc)
  index_from_by x y (inr a) (inl b) h =
      let v = inside_word es x a.1 in
      let w = outside_word fs y b.0 b.2 in
      absurd (cc)
  index_from_by x y (inr a) (inr b) h =
      let v = inside_word es x a.1 in
      let w = inside_word fs y b.1 in
      inside a.0 b.0 (cc)

  index_from : (x y : ℕ) → index_word es x ≡ index_word fs y → AlikeIndex S (length es) (length fs) x y
  index_from x y = index_from_by x y (seen es x) (seen fs y)

  index_to_by : (x y : ℕ) → Seen es x → Seen fs y → AlikeIndex S (length es) (length fs) x y → index_word es x ≡ index_word fs y
  index_to_by x y (inl a) (inl b) (outside p q h) =
      let v = outside_word es x a.0 a.2 in
      let w = outside_word fs y b.0 b.2 in
      let c = (by x y a.0 b.0 a.2 b.2).1 h in
      v ∙ ap key_heap.Outside c ∙ sym w
  index_to_by x y (inr a) (inr b) (inside p q h) = inside_word es x a.1 ∙ ap key_heap.Inside h ∙ sym (inside_word fs y b.1)
  index_to_by x y (inl a) b (inside p q h) = absurd (omega (arith, a.1))
  index_to_by x y (inr a) b (outside p q h) = absurd (omega (arith, a.0))
  index_to_by x y a (inl b) (inside p q h) = absurd (omega (arith, b.1))
  index_to_by x y a (inr b) (outside p q h) = absurd (omega (arith, b.0))

  index_to : (x y : ℕ) → AlikeIndex S (length es) (length fs) x y → index_word es x ≡ index_word fs y
  index_to x y = index_to_by x y (seen es x) (seen fs y)

  -- ## Heap types

  heap_from : (h k : HeapType) → heap_word es h ≡ heap_word fs k → AlikeHeap S (length es) (length fs) h k
  heap_from heap.Func heap.Func e = alike.AlikeHeap.func
  heap_from heap.NoFunc heap.NoFunc e = alike.AlikeHeap.no_func
  heap_from heap.Cont heap.Cont e = alike.AlikeHeap.cont
  heap_from heap.NoCont heap.NoCont e = alike.AlikeHeap.no_cont
  heap_from (heap.Index x) (heap.Index y) e = alike.AlikeHeap.index (index_from x y e)
  heap_from (heap.Index x) k e = absurd (index_apart (heap_word fs k) (slice_get es x) (x - length es) tt (sym e))
  heap_from h (heap.Index y) e = absurd (index_apart (heap_word es h) (slice_get fs y) (y - length fs) tt e)
  heap_from _ _ e = absurd (cc)

  heap_to : {h k : HeapType} → AlikeHeap S (length es) (length fs) h k → heap_word es h ≡ heap_word fs k
  heap_to alike.AlikeHeap.func = refl
  heap_to alike.AlikeHeap.no_func = refl
  heap_to alike.AlikeHeap.cont = refl
  heap_to alike.AlikeHeap.no_cont = refl
  heap_to (alike.AlikeHeap.index {x} {y} h) = index_to x y h

  -- ## Value types

  value_from : (v w : ValType) → value_word es v ≡ value_word fs w → AlikeVal S (length es) (length fs) v w
  value_from val.I32 val.I32 e = alike.AlikeVal.i32
  value_from val.I64 val.I64 e = alike.AlikeVal.i64
  value_from (val.Ref r) (val.Ref q) e =
      let h = ref_same r.nullable q.nullable (heap_word es r.heap) (heap_word fs q.heap) e in
      alike.AlikeVal.ref (record { nullable = h.0; heap = heap_from r.heap q.heap h.1 })
  value_from (val.Ref r) w e = absurd (ref_apart (value_word fs w) r.nullable (heap_word es r.heap) tt (sym e))
  value_from v (val.Ref q) e = absurd (ref_apart (value_word es v) q.nullable (heap_word fs q.heap) tt e)
  value_from _ _ e = absurd (cc)

  value_to : {v w : ValType} → AlikeVal S (length es) (length fs) v w → value_word es v ≡ value_word fs w
  value_to alike.AlikeVal.i32 = refl
  value_to alike.AlikeVal.i64 = refl
  value_to (alike.AlikeVal.ref {r} {q} h) =
      ap (λ (b : Bool). ref_word b (heap_word es r.heap)) h.nullable ∙ ap (ref_word q.nullable) (heap_to h.heap)

  values_from : (vs ws : List ValType) → value_words es vs ≡ value_words fs ws → Pairwise (AlikeVal S (length es) (length fs)) vs ws
  values_from [] [] e = none
  values_from [] (w ∷ ws) e = absurd (cc)
  values_from (v ∷ vs) [] e = absurd (cc)
  values_from (v ∷ vs) (w ∷ ws) e = more (value_from v w (cc)) (values_from vs ws (cc))

  values_to : {vs ws : List ValType} → Pairwise (AlikeVal S (length es) (length fs)) vs ws → value_words es vs ≡ value_words fs ws
  values_to none = refl
  values_to (more h t) =
      let p = value_to h in
      let q = values_to t in
      cc

  -- ## Types

  func_from : (f g : FuncType) (us vs : List Word) → type_words es (comp.Func f) ++ us ≡ type_words fs (comp.Func g) ++ vs
      → AlikeFunc S (length es) (length fs) f g × (us ≡ vs)
  func_from f g us vs e =
      let m : length f.params ≡ length g.params = cc in
      let n : length f.results ≡ length g.results = cc in
      let parts : (value_words es f.params ++ value_words es f.results) ++ us ≡ (value_words fs g.params ++ value_words fs g.results) ++ vs = cc in
      let a = same_parts (value_words es f.params) (value_words fs g.params) (value_words es f.results ++ us) (value_words fs g.results ++ vs) (omega (arith, m, count es f.params, count fs g.params))
      (sym (append_assoc (value_words es f.params) (value_words es f.results) us) ∙ parts ∙ append_assoc (value_words fs g.params) (value_words fs g.results) vs) in
      let b = same_parts (value_words es f.results) (value_words fs g.results) us vs (omega (arith, n, count es f.results, count fs g.results)) a.1 in
      (record { params = values_from f.params g.params a.0; results = values_from f.results g.results b.0 }, b.1)

  type_from : (t u : CompType) (us vs : List Word) → type_words es t ++ us ≡ type_words fs u ++ vs → AlikeComp S (length es) (length fs) t u × (us ≡ vs)
  type_from (comp.Func f) (comp.Func g) us vs e = let h = func_from f g us vs e in (alike.AlikeComp.func h.0, h.1)
  type_from (comp.Cont x) (comp.Cont y) us vs e = (alike.AlikeComp.cont (index_from x y (cc)), cc)
  type_from _ _ us vs e = absurd (cc)

  type_to : {t u : CompType} → AlikeComp S (length es) (length fs) t u → type_words es t ≡ type_words fs u
  type_to (alike.AlikeComp.func {f} {g} h) =
      let p = values_to h.params in
      let q = values_to h.results in
      let m = same_length h.params in
      let n = same_length h.results in
      cc
  type_to (alike.AlikeComp.cont {x} {y} h) = ap (λ (w : HeapWord). key.Cont w ∷ []) (index_to x y h)

  -- ## Supertypes

  supertypes_from : (xs ys : List ℕ) → supertype_words es xs ≡ supertype_words fs ys → Pairwise (AlikeIndex S (length es) (length fs)) xs ys
  supertypes_from [] [] e = none
  supertypes_from [] (y ∷ ys) e = absurd (cc)
  supertypes_from (x ∷ xs) [] e = absurd (cc)
  supertypes_from (x ∷ xs) (y ∷ ys) e = more (index_from x y (cc)) (supertypes_from xs ys (cc))

  supertypes_to : {xs ys : List ℕ} → Pairwise (AlikeIndex S (length es) (length fs)) xs ys → supertype_words es xs ≡ supertype_words fs ys
  supertypes_to none = refl
  supertypes_to (more {x} {y} h t) =
      let p = index_to x y h in
      let q = supertypes_to t in
      cc

  -- ## Types with their supertypes

  rest_from : (a b : SubType) (us vs : List Word) → a.is_final ≡ b.is_final → length a.supertypes ≡ length b.supertypes
      → (supertype_words es a.supertypes ++ type_words es a.composite) ++ us ≡ (supertype_words fs b.supertypes ++ type_words fs b.composite) ++ vs
      → AlikeSub S (length es) (length fs) a b × (us ≡ vs)
  rest_from a b us vs f n e =
      let m : length (supertype_words es a.supertypes) ≡ length (supertype_words fs b.supertypes) =
      length-map a.supertypes (λ (x : ℕ). key.Supertype (index_word es x)) ∙ n ∙ sym (length-map b.supertypes (λ (x : ℕ). key.Supertype (index_word fs x))) in
      let parts = same_parts (supertype_words es a.supertypes) (supertype_words fs b.supertypes) (type_words es a.composite ++ us) (type_words fs b.composite ++ vs) m
      (sym (append_assoc (supertype_words es a.supertypes) (type_words es a.composite) us) ∙ e ∙ append_assoc (supertype_words fs b.supertypes) (type_words fs b.composite) vs) in
      let t = type_from a.composite b.composite us vs parts.1 in
      (record { is_final = f; supertypes = supertypes_from a.supertypes b.supertypes parts.0; composite = t.0 }, t.1)

  sub_by : (a b : SubType) (us vs : List Word) (f g : Bool) → a.is_final ≡ f → b.is_final ≡ g
      → head_word f (length a.supertypes) ∷ ((supertype_words es a.supertypes ++ type_words es a.composite) ++ us)
      ≡ head_word g (length b.supertypes) ∷ ((supertype_words fs b.supertypes ++ type_words fs b.composite) ++ vs)
      → AlikeSub S (length es) (length fs) a b × (us ≡ vs)
  sub_by a b us vs true true i j e = rest_from a b us vs (i ∙ sym j) (cc) (cc)
  sub_by a b us vs false false i j e = rest_from a b us vs (i ∙ sym j) (cc) (cc)
  sub_by a b us vs true false i j e = absurd (cc)
  sub_by a b us vs false true i j e = absurd (cc)

  sub_from : (a b : SubType) (us vs : List Word) → subtype_words es a ++ us ≡ subtype_words fs b ++ vs → AlikeSub S (length es) (length fs) a b × (us ≡ vs)
  sub_from a b us vs e = sub_by a b us vs a.is_final b.is_final refl refl e

  sub_to : (a b : SubType) → AlikeSub S (length es) (length fs) a b → subtype_words es a ≡ subtype_words fs b
  sub_to a b h =
      let n = same_length h.supertypes in
      let p = supertypes_to h.supertypes in
      let q = type_to h.composite in
      ap (λ (f : Bool). head_word f (length a.supertypes) ∷ (supertype_words es a.supertypes ++ type_words es a.composite)) h.is_final
      ∙ ap (λ (k : ℕ). head_word b.is_final k ∷ (supertype_words es a.supertypes ++ type_words es a.composite)) n
      ∙ ap (λ (ws : List Word). head_word b.is_final (length b.supertypes) ∷ (ws ++ type_words es a.composite)) p
      ∙ ap (λ (ws : List Word). head_word b.is_final (length b.supertypes) ∷ (supertype_words fs b.supertypes ++ ws)) q

  -- ## Groups

  types_from : (ts us : List SubType) → flat_map (subtype_words es) ts ≡ flat_map (subtype_words fs) us → Pairwise (AlikeSub S (length es) (length fs)) ts us
  types_from [] [] e = none
  types_from [] (u ∷ us) e = absurd (cc)
  types_from (t ∷ ts) [] e = absurd (cc)
  types_from (t ∷ ts) (u ∷ us) e =
      let h = sub_from t u (flat_map (subtype_words es) ts) (flat_map (subtype_words fs) us) e in
      more h.0 (types_from ts us h.1)

  types_to : {ts us : List SubType} → Pairwise (AlikeSub S (length es) (length fs)) ts us → flat_map (subtype_words es) ts ≡ flat_map (subtype_words fs) us
  types_to none = refl
  types_to (more {x} {y} h k) =
      let p = sub_to x y h in
      let q = types_to k in
      cc

  pub one_key : (g h : RecGroup) → (group_words es g ≡ group_words fs h) ↔ AlikeGroup S (length es) (length fs) g h
  one_key g h = (types_from g.types h.types, types_to)
