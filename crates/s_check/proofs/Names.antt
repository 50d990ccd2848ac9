-- Maps and sets of names.
use Rattle.std.proofs.Common.{◌≡◌, ℕ, zero, suc, List, [], ◌∷◌, ◌++◌, take, length, Bool, true, false, ◌||◌, cond, Option, Some, None, Bor, refl, sym, ap, subst, ◌∙◌, ◌⊎◌, inl, inr, arith}
use Rattle.std.specs.BTreeMap.{BTreeMap, is_at}
use Rattle.std.specs.BTreeMap as tree
use Rattle.std.specs.BTreeSet.{BTreeSet, contains}
use Rattle.std.specs.Cmp.Lexicographic.{slice_cmp}
use Rattle.std.specs.Option.{option_map}
use Rattle.std.specs.Ordering.{nat_cmp}
use Rattle.std.specs.Prelude.{slice_get, is_some}
use Rattle.std.specs.Str.{bytes_eq}
use Rattle.std.proofs.lemmas.Map.Text.{is_eq-slice_cmp}
use Rattle.std.proofs.lemmas.Slice.Eq.{bytes_eq-Decides}
use Rattle.s_syntax.specs.declared.name.Name.{Name}
use Rattle.s_syntax.specs.declared.script.Definition.{Definition}
use Rattle.s_syntax.specs.declared.script.Declaration.{Declaration}
use Rattle.s_check.specs.declared.bound.Binding.{Binding}
use Rattle.s_check.specs.declared.bound.ValueType.{ValueType}
use Rattle.s_check.specs.Definitions.{definition_of}
use Rattle.s_check.specs.Scopes.{Scope, type_in, is_among}
use Rattle.s_check.specs.Views.{type_of, type_at, bound_of, scope_of, place_of, Places, found, Finds, has, HasNames}

-- ## Sets

or_cond : (b c : Bool) → cond b true c ≡ (b || c)
or_cond true c = refl
or_cond false c = refl

-- one name more
pub has_more : (x : Bor (List ℕ)) (name : Name) (old more : BTreeSet (Bor (List ℕ))) (xs : List Name) → x.now ≡ name
    → ((q : Bor (List ℕ)) → contains (λ x y. slice_cmp nat_cmp x.now y.now) more q ≡ cond (is_at (λ y. slice_cmp nat_cmp x.now y.now) q) true (contains (λ x y. slice_cmp nat_cmp x.now y.now) old q))
    → HasNames old xs → HasNames more (name ∷ xs)
has_more x name old more xs is updates h q =
    subst (λ b. has more q ≡ cond b true (has old q)) (is_eq-slice_cmp x.now q) (updates (record { ref_ptr = (0, 0); now = q }))
    ∙ or_cond (bytes_eq x.now q) (has old q)
    ∙ ap (λ (b : Bool). bytes_eq x.now q || b) (h q)
    ∙ ap (λ (n : List ℕ). bytes_eq n q || is_among xs q) is

-- ## Definitions

mapped_cond : {A B : Type 0} (f : A → B) (b : Bool) (x : A) (o : Option A) → option_map f (cond b (Some x) o) ≡ cond b (Some (f x)) (option_map f o)
mapped_cond f true x o = refl
mapped_cond f false x o = refl

-- one declaration more, in front
pub finds_more : (x : Bor (List ℕ)) (v : Bor Definition) (d : Declaration) (old more : BTreeMap (Bor (List ℕ)) (Bor Definition)) (ds : List Declaration) → x.now ≡ d.name → v.now ≡ d.definition
    → ((q : Bor (List ℕ)) → tree.get (λ x y. slice_cmp nat_cmp x.now y.now) more q ≡ cond (is_at (λ y. slice_cmp nat_cmp x.now y.now) q) (Some v) (tree.get (λ x y. slice_cmp nat_cmp x.now y.now) old q))
    → Finds old ds → Finds more (d ∷ ds)
finds_more x v d old more ds name is updates h q =
    ap (option_map (λ (e : Bor Definition). e.now)) (updates (record { ref_ptr = (0, 0); now = q }))
    ∙ mapped_cond (λ (e : Bor Definition). e.now) (is_at (λ (y : Bor (List ℕ)). slice_cmp nat_cmp x.now y.now) (record { ref_ptr = (0, 0); now = q })) v (tree.get (λ (x y : Bor (List ℕ)). slice_cmp nat_cmp x.now y.now) old (record { ref_ptr = (0, 0); now = q }))
    ∙ ap (λ (b : Bool). cond b (Some v.now) (found old q)) (is_eq-slice_cmp x.now q)
    ∙ ap (λ (o : Option Definition). cond (bytes_eq x.now q) (Some v.now) o) (h q)
    ∙ ap (λ (n : List ℕ). cond (bytes_eq n q) (Some v.now) (definition_of ds q)) name
    ∙ ap (λ (e : Definition). cond (bytes_eq d.name q) (Some e) (definition_of ds q)) is

-- ## Scopes

-- no binding has the name
pub not_bound : (bs : List Binding) (x : Name) → ((i : ℕ) (b : Binding) → slice_get bs i ≡ Some b → b.name.now ≡ x → ⊥) → type_in (scope_of bs) x ≡ None
not_bound [] x h = refl
not_bound (b ∷ bs) x h = by (bytes_eq b.name.now x) refl (not_bound bs x (λ i c is n. h (suc i) c is n))
  where
    by : (q : Bool) → bytes_eq b.name.now x ≡ q → type_in (scope_of bs) x ≡ None → cond q (Some (type_of b.ty)) (type_in (scope_of bs) x) ≡ None
    by true e later = absurd (h 0 b refl ((bytes_eq-Decides b.name.now x).0 e))
    by false e later = later

-- just this one has it
pub is_bound : (bs : List Binding) (x : Name) (i : ℕ) (b : Binding) → slice_get bs i ≡ Some b → b.name.now ≡ x
    → ((j : ℕ) (c : Binding) → slice_get bs j ≡ Some c → c.name.now ≡ x → j ≡ i) → type_in (scope_of bs) x ≡ Some (type_of b.ty)
is_bound [] x i b is name alone = absurd (cc)
is_bound (c ∷ bs) x zero b is name alone =
    let same : c ≡ b = cc in
    ap (λ (q : Bool). cond q (Some (type_of c.ty)) (type_in (scope_of bs) x)) ((bytes_eq-Decides c.name.now x).1 (ap (λ (d : Binding). d.name.now) same ∙ name))
    ∙ ap (λ (d : Binding). Some (type_of d.ty)) same
is_bound (c ∷ bs) x (suc i) b is name alone =
    by (bytes_eq c.name.now x) refl (is_bound bs x i b is name (λ j d at n. let s : suc j ≡ suc i = alone (suc j) d at n in omega (arith, s)))
  where
    by : (q : Bool) → bytes_eq c.name.now x ≡ q → type_in (scope_of bs) x ≡ Some (type_of b.ty) → cond q (Some (type_of c.ty)) (type_in (scope_of bs) x) ≡ Some (type_of b.ty)
    by true e later = let no : 0 ≡ suc i = alone 0 c refl ((bytes_eq-Decides c.name.now x).0 e) in absurd (omega (arith, no))
    by false e later = later

module _ (m : BTreeMap (Bor (List ℕ)) ℕ) (bs : List Binding) (places : Places m bs) (x : Name) where
  place_found : (i : ℕ) (b : Binding) → slice_get bs i ≡ Some b → b.name.now ≡ x → place_of m x ≡ Some i
  place_found i b is name = subst (λ (n : Name). place_of m n ≡ Some i) name (places i b is)

  -- a name without a place isn't bound
  pub not_placed : place_of m x ≡ None → type_in (scope_of bs) x ≡ None
  not_placed none = not_bound bs x (λ i b is name. let p = place_found i b is name in absurd (cc))

  -- nor is one at whose place nothing stands, or another name
  pub placed_outside : (i : ℕ) → place_of m x ≡ Some i → slice_get bs i ≡ None → type_in (scope_of bs) x ≡ None
  placed_outside i at out = not_bound bs x (λ j b is name. let p = place_found j b is name in let same : i ≡ j = cc in (let q : slice_get bs j ≡ None = subst (λ (k : ℕ). slice_get bs k ≡ None) same out in absurd (cc)))

  pub placed_other : (i : ℕ) (b : Binding) → place_of m x ≡ Some i → slice_get bs i ≡ Some b → bytes_eq b.name.now x ≡ false → type_in (scope_of bs) x ≡ None
  placed_other i b at is other = not_bound bs x (λ j c there name.
      let p = place_found j c there name in
      let same : i ≡ j = cc in
      let q : slice_get bs j ≡ Some b = subst (λ (k : ℕ). slice_get bs k ≡ Some b) same is in
      let e : b ≡ c = cc in
      let t = (bytes_eq-Decides b.name.now x).1 (ap (λ (d : Binding). d.name.now) e ∙ name) in
      absurd (cc))

  -- it is bound at its place
  pub placed : (i : ℕ) (b : Binding) → place_of m x ≡ Some i → slice_get bs i ≡ Some b → bytes_eq b.name.now x ≡ true → type_in (scope_of bs) x ≡ Some (type_of b.ty)
  placed i b at is same = is_bound bs x i b is ((bytes_eq-Decides b.name.now x).0 same) (λ j c there name. let p = place_found j c there name in cc)

  -- the type at its place is that of the name
  typed_at : (i : ℕ) (o : Option Binding) → place_of m x ≡ Some i → slice_get bs i ≡ o → option_map type_of (type_at o x) ≡ type_in (scope_of bs) x
  typed_at i None at is = sym (placed_outside i at is)
  typed_at i (Some b) at is = by (bytes_eq b.name.now x) refl
    where
      by : (q : Bool) → bytes_eq b.name.now x ≡ q → option_map type_of (type_at (Some b) x) ≡ type_in (scope_of bs) x
      by true e = ap (λ (q : Bool). option_map type_of (cond q (Some b.ty) None)) e ∙ sym (placed i b at is e)
      by false e = ap (λ (q : Bool). option_map type_of (cond q (Some b.ty) None)) e ∙ sym (placed_other i b at is e)

  pub placed_type : (i : ℕ) → place_of m x ≡ Some i → option_map type_of (type_at (slice_get bs i) x) ≡ type_in (scope_of bs) x
  placed_type i at = typed_at i (slice_get bs i) at refl

-- ## Scopes as they change

taken : (n : ℕ) (bs : List Binding) (i : ℕ) (b : Binding) → slice_get (take n bs) i ≡ Some b → slice_get bs i ≡ Some b
taken zero bs i b is = absurd (cc)
taken (suc n) [] i b is = absurd (cc)
taken (suc n) (c ∷ bs) zero b is = is
taken (suc n) (c ∷ bs) (suc i) b is = taken n bs i b is

-- a front
pub places_front : (m : BTreeMap (Bor (List ℕ)) ℕ) (bs : List Binding) (n : ℕ) → Places m bs → Places m (take n bs)
places_front m bs n h i b is = h i b (taken n bs i b is)

pub scope_front : (n : ℕ) (bs : List Binding) → scope_of (take n bs) ≡ take n (scope_of bs)
scope_front zero bs = refl
scope_front (suc n) [] = refl
scope_front (suc n) (b ∷ bs) = ap (λ (s : Scope). bound_of b ∷ s) (scope_front n bs)

-- a name that isn't bound is no binding's
apart : (bs : List Binding) (x : Name) → type_in (scope_of bs) x ≡ None → (i : ℕ) (c : Binding) → slice_get bs i ≡ Some c → bytes_eq c.name.now x ≡ false
apart [] x none i c is = absurd (cc)
apart (b ∷ bs) x none i c is = by (bytes_eq b.name.now x) refl (λ n j at. apart bs x n j c at) i is
  where
    by : (q : Bool) → bytes_eq b.name.now x ≡ q → (type_in (scope_of bs) x ≡ None → (j : ℕ) → slice_get bs j ≡ Some c → bytes_eq c.name.now x ≡ false)
        → (j : ℕ) → slice_get (b ∷ bs) j ≡ Some c → bytes_eq c.name.now x ≡ false
    by true e later j at = (let some : Some (type_of b.ty) ≡ None = ap (λ (q : Bool). cond q (Some (type_of b.ty)) (type_in (scope_of bs) x)) (sym e) ∙ none in absurd (cc))
    by false e later zero at = (let same : b ≡ c = cc in ap (λ (d : Binding). bytes_eq d.name.now x) (sym same) ∙ e)
    by false e later (suc j) at = later (ap (λ (q : Bool). cond q (Some (type_of b.ty)) (type_in (scope_of bs) x)) (sym e) ∙ none) j at

turned : (a b : Name) → bytes_eq a b ≡ false → bytes_eq b a ≡ false
turned a b e = by (bytes_eq b a) refl
  where
    by : (q : Bool) → bytes_eq b a ≡ q → q ≡ false
    by true f = (let t = (bytes_eq-Decides a b).1 (sym ((bytes_eq-Decides b a).0 f)) in absurd (cc))
    by false f = refl

at_end : (bs : List Binding) (b : Binding) (i : ℕ) (c : Binding) → slice_get (bs ++ b ∷ []) i ≡ Some c → (slice_get bs i ≡ Some c) ⊎ ((i ≡ length bs) × (c ≡ b))
at_end [] b zero c is = inr (refl, (cc))
at_end [] b (suc i) c is = absurd (cc)
at_end (d ∷ bs) b zero c is = inl is
at_end (d ∷ bs) b (suc i) c is = further (at_end bs b i c is)
  where
    further : (slice_get bs i ≡ Some c) ⊎ ((i ≡ length bs) × (c ≡ b)) → (slice_get bs i ≡ Some c) ⊎ ((suc i ≡ suc (length bs)) × (c ≡ b))
    further (inl e) = inl e
    further (inr e) = inr (ap suc e.0, e.1)

module _ (m m' : BTreeMap (Bor (List ℕ)) ℕ) (bs : List Binding) (b : Binding) (x : Bor (List ℕ)) (n : ℕ) (long : n ≡ length bs) (name : x.now ≡ b.name.now) (h : Places m bs) (free : type_in (scope_of bs) b.name.now ≡ None)
    (updates : (q : Bor (List ℕ)) → tree.get (λ x y. slice_cmp nat_cmp x.now y.now) m' q ≡ cond (is_at (λ y. slice_cmp nat_cmp x.now y.now) q) (Some n) (tree.get (λ x y. slice_cmp nat_cmp x.now y.now) m q)) where
  placed_now : (q : Name) → place_of m' q ≡ cond (bytes_eq b.name.now q) (Some n) (place_of m q)
  placed_now q =
      subst (λ c. place_of m' q ≡ cond c (Some n) (place_of m q)) (is_eq-slice_cmp x.now q) (updates (record { ref_ptr = (0, 0); now = q }))
      ∙ ap (λ (y : List ℕ). cond (bytes_eq y q) (Some n) (place_of m q)) name

  -- the others keep their places
  pub places_stay : Places m' bs
  places_stay i c is =
      placed_now c.name.now
      ∙ ap (λ (q : Bool). cond q (Some n) (place_of m c.name.now)) (turned c.name.now b.name.now (apart bs b.name.now free i c is))
      ∙ h i c is

  -- and the name that is bound has its own
  pub places_more : Places m' (bs ++ b ∷ [])
  places_more i c is = by (at_end bs b i c is)
    where
      by : (slice_get bs i ≡ Some c) ⊎ ((i ≡ length bs) × (c ≡ b)) → place_of m' c.name.now ≡ Some i
      by (inl e) = places_stay i c e
      by (inr e) =
          ap (λ (d : Binding). place_of m' d.name.now) e.1 ∙ placed_now b.name.now
          ∙ ap (λ (q : Bool). cond q (Some n) (place_of m b.name.now)) ((bytes_eq-Decides b.name.now b.name.now).1 refl)
          ∙ ap (λ (k : ℕ). Some k) (long ∙ sym e.0)

-- where a lookup finds nothing
pub without_type : (o : Option ValueType) → is_some o ≡ false → option_map type_of o ≡ None
without_type None h = refl
without_type (Some t) h = absurd (cc)

-- a name bound behind the others
pub scope_more : (bs : List Binding) (b : Binding) → scope_of (bs ++ b ∷ []) ≡ scope_of bs ++ bound_of b ∷ []
scope_more [] b = refl
scope_more (c ∷ bs) b = ap (λ (s : Scope). bound_of c ∷ s) (scope_more bs b)
