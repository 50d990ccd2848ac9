-- The spans of the classes tell which types match.
use Rattle.std.proofs.Common.{◌≡◌, ◌↔◌, inl, ℕ, zero, suc, ◌+◌, ◌<◌, nat_lt, cond, Bool, true, false, IsTrue, List, [], ◌∷◌, length, map, get_or, Option, Some, None, slice_get, refl, sym, ap, subst, ◌∙◌, arith, nat_le, ◌≤◌, le-leb, ltb-true, lt-ltb}
use Rattle.std.specs.Option.{option_map}
use Rattle.std.proofs.lemmas.Option.{slice_get-map, slice_get_within, slice_get-get_or}
use Rattle.lists.proofs.Tests.{each_of}
use Rattle.w_types.specs.declared.types.SubType.{SubType}
use Rattle.w_types.specs.declared.types.RecGroup.{RecGroup}
use Rattle.w_types.specs.Groups.{subtypes_of}
use Rattle.w_canon.specs.declared.entry.Class.{Class}
use Rattle.w_canon.specs.declared.entry.Kind.{Kind}
use Rattle.w_canon.specs.declared.entry.Entry.{Entry}
use Rattle.w_canon.specs.declared.forest.Span.{Span}
use Rattle.w_canon.specs.Classed.{Numbers, count, Classed}
use Rattle.w_canon.specs.Equivalence.{SameIndex}
use Rattle.w_canon.specs.Forest.{IsParent, IsForest, IsUnder, itself, span_test, AreSpans}
use Rattle.w_canon.specs.Forest as forest
use Rattle.w_canon.specs.IsClassesOf.{OneClass, first_of, HaveFirsts, HaveSpans, IsClassesOf}
use Rattle.w_canon.specs.Matching.{HasSupertype, IndexMatches, same, above}
use Rattle.w_canon.specs.Parents.{first_at, parent_by, parents_from}
use Rattle.w_canon.specs.Shares.{none}
use Rattle.w_canon.specs.Spanned.{spanned}
use Rattle.w_canon.proofs.ClassesOfTypes.{stands_at, first_alike, first_early}
use Rattle.w_canon.proofs.Equivalent.{symmetric}
use Rattle.w_canon.proofs.Laminar.{item_at}
use Rattle.w_canon.proofs.Supertypes.{supertype_same, index_joined, as_many_entries}
use Rattle.w_canon.proofs.TestsOfLists.{and_both}

-- ## Parents

pub length-parents_from : (es : List Entry) (x : ℕ) (ts : List SubType) → length (parents_from es x ts) ≡ length ts
length-parents_from es x [] = refl
length-parents_from es x (t ∷ ts) = ap suc (length-parents_from es (suc x) ts)

get-parents_from : (es : List Entry) (x : ℕ) (ts : List SubType) (k : ℕ) (t : SubType) → slice_get ts k ≡ Some t
    → slice_get (parents_from es x ts) k ≡ Some (parent_by es (x + k) t.supertypes)
get-parents_from es x [] k t h = absurd (cc)
get-parents_from es x (u ∷ ts) zero t h =
    let e : x + 0 ≡ x = omega arith in
    let same : u ≡ t = cc in
    ap (λ (v : SubType). Some (parent_by es x v.supertypes)) same ∙ ap (λ (n : ℕ). Some (parent_by es n t.supertypes)) (sym e)
get-parents_from es x (u ∷ ts) (suc k) t h =
    let e : x + suc k ≡ suc x + k = omega arith in
    get-parents_from es (suc x) ts k t h ∙ ap (λ (n : ℕ). Some (parent_by es n t.supertypes)) (sym e)

-- where the first of them is type 0
get-parents : (es : List Entry) (ts : List SubType) (k : ℕ) (t : SubType) → slice_get ts k ≡ Some t → slice_get (parents_from es 0 ts) k ≡ Some (parent_by es k t.supertypes)
get-parents es ts k t h = let e : 0 + k ≡ k = omega arith in get-parents_from es 0 ts k t h ∙ ap (λ (n : ℕ). Some (parent_by es n t.supertypes)) e

-- what stands above a type is the first of the class of its one supertype, in front of it
parent_found : (es : List Entry) (x : ℕ) (zs : List ℕ) (p : ℕ) → parent_by es x zs ≡ Some p → (z : ℕ) × (zs ≡ z ∷ []) × (z < x) × (first_at es z ≡ Some p)
parent_found es x [] p e = absurd (cc)
parent_found es x (z ∷ y ∷ zs) p e = absurd (cc)
parent_found es x (z ∷ []) p e = by (nat_lt z x) refl e
  where
    by : (b : Bool) → nat_lt z x ≡ b → cond b (first_at es z) None ≡ Some p → (w : ℕ) × (z ∷ [] ≡ w ∷ []) × (w < x) × (first_at es w ≡ Some p)
    by true i h = (z, refl, ltb-true z x i, h)
    by false i h = absurd (cc)

parent_is : (es : List Entry) (x : ℕ) (zs : List ℕ) (z : ℕ) → zs ≡ z ∷ [] → z < x → parent_by es x zs ≡ first_at es z
parent_is es x zs z e lt = ap (parent_by es x) e ∙ ap (λ (b : Bool). cond b (first_at es z) None) (lt-ltb z x lt)

pub same_some : {A : Type 0} {a b : A} → Some a ≡ Some b → a ≡ b
same_some e = cc

first_found : (es : List Entry) (z p : ℕ) (o : Option Entry) → slice_get es z ≡ o → option_map (λ (e : Entry). first_of e.class) o ≡ Some p → (a : Entry) × (slice_get es z ≡ Some a) × (first_of a.class ≡ p)
first_found es z p None i e = absurd (cc)
first_found es z p (Some a) i e = (a, i, cc)

module _ (m : Numbers) (gs : List RecGroup) (es : List Entry) (c : Classed m gs es) where
  long : length es ≡ count gs
  long = as_many_entries gs es c.kinds

  -- the supertype of a type that has a parent
  record Parent (x p : ℕ) : Type 0 where
    supertype : ℕ
    has : HasSupertype gs x supertype
    entry : Entry
    is : slice_get es supertype ≡ Some entry
    first : first_of entry.class ≡ p

  parent : (x p : ℕ) → IsParent (parents_from es 0 (subtypes_of gs)) x p → Parent x p
  parent x p h =
      let within : x < length (subtypes_of gs) = omega (arith, slice_get_within (parents_from es 0 (subtypes_of gs)) x (Some p) h, length-parents_from es 0 (subtypes_of gs)) in
      let t = item_at (subtypes_of gs) x within in
      let e : parent_by es x t.0.supertypes ≡ Some p = same_some (sym (get-parents es (subtypes_of gs) x t.0 t.1) ∙ h) in
      let z = parent_found es x t.0.supertypes p e in
      let a = first_found es z.0 p (slice_get es z.0) refl z.3 in
      record { supertype = z.0; has = record { type = t.0; is = t.1; alone = z.1; before = z.2 }; entry = a.0; is = a.1; first = a.2 }

  pub is_forest : IsForest (parents_from es 0 (subtypes_of gs))
  is_forest x p h =
      let q = parent x p h in
      let e = first_early m gs es c q.supertype q.entry q.is in
      let f = q.first in
      let b = q.has.before in
      omega (arith, e, f, b)

  -- types of one class are equivalent
  one_class : (i j : ℕ) → OneClass es i j → SameIndex gs i j
  one_class i j o = (stands_at m gs es c i j o.0 o.1 o.2 o.3).0 o.4

  first_same : (i : ℕ) (a : Entry) → slice_get es i ≡ Some a → SameIndex gs i (first_of a.class)
  first_same i a h = one_class i (first_of a.class) (first_alike m gs es c i a h)

  -- a class under another matches it
  under_matches : {x y : ℕ} → IsUnder (parents_from es 0 (subtypes_of gs)) x y → IndexMatches gs x y
  under_matches itself = same (inl refl)
  under_matches (forest.IsUnder.above {x} {p} {y} h u) =
      let q = parent x p h in
      let s : SameIndex gs q.supertype p = subst (SameIndex gs q.supertype) q.first (first_same q.supertype q.entry q.is) in
      above q.has (index_joined gs (same s) (under_matches u))

  -- a type that matches another has a class under that of the other
  matches_under : {x y : ℕ} → IndexMatches gs x y → (a b : Entry) → slice_get es x ≡ Some a → slice_get es y ≡ Some b
      → IsUnder (parents_from es 0 (subtypes_of gs)) (first_of a.class) (first_of b.class)
  matches_under (same {x} {y} s) a b i j =
      let e : a.class ≡ b.class = (stands_at m gs es c x y a b i j).1 s in
      subst (λ (n : ℕ). IsUnder (parents_from es 0 (subtypes_of gs)) (first_of a.class) n) (ap first_of e) itself
  matches_under (above {x} {y} {z} h k) a b i j =
      let within = slice_get_within es x a i in
      let before = h.before in
      let d = item_at es z (omega (arith, within, before)) in
      let w = first_of a.class in
      let v = supertype_same gs w x z (symmetric gs x w (first_same x a i)) h in
      let f = item_at es v.0 (omega (arith, v.1.before, first_early m gs es c x a i, within)) in
      let class : f.0.class ≡ d.0.class = (stands_at m gs es c v.0 z f.0 d.0 f.1 d.1).1 v.2 in
      let here : slice_get (parents_from es 0 (subtypes_of gs)) w ≡ Some (parent_by es w v.1.type.supertypes) = get-parents es (subtypes_of gs) w v.1.type v.1.is in
      let there : parent_by es w v.1.type.supertypes ≡ Some (first_of d.0.class) =
      parent_is es w v.1.type.supertypes v.0 v.1.alone v.1.before
      ∙ ap (option_map (λ (e : Entry). first_of e.class)) f.1
      ∙ ap (λ (k : Class). Some (first_of k)) class in
      forest.IsUnder.above (here ∙ ap (λ (o : Option ℕ). Some o) there) (matches_under k d.0 b d.1 j)

  -- ## With spans

  module _ (ss : List Span) (are : AreSpans (parents_from es 0 (subtypes_of gs)) ss) where
    pub as_many_spans : length ss ≡ length es
    as_many_spans = are.as_many ∙ length-parents_from es 0 (subtypes_of gs) ∙ sym long

    -- the span of an entry's class
    span_at : (i : ℕ) (a : Entry) → slice_get es i ≡ Some a → slice_get ss (first_of a.class) ≡ Some (get_or ss (first_of a.class) none)
    span_at i a h = slice_get-get_or ss (first_of a.class) none (omega (arith, as_many_spans, first_early m gs es c i a h, slice_get_within es i a h))

    spans_decided : (i j : ℕ) (a b : Entry) → slice_get es i ≡ Some a → slice_get es j ≡ Some b
        → IsTrue (span_test (get_or ss (first_of a.class) none) (get_or ss (first_of b.class) none)) ↔ IndexMatches gs i j
    spans_decided i j a b h k =
        let t = are.decided (first_of a.class) (first_of b.class) (get_or ss (first_of a.class) none) (get_or ss (first_of b.class) none) (span_at i a h) (span_at j b k) in (
          λ e. index_joined gs (same (first_same i a h)) (index_joined gs (under_matches (t.0 e)) (same (symmetric gs j (first_of b.class) (first_same j b k)))),
          λ u. t.1 (matches_under u a b h k),
        )

    -- an entry with a span comes from one without
    record From (i : ℕ) (a : Entry) : Type 0 where
      entry : Entry
      is : slice_get es i ≡ Some entry
      same_entry : spanned ss entry ≡ a

    from_by : (i : ℕ) (a : Entry) (o : Option Entry) → slice_get es i ≡ o → option_map (spanned ss) o ≡ Some a → From i a
    from_by i a None h e = absurd (cc)
    from_by i a (Some b) h e = record { entry = b; is = h; same_entry = cc }

    from : (i : ℕ) (a : Entry) → slice_get (map (spanned ss) es) i ≡ Some a → From i a
    from i a h = from_by i a (slice_get es i) refl (sym (slice_get-map (spanned ss) es i) ∙ h)

    kinds_kept : (es : List Entry) → map (λ (e : Entry). e.kind) (map (spanned ss) es) ≡ map (λ (e : Entry). e.kind) es
    kinds_kept [] = refl
    kinds_kept (e ∷ es) = ap (λ (ks : List Kind). e.kind ∷ ks) (kinds_kept es)

    pub all_classes : IsClassesOf gs (map (spanned ss) es)
    all_classes = record {
      kinds = kinds_kept es ∙ c.kinds;
      classes = λ i j a b h k.
          let f = from i a h in
          let g = from j b k in
          subst (λ (z : Entry). (a.class ≡ z.class) ↔ SameIndex gs i j) g.same_entry
          (subst (λ (z : Entry). (z.class ≡ g.entry.class) ↔ SameIndex gs i j) f.same_entry (stands_at m gs es c i j f.entry g.entry f.is g.is));
      spans = λ i j a b h k.
          let f = from i a h in
          let g = from j b k in
          subst (λ (z : Entry). IsTrue (span_test a.span z.span) ↔ IndexMatches gs i j) g.same_entry
          (subst (λ (z : Entry). IsTrue (span_test z.span (spanned ss g.entry).span) ↔ IndexMatches gs i j) f.same_entry (spans_decided i j f.entry g.entry f.is g.is));
    }

    -- the first types of classes are still of them
    pub all_firsts : HaveFirsts (map (spanned ss) es)
    all_firsts i a h =
        let f = from i a h in
        let o = first_alike m gs es c i f.entry f.is in
        let class : f.entry.class ≡ a.class = ap (λ (e : Entry). e.class) f.same_entry in
        let there : slice_get (map (spanned ss) es) (first_of f.entry.class) ≡ Some (spanned ss o.1) = slice_get-map (spanned ss) es (first_of f.entry.class) ∙ ap (option_map (spanned ss)) o.3 in
        let both : o.0.class ≡ f.entry.class = let x = o.2 in let y = f.is in let e : o.0 ≡ f.entry = cc in ap (λ (z : Entry). z.class) e in
        (a, spanned ss o.1, h, ap (λ (k : Class). slice_get (map (spanned ss) es) (first_of k)) (sym class) ∙ there, sym class ∙ sym both ∙ o.4)

    -- no node stands under one behind it
    under_front : {x y : ℕ} → IsUnder (parents_from es 0 (subtypes_of gs)) x y → y ≤ x
    under_front itself = omega arith
    under_front (forest.IsUnder.above {x} {p} h u) = let lt = is_forest x p h in let le = under_front u in omega arith

    -- spans hold a place
    proper_at : (i : ℕ) (a : Entry) → slice_get es i ≡ Some a → (get_or ss (first_of a.class) none).from < (get_or ss (first_of a.class) none).to
    proper_at i a h =
        let x = first_of a.class in
        let s = get_or ss x none in
        let t = (are.decided x x s s (span_at i a h) (span_at i a h)).1 itself in
        ltb-true s.from s.to (each_of (nat_le s.from s.from) (nat_lt s.from s.to) t).1

    -- classes whose spans begin at one place are one
    begins_once : (i j : ℕ) (a b : Entry) → slice_get es i ≡ Some a → slice_get es j ≡ Some b
        → (get_or ss (first_of a.class) none).from ≡ (get_or ss (first_of b.class) none).from → a.class ≡ b.class
    begins_once i j a b h k e =
        let x = first_of a.class in
        let y = first_of b.class in
        let s = get_or ss x none in
        let t = get_or ss y none in
        let inside : (u v : Span) → u.from ≡ v.from → v.from < v.to → IsTrue (span_test u v) =
        λ u v f lt. and_both (nat_le v.from u.from) (nat_lt u.from v.to) (le-leb v.from u.from (omega arith)) (lt-ltb u.from v.to (omega arith)) in
        let one = under_front ((are.decided x y s t (span_at i a h) (span_at j b k)).0 (inside s t e (proper_at j b k))) in
        let other = under_front ((are.decided y x t s (span_at j b k) (span_at i a h)).0 (inside t s (sym e) (proper_at i a h))) in
        let same : x ≡ y = omega arith in
        let o = first_alike m gs es c i a h in
        let p = first_alike m gs es c j b k in
        let here : o.0.class ≡ a.class = let f = o.2 in let g : o.0 ≡ a = cc in ap (λ (z : Entry). z.class) g in
        let there : p.0.class ≡ b.class = let f = p.2 in let g : p.0 ≡ b = cc in ap (λ (z : Entry). z.class) g in
        let both : o.1 ≡ p.1 = same_some (sym o.3 ∙ ap (slice_get es) same ∙ p.3) in
        sym here ∙ o.4 ∙ ap (λ (z : Entry). z.class) both ∙ sym p.4 ∙ there

    pub all_spans : HaveSpans (map (spanned ss) es)
    all_spans = record {
      proper = λ i a h.
          let f = from i a h in
          subst (λ (z : Entry). z.span.from < z.span.to) f.same_entry (proper_at i f.entry f.is);
      once = λ i j a b h k e.
          let f = from i a h in
          let g = from j b k in
          let begins : (spanned ss f.entry).span.from ≡ (spanned ss g.entry).span.from = ap (λ (z : Entry). z.span.from) f.same_entry ∙ e ∙ sym (ap (λ (z : Entry). z.span.from) g.same_entry) in
          sym (ap (λ (z : Entry). z.class) f.same_entry) ∙ begins_once i j f.entry g.entry f.is g.is begins ∙ ap (λ (z : Entry). z.class) g.same_entry;
    }
