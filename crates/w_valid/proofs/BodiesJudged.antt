-- What is known of the first bodies of a module: with one more, with fewer, and where none is refuted.
use Rattle.std.proofs.Common.{◌≡◌, ◌⊎◌, inl, inr, ℕ, ◌+◌, ◌<◌, ◌≤◌, List, [], ◌∷◌, ◌++◌, length, take, Some, refl, sym, ap, subst, ◌∙◌, arith}
use Rattle.std.specs.Prelude.{slice_get, get_or}
use Rattle.std.proofs.lemmas.Bool.{cases_lt}
use Rattle.std.proofs.lemmas.List.{length-append, length-take, get_or-take}
use Rattle.std.proofs.lemmas.Option.{slice_get_within, slice_get-get_or, get_or_from_slice_get}
use Rattle.lists.proofs.Lists.{get-front, get-behind, front_or_last}
use Rattle.w_syntax.specs.declared.module.Module.{Module}
use Rattle.w_rules.specs.Valid.{FunctionValid}
use Rattle.w_valid.specs.JudgedBodies.{AreJudged, IsDoubt, IsDoubted, IsFirstOf}
use Rattle.w_valid.specs.Measured.{IsMeasureOf, AreMeasuresBelow}
use Rattle.w_valid.specs.declared.judged_bodies.Doubt.{Doubt}
use Rattle.w_valid.specs.declared.judged_bodies.JudgedBodies.{JudgedBodies}

-- ## One more

-- a doubt is there as well where one more stands behind
doubted_before : (ds : List Doubt) (e : Doubt) (i : ℕ) → IsDoubted ds 0 i → IsDoubted (ds ++ e ∷ []) 0 i
doubted_before ds e i q = (q.0, q.1, q.2, get-front ds (e ∷ []) q.0 (slice_get_within ds q.0 q.1 q.3) ∙ q.3, q.4)

-- and so is the one more
doubted_last : (ds : List Doubt) (e : Doubt) → IsDoubted (ds ++ e ∷ []) 0 e.index
doubted_last ds e =
    let at : length ds ≡ length ds + 0 = omega arith in
    (length ds, e, omega arith, ap (λ (j : ℕ). slice_get (ds ++ e ∷ []) j) at ∙ get-behind ds (e ∷ []) 0, refl)

module _ {m : Module} (old new : JudgedBodies) {h d n : ℕ} (p : new.heights.items ≡ old.heights.items ++ h ∷ []) (q : new.depths.items ≡ old.depths.items ++ d ∷ []) (at : n ≡ length old.heights.items)
    (here : FunctionValid m n → IsMeasureOf m n (h, d)) (judged : AreJudged m old) where
  measures_more : (i a b : ℕ) → slice_get new.heights.items i ≡ Some a → slice_get new.depths.items i ≡ Some b → FunctionValid m i → IsMeasureOf m i (a, b)
  measures_more i a b x y v =
      both (front_or_last old.heights.items h i a (ap (λ (xs : List ℕ). slice_get xs i) (sym p) ∙ x)) (front_or_last old.depths.items d i b (ap (λ (xs : List ℕ). slice_get xs i) (sym q) ∙ y))
    where
      both : (slice_get old.heights.items i ≡ Some a) ⊎ ((i ≡ length old.heights.items) × (h ≡ a)) → (slice_get old.depths.items i ≡ Some b) ⊎ ((i ≡ length old.depths.items) × (d ≡ b)) → IsMeasureOf m i (a, b)
      both (inl s) (inl t) = judged.measures i a b s t v
      both (inl s) (inr t) = absurd (omega (arith, slice_get_within old.heights.items i a s, t.0, judged.as_many))
      both (inr s) (inl t) = absurd (omega (arith, slice_get_within old.depths.items i b t, s.0, judged.as_many))
      both (inr s) (inr t) =
          let same : n ≡ i = at ∙ sym s.0 in
          let it = subst (λ (k : ℕ). FunctionValid m k → IsMeasureOf m k (h, d)) same here v in
          subst (λ (z : ℕ). IsMeasureOf m i (a, z)) t.1 (subst (λ (z : ℕ). IsMeasureOf m i (z, d)) s.1 it)

  as_many_more : length new.depths.items ≡ length new.heights.items
  as_many_more = omega (arith, ap length p, ap length q, length-append old.heights.items (h ∷ []), length-append old.depths.items (d ∷ []), judged.as_many)

  each_more : ((i : ℕ) → IsDoubted old.doubts.items 0 i → IsDoubted new.doubts.items 0 i) → FunctionValid m n ⊎ IsDoubted new.doubts.items 0 n → (i : ℕ) → i < length new.heights.items
      → FunctionValid m i ⊎ IsDoubted new.doubts.items 0 i
  each_more stays last i lt = elim (cases_lt i (length old.heights.items)) [
    | inl l ↦ elim (judged.each i l) [ inl v ↦ inl v | inr x ↦ inr (stays i x) ]
    | inr g ↦
        let same : n ≡ i = omega (arith, at, g, lt, ap length p, length-append old.heights.items (h ∷ [])) in
        subst (λ (k : ℕ). FunctionValid m k ⊎ IsDoubted new.doubts.items 0 k) same last
  ]

  -- one that is valid
  pub judged_valid : new.doubts.items ≡ old.doubts.items → FunctionValid m n → AreJudged m new
  judged_valid r v = record {
    as_many = as_many_more;
    measures = measures_more;
    doubts = λ k e s. judged.doubts k e (ap (λ (es : List Doubt). slice_get es k) (sym r) ∙ s);
    each = each_more (λ i x. subst (λ (es : List Doubt). IsDoubted es 0 i) (sym r) x) (inl v);
  }

  -- one that is doubted
  pub judged_doubted : (e : Doubt) → new.doubts.items ≡ old.doubts.items ++ e ∷ [] → e.index ≡ n → IsDoubt m e.index e.needs → AreJudged m new
  judged_doubted e r index doubt = record {
    as_many = as_many_more;
    measures = measures_more;
    doubts = λ k f s. elim (front_or_last old.doubts.items e k f (ap (λ (es : List Doubt). slice_get es k) (sym r) ∙ s)) [
      | inl x ↦ judged.doubts k f x
      | inr x ↦ subst (λ (g : Doubt). IsDoubt m g.index g.needs) x.1 doubt
    ];
    each = each_more (λ i x. subst (λ (es : List Doubt). IsDoubted es 0 i) (sym r) (doubted_before old.doubts.items e i x))
        (inr (subst (λ (k : ℕ). IsDoubted new.doubts.items 0 k) index (subst (λ (es : List Doubt). IsDoubted es 0 e.index) (sym r) (doubted_last old.doubts.items e))));
  }

-- ## Fewer

get_taken : {A : Type 0} (n : ℕ) (xs : List A) (i : ℕ) (x : A) → slice_get (take n xs) i ≡ Some x → slice_get xs i ≡ Some x
get_taken n xs i x e =
    let within = slice_get_within (take n xs) i x e in
    slice_get-get_or xs i x (omega (arith, within, length-take n xs))
    ∙ ap (λ (y : _). Some y) (sym (get_or-take n xs i x (omega (arith, within, length-take n xs))) ∙ get_or_from_slice_get (take n xs) i x x e)

pub judged_fewer : {m : Module} (old new : JudgedBodies) (n : ℕ) → new.heights.items ≡ take n old.heights.items → new.depths.items ≡ take n old.depths.items → new.doubts.items ≡ old.doubts.items → AreJudged m old → AreJudged m new
judged_fewer {m} old new n p q r judged = record {
  as_many = omega (arith, ap length p, ap length q, length-take n old.heights.items, length-take n old.depths.items, judged.as_many);
  measures = λ i h d x y v. judged.measures i h d (get_taken n old.heights.items i h (ap (λ (xs : List ℕ). slice_get xs i) (sym p) ∙ x)) (get_taken n old.depths.items i d (ap (λ (xs : List ℕ). slice_get xs i) (sym q) ∙ y)) v;
  doubts = λ k e s. judged.doubts k e (ap (λ (es : List Doubt). slice_get es k) (sym r) ∙ s);
  each = λ i lt. subst (λ (es : List Doubt). FunctionValid m i ⊎ IsDoubted es 0 i) (sym r) (judged.each i (omega (arith, lt, ap length p, length-take n old.heights.items)));
}

-- ## None refuted

-- where all are valid, each has its measures
pub all_judged : {m : Module} (b : JudgedBodies) → AreJudged m b → ((j : ℕ) → j < length b.heights.items → FunctionValid m j) → AreMeasuresBelow m (length b.heights.items) b.heights.items b.depths.items
all_judged b judged valid = record {
  as_many_heights = refl;
  as_many_depths = judged.as_many;
  heights = λ i t f x y lt. height_at i lt ∙ ap (λ (z : ℕ). Some z) ((judged.measures i (get_or b.heights.items i 0) (get_or b.depths.items i 0) (height_at i lt) (depth_at i lt) (valid i lt)) t f x y).0;
  depths = λ i t f x y lt. depth_at i lt ∙ ap (λ (z : ℕ). Some z) ((judged.measures i (get_or b.heights.items i 0) (get_or b.depths.items i 0) (height_at i lt) (depth_at i lt) (valid i lt)) t f x y).1;
}
  where
    height_at : (i : ℕ) → i < length b.heights.items → slice_get b.heights.items i ≡ Some (get_or b.heights.items i 0)
    height_at i lt = slice_get-get_or b.heights.items i 0 lt

    depth_at : (i : ℕ) → i < length b.heights.items → slice_get b.depths.items i ≡ Some (get_or b.depths.items i 0)
    depth_at i lt = slice_get-get_or b.depths.items i 0 (omega (arith, lt, judged.as_many))

-- ## The first that is refuted

-- the doubts before this place are looked at, and this is the first body that they refute
pub record RefutedSoFar (m : Module) (b : JudgedBodies) (k first : ℕ) : Type 0 where
  pub refuted : first < length b.heights.items → FunctionValid m first → ⊥
  pub below : (j : ℕ) → j < first → FunctionValid m j ⊎ IsDoubted b.doubts.items k j

pub none_so_far : {m : Module} (b : JudgedBodies) → AreJudged m b → RefutedSoFar m b 0 (length b.heights.items)
none_so_far b judged = record {
  refuted = λ lt. absurd (omega (arith, lt));
  below = judged.each;
}

-- a doubt is about the body, or it is one that stands behind
doubted_on : (ds : List Doubt) (k : ℕ) (d : Doubt) (j : ℕ) → slice_get ds k ≡ Some d → IsDoubted ds k j → (d.index ≡ j) ⊎ IsDoubted ds (k + 1) j
doubted_on ds k d j is q = elim (cases_lt k q.0) [
  | inl lt ↦ inr (q.0, q.1, omega (arith, lt), q.3, q.4)
  | inr ge ↦
      let same : q.0 ≡ k = omega (arith, ge, q.2) in
      let found : Some q.1 ≡ Some d = sym q.3 ∙ ap (λ (i : ℕ). slice_get ds i) same ∙ is in
      let it : q.1 ≡ d = cc in
      inl (ap (λ (e : Doubt). e.index) (sym it) ∙ q.4)
]

-- a doubt that does not count: it is about a later body, or that one is valid
not_refuted : {m : Module} (b : JudgedBodies) (k first : ℕ) (d : Doubt) → slice_get b.doubts.items k ≡ Some d → (d.index < first → FunctionValid m d.index) → RefutedSoFar m b k first → RefutedSoFar m b (k + 1) first
not_refuted {m} b k first d is holds h = record {
  refuted = h.refuted;
  below = λ j lt. elim (h.below j lt) [
    | inl v ↦ inl v
    | inr q ↦ elim (doubted_on b.doubts.items k d j is q) [ inl e ↦ inl (subst (FunctionValid m) e (holds (omega (arith, e, lt)))) | inr s ↦ inr s ]
  ];
}

-- one that refutes an earlier body
refuted_earlier : {m : Module} (b : JudgedBodies) (k first : ℕ) (d : Doubt) → slice_get b.doubts.items k ≡ Some d → d.index < first → (FunctionValid m d.index → ⊥) → RefutedSoFar m b k first → RefutedSoFar m b (k + 1) d.index
refuted_earlier {m} b k first d is earlier refuted h = record {
  refuted = λ lt. refuted;
  below = λ j lt. elim (h.below j (omega (arith, lt, earlier))) [
    | inl v ↦ inl v
    | inr q ↦ elim (doubted_on b.doubts.items k d j is q) [ inl e ↦ absurd (omega (arith, e, lt)) | inr s ↦ inr s ]
  ];
}

-- one doubt more is looked at
pub looked_at : {m : Module} (b : JudgedBodies) (items : List Doubt) (k first now : ℕ) (e : Doubt) → items ≡ b.doubts.items → k < length items
    → (IsDoubt m (get_or items k e).index (get_or items k e).needs → IsFirstOf m (get_or items k e) first now) → AreJudged m b → RefutedSoFar m b k first → RefutedSoFar m b (k + 1) now
looked_at {m} b items k first now e same lt is_first judged h = by_case (is_first (judged.doubts k d is))
  where
    d : Doubt
    d = get_or items k e

    is : slice_get b.doubts.items k ≡ Some d
    is = ap (λ (es : List Doubt). slice_get es k) (sym same) ∙ slice_get-get_or items k e lt

    by_case : IsFirstOf m d first now → RefutedSoFar m b (k + 1) now
    by_case (inl p) = subst (RefutedSoFar m b (k + 1)) (sym p.0) (not_refuted b k first d is p.1 h)
    by_case (inr p) = subst (RefutedSoFar m b (k + 1)) (sym p.0) (refuted_earlier b k first d is p.1 p.2 h)

-- where all are looked at, each body before it is valid
pub all_before : {m : Module} (b : JudgedBodies) (k first : ℕ) → length b.doubts.items ≤ k → RefutedSoFar m b k first → (j : ℕ) → j < first → FunctionValid m j
all_before b k first le h j lt = elim (h.below j lt) [ inl v ↦ v | inr q ↦ absurd (omega (arith, le, q.2, slice_get_within b.doubts.items q.0 q.1 q.3)) ]
