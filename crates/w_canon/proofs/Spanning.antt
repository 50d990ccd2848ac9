-- The spans of nodes, each by that of its parent.
use Rattle.std.proofs.Common.{◌≡◌, ◌↔◌, ◌⊎◌, inl, inr, ℕ, suc, ◌+◌, ◌<◌, ◌≤◌, IsTrue, List, [], ◌∷◌, ◌++◌, length, get_or, Option, Some, None, slice_get, refl, sym, ap, subst, ◌∙◌, arith}
use Rattle.std.proofs.lemmas.Bool.{cases_lt}
use Rattle.std.proofs.lemmas.List.{length-append, get_or_append_left, get_or_at}
use Rattle.std.proofs.lemmas.Option.{slice_get_within, get_or_from_slice_get}
use Rattle.w_canon.specs.declared.forest.Span.{Span}
use Rattle.w_canon.specs.Forest.{IsParent, IsForest, IsUnder, span_test, AreSpans}
use Rattle.w_canon.specs.Shares.{AreShared, none, start, AreSpansBelow}
use Rattle.w_canon.proofs.Laminar.{item_at, inside_decided}

module _ (ps : List (Option ℕ)) (us os : List ℕ) (roots : ℕ) (forest : IsForest ps) (h : AreShared ps us os roots 0) where
  roots_few : roots ≤ length ps
  roots_few = let f = h.few in omega (arith, f)

  -- ## One span more

  module _ (ss : List Span) (k : ℕ) (b : AreSpansBelow ps us os ss k) where
    -- a node's span ends in front of the end of its parent's
    pub under_fits : (p : ℕ) → k < length ps → slice_get ps k ≡ Some (Some p) → (get_or ss p none).from + 1 + get_or os k 0 + get_or us k 0 + 1 ≤ length ps
    under_fits p within is =
        let less = forest k p is in
        let i = h.inside k (Some p) (omega arith) is in
        let t = b.to p less in
        let f = b.few p less in
        omega (arith, i, t, f)

    pub root_fits : k < length ps → slice_get ps k ≡ Some None → get_or os k 0 + get_or us k 0 + 1 ≤ length ps
    root_fits within is = let i = h.inside k None (omega arith) is in let r = roots_few in omega (arith, i, r)

    start_kept : (o : Option ℕ) (s : Span) (x : ℕ) → x < k → slice_get ps x ≡ Some o → start ss o ≡ start (ss ++ s ∷ []) o
    start_kept None s x lt is = refl
    start_kept (Some p) s x lt is =
        let less = forest x p is in
        let long = b.long in
        let e = get_or_append_left ss (s ∷ []) none p (omega (arith, less, long)) in
        ap (λ (z : Span). z.from + 1) (sym e)

    start_now : (o : Option ℕ) (s : Span) → slice_get ps k ≡ Some o → start ss o ≡ start (ss ++ s ∷ []) o
    start_now None s is = refl
    start_now (Some p) s is =
        let less = forest k p is in
        let long = b.long in
        let e = get_or_append_left ss (s ∷ []) none p (omega (arith, less, long)) in
        ap (λ (z : Span). z.from + 1) (sym e)

    pub more : (s : Span) (o : Option ℕ) → slice_get ps k ≡ Some o → s.from ≡ start ss o + get_or os k 0 → s.to ≡ s.from + get_or us k 0 + 1 → s.to ≤ length ps
        → AreSpansBelow ps us os (ss ++ s ∷ []) (suc k)
    more s o is from to few = record {
      long = let long = b.long in let l = length-append ss (s ∷ []) in omega (arith, long, l);
      from = λ x q lt at. from_by x q lt at (cases_lt x k);
      to = λ x lt. to_by x lt (cases_lt x k);
      few = λ x lt. few_by x lt (cases_lt x k);
    }
      where
        here : get_or (ss ++ s ∷ []) k none ≡ s
        here = get_or_at ss s [] none k b.long

        before : (x : ℕ) → x < k → get_or (ss ++ s ∷ []) x none ≡ get_or ss x none
        before x lt = let long = b.long in get_or_append_left ss (s ∷ []) none x (omega (arith, long))

        from_by : (x : ℕ) (q : Option ℕ) → x < suc k → slice_get ps x ≡ Some q → (x < k) ⊎ (k ≤ x) → (get_or (ss ++ s ∷ []) x none).from ≡ start (ss ++ s ∷ []) q + get_or os x 0
        from_by x q lt at (inl less) =
            let e = ap (λ (z : Span). z.from) (before x less) in
            let f = b.from x q less at in
            let g = start_kept q s x less at in
            omega (arith, e, f, g)
        from_by x q lt at (inr ge) =
            let same : x ≡ k = omega arith in
            let slot : q ≡ o = let e = ap (slice_get ps) same in cc in
            let e = ap (λ z. (get_or (ss ++ s ∷ []) z none).from) same in
            let f = ap (λ (z : Span). z.from) here in
            let g = start_now o s is in
            let read = ap (λ z. get_or os z 0) same in
            subst (λ z. (get_or (ss ++ s ∷ []) x none).from ≡ start (ss ++ s ∷ []) z + get_or os x 0) (sym slot) (omega (arith, e, f, g, from, read))

        to_by : (x : ℕ) → x < suc k → (x < k) ⊎ (k ≤ x) → (get_or (ss ++ s ∷ []) x none).to ≡ (get_or (ss ++ s ∷ []) x none).from + get_or us x 0 + 1
        to_by x lt (inl less) =
            let e = ap (λ (z : Span). z.from) (before x less) in
            let f = ap (λ (z : Span). z.to) (before x less) in
            let g = b.to x less in
            omega (arith, e, f, g)
        to_by x lt (inr ge) =
            let same : x ≡ k = omega arith in
            let e = ap (λ z. (get_or (ss ++ s ∷ []) z none).from) same ∙ ap (λ (z : Span). z.from) here in
            let f = ap (λ z. (get_or (ss ++ s ∷ []) z none).to) same ∙ ap (λ (z : Span). z.to) here in
            let read = ap (λ z. get_or us z 0) same in
            omega (arith, e, f, read, to)

        few_by : (x : ℕ) → x < suc k → (x < k) ⊎ (k ≤ x) → (get_or (ss ++ s ∷ []) x none).to ≤ length ps
        few_by x lt (inl less) = let f = ap (λ (z : Span). z.to) (before x less) in let g = b.few x less in omega (arith, f, g)
        few_by x lt (inr ge) =
            let same : x ≡ k = omega arith in
            let f = ap (λ z. (get_or (ss ++ s ∷ []) z none).to) same ∙ ap (λ (z : Span). z.to) here in
            omega (arith, f, few)

  -- ## All spans

  module _ (ss : List Span) (b : AreSpansBelow ps us os ss (length ps)) where
    abbrev F : ℕ → ℕ
    F x = (get_or ss x none).from

    abbrev T : ℕ → ℕ
    T x = (get_or ss x none).to

    proper : (x : ℕ) (o : Option ℕ) → slice_get ps x ≡ Some o → F x < T x
    proper x o is = let t = b.to x (slice_get_within ps x o is) in omega (arith, t)

    nested : (x p : ℕ) → IsParent ps x p → (F p < F x) × (T x ≤ T p)
    nested x p is =
        let less = forest x p is in
        let within = slice_get_within ps x (Some p) is in
        let f = b.from x (Some p) within is in
        let t = b.to x within in
        let u = b.to p (omega (arith, less, within)) in
        let i = h.inside x (Some p) (omega arith) is in
        (omega (arith, f), omega (arith, f, t, u, i))

    apart : (x y : ℕ) (o : Option ℕ) → x < y → slice_get ps x ≡ Some o → slice_get ps y ≡ Some o → T y ≤ F x
    apart x y o lt is there =
        let f = b.from x o (slice_get_within ps x o is) is in
        let g = b.from y o (slice_get_within ps y o there) there in
        let t = b.to y (slice_get_within ps y o there) in
        let i = h.apart x y o (omega arith) lt is there in
        omega (arith, f, g, t, i)

    test_decided : (s t : Span) → IsTrue (span_test s t) ↔ ((t.from ≤ s.from) × (s.from < t.to))
    test_decided s t = (λ e. test_found s t e, λ e. test_holds s t e)
      where
        test_found : (s t : Span) → IsTrue (span_test s t) → (t.from ≤ s.from) × (s.from < t.to)
        test_found s t e = (grind (arith, e), grind (arith, e))

        test_holds : (s t : Span) → (t.from ≤ s.from) × (s.from < t.to) → IsTrue (span_test s t)
        test_holds s t e = let p = e.0 in let q = e.1 in grind (arith, p, q)

    some_slot : (x : ℕ) → x < length ps → (o : Option ℕ) × (slice_get ps x ≡ Some o)
    some_slot x lt = item_at ps x lt

    decided : (x y : ℕ) (s t : Span) → slice_get ss x ≡ Some s → slice_get ss y ≡ Some t → IsTrue (span_test s t) ↔ IsUnder ps x y
    decided x y s t is there =
        let long = b.long in
        let o = some_slot x (omega (arith, long, slice_get_within ss x s is)) in
        let q = some_slot y (omega (arith, long, slice_get_within ss y t there)) in
        let e : get_or ss x none ≡ s = get_or_from_slice_get ss x s none is in
        let f : get_or ss y none ≡ t = get_or_from_slice_get ss y t none there in
        let k = inside_decided ps F T forest proper nested apart x y o.0 q.0 o.1 q.1 in
        let at : ((t.from ≤ s.from) × (s.from < t.to) → IsUnder ps x y) × (IsUnder ps x y → (t.from ≤ s.from) × (s.from < t.to)) =
        subst (λ (z : Span). ((z.from ≤ s.from) × (s.from < z.to) → IsUnder ps x y) × (IsUnder ps x y → (z.from ≤ s.from) × (s.from < z.to))) f
        (subst (λ (z : Span). (((get_or ss y none).from ≤ z.from) × (z.from < (get_or ss y none).to) → IsUnder ps x y) × (IsUnder ps x y → ((get_or ss y none).from ≤ z.from) × (z.from < (get_or ss y none).to))) e k) in
        let w = test_decided s t in
        (λ z. at.0 (w.0 z), λ u. w.1 (at.1 u))

    pub all_decided : AreSpans ps ss
    all_decided = record { as_many = b.long; decided = decided }

-- no span
pub no_spans : (ps : List (Option ℕ)) (us os : List ℕ) → AreSpansBelow ps us os [] 0
no_spans ps us os = record {
  long = refl;
  from = λ x o lt is. absurd (omega arith);
  to = λ x lt. absurd (omega arith);
  few = λ x lt. absurd (omega arith);
}
