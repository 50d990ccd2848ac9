-- The first list that has a rule, and the least rule of it.
use Rattle.std.proofs.Common.{◌≡◌, ℕ, zero, suc, ◌+◌, ◌<◌, ◌≤◌, Bool, true, false, cond, List, [], ◌∷◌, Option, Some, None, Result, Ok, Err, refl, sym, ap, subst, ◌∙◌, ◌⊎◌, inl, inr, arith}
use Rattle.std.proofs.lemmas.Bool.{cases_lt}
use Rattle.std.proofs.lemmas.Bool.Decides.{nat_tests}
use Rattle.std.specs.Prelude.{nat_lt}
use Rattle.s_syntax.specs.declared.script.Script.{Script}
use Rattle.s_check.specs.declared.refused.Refused.{Refused}
use Rattle.s_check.specs.declared.refused.Refused.TheVariants as refused
use Rattle.s_check.specs.declared.rule.Rule.{Rule}
use Rattle.s_check.specs.declared.rule.Rule.TheVariants as rule
use Rattle.s_check.specs.Least.{lesser, least_of, first_or, first_broken}
use Rattle.s_check.specs.Refusal.{number_of, IsOf, first, later, Has, Least, Good, Broken, Means, IsAnswer}
use Rattle.s_check.specs.Rules.{broken_rules}

-- ## One list

-- a rule that is known or is one of these, and less than none of them
record IsLeastOf (o : Option Rule) (rs : List Rule) (r : Rule) : Type 0 where
  among : (o ≡ Some r) ⊎ IsOf r rs
  known : (s : Rule) → o ≡ Some s → number_of s < number_of r → ⊥
  others : (s : Rule) → IsOf s rs → number_of s < number_of r → ⊥

none_of : (s : Rule) → IsOf s [] → ⊥
none_of s i = elim i [ ]

of_more : (s q : Rule) (rs : List Rule) → IsOf s (q ∷ rs) → (s ≡ q) ⊎ IsOf s rs
of_more s q rs first = inl refl
of_more s q rs (later i) = inr i

least_one : (o : Option Rule) (q : Rule) (rs : List Rule) (r : Rule) → IsLeastOf (lesser o q) rs r → IsLeastOf o (q ∷ rs) r
least_one None q rs r h = record {
  among = inr (elim h.among [ inl e ↦ (let same : q ≡ r = cc in subst (λ (x : Rule). IsOf r (x ∷ rs)) (sym same) first) | inr i ↦ later i ]);
  known = λ s e lt. absurd (cc);
  others = λ s i lt. elim (of_more s q rs i) [ inl e ↦ h.known s (ap (λ (x : Rule). Some x) (sym e)) lt | inr j ↦ h.others s j lt ];
}
least_one (Some p) q rs r h = by (nat_lt (number_of q) (number_of p)) refl h
  where
    by : (b : Bool) → nat_lt (number_of q) (number_of p) ≡ b → IsLeastOf (cond b (Some q) (Some p)) rs r → IsLeastOf (Some p) (q ∷ rs) r
    by true e h = record {
      among = inr (elim h.among [ inl e ↦ (let same : q ≡ r = cc in subst (λ (x : Rule). IsOf r (x ∷ rs)) (sym same) first) | inr i ↦ later i ]);
      known = λ s f lt. (let same : p ≡ s = cc in let n : number_of p ≡ number_of s = ap number_of same in h.known q refl (let less : number_of q < number_of p = grind (arith, nat_tests) in omega (arith, less, n, lt)));
      others = λ s i lt. elim (of_more s q rs i) [ inl f ↦ h.known s (ap (λ (x : Rule). Some x) (sym f)) lt | inr j ↦ h.others s j lt ];
    }
    by false e h = record {
      among = elim h.among [ inl f ↦ inl f | inr i ↦ inr (later i) ];
      known = h.known;
      others = λ s i lt. elim (of_more s q rs i) [
        | inl f ↦ (let n : number_of s ≡ number_of q = ap number_of f in h.known p refl (let no : (number_of q < number_of p) → ⊥ = grind (arith, nat_tests) in omega (arith, no, n, lt)))
        | inr j ↦ h.others s j lt
      ];
    }

least_found : (o : Option Rule) (rs : List Rule) (r : Rule) → least_of o rs ≡ Some r → IsLeastOf o rs r
least_found o [] r e = record { among = inl e; known = λ s f lt. (let same : s ≡ r = cc in let n : number_of s ≡ number_of r = ap number_of same in omega (arith, n, lt)); others = λ s i lt. none_of s i }
least_found o (q ∷ rs) r e = least_one o q rs r (least_found (lesser o q) rs r e)

lesser_some : (o : Option Rule) (q : Rule) → (p : Rule) × (lesser o q ≡ Some p)
lesser_some None q = (q, refl)
lesser_some (Some p) q = by (nat_lt (number_of q) (number_of p))
  where
    by : (b : Bool) → (x : Rule) × (cond b (Some q) (Some p) ≡ Some x)
    by true = (q, refl)
    by false = (p, refl)

still_some : (o : Option Rule) (p : Rule) (rs : List Rule) → o ≡ Some p → least_of o rs ≡ None → ⊥
still_some o p [] e n = absurd (cc)
still_some o p (q ∷ rs) e n = let x = lesser_some o q in still_some (lesser o q) x.0 rs x.1 n

-- nothing is the least of no rules alone
none_least : (rs : List Rule) (s : Rule) → least_of None rs ≡ None → IsOf s rs → ⊥
none_least [] s n i = none_of s i
none_least (q ∷ rs) s n i = still_some (Some q) q rs refl n

-- ## All lists

has_first : (rs : List Rule) (lists : List (List Rule)) (s : Rule) → Has (rs ∷ lists) zero s → IsOf s rs
has_first rs lists s h = let same : h.rules ≡ rs = (let e = h.there in cc) in subst (λ (l : List Rule). IsOf s l) same h.is

has_later : (rs : List Rule) (lists : List (List Rule)) (d : ℕ) (s : Rule) → Has (rs ∷ lists) (suc d) s → Has lists d s
has_later rs lists d s h = record { rules = h.rules; there = h.there; is = h.is }

-- no list has a rule
pub none_broken : (n : ℕ) (lists : List (List Rule)) → first_broken n lists ≡ None → (d : ℕ) (s : Rule) → Has lists d s → ⊥
none_broken n [] e d s h = (let t = h.there in absurd (cc))
none_broken n (rs ∷ lists) e d s h = by (least_of None rs) refl (none_broken (suc n) lists) d h
  where
    by : (o : Option Rule) → least_of None rs ≡ o → (first_broken (suc n) lists ≡ None → (c : ℕ) (q : Rule) → Has lists c q → ⊥) → (c : ℕ) → Has (rs ∷ lists) c s → ⊥
    by (Some r) l rest c k = (let t : first_or n (Some r) (first_broken (suc n) lists) ≡ None = ap (λ (x : Option Rule). first_or n x (first_broken (suc n) lists)) (sym l) ∙ e in absurd (cc))
    by None l rest zero k = none_least rs s l (has_first rs lists s k)
    by None l rest (suc c) k = rest (ap (λ (x : Option Rule). first_or n x (first_broken (suc n) lists)) (sym l) ∙ e) c s (has_later rs lists c s k)

abbrev number_in : ℕ → Option (ℕ × Rule) → ℕ
number_in k None = k
number_in k (Some p) = p.0

abbrev rule_in : Rule → Option (ℕ × Rule) → Rule
rule_in r None = r
rule_in r (Some p) = p.1

same_first : (n m : ℕ) (q r : Rule) → ◌≡◌ {A = Option (ℕ × Rule)} (Some (n, q)) (Some (m, r)) → (n ≡ m) × (q ≡ r)
same_first n m q r e = (ap (number_in n) e, ap (rule_in q) e)

-- the first that has one, and the least of it
pub first_found : (n : ℕ) (lists : List (List Rule)) (m : ℕ) (r : Rule) → first_broken n lists ≡ Some (m, r) → (d : ℕ) × (m ≡ n + d) × Least lists d r
first_found n [] m r e = absurd (cc)
first_found n (rs ∷ lists) m r e = by (least_of None rs) refl (first_found (suc n) lists m r)
  where
    here : (q : Rule) → least_of None rs ≡ Some q → Least (rs ∷ lists) 0 q
    here q l =
        let t = least_found None rs q l in
        record {
          has = record { rules = rs; there = refl; is = elim t.among [ inl f ↦ absurd (cc) | inr i ↦ i ] };
          first = λ c s lt h. absurd (omega (arith, lt));
          least = λ s h lt. t.others s (has_first rs lists s h) lt;
        }

    further : least_of None rs ≡ None → (d : ℕ) → Least lists d r → Least (rs ∷ lists) (suc d) r
    further l d h = record {
      has = record { rules = h.has.rules; there = h.has.there; is = h.has.is };
      first = before;
      least = λ s k lt. h.least s (has_later rs lists d s k) lt;
    }
      where
        before : (c : ℕ) (s : Rule) → c < suc d → Has (rs ∷ lists) c s → ⊥
        before zero s lt k = none_least rs s l (has_first rs lists s k)
        before (suc c) s lt k = h.first c s (omega (arith, lt)) (has_later rs lists c s k)

    by : (o : Option Rule) → least_of None rs ≡ o → (first_broken (suc n) lists ≡ Some (m, r) → (d : ℕ) × (m ≡ suc n + d) × Least lists d r) → (d : ℕ) × (m ≡ n + d) × Least (rs ∷ lists) d r
    by (Some q) l rest =
        (let t : first_or n (Some q) (first_broken (suc n) lists) ≡ Some (m, r) = ap (λ (x : Option Rule). first_or n x (first_broken (suc n) lists)) (sym l) ∙ e in
        let one = same_first n m q r t in let at = one.0 in let same = one.1 in
        (0, omega (arith, at), subst (λ (x : Rule). Least (rs ∷ lists) 0 x) same (here q l)))
    by None l rest =
        (let p = rest (ap (λ (x : Option Rule). first_or n x (first_broken (suc n) lists)) (sym l) ∙ e) in
        let at = p.1 in
        (suc p.0, omega (arith, at), further l p.0 p.2))

-- ## Scripts

pub good : (p : Script) → first_broken 0 (broken_rules p.declarations) ≡ None → Good p
good p e = record { none = none_broken 0 (broken_rules p.declarations) e }

pub broken : (p : Script) (d : ℕ) (r : Rule) → first_broken 0 (broken_rules p.declarations) ≡ Some (d, r) → Broken p d r
broken p d r e =
    let t = first_found 0 (broken_rules p.declarations) d r e in
    let same : t.0 ≡ d = (let q = t.1 in omega (arith, q)) in
    subst (λ (k : ℕ). Broken p k r) same t.2

-- ## One refusal

abbrev numbered : ℕ → Rule
numbered zero = rule.NameDeclaredTwice
numbered (suc zero) = rule.NameDeclaredTwice
numbered (suc (suc zero)) = rule.EffectOfTooMany
numbered (suc (suc (suc zero))) = rule.TooManyParameters
numbered (suc (suc (suc (suc zero)))) = rule.TooManyClauses
numbered (suc (suc (suc (suc (suc zero))))) = rule.NoHandlerOfType
numbered (suc (suc (suc (suc (suc (suc zero)))))) = rule.NameBoundTwice
numbered (suc (suc (suc (suc (suc (suc (suc zero))))))) = rule.ClauseForEffectTwice
numbered (suc (suc (suc (suc (suc (suc (suc (suc zero)))))))) = rule.ClauseForNoEffect
numbered (suc (suc (suc (suc (suc (suc (suc (suc (suc zero))))))))) = rule.OtherNumberInClause
numbered (suc (suc (suc (suc (suc (suc (suc (suc (suc (suc zero)))))))))) = rule.NameNotBound
numbered (suc (suc (suc (suc (suc (suc (suc (suc (suc (suc (suc zero))))))))))) = rule.ResumptionElsewhere
numbered (suc (suc (suc (suc (suc (suc (suc (suc (suc (suc (suc (suc zero)))))))))))) = rule.NoFunction
numbered (suc (suc (suc (suc (suc (suc (suc (suc (suc (suc (suc (suc (suc zero))))))))))))) = rule.NoEffect
numbered (suc (suc (suc (suc (suc (suc (suc (suc (suc (suc (suc (suc (suc (suc zero)))))))))))))) = rule.NoHandler
numbered (suc (suc (suc (suc (suc (suc (suc (suc (suc (suc (suc (suc (suc (suc (suc zero))))))))))))))) = rule.OtherNumberOfArguments
numbered (suc (suc (suc (suc (suc (suc (suc (suc (suc (suc (suc (suc (suc (suc (suc (suc zero)))))))))))))))) = rule.ArgumentOfOtherType
numbered (suc (suc (suc (suc (suc (suc (suc (suc (suc (suc (suc (suc (suc (suc (suc (suc (suc zero))))))))))))))))) = rule.NoResumption
numbered (suc (suc (suc (suc (suc (suc (suc (suc (suc (suc (suc (suc (suc (suc (suc (suc (suc (suc zero)))))))))))))))))) = rule.NoMain
numbered (suc (suc (suc (suc (suc (suc (suc (suc (suc (suc (suc (suc (suc (suc (suc (suc (suc (suc (suc zero))))))))))))))))))) = rule.NoSlots
numbered (suc (suc (suc (suc (suc (suc (suc (suc (suc (suc (suc (suc (suc (suc (suc (suc (suc (suc (suc (suc zero)))))))))))))))))))) = rule.SlotsOfOtherNumber
numbered (suc (suc (suc (suc (suc (suc (suc (suc (suc (suc (suc (suc (suc (suc (suc (suc (suc (suc (suc (suc (suc zero))))))))))))))))))))) = rule.StoredOfOtherType
numbered (suc (suc (suc (suc (suc (suc (suc (suc (suc (suc (suc (suc (suc (suc (suc (suc (suc (suc (suc (suc (suc (suc zero)))))))))))))))))))))) = rule.OtherParameters
numbered (suc (suc (suc (suc (suc (suc (suc (suc (suc (suc (suc (suc (suc (suc (suc (suc (suc (suc (suc (suc (suc (suc (suc n))))))))))))))))))))))) = rule.NoCoroutine

-- numbers tell rules apart
numbered-number : (r : Rule) → numbered (number_of r) ≡ r
numbered-number rule.NameDeclaredTwice = refl
numbered-number rule.EffectOfTooMany = refl
numbered-number rule.TooManyParameters = refl
numbered-number rule.TooManyClauses = refl
numbered-number rule.NoHandlerOfType = refl
numbered-number rule.NameBoundTwice = refl
numbered-number rule.ClauseForEffectTwice = refl
numbered-number rule.ClauseForNoEffect = refl
numbered-number rule.OtherNumberInClause = refl
numbered-number rule.NameNotBound = refl
numbered-number rule.ResumptionElsewhere = refl
numbered-number rule.NoFunction = refl
numbered-number rule.NoEffect = refl
numbered-number rule.NoHandler = refl
numbered-number rule.OtherNumberOfArguments = refl
numbered-number rule.ArgumentOfOtherType = refl
numbered-number rule.NoResumption = refl
numbered-number rule.NoMain = refl
numbered-number rule.NoSlots = refl
numbered-number rule.SlotsOfOtherNumber = refl
numbered-number rule.StoredOfOtherType = refl
numbered-number rule.OtherParameters = refl
numbered-number rule.NoCoroutine = refl

one_rule : (r s : Rule) → number_of r ≡ number_of s → r ≡ s
one_rule r s e = sym (numbered-number r) ∙ ap numbered e ∙ numbered-number s

-- so the least is one
one_least : (lists : List (List Rule)) (d e : ℕ) (r s : Rule) → Least lists d r → Least lists e s → (d ≡ e) × (r ≡ s)
one_least lists d e r s h k = (same, one_rule r s (by (cases_lt (number_of r) (number_of s)) (cases_lt (number_of s) (number_of r))))
  where
    same : d ≡ e
    same = elim (cases_lt d e) [
      | inl l ↦ absurd (k.first d r l h.has)
      | inr l ↦ elim (cases_lt e d) [ inl m ↦ absurd (h.first e s m k.has) | inr m ↦ omega (arith, l, m) ]
    ]

    by : (number_of r < number_of s) ⊎ (number_of s ≤ number_of r) → (number_of s < number_of r) ⊎ (number_of r ≤ number_of s) → number_of r ≡ number_of s
    by (inl l) q = absurd (k.least r (subst (λ (n : ℕ). Has lists n r) same h.has) l)
    by (inr l) (inl m) = absurd (h.least s (subst (λ (n : ℕ). Has lists n s) (sym same) k.has) m)
    by (inr l) (inr m) = omega (arith, l, m)

-- what is refused has no other answer
pub refused_alone : (p : Script) (d : ℕ) (r : Rule) → first_broken 0 (broken_rules p.declarations) ≡ Some (d, r) → (a : Result Script Refused) → Means p a → IsAnswer a (Err (refused.Rule d r))
refused_alone p d r e (Ok q) m = let b = broken p d r e in absurd (m.1.none d r b.has)
refused_alone p d r e (Err (refused.Rule c s)) m =
    let one = one_least (broken_rules p.declarations) d c r s (broken p d r e) m in
    let number = one.0 in
    let same = one.1 in
    inl (ap (λ (n : ℕ). Err (refused.Rule n r)) number ∙ ap (λ (x : Rule). Err (refused.Rule c x)) same)
refused_alone p d r e (Err refused.OutOfMemory) m = absurd m

-- nor has what is good
pub good_alone : (p q : Script) → q ≡ p → first_broken 0 (broken_rules p.declarations) ≡ None → (a : Result Script Refused) → Means p a → IsAnswer a (Ok q)
good_alone p q same e (Ok o) m = inl (ap (λ (x : Script). Ok x) (same ∙ sym m.0))
good_alone p q same e (Err (refused.Rule c s)) m = let g = good p e in absurd (g.none c s m.has)
good_alone p q same e (Err refused.OutOfMemory) m = absurd m

-- ## What is computed is what is meant

pub good_first : (p : Script) → Good p → first_broken 0 (broken_rules p.declarations) ≡ None
good_first p g = by (first_broken 0 (broken_rules p.declarations)) refl
  where
    by : (o : Option (ℕ × Rule)) → first_broken 0 (broken_rules p.declarations) ≡ o → o ≡ None
    by None e = refl
    by (Some q) e = let b = broken p q.0 q.1 e in absurd (g.none q.0 q.1 b.has)

pub broken_first : (p : Script) (d : ℕ) (r : Rule) → Broken p d r → first_broken 0 (broken_rules p.declarations) ≡ Some (d, r)
broken_first p d r h = by (first_broken 0 (broken_rules p.declarations)) refl
  where
    by : (o : Option (ℕ × Rule)) → first_broken 0 (broken_rules p.declarations) ≡ o → o ≡ Some (d, r)
    by None e = let g = good p e in absurd (g.none d r h.has)
    by (Some q) e =
        let one = one_least (broken_rules p.declarations) q.0 d q.1 r (broken p q.0 q.1 e) h in
        ap (λ (n : ℕ). let o : Option (ℕ × Rule) = Some (n, q.1) in o) one.0 ∙ ap (λ (x : Rule). let o : Option (ℕ × Rule) = Some (d, x) in o) one.1
