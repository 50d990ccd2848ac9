-- Words of types, by the parts that a program makes them of.
use Rattle.std.proofs.Common.{◌≡◌, ℕ, ◌<◌, not, List, sym, ap, ◌∙◌, subst, eq-eqb, lt-ltb, arith}
use Rattle.std.specs.Prelude.{◌==◌, IsTrue, slice_get}
use Rattle.w_types.specs.declared.types.HeapType.TheVariants.{Index}
use Rattle.w_types.specs.declared.types.RefType.{RefType}
use Rattle.w_types.specs.declared.types.ValType.{ValType}
use Rattle.w_types.specs.declared.types.ValType.TheVariants.{Ref}
use Rattle.w_canon.specs.declared.entry.Kind.TheVariants as kind
use Rattle.w_canon.specs.declared.entry.Entry.{Entry}
use Rattle.w_canon.specs.Tests.{kind_test}
use Rattle.w_canon.proofs.TestsOfLists.{and_both}
use Rattle.w_rows.specs.Words.{joined, bit_of, most_classes, given_class, given_word, class_in, begins_test, tells_given, IsGiven, wanted_class, wanted_word, class_wanted_in, tells_wanted, IsWanted}
use Rattle.w_rows.proofs.WordsOfTypes.{bit_below}
use Rattle.w_rows.proofs.WordCases.{or_left, or_right}

-- ## Where types are given

pub given_alone : (es : List Entry) (t : ValType) (w : ℕ) → w ≡ given_word t → IsGiven es t w
given_alone es t w e = or_left (w == given_word t) _ (eq-eqb w (given_word t) e)

module _ (es : List Entry) (r : RefType) (x c g n w : ℕ) where
  pub given_func : r.heap ≡ Index x → n ≡ bit_of r.nullable → g ≡ given_class c → w ≡ joined g 5 n →
      IsTrue (begins_test (slice_get es x) c) → IsTrue (kind_test es x kind.Func) → c < most_classes → IsGiven es (Ref r) w
  given_func h null e f o k l =
      let type : Ref r ≡ Ref (record { nullable = r.nullable; heap = Index x }) = ap (λ z. Ref (record { nullable = r.nullable; heap = z })) h in
      let word : w ≡ joined (given_class c) 5 (bit_of r.nullable) = f ∙ ap (λ z. joined z 5 n) e ∙ ap (joined (given_class c) 5) null in
      let bit = bit_below r.nullable in
      let class : class_in w ≡ c = omega arith in
      subst (λ t. IsGiven es t w) (sym type) (or_right (w == given_word (Ref (record { nullable = r.nullable; heap = Index x }))) _
      (subst (λ d. IsTrue (tells_given es x r.nullable d w)) (sym class)
      (and_both _ _ o (and_both _ _ (lt-ltb c most_classes l) (or_left _ _ (and_both _ _ k (eq-eqb w _ word)))))))

  pub given_cont : r.heap ≡ Index x → n ≡ bit_of r.nullable → g ≡ given_class c → w ≡ joined g 3 n →
      IsTrue (begins_test (slice_get es x) c) → IsTrue (kind_test es x kind.Cont) → c < most_classes → IsGiven es (Ref r) w
  given_cont h null e f o k l =
      let type : Ref r ≡ Ref (record { nullable = r.nullable; heap = Index x }) = ap (λ z. Ref (record { nullable = r.nullable; heap = z })) h in
      let word : w ≡ joined (given_class c) 3 (bit_of r.nullable) = f ∙ ap (λ z. joined z 3 n) e ∙ ap (joined (given_class c) 3) null in
      let bit = bit_below r.nullable in
      let class : class_in w ≡ c = omega arith in
      subst (λ t. IsGiven es t w) (sym type) (or_right (w == given_word (Ref (record { nullable = r.nullable; heap = Index x }))) _
      (subst (λ d. IsTrue (tells_given es x r.nullable d w)) (sym class)
      (and_both _ _ o (and_both _ _ (lt-ltb c most_classes l) (or_right _ _ (and_both _ _ k (eq-eqb w _ word)))))))

-- ## Where they are wanted

pub wanted_alone : (es : List Entry) (t : ValType) (w : ℕ) → w ≡ wanted_word t → IsWanted es t w
wanted_alone es t w e = or_left (w == wanted_word t) _ (eq-eqb w (wanted_word t) e)

module _ (es : List Entry) (r : RefType) (x c g n w : ℕ) where
  pub wanted_func : r.heap ≡ Index x → n ≡ bit_of (not r.nullable) → g ≡ wanted_class c → w ≡ joined g 2 n →
      IsTrue (begins_test (slice_get es x) c) → IsTrue (kind_test es x kind.Func) → c < most_classes → IsWanted es (Ref r) w
  wanted_func h null e f o k l =
      let type : Ref r ≡ Ref (record { nullable = r.nullable; heap = Index x }) = ap (λ z. Ref (record { nullable = r.nullable; heap = z })) h in
      let word : w ≡ joined (wanted_class c) 2 (bit_of (not r.nullable)) = f ∙ ap (λ z. joined z 2 n) e ∙ ap (joined (wanted_class c) 2) null in
      let bit = bit_below (not r.nullable) in
      let class : class_wanted_in w ≡ c = omega arith in
      subst (λ t. IsWanted es t w) (sym type) (or_right (w == wanted_word (Ref (record { nullable = r.nullable; heap = Index x }))) _
      (subst (λ d. IsTrue (tells_wanted es x r.nullable d w)) (sym class)
      (and_both _ _ o (and_both _ _ (lt-ltb c most_classes l) (or_left _ _ (and_both _ _ k (eq-eqb w _ word)))))))

  pub wanted_cont : r.heap ≡ Index x → n ≡ bit_of (not r.nullable) → g ≡ wanted_class c → w ≡ joined g 4 n →
      IsTrue (begins_test (slice_get es x) c) → IsTrue (kind_test es x kind.Cont) → c < most_classes → IsWanted es (Ref r) w
  wanted_cont h null e f o k l =
      let type : Ref r ≡ Ref (record { nullable = r.nullable; heap = Index x }) = ap (λ z. Ref (record { nullable = r.nullable; heap = z })) h in
      let word : w ≡ joined (wanted_class c) 4 (bit_of (not r.nullable)) = f ∙ ap (λ z. joined z 4 n) e ∙ ap (joined (wanted_class c) 4) null in
      let bit = bit_below (not r.nullable) in
      let class : class_wanted_in w ≡ c = omega arith in
      subst (λ t. IsWanted es t w) (sym type) (or_right (w == wanted_word (Ref (record { nullable = r.nullable; heap = Index x }))) _
      (subst (λ d. IsTrue (tells_wanted es x r.nullable d w)) (sym class)
      (and_both _ _ o (and_both _ _ (lt-ltb c most_classes l) (or_right _ _ (and_both _ _ k (eq-eqb w _ word)))))))
