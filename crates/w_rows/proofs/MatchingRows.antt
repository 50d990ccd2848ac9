-- Rows of types that match by their words.
use Rattle.std.proofs.Common.{◌≡◌, ◌↔◌, ℕ, Bool, true, false, not, ◌||◌, List, [], ◌∷◌, length, Option, Some, subst, refl, arith}
use Rattle.std.specs.Prelude.{IsTrue, IfSome}
use Rattle.std.specs.Bool.{beq}
use Rattle.lists.proofs.Tests.{each_of}
use Rattle.w_types.specs.declared.types.HeapType.{HeapType}
use Rattle.w_types.specs.declared.types.HeapType.TheVariants.{Func, NoFunc, Cont, NoCont, Index}
use Rattle.w_types.specs.declared.types.RecGroup.{RecGroup}
use Rattle.w_types.specs.declared.types.ValType.{ValType}
use Rattle.w_types.specs.declared.types.ValType.TheVariants.{I32, I64, Ref}
use Rattle.w_canon.specs.declared.entry.Entry.{Entry}
use Rattle.w_canon.specs.Tests.{heap_narrow_test, heap_same_test, val_test, val_narrow_test, val_same_test, pairwise_test, result_test, result_narrow_test, result_same_test}
use Rattle.w_canon.specs.IsClassesOf.{HaveSpans}
use Rattle.w_canon.specs.Equality.{ResultEqual}
use Rattle.w_canon.specs.IsClassesOf.{IsClassesOf}
use Rattle.w_canon.specs.Matching.{ResultMatches}
use Rattle.w_canon.proofs.MatchingTests.{result_decided, result_same_decided}
use Rattle.w_canon.proofs.TestsOfLists.{and_both}
use Rattle.w_rows.specs.Words.{IsGiven, IsWanted, IsLength}
use Rattle.w_rows.proofs.WordsBelow.{below_fits}
use Rattle.w_rows.proofs.WordsOfTypes.{words_fit_narrowly, val_wider}
use Rattle.w_rows.specs.Fitting.{AreApart, AreBelow}
use Rattle.w_rows.specs.Operands.{AreWords}
use Rattle.w_rows.specs.TypeRows.{AreReady, IsReady}
use Rattle.w_rows.specs.declared.type_row.RowWords.{RowWords}
use Rattle.w_rows.specs.declared.type_row.TypeRow.{TypeRow}

module _ (es : List Entry) where
  -- types whose words have no bit in common with those of others match these
  words_match : HaveSpans es → (ts us : List ValType) (gs ws : List ℕ) → AreWords (IsGiven es) ts gs → AreWords (IsWanted es) us ws → length gs ≡ length ws → AreApart gs ws → IsTrue (result_narrow_test es ts us)
  words_match spans [] [] gs ws a b l c = refl
  words_match spans [] (u ∷ us) [] [] a b l c = absurd b
  words_match spans [] (u ∷ us) [] (w ∷ ws) a b l c = absurd (omega arith)
  words_match spans [] (u ∷ us) (g ∷ gs) ws a b l c = absurd a
  words_match spans (t ∷ ts) us [] ws a b l c = absurd a
  words_match spans (t ∷ ts) [] (g ∷ gs) [] a b l c = absurd (omega arith)
  words_match spans (t ∷ ts) [] (g ∷ gs) (w ∷ ws) a b l c = absurd b
  words_match spans (t ∷ ts) (u ∷ us) (g ∷ gs) [] a b l c = absurd b
  words_match spans (t ∷ ts) (u ∷ us) (g ∷ gs) (w ∷ ws) a b l c =
      and_both (val_narrow_test es t u) (pairwise_test (val_narrow_test es) ts us) (words_fit_narrowly es spans t u g w a.0 b.0 c.0) (words_match spans ts us gs ws a.1 b.1 (omega arith) c.1)

  -- so do rows that stand ready
  pub ready_match : HaveSpans es → (r q : TypeRow) (v w : RowWords) → r.words ≡ Some v → q.words ≡ Some w → IsReady es r → IsReady es q → length v.given.now ≡ length w.wanted.now →
      AreApart v.given.now w.wanted.now → result_narrow_test es r.types.now q.types.now ≡ true
  ready_match spans r q v w e f a b l c =
      let P : List ValType → Option RowWords → Type 0 = λ ts o. IfSome o (λ (x : RowWords). AreReady es ts x.operands.now x.given.now x.wanted.now x.lengths.now) in
      let given : P r.types.now (Some v) = subst (P r.types.now) e a in
      let wanted : P q.types.now (Some w) = subst (P q.types.now) f b in
      words_match spans r.types.now q.types.now v.given.now w.wanted.now given.1.0 wanted.1.1.0 l c

  -- types whose words tell that they are below others match these
  words_below : (ts us : List ValType) (gs ws ls : List ℕ) → AreWords (IsGiven es) ts gs → AreWords (IsWanted es) us ws → AreWords (IsLength es) us ls
      → length gs ≡ length ws → AreBelow gs ws ls → IsTrue (result_test es ts us)
  words_below [] [] gs ws ls a b k l c = refl
  words_below [] (u ∷ us) [] [] ls a b k l c = absurd b
  words_below [] (u ∷ us) [] (w ∷ ws) ls a b k l c = absurd (omega arith)
  words_below [] (u ∷ us) (g ∷ gs) ws ls a b k l c = absurd a
  words_below (t ∷ ts) us [] ws ls a b k l c = absurd a
  words_below (t ∷ ts) [] (g ∷ gs) [] ls a b k l c = absurd (omega arith)
  words_below (t ∷ ts) [] (g ∷ gs) (w ∷ ws) ls a b k l c = absurd b
  words_below (t ∷ ts) (u ∷ us) (g ∷ gs) [] ls a b k l c = absurd b
  words_below (t ∷ ts) (u ∷ us) (g ∷ gs) (w ∷ ws) [] a b k l c = absurd k
  words_below (t ∷ ts) (u ∷ us) (g ∷ gs) (w ∷ ws) (n ∷ ls) a b k l c =
      and_both (val_test es t u) (pairwise_test (val_test es) ts us) (below_fits es t u g w n a.0 b.0 k.0 c.0) (words_below ts us gs ws ls a.1 b.1 k.1 (omega arith) c.1)

  -- so do rows that stand ready
  pub ready_below : (r q : TypeRow) (v w : RowWords) → r.words ≡ Some v → q.words ≡ Some w → IsReady es r → IsReady es q → length v.given.now ≡ length w.wanted.now →
      AreBelow v.given.now w.wanted.now w.lengths.now → result_test es r.types.now q.types.now ≡ true
  ready_below r q v w e f a b l c =
      let P : List ValType → Option RowWords → Type 0 = λ ts o. IfSome o (λ (x : RowWords). AreReady es ts x.operands.now x.given.now x.wanted.now x.lengths.now) in
      let given : P r.types.now (Some v) = subst (P r.types.now) e a in
      let wanted : P q.types.now (Some w) = subst (P q.types.now) f b in
      words_below r.types.now q.types.now v.given.now w.wanted.now w.lengths.now given.1.0 wanted.1.1.0 wanted.1.1.1 l c

  -- ## Types that match each other

  nulls_same : (n m : Bool) → IsTrue (not n || m) → IsTrue (not m || n) → IsTrue (beq n m)
  nulls_same true true a b = refl
  nulls_same true false a b = absurd (cc)
  nulls_same false true a b = absurd (cc)
  nulls_same false false a b = refl

  heaps_same : (a b : HeapType) → IsTrue (heap_narrow_test es a b) → IsTrue (heap_narrow_test es b a) → IsTrue (heap_same_test es a b)
  heaps_same Func Func h k = refl
  heaps_same Func NoFunc h k = absurd (cc)
  heaps_same Func Cont h k = absurd (cc)
  heaps_same Func NoCont h k = absurd (cc)
  heaps_same Func (Index y) h k = absurd (cc)
  heaps_same NoFunc Func h k = absurd (cc)
  heaps_same NoFunc NoFunc h k = refl
  heaps_same NoFunc Cont h k = absurd (cc)
  heaps_same NoFunc NoCont h k = absurd (cc)
  heaps_same NoFunc (Index y) h k = absurd (cc)
  heaps_same Cont Func h k = absurd (cc)
  heaps_same Cont NoFunc h k = absurd (cc)
  heaps_same Cont Cont h k = refl
  heaps_same Cont NoCont h k = absurd (cc)
  heaps_same Cont (Index y) h k = absurd (cc)
  heaps_same NoCont Func h k = absurd (cc)
  heaps_same NoCont NoFunc h k = absurd (cc)
  heaps_same NoCont Cont h k = absurd (cc)
  heaps_same NoCont NoCont h k = refl
  heaps_same NoCont (Index y) h k = absurd (cc)
  heaps_same (Index x) Func h k = absurd (cc)
  heaps_same (Index x) NoFunc h k = absurd (cc)
  heaps_same (Index x) Cont h k = absurd (cc)
  heaps_same (Index x) NoCont h k = absurd (cc)
  heaps_same (Index x) (Index y) h k = h

  vals_same : (t u : ValType) → IsTrue (val_narrow_test es t u) → IsTrue (val_narrow_test es u t) → IsTrue (val_same_test es t u)
  vals_same I32 I32 h k = refl
  vals_same I32 I64 h k = absurd (cc)
  vals_same I32 (Ref q) h k = absurd (cc)
  vals_same I64 I32 h k = absurd (cc)
  vals_same I64 I64 h k = refl
  vals_same I64 (Ref q) h k = absurd (cc)
  vals_same (Ref r) I32 h k = absurd (cc)
  vals_same (Ref r) I64 h k = absurd (cc)
  vals_same (Ref r) (Ref q) h k =
      let there = each_of (not r.nullable || q.nullable) (heap_narrow_test es r.heap q.heap) h in
      let back = each_of (not q.nullable || r.nullable) (heap_narrow_test es q.heap r.heap) k in
      and_both (beq r.nullable q.nullable) (heap_same_test es r.heap q.heap) (nulls_same r.nullable q.nullable there.0 back.0) (heaps_same r.heap q.heap there.1 back.1)

  -- rows that match each other are equal
  pub rows_same : (ts us : List ValType) → result_narrow_test es ts us ≡ true → result_narrow_test es us ts ≡ true → result_same_test es ts us ≡ true
  rows_same [] [] h k = refl
  rows_same [] (u ∷ us) h k = absurd (cc)
  rows_same (t ∷ ts) [] h k = absurd (cc)
  rows_same (t ∷ ts) (u ∷ us) h k =
      let there = each_of (val_narrow_test es t u) (pairwise_test (val_narrow_test es) ts us) h in
      let back = each_of (val_narrow_test es u t) (pairwise_test (val_narrow_test es) us ts) k in
      and_both (val_same_test es t u) (pairwise_test (val_same_test es) ts us) (vals_same t u there.0 back.0) (rows_same ts us there.1 back.1)

  -- rows that match with equivalent indices match
  pub rows_wider : (ts us : List ValType) → result_narrow_test es ts us ≡ true → result_test es ts us ≡ true
  rows_wider [] [] h = refl
  rows_wider [] (u ∷ us) h = absurd (cc)
  rows_wider (t ∷ ts) [] h = absurd (cc)
  rows_wider (t ∷ ts) (u ∷ us) h =
      let there = each_of (val_narrow_test es t u) (pairwise_test (val_narrow_test es) ts us) h in
      and_both (val_test es t u) (pairwise_test (val_test es) ts us) (val_wider es t u there.0) (rows_wider ts us there.1)

-- ## By the rules

pub matches_related : (es : List Entry) (ts us : List ValType) → result_test es ts us ≡ true → (gs : List RecGroup) → IsClassesOf gs es → IsTrue true ↔ ResultMatches gs ts us
matches_related es ts us e gs st = (λ t. (result_decided gs es st ts us).0 e, λ m. refl)

pub equals_related : (es : List Entry) (ts us : List ValType) → result_same_test es ts us ≡ true → (gs : List RecGroup) → IsClassesOf gs es → IsTrue true ↔ ResultEqual gs ts us
equals_related es ts us e gs st = (λ t. (result_same_decided gs es st ts us).0 e, λ m. refl)
