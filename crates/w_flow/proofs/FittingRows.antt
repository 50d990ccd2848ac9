-- Operands whose words tell that they match types that are wanted stand for these types.
use Rattle.std.proofs.Common.{◌≡◌, inl, inr, ℕ, ◌-◌, ◌%◌, Bool, true, not, List, [], ◌∷◌, ◌++◌, length, length-drop, take, drop, bit_and, Some, None, if◌then◌else◌, refl, sym, ap, ◌∙◌, subst, arith}
use Rattle.std.proofs.lemmas.List.{length-take}
use Rattle.w_types.specs.declared.types.ValType.{ValType}
use Rattle.w_types.specs.declared.types.ValType.TheVariants.{I32, I64, Ref}
use Rattle.lists.specs.Rows.{Row, ε, ◌▹◌, ◌⧺◌, onto, row_of}
use Rattle.w_canon.specs.declared.entry.Entry.{Entry}
use Rattle.w_rules.specs.Operands.{Operand as TheType, Known, Bottom, BottomRef}
use Rattle.w_rules.specs.Matching.{known}
use Rattle.w_rows.specs.Words.{joined, bit_of, wanted_class, wanted_classes, wanted_mark, IsWanted, IsLength, TellBelow}
use Rattle.w_rows.proofs.WordCases.{WantedBy, wanted_found}
use Rattle.w_rows.proofs.WordsBelow.{low_parts, below_fits}
use Rattle.w_rows.proofs.WordsOfTypes.{parts, bit_below, wanted_mark_below, null_kept, words_fit}
use Rattle.w_rows.specs.Fitting.{AreBelow, words_of}
use Rattle.w_rows.specs.TypeRows.{AreReady}
use Rattle.w_rows.specs.Operands.{type_of, types_of, row_in, IsWord, AreWorded, AreWords}
use Rattle.w_rows.specs.declared.operand.Operand.{Operand}
use Rattle.w_rows.proofs.WordedOperands.{types_take, types_drop, types_length, worded_take, worded_drop, given_types}
use Rattle.w_rows.proofs.WordRows.{words_take, words_drop, words_length}
use Rattle.w_flow.specs.Flow.{operand_test, is_null_test, pops}
use Rattle.w_flow.proofs.SameTypes.{taken_common}
use Rattle.w_flow.proofs.RowsOfLists.{given_row}

-- ## One operand

-- a reference to the bottom heap type
null_fits : (es : List Entry) (n : Bool) (u : ValType) (v : ℕ) → WantedBy es u v → bit_and (joined 0 1 (bit_of n)) v ≡ 0 → is_null_test n u ≡ true
null_fits es n I32 _ WantedBy.alone e = absurd (let p = (parts 0 (wanted_class 0) 1 1 (bit_of n) 0 (omega arith) (omega arith) (bit_below n) (omega arith) e).1.0 in omega arith)
null_fits es n I64 _ WantedBy.alone e = absurd (let p = (parts 0 (wanted_class 1) 1 1 (bit_of n) 0 (omega arith) (omega arith) (bit_below n) (omega arith) e).1.0 in omega arith)
null_fits es n (Ref r) _ WantedBy.alone e =
    null_kept n r.nullable (parts 0 (wanted_classes r.heap) 1 (wanted_mark r.heap) (bit_of n) (bit_of (not r.nullable)) (omega arith) (wanted_mark_below r.heap) (bit_below n) (bit_below (not r.nullable)) e).1.1
null_fits es n _ _ (WantedBy.of_func {n = m} {x = x} {c = c} o k l) e =
    null_kept n m (parts 0 (wanted_class c) 1 2 (bit_of n) (bit_of (not m)) (omega arith) (omega arith) (bit_below n) (bit_below (not m)) e).1.1
null_fits es n _ _ (WantedBy.of_cont {n = m} {x = x} {c = c} o k l) e =
    null_kept n m (parts 0 (wanted_class c) 1 4 (bit_of n) (bit_of (not m)) (omega arith) (omega arith) (bit_below n) (bit_below (not m)) e).1.1

-- an operand stands where a type is wanted
word_fits : (es : List Entry) (t : TheType) (w : ℕ) (u : ValType) (v : ℕ) → IsWord es t w → IsWanted es u v → bit_and w v ≡ 0 → operand_test es t u ≡ true
word_fits es (Known t) w u v g h e = words_fit es t u w v g h e
word_fits es Bottom w u v g h e = refl
word_fits es (BottomRef n) w u v g h e = null_fits es n u v (wanted_found es u v h) (ap (λ (m : ℕ). bit_and m v) (sym g) ∙ e)

-- an operand whose word tells that it is below a type stands where that is wanted
null_below : (es : List Entry) (n : Bool) (u : ValType) (v : ℕ) → WantedBy es u v → bit_and (joined 0 1 (bit_of n)) v % 16 ≡ 0 → is_null_test n u ≡ true
null_below es n I32 _ WantedBy.alone e = absurd (let p = (low_parts 0 (wanted_class 0) 1 1 (bit_of n) 0 (omega arith) (omega arith) (bit_below n) (omega arith) e).0 in omega arith)
null_below es n I64 _ WantedBy.alone e = absurd (let p = (low_parts 0 (wanted_class 1) 1 1 (bit_of n) 0 (omega arith) (omega arith) (bit_below n) (omega arith) e).0 in omega arith)
null_below es n (Ref r) _ WantedBy.alone e =
    null_kept n r.nullable (low_parts 0 (wanted_classes r.heap) 1 (wanted_mark r.heap) (bit_of n) (bit_of (not r.nullable)) (omega arith) (wanted_mark_below r.heap) (bit_below n) (bit_below (not r.nullable)) e).1
null_below es n _ _ (WantedBy.of_func {n = m} {x = x} {c = c} o k l) e =
    null_kept n m (low_parts 0 (wanted_class c) 1 2 (bit_of n) (bit_of (not m)) (omega arith) (omega arith) (bit_below n) (bit_below (not m)) e).1
null_below es n _ _ (WantedBy.of_cont {n = m} {x = x} {c = c} o k l) e =
    null_kept n m (low_parts 0 (wanted_class c) 1 4 (bit_of n) (bit_of (not m)) (omega arith) (omega arith) (bit_below n) (bit_below (not m)) e).1

word_below : (es : List Entry) (t : TheType) (w : ℕ) (u : ValType) (v l : ℕ) → IsWord es t w → IsWanted es u v → IsLength es u l → TellBelow w v l → operand_test es t u ≡ true
word_below es (Known t) w u v l g h k e = below_fits es t u w v l g h k e
word_below es Bottom w u v l g h k e = refl
word_below es (BottomRef n) w u v l g h k (inl e) = word_fits es (BottomRef n) w u v g h e
word_below es (BottomRef n) w u v l g h k (inr p) = null_below es n u v (wanted_found es u v h) (ap (λ (m : ℕ). bit_and m v % 16) (sym g) ∙ p.0)

-- ## Operands for types

module _ (es : List Entry) where
  -- operands that stand for types, behind others that do
  stand_onto : (p : Bool) (r : Row TheType) (q : Row ValType) (xs : List Operand) (ts : List ValType) (ws ls : List ℕ) → AreWorded es xs → AreWords (IsWanted es) ts ws
      → AreWords (IsLength es) ts ls → AreBelow (words_of xs) ws ls →
      length xs ≡ length ts → pops es p r q ≡ Some ε → pops es p (onto r (types_of xs)) (onto q ts) ≡ Some ε
  stand_onto p r q [] [] ws ls a b k c l e = e
  stand_onto p r q [] (t ∷ ts) ws ls a b k c l e = absurd (omega arith)
  stand_onto p r q (x ∷ xs) [] ws ls a b k c l e = absurd (omega arith)
  stand_onto p r q (x ∷ xs) (t ∷ ts) [] ls a b k c l e = absurd b
  stand_onto p r q (x ∷ xs) (t ∷ ts) (w ∷ ws) [] a b k c l e = absurd k
  stand_onto p r q (x ∷ xs) (t ∷ ts) (w ∷ ws) (n ∷ ls) a b k c l e =
      stand_onto p (r ▹ type_of x) (q ▹ t) xs ts ws ls a.1 b.1 k.1 c.1 (omega arith)
      (ap (λ (d : Bool). if d then pops es p r q else None) (word_below es (type_of x) x.word t w n a.0 b.0 k.0 c.0) ∙ e)

  -- operands whose words tell that they are below these types stand for them
  pub stand_all : (p : Bool) (xs : List Operand) (ts : List ValType) (ws ls : List ℕ) → AreWorded es xs → AreWords (IsWanted es) ts ws → AreWords (IsLength es) ts ls
      → AreBelow (words_of xs) ws ls → length xs ≡ length ts → pops es p (row_in xs) (row_of ts) ≡ Some ε
  stand_all p xs ts ws ls a b k c l = stand_onto p ε ε xs ts ws ls a b k c l refl

  part_of : (P : ValType → ℕ → Type 0) (ts : List ValType) (ws : List ℕ) (m : ℕ) → AreWords P ts ws → AreWords P (take (length ts - m) (drop m ts)) (take (length ws - m) (drop m ws))
  part_of P ts ws m b =
      let long : length ws ≡ length ts = words_length P ts ws b in
      subst (λ (k : ℕ). AreWords P (take (length ts - m) (drop m ts)) (take k (drop m ws))) (omega arith)
      (words_take P (length ts - m) (drop m ts) (drop m ws) (words_drop P m ts ws b))

  -- behind so many operands and types the others stand for each other
  pub taken_below : (p : Bool) (xs : List Operand) (ts : List ValType) (ws ls : List ℕ) (n m : ℕ) → AreWorded es xs → AreWords (IsWanted es) ts ws → AreWords (IsLength es) ts ls
      → length xs - n ≡ length ts - m →
      AreBelow (words_of (take (length xs - n) (drop n xs))) (take (length ws - m) (drop m ws)) (take (length ls - m) (drop m ls)) →
      pops es p (row_in xs) (row_of ts) ≡ pops es p (row_in (take n xs)) (row_of (take m ts))
  taken_below p xs ts ws ls n m a b k l c =
      let many : length (take (length xs - n) (drop n xs)) ≡ length (take (length ts - m) (drop m ts)) =
      omega (arith, length-take (length xs - n) (drop n xs), length-take (length ts - m) (drop m ts), length-drop n xs, length-drop m ts) in
      let stand = stand_all p (take (length xs - n) (drop n xs)) (take (length ts - m) (drop m ts)) (take (length ws - m) (drop m ws)) (take (length ls - m) (drop m ls))
      (worded_take es (length xs - n) (drop n xs) (worded_drop es n xs a)) (part_of (IsWanted es) ts ws m b) (part_of (IsLength es) ts ls m k) c many in
      let same : types_of (take (length xs - n) (drop n xs)) ≡ take (length (types_of xs) - n) (drop n (types_of xs)) =
      types_take (length xs - n) (drop n xs) ∙ ap (take (length xs - n)) (types_drop n xs) ∙ ap (λ (k : ℕ). take (k - n) (drop n (types_of xs))) (sym (types_length xs)) in
      taken_common es p (types_of xs) ts n m (omega (arith, types_length xs))
      (ap (λ (us : List TheType). pops es p (row_of us) (row_of (take (length ts - m) (drop m ts)))) (sym same) ∙ stand)
      ∙ ap (λ (us : List TheType). pops es p (row_of us) (row_of (take m ts))) (sym (types_take n xs))

  -- the row of the operands behind others
  pub ready_row : (before new : List Operand) (ts : List ValType) (xs : List Operand) (gs ws ls : List ℕ) → AreReady es ts xs gs ws ls → new ≡ before ++ xs →
      row_in new ≡ row_in before ⧺ known (row_of ts)
  ready_row before new ts xs gs ws ls r e = given_row before new xs ts e (given_types es ts xs r.0)
