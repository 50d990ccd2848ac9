-- Operands by their words.
use Rattle.std.proofs.Common.{◌≡◌, ℕ, zero, suc, ◌/◌, ◌%◌, ◌<◌, Bool, true, false, List, [], ◌∷◌, ◌++◌, length, map, take, drop, if◌then◌else◌, refl, sym, ap, ◌∙◌, subst, arith, eq-eqb, eqb-true}
use Rattle.std.specs.Prelude.{◌==◌}
use Rattle.w_types.specs.declared.types.HeapType.{HeapType}
use Rattle.w_types.specs.declared.types.HeapType.TheVariants as heap
use Rattle.w_types.specs.declared.types.ValType.{ValType}
use Rattle.w_types.specs.declared.types.ValType.TheVariants.{I32, I64, Ref}
use Rattle.w_types.specs.PackedTypes.{index_of}
use Rattle.w_canon.specs.declared.entry.Entry.{Entry}
use Rattle.w_rules.specs.Operands.{Operand as TheType, Known}
use Rattle.lists.specs.Rows.{◌▹◌, row_of, size}
use Rattle.lists.proofs.Rows.{row_of-more, size-row_of}
use Rattle.std.proofs.lemmas.List.{map-append}
use Rattle.w_rows.specs.Words.{joined, bit_of, given_class, given_word, IsGiven}
use Rattle.w_rows.proofs.WordCases.{GivenBy, given_found}
use Rattle.w_rows.proofs.WordsGiven.{given_alone}
use Rattle.w_rows.specs.declared.operand.Operand.{Operand}
use Rattle.w_rows.specs.Operands.{by_parts, type_at, type_of, types_of, row_in, IsWord, IsWorded, AreWorded}
use Rattle.w_rows.specs.TypeRows.{AreGiven}

-- ## One operand

alone_reference : (h : HeapType) (n : Bool) → type_at (given_word (Ref (record { nullable = n; heap = h }))) (index_of (Ref (record { nullable = n; heap = h }))) ≡ Known (Ref (record { nullable = n; heap = h }))
alone_reference heap.Func true = refl
alone_reference heap.Func false = refl
alone_reference heap.NoFunc true = refl
alone_reference heap.NoFunc false = refl
alone_reference heap.Cont true = refl
alone_reference heap.Cont false = refl
alone_reference heap.NoCont true = refl
alone_reference heap.NoCont false = refl
alone_reference (heap.Index x) true = refl
alone_reference (heap.Index x) false = refl

-- the word of a type that tells no class, with its index, is the type
pub alone_type : (t : ValType) → type_at (given_word t) (index_of t) ≡ Known t
alone_type I32 = refl
alone_type I64 = refl
alone_type (Ref r) = alone_reference r.heap r.nullable

by_test : {A : Type 0} (b : Bool) (x y : A) → b ≡ false → (if b then x else y) ≡ y
by_test false x y e = refl
by_test true x y e = absurd (cc)

not_same : (m n : ℕ) → (m ≡ n → ⊥) → (m == n) ≡ false
not_same m n h = by (m == n) refl
  where
    by : (b : Bool) → (m == n) ≡ b → b ≡ false
    by false e = refl
    by true e = absurd (h (eqb-true m n e))

same : (m n : ℕ) → m ≡ n → (m == n) ≡ true
same m n e = eq-eqb m n e

-- the word of a concrete type that tells its class
concrete : (n : Bool) (x c k : ℕ) → c < 16384 → k < 6 → type_at (joined (given_class c) k (bit_of n)) x ≡ Known (Ref (record { nullable = n; heap = heap.Index x }))
concrete n x c k hc hk =
    let null : bit_of n < 2 = bit_below n in
    let w = joined (given_class c) k (bit_of n) in
    let classes : w / 16 ≡ given_class c = omega arith in
    let mark : w / 2 % 8 ≡ k = omega arith in
    let odd : (w % 2 == 1) ≡ n = odd_bit n (w % 2) (omega arith) in
    ap (λ (m : ℕ). by_parts m (w / 2 % 8) (w % 2 == 1) x) classes ∙ ap (λ (m : ℕ). by_parts (given_class c) m (w % 2 == 1) x) mark
    ∙ ap (λ (b : Bool). by_parts (given_class c) k b x) odd
    ∙ by_test (k == 6) _ _ (not_same k 6 (λ e. omega arith))
    ∙ by_test (given_class c == 0) _ _ (not_same (given_class c) 0 (λ e. omega arith))
    ∙ by_test (given_class c == 268435455) _ _ (not_same (given_class c) 268435455 (λ e. omega arith))
  where
    bit_below : (n : Bool) → bit_of n < 2
    bit_below true = omega arith
    bit_below false = omega arith

    odd_bit : (n : Bool) (m : ℕ) → m ≡ bit_of n → (m == 1) ≡ n
    odd_bit true m e = same m 1 e
    odd_bit false m e = not_same m 1 (λ f. omega arith)

-- the word of a type where it is given, with its index, is the type
pub given_type : (es : List Entry) (t : ValType) (w : ℕ) → IsGiven es t w → type_at w (index_of t) ≡ Known t
given_type es t w g = by t w (given_found es t w g)
  where
    by : (u : ValType) (v : ℕ) → GivenBy es u v → type_at v (index_of u) ≡ Known u
    by u _ GivenBy.alone = alone_type u
    by _ _ (GivenBy.of_func {n} {x} {c} o k l) = concrete n x c 5 l (omega arith)
    by _ _ (GivenBy.of_cont {n} {x} {c} o k l) = concrete n x c 3 l (omega arith)

-- ## Operands of words

-- a word that tells no class
pub alone_at : (o : Operand) (t : ValType) → o.word ≡ given_word t → o.index ≡ index_of t → type_of o ≡ Known t
alone_at o t w x = ap (λ (m : ℕ). type_at m o.index) w ∙ ap (type_at (given_word t)) x ∙ alone_type t

-- a word of the type where it is given
pub given_at : (es : List Entry) (o : Operand) (t : ValType) → IsGiven es t o.word → o.index ≡ index_of t → type_of o ≡ Known t
given_at es o t g x = ap (type_at o.word) x ∙ given_type es t o.word g

-- and the operand has a word of its type
pub given_worded : (es : List Entry) (o : Operand) (t : ValType) → IsGiven es t o.word → o.index ≡ index_of t → IsWorded es o
given_worded es o t g x = subst (λ (u : TheType). IsWord es u o.word) (sym (given_at es o t g x)) g

pub alone_worded : (es : List Entry) (o : Operand) (t : ValType) → o.word ≡ given_word t → o.index ≡ index_of t → IsWorded es o
alone_worded es o t w x = given_worded es o t (given_alone es t o.word w) x

-- ## Lists

-- one operand more is the topmost
pub row_more_in : (xs : List Operand) (x : Operand) → row_in (xs ++ x ∷ []) ≡ row_in xs ▹ type_of x
row_more_in xs x = ap row_of (map-append type_of xs (x ∷ [])) ∙ row_of-more (types_of xs) (type_of x)

pub types_take : (n : ℕ) (xs : List Operand) → types_of (take n xs) ≡ take n (types_of xs)
types_take zero xs = refl
types_take (suc n) [] = refl
types_take (suc n) (x ∷ xs) = ap (λ (ts : List TheType). type_of x ∷ ts) (types_take n xs)

pub types_drop : (n : ℕ) (xs : List Operand) → types_of (drop n xs) ≡ drop n (types_of xs)
types_drop zero xs = refl
types_drop (suc n) [] = refl
types_drop (suc n) (x ∷ xs) = types_drop n xs

pub types_length : (xs : List Operand) → length (types_of xs) ≡ length xs
types_length [] = refl
types_length (x ∷ xs) = ap suc (types_length xs)

module _ (es : List Entry) where
  -- words of lists of operands
  pub worded_append : (xs ys : List Operand) → AreWorded es xs → AreWorded es ys → AreWorded es (xs ++ ys)
  worded_append [] ys a b = b
  worded_append (x ∷ xs) ys a b = (a.0, worded_append xs ys a.1 b)

  pub worded_more : (xs : List Operand) (x : Operand) → AreWorded es xs → IsWorded es x → AreWorded es (xs ++ x ∷ [])
  worded_more xs x a b = worded_append xs (x ∷ []) a (b, tt)

  pub worded_take : (n : ℕ) (xs : List Operand) → AreWorded es xs → AreWorded es (take n xs)
  worded_take zero xs a = tt
  worded_take (suc n) [] a = tt
  worded_take (suc n) (x ∷ xs) a = (a.0, worded_take n xs a.1)

  pub worded_drop : (n : ℕ) (xs : List Operand) → AreWorded es xs → AreWorded es (drop n xs)
  worded_drop zero xs a = a
  worded_drop (suc n) [] a = tt
  worded_drop (suc n) (x ∷ xs) a = worded_drop n xs a.1

  -- without the topmost
  pub worded_front : (old xs : List Operand) (x : Operand) → old ≡ xs ++ x ∷ [] → AreWorded es old → AreWorded es xs
  worded_front old xs x e a = front xs (subst (AreWorded es) e a)
    where
      front : (ys : List Operand) → AreWorded es (ys ++ x ∷ []) → AreWorded es ys
      front [] b = tt
      front (y ∷ ys) b = (b.0, front ys b.1)

  -- after a change of a list
  pub worded_pushed : (old new : List Operand) (x : Operand) → new ≡ old ++ x ∷ [] → IsWorded es x → AreWorded es old → AreWorded es new
  worded_pushed old new x e w a = subst (AreWorded es) (sym e) (worded_more old x a w)

  pub worded_taken : (old new : List Operand) (n : ℕ) → new ≡ take n old → AreWorded es old → AreWorded es new
  worded_taken old new n e a = subst (AreWorded es) (sym e) (worded_take n old a)

  pub worded_behind : (old new given : List Operand) (n : ℕ) → new ≡ take n old ++ given → AreWorded es given → AreWorded es old → AreWorded es new
  worded_behind old new given n e w a = subst (AreWorded es) (sym e) (worded_append (take n old) given (worded_take n old a) w)

  pub worded_replaced : (old new : List Operand) (n : ℕ) (x : Operand) → new ≡ take n old ++ x ∷ [] → IsWorded es x → AreWorded es old → AreWorded es new
  worded_replaced old new n x e w a = worded_behind old new (x ∷ []) n e (w, tt) a

  pub worded_same : (old new : List Operand) → new ≡ old → AreWorded es old → AreWorded es new
  worded_same old new e a = subst (AreWorded es) (sym e) a

  pub worded_none : (new : List Operand) → new ≡ [] → AreWorded es new
  worded_none new e = subst (AreWorded es) (sym e) tt

-- the row after a push
pub row_pushed : (old new : List Operand) (x : Operand) → new ≡ old ++ x ∷ [] → row_in new ≡ row_in old ▹ type_of x
row_pushed old new x e = ap row_in e ∙ row_more_in old x

-- operands that stand ready are of the types
pub given_types : (es : List Entry) (ts : List ValType) (xs : List Operand) → AreGiven es ts xs → types_of xs ≡ map Known ts
given_types es [] [] g = refl
given_types es [] (x ∷ xs) g = absurd g
given_types es (t ∷ ts) [] g = absurd g
given_types es (t ∷ ts) (x ∷ xs) g = ap (λ (u : TheType). u ∷ types_of xs) (given_at es x t g.0.0 g.0.1) ∙ ap (λ (us : List TheType). Known t ∷ us) (given_types es ts xs g.1)

-- and have words of them
pub given_words : (es : List Entry) (ts : List ValType) (xs : List Operand) → AreGiven es ts xs → AreWorded es xs
given_words es [] [] g = tt
given_words es [] (x ∷ xs) g = absurd g
given_words es (t ∷ ts) [] g = absurd g
given_words es (t ∷ ts) (x ∷ xs) g = (given_worded es x t g.0.0 g.0.1, given_words es ts xs g.1)

-- a list's row is as long
pub row_in_length : (xs : List Operand) → size (row_in xs) ≡ length xs
row_in_length xs = size-row_of (types_of xs) ∙ types_length xs
