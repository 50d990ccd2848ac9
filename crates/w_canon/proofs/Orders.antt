-- The order of words tells all words apart.
use Rattle.std.proofs.Common.{◌≡◌, ℕ, refl, ◌∙◌, ap, List, [], ◌∷◌}
use Rattle.std.specs.declared.cmp.Ordering.{Ordering}
use Rattle.std.specs.declared.cmp.Ordering.TheVariants.{Less, Equal, Greater}
use Rattle.std.specs.Ordering.{nat_cmp, ordering_then}
use Rattle.std.specs.Cmp.Lexicographic.{slice_cmp}
use Rattle.std.proofs.lemmas.Cmp.{tied_itself, lists_total}
use Rattle.std.proofs.lemmas.Map.Lookups.{CmpEqualImpliesEq, exact_unsigned}
use Rattle.w_canon.specs.declared.entry.Class.{Class}
use Rattle.w_canon.specs.contracts.entry.ClassOrd.TheImpl as class_ord
use Rattle.w_canon.specs.declared.key.HeapWord.TheVariants as heap
use Rattle.w_canon.specs.contracts.key.HeapWordOrd.TheImpl as heap_ord
use Rattle.w_canon.specs.declared.key.ValueWord.TheVariants as value
use Rattle.w_canon.specs.contracts.key.ValueWordOrd.TheImpl as value_ord
use Rattle.w_canon.specs.declared.key.Word.{Word}
use Rattle.w_canon.specs.declared.key.Word.TheVariants as word
use Rattle.w_canon.specs.contracts.key.WordOrd.TheImpl.Laws.{total-law}
use Rattle.w_canon.specs.Numbers.{word_cmp}

both_equal : (o p : Ordering) → ordering_then o p ≡ Equal → (o ≡ Equal) × (p ≡ Equal)
both_equal Less p e = absurd (cc)
both_equal Equal p e = (refl, e)
both_equal Greater p e = absurd (cc)

abbrev class_at : ℕ → ℕ → Class
class_at g p = record { group = g; position = p }

-- classes are equal by their parts
pub one_class : (a b : Class) → a.group ≡ b.group → a.position ≡ b.position → a ≡ b
one_class a b g p = ap (λ n. class_at n a.position) g ∙ ap (class_at b.group) p

classes : CmpEqualImpliesEq (class_ord.ghosts).cmp
classes x y e =
    let h = both_equal (nat_cmp x.group y.group) (nat_cmp x.position y.position) e in
    one_class x y (exact_unsigned x.group y.group h.0) (exact_unsigned x.position y.position h.1)

heaps : CmpEqualImpliesEq (heap_ord.ghosts).cmp
heaps heap.Func heap.Func e = refl
heaps heap.NoFunc heap.NoFunc e = refl
heaps heap.Cont heap.Cont e = refl
heaps heap.NoCont heap.NoCont e = refl
heaps (heap.Inside x) (heap.Inside y) e = ap heap.Inside (exact_unsigned x y e)
heaps (heap.Outside x) (heap.Outside y) e = ap heap.Outside (classes x y e)
heaps _ _ e = absurd (cc)

values : CmpEqualImpliesEq (value_ord.ghosts).cmp
values value.I32 value.I32 e = refl
values value.I64 value.I64 e = refl
values (value.NonNull x) (value.NonNull y) e = ap value.NonNull (heaps x y e)
values (value.Nullable x) (value.Nullable y) e = ap value.Nullable (heaps x y e)
values _ _ e = absurd (cc)

words : CmpEqualImpliesEq word_cmp
words (word.Func m n) (word.Func p q) e =
    let h = both_equal (nat_cmp m p) (nat_cmp n q) e in
    let g = exact_unsigned m p h.0 in
    let k = exact_unsigned n q h.1 in
    cc
words (word.Final m) (word.Final n) e = ap word.Final (exact_unsigned m n e)
words (word.Open m) (word.Open n) e = ap word.Open (exact_unsigned m n e)
words (word.Supertype x) (word.Supertype y) e = ap word.Supertype (heaps x y e)
words (word.Cont x) (word.Cont y) e = ap word.Cont (heaps x y e)
words (word.Value x) (word.Value y) e = ap word.Value (values x y e)
words _ _ e = absurd (cc)

-- lists of words in one place are equal
pub keys : CmpEqualImpliesEq (slice_cmp word_cmp)
keys [] [] e = refl
keys [] (y ∷ ys) e = absurd (cc)
keys (x ∷ xs) [] e = absurd (cc)
keys (x ∷ xs) (y ∷ ys) e =
    let h = both_equal (word_cmp x y) (slice_cmp word_cmp xs ys) e in
    let g = words x y h.0 in
    let k = keys xs ys h.1 in
    cc

-- a list of words is in one place with itself
pub key_itself : (xs : List Word) → slice_cmp word_cmp xs xs ≡ Equal
key_itself xs = tied_itself (lists_total total-law) xs
