-- Marks at the places that the items of a list name, one item after another.
use Rattle.std.proofs.Common.{◌≡◌, ◌↔◌, ◌⊎◌, inl, inr, ℕ, zero, suc, ◌+◌, ◌<◌, Bool, true, false, List, [], ◌∷◌, ◌++◌, length, take, get_or, replicate, slice_set, refl, sym, ap, ◌∙◌, arith}
use Rattle.std.specs.Prelude.{Contains, Some, slice_get, slice_index_or}
use Rattle.std.proofs.lemmas.List.{take_more}
use Rattle.std.proofs.lemmas.Option.{slice_get_within, get_or_from_slice_get}
use Rattle.std.specs.List.{flat_map}
use Rattle.std.proofs.lemmas.Grind.{flat_map-append}
use Rattle.std.proofs.lemmas.List.{append-nil, length-replicate, length-set}
use Rattle.w_syntax.specs.declared.instructions.Instr.TheVariants as flat
use Rattle.w_syntax.specs.Code.{Code, Done, Plain, Block, If, IfElse}
use Rattle.w_syntax.specs.Flat.{size, laid, whole}
use Rattle.w_syntax.specs.declared.packed.PackedInstr.{PackedInstr}
use Rattle.w_syntax.specs.Packed.{unpacked}
use Rattle.w_rules.specs.Named.{named_at}
use Rattle.w_syntax.specs.declared.module.Elem.{Elem}
use Rattle.w_syntax.specs.declared.module.Export.{Export}
use Rattle.w_syntax.specs.declared.module.GlobalVariable.{GlobalVariable}
use Rattle.w_syntax.specs.declared.module.Module.{Module}
use Rattle.w_syntax.specs.declared.module.Table.{Table}
use Rattle.w_rules.specs.Spaces.{IsDeclared, declared_of, functions_of, marked, named_by, named_in, named_in_some, named_of, exported}

-- marks at the places of both lists
pub marked-append : (s : List Bool) (xs ys : List ℕ) → marked s (xs ++ ys) ≡ marked (marked s xs) ys
marked-append s [] ys = refl
marked-append s (x ∷ xs) ys = marked-append _ xs ys

-- the marks of four lists in turn
four_marks : (s t u v w : List Bool) (ws xs ys zs : List ℕ) → t ≡ marked s ws → u ≡ marked t xs → v ≡ marked u ys → w ≡ marked v zs
    → w ≡ marked s (ws ++ (xs ++ (ys ++ zs)))
four_marks s t u v w ws xs ys zs h i j k =
    k ∙ rw (marked-append s ws (xs ++ (ys ++ zs)), marked-append (marked s ws) xs (ys ++ zs), marked-append (marked (marked s ws) xs) ys zs, j, i, h) refl

-- the marks of exports, elements, globals and tables are those of the module
pub marks_of_module : (m : Module) (es : List Export) (ls : List Elem) (gs : List GlobalVariable) (bs : List Table) (s t u v w : List Bool)
    → es ≡ m.exports → ls ≡ m.elements → gs ≡ m.globals → bs ≡ m.tables
    → t ≡ marked s (flat_map (λ (e : Export). exported e.index) es)
    → u ≡ marked t (flat_map (λ (e : Elem). flat_map named_in e.items) ls)
    → v ≡ marked u (flat_map (λ (g : GlobalVariable). named_in g.init) gs)
    → w ≡ marked v (flat_map (λ (b : Table). named_in_some b.init) bs)
    → w ≡ marked s (named_of m)
marks_of_module m es ls gs bs s t u v w p q r o h i j k =
    let f : List Export → List ℕ = flat_map (λ (e : Export). exported e.index) in
    let g : List Elem → List ℕ = flat_map (λ (e : Elem). flat_map named_in e.items) in
    let l : List GlobalVariable → List ℕ = flat_map (λ (x : GlobalVariable). named_in x.init) in
    let n : List Table → List ℕ = flat_map (λ (b : Table). named_in_some b.init) in
    four_marks s t u v w (f m.exports) (g m.elements) (l m.globals) (n m.tables)
    (h ∙ ap (λ xs. marked s (f xs)) p)
    (i ∙ ap (λ xs. marked t (g xs)) q)
    (j ∙ ap (λ xs. marked u (l xs)) r)
    (k ∙ ap (λ xs. marked v (n xs)) o)

-- one item more
pub marked_more : {X : Type 0} (f : X → List ℕ) (s t u : List Bool) (xs : List X) (i : ℕ) (x : X) → i < length xs → x ≡ get_or xs i x
    → t ≡ marked s (flat_map f (take i xs)) → u ≡ marked t (f x) → u ≡ marked s (flat_map f (take (i + 1) xs))
marked_more f s t u xs i x lt e h k =
    let one : flat_map f (x ∷ []) ≡ f x = append-nil (f x) in
    let more : take (i + 1) xs ≡ take i xs ++ x ∷ [] = take_more xs i x lt ∙ ap (λ y. take i xs ++ y ∷ []) (sym e) in
    let split : flat_map f (take (i + 1) xs) ≡ flat_map f (take i xs) ++ f x =
    ap (flat_map f) more ∙ flat_map-append f (take i xs) (x ∷ []) ∙ ap (λ ys. flat_map f (take i xs) ++ ys) one in
    k ∙ ap (λ v. marked v (f x)) h ∙ sym (marked-append s (flat_map f (take i xs)) (f x)) ∙ ap (marked s) (sym split)

-- the same, of the item that stands at a place
pub marked_at : {X : Type 0} (f : X → List ℕ) (s t u : List Bool) (xs : List X) (i : ℕ) (x : X) → slice_get xs i ≡ Some x
    → t ≡ marked s (flat_map f (take i xs)) → u ≡ marked t (f x) → u ≡ marked s (flat_map f (take (i + 1) xs))
marked_at f s t u xs i x is h k = marked_more f s t u xs i x (slice_get_within xs i x is) (sym (get_or_from_slice_get xs i x x is)) h k

-- the functions that a packed instruction names
abbrev pub named_packed : PackedInstr → List ℕ
named_packed p = named_at (unpacked p)

-- the list of a sequence names the functions that the sequence names
named_laid : (k : ℕ) (c : Code) → flat_map named_at (laid k c) ≡ named_in c
unfolding laid
named_laid k Done = refl
named_laid k (Plain o r) = ap (λ xs. named_by o ++ xs) (named_laid (k + 1) r)
named_laid k (Block kind b x r) =
    flat_map-append named_at (laid (k + 1) x) (flat.End ∷ laid (k + 2 + size x) r) ∙ rw (named_laid (k + 1) x, named_laid (k + 2 + size x) r) refl
named_laid k (If b x r) =
    flat_map-append named_at (laid (k + 1) x) (flat.End ∷ laid (k + 2 + size x) r) ∙ rw (named_laid (k + 1) x, named_laid (k + 2 + size x) r) refl
named_laid k (IfElse b x y r) =
    flat_map-append named_at (laid (k + 1) x) (flat.Else ∷ (laid (k + 2 + size x) y ++ flat.End ∷ laid (k + 3 + size x + size y) r))
    ∙ rw (flat_map-append named_at (laid (k + 2 + size x) y) (flat.End ∷ laid (k + 3 + size x + size y) r), named_laid (k + 1) x, named_laid (k + 2 + size x) y, named_laid (k + 3 + size x + size y) r) refl

-- and so does the list of a body
pub named_whole : (c : Code) → flat_map named_at (whole c) ≡ named_in c
named_whole c = flat_map-append named_at (laid 0 c) (flat.End ∷ []) ∙ append-nil (flat_map named_at (laid 0 c)) ∙ named_laid 0 c

-- ## What is marked

contains_first : (y x : ℕ) (ys : List ℕ) → y ≡ x → Contains (y ∷ ys) x
contains_first y x ys e = (0, omega arith, e)

contains_rest : (y x : ℕ) (ys : List ℕ) → Contains ys x → Contains (y ∷ ys) x
contains_rest y x ys c = (suc c.0, omega (arith, c.1), c.2)

contains_cases : (y x : ℕ) (ys : List ℕ) (k : ℕ) → k < length (y ∷ ys) → slice_index_or (y ∷ ys) k x ≡ x → (y ≡ x) ⊎ Contains ys x
contains_cases y x ys zero l e = inl e
contains_cases y x ys (suc k) l e = inr (k, omega (arith, l), e)

contains_none : (x : ℕ) → Contains [] x → ⊥
contains_none x c = absurd (omega (arith, c.1))

-- one flag is set
set_marks : (s : List Bool) (y x : ℕ) → slice_index_or (slice_set s y true) x false ≡ true → (slice_index_or s x false ≡ true) ⊎ ((x < length s) × (y ≡ x))
set_marks [] y x t = inl t
set_marks (b ∷ s) zero zero t = inr (omega arith, refl)
set_marks (b ∷ s) zero (suc x) t = inl t
set_marks (b ∷ s) (suc y) zero t = inl t
set_marks (b ∷ s) (suc y) (suc x) t = elim (set_marks s y x t) [ inl u ↦ inl u | inr p ↦ inr (omega (arith, p.0), ap suc p.1) ]

marks_set : (s : List Bool) (y x : ℕ) → (slice_index_or s x false ≡ true) ⊎ ((x < length s) × (y ≡ x)) → slice_index_or (slice_set s y true) x false ≡ true
marks_set [] y x (inl u) = u
marks_set [] y x (inr p) = absurd (omega (arith, p.0))
marks_set (b ∷ s) zero zero h = refl
marks_set (b ∷ s) zero (suc x) (inl u) = u
marks_set (b ∷ s) zero (suc x) (inr p) = absurd (omega (arith, p.1))
marks_set (b ∷ s) (suc y) zero (inl u) = u
marks_set (b ∷ s) (suc y) zero (inr p) = absurd (omega (arith, p.1))
marks_set (b ∷ s) (suc y) (suc x) (inl u) = marks_set s y x (inl u)
marks_set (b ∷ s) (suc y) (suc x) (inr p) = marks_set s y x (inr (omega (arith, p.0), omega (arith, p.1)))

-- a flag is set where it was, or where the list names its place
is_marked : (s : List Bool) (ys : List ℕ) (x : ℕ) → slice_index_or (marked s ys) x false ≡ true → (slice_index_or s x false ≡ true) ⊎ ((x < length s) × Contains ys x)
is_marked s [] x t = inl t
is_marked s (y ∷ ys) x t = elim (is_marked (slice_set s y true) ys x t) [ inl u ↦ first (set_marks s y x u) | inr p ↦ inr (omega (arith, p.0, length-set s y true), contains_rest y x ys p.1) ]
  where
    first : (slice_index_or s x false ≡ true) ⊎ ((x < length s) × (y ≡ x)) → (slice_index_or s x false ≡ true) ⊎ ((x < length s) × Contains (y ∷ ys) x)
    first (inl u) = inl u
    first (inr p) = inr (p.0, contains_first y x ys p.1)

marked_is : (s : List Bool) (ys : List ℕ) (x : ℕ) → (slice_index_or s x false ≡ true) ⊎ ((x < length s) × Contains ys x) → slice_index_or (marked s ys) x false ≡ true
marked_is s [] x (inl u) = u
marked_is s [] x (inr p) = absurd (contains_none x p.1)
marked_is s (y ∷ ys) x (inl u) = marked_is (slice_set s y true) ys x (inl (marks_set s y x (inl u)))
marked_is s (y ∷ ys) x (inr p) = elim (contains_cases y x ys p.1.0 p.1.1 p.1.2) [
  | inl e ↦ marked_is (slice_set s y true) ys x (inl (marks_set s y x (inr (p.0, e))))
  | inr c ↦ marked_is (slice_set s y true) ys x (inr (omega (arith, p.0, length-set s y true), c))
]

none_set : (n x : ℕ) → slice_index_or (replicate n false) x false ≡ true → ⊥
none_set zero x t = cc
none_set (suc n) zero t = cc
none_set (suc n) (suc x) t = none_set n x t

-- the flags of a module are those of the functions that are declared
pub declared_decided : (m : Module) (x : ℕ) (b : Bool) → b ≡ slice_index_or (declared_of m) x false → (b ≡ true) ↔ IsDeclared m x
declared_decided m x b e = (
  (λ t. elim (is_marked (replicate (length (functions_of m)) false) (named_of m) x (sym e ∙ t)) [
    | inl u ↦ absurd (none_set (length (functions_of m)) x u)
    | inr p ↦ record { is_there = omega (arith, p.0, length-replicate (length (functions_of m)) false); is_named = p.1 }
  ]),
  (λ d. e ∙ marked_is (replicate (length (functions_of m)) false) (named_of m) x (inr (omega (arith, d.is_there, length-replicate (length (functions_of m)) false), d.is_named))),
)
