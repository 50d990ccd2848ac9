-- Items by their places.
use Rattle.std.proofs.Common.{◌≡◌, inl, inr, ℕ, ◌+◌, ◌<◌, nat_eq, cond, refl, sym, ap, subst, ◌∙◌, arith}
use Rattle.std.proofs.lemmas.Bool.{cases_lt, cases_order}
use Rattle.w_syntax.specs.declared.module.Module.{Module}
use Rattle.w_rules.specs.Valid.{
  Item,
  TypeItem,
  ImportItem,
  TableItem,
  MemoryItem,
  TagItem,
  GlobalItem,
  ElementItem,
  DataItem,
  StartItem,
  ExportItem,
  FunctionItem,
  Before,
  place_of,
  IsItem,
  ItemValid,
  IsInvalidAt,
}
use Rattle.w_items.specs.declared.indexed.ItemKind.{ItemKind}
use Rattle.w_items.specs.declared.indexed.ItemKind.TheVariants as kind
use Rattle.w_items.specs.Kinds.{item_of, count_of}

-- the item at a place
abbrev pub item_at : ℕ → ℕ → Item
item_at k i =
    cond (nat_eq k 0) (TypeItem i)
    (cond (nat_eq k 1) (ImportItem i)
    (cond (nat_eq k 2) (TableItem i)
    (cond (nat_eq k 3) MemoryItem
    (cond (nat_eq k 4) (TagItem i)
    (cond (nat_eq k 5) (GlobalItem i)
    (cond (nat_eq k 6) (ElementItem i)
    (cond (nat_eq k 7) (DataItem i)
    (cond (nat_eq k 8) StartItem
    (cond (nat_eq k 9) (ExportItem i) (FunctionItem i))))))))))

pub item_at-place_of : (x : Item) → item_at (place_of x).0 (place_of x).1 ≡ x
item_at-place_of (TypeItem i) = refl
item_at-place_of (ImportItem i) = refl
item_at-place_of (TableItem i) = refl
item_at-place_of MemoryItem = refl
item_at-place_of (TagItem i) = refl
item_at-place_of (GlobalItem i) = refl
item_at-place_of (ElementItem i) = refl
item_at-place_of (DataItem i) = refl
item_at-place_of StartItem = refl
item_at-place_of (ExportItem i) = refl
item_at-place_of (FunctionItem i) = refl

neither : (a b : ℕ) → (a < b → ⊥) → (b < a → ⊥) → a ≡ b
neither a b up down = elim (cases_order a b) [ inl e ↦ e | inr (inl h) ↦ absurd (up h) | inr (inr h) ↦ absurd (down h) ]

-- of two items one is before the other, unless they are the same
pub same_item : (x y : Item) → (Before x y → ⊥) → (Before y x → ⊥) → x ≡ y
same_item x y up down =
    let kinds : (place_of x).0 ≡ (place_of y).0 = neither (place_of x).0 (place_of y).0 (λ h. up (inl h)) (λ h. down (inl h)) in
    let indices : (place_of x).1 ≡ (place_of y).1 = neither (place_of x).1 (place_of y).1 (λ h. up (inr (kinds, h))) (λ h. down (inr (sym kinds, h))) in
    sym (item_at-place_of x) ∙ ap (λ (k : ℕ). item_at k (place_of x).1) kinds ∙ ap (item_at (place_of y).0) indices ∙ item_at-place_of y

-- ## Items of a kind, as many as there are

-- below their number the module has one
pub is_counted : (m : Module) (k : ItemKind) (i : ℕ) → i < count_of m k → IsItem m (item_of k i)
is_counted m kind.Import i lt = lt
is_counted m kind.Table i lt = lt
is_counted m kind.Tag i lt = lt
is_counted m kind.Global i lt = lt
is_counted m kind.Element i lt = lt
is_counted m kind.Data i lt = lt

-- and only there
pub counts : (m : Module) (k : ItemKind) (i : ℕ) → IsItem m (item_of k i) → i < count_of m k
counts m kind.Import i item = item
counts m kind.Table i item = item
counts m kind.Tag i item = item
counts m kind.Global i item = item
counts m kind.Element i item = item
counts m kind.Data i item = item

-- ## The items of the first kinds

-- those of the first so many kinds are valid
pub record AreValid (m : Module) (kinds : ℕ) : Type 0 where
  pub valid : (x : Item) → (place_of x).0 < kinds → IsItem m x → ItemValid m x

pub none_judged : (m : Module) → AreValid m 0
none_judged m = record { valid = λ x lt. absurd (omega arith) }

-- where an item is by its kind and its index, so is an item of this kind
at_place : (m : Module) (x : Item) (k : ℕ) → (place_of x).0 ≡ k → (IsItem m (item_at k (place_of x).1) → ItemValid m (item_at k (place_of x).1)) → IsItem m x → ItemValid m x
at_place m x k kind holds =
    let same : item_at k (place_of x).1 ≡ x = ap (λ (n : ℕ). item_at n (place_of x).1) (sym kind) ∙ item_at-place_of x in
    subst (λ (y : Item). IsItem m y → ItemValid m y) same holds

-- one kind more
pub kind_judged : (m : Module) (k : ℕ) → AreValid m k → ((j : ℕ) → IsItem m (item_at k j) → ItemValid m (item_at k j)) → AreValid m (k + 1)
kind_judged m k below here = record {
  valid = λ x lt. elim (cases_lt (place_of x).0 k) [ inl h ↦ below.valid x h | inr h ↦ at_place m x k (omega arith) (here (place_of x).1) ];
}

-- an item that is not, where those before it are
pub invalid_at : (m : Module) (x : Item) → AreValid m (place_of x).0 → IsItem m x → (ItemValid m x → ⊥)
    → ((j : ℕ) → j < (place_of x).1 → IsItem m (item_at (place_of x).0 j) → ItemValid m (item_at (place_of x).0 j)) → IsInvalidAt m x
invalid_at m x below is not before = record {
  item = is;
  invalid = not;
  least = λ y item first. elim first [ inl h ↦ below.valid y h item | inr p ↦ at_place m y (place_of x).0 p.0 (before (place_of y).1 p.1) item ];
}

-- where the items of the kinds before exports are valid, those before the exports are
pub before_exports : (m : Module) → AreValid m 9 → (x : Item) → Before x (ExportItem 0) → IsItem m x → ItemValid m x
before_exports m all x first = elim first [ inl h ↦ all.valid x h | inr p ↦ absurd (omega (arith, p.1)) ]
