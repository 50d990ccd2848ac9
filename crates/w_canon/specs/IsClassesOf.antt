-- What the classes of the types of a module say of it.
use Rattle.std.specs.Prelude.{◌≡◌, ◌↔◌, ℕ, ◌+◌, ◌<◌, IsTrue, List, map, Some, slice_get}
use Rattle.w_types.specs.declared.types.RecGroup.{RecGroup}
use Rattle.w_types.specs.Groups.{types_of}
use Rattle.w_canon.specs.declared.entry.Class.{Class}
use Rattle.w_canon.specs.declared.entry.Entry.{Entry}
use Rattle.w_canon.specs.Entries.{kind_of}
use Rattle.w_canon.specs.Equivalence.{SameIndex}
use Rattle.w_canon.specs.Forest.{span_test}
use Rattle.w_canon.specs.Matching.{IndexMatches}

-- types i and j have one class
abbrev pub OneClass : List Entry → ℕ → ℕ → Type 0
OneClass es i j = (a : Entry) × (b : Entry) × (slice_get es i ≡ Some a) × (slice_get es j ≡ Some b) × (a.class ≡ b.class)

-- the first type of a class
abbrev pub first_of : Class → ℕ
first_of c = c.group + c.position

-- the first type of each class is of it
abbrev pub HaveFirsts : List Entry → Type 0
HaveFirsts es = (i : ℕ) (a : Entry) → slice_get es i ≡ Some a → OneClass es i (first_of a.class)

-- spans hold a place, and those of two classes begin at two
pub record HaveSpans (es : List Entry) : Type 0 where
  pub proper : (i : ℕ) (a : Entry) → slice_get es i ≡ Some a → a.span.from < a.span.to
  pub once : (i j : ℕ) (a b : Entry) → slice_get es i ≡ Some a → slice_get es j ≡ Some b → a.span.from ≡ b.span.from → a.class ≡ b.class

-- each type has an entry, with its kind; two types have one class exactly where they are equivalent, and the span of one begins inside
-- that of another exactly where it matches the other
pub record IsClassesOf (gs : List RecGroup) (es : List Entry) : Type 0 where
  pub kinds : map (λ (e : Entry). e.kind) es ≡ map kind_of (types_of gs)
  pub classes : (i j : ℕ) (a b : Entry) → slice_get es i ≡ Some a → slice_get es j ≡ Some b → (a.class ≡ b.class) ↔ SameIndex gs i j
  pub spans : (i j : ℕ) (a b : Entry) → slice_get es i ≡ Some a → slice_get es j ≡ Some b → IsTrue (span_test a.span b.span) ↔ IndexMatches gs i j
