-- What becomes of tables when the elements of one of them change.
use Rattle.std.proofs.Common.{◌≡◌, ◌<◌, ℕ, ◌-◌, List, ◌++◌, length, get_or, Option, Some, None, sym, ◌∙◌, ap, subst, arith}
use Rattle.std.specs.Prelude.{slice_set, Vec}
use Rattle.std.specs.Vec.{with_items}
use Rattle.std.proofs.lemmas.List.{get_or_default, set-get_or, set-append_left, set-append_right, get_or_append_left, get_or-append_right, with_items_is}
use Rattle.w_types.specs.declared.value.Value.{Value}
use Rattle.w_tables.specs.Outcomes.{outcome}
use Rattle.w_tables.specs.Elements.{copied}
use Rattle.w_tables.specs.Store.{Table}
use Rattle.w_tables.specs.Operations.{table_at, elements_at, with_elements_at}

-- an answer, and what an operation leaves
abbrev Left : Type 0 → Type 0
Left S = Option (Unit {0}) × S

in_tables : (tables : List Table) (t : ℕ) → Left (List Value) → Left (List Table)
in_tables tables t p = (p.0, with_elements_at tables t p.1)

-- an operation on the elements of a table is one on the tables
changed : (tables : List Table) (t : ℕ) (change : Option (List Value)) (result : Option (Unit {0})) (new : List Value)
    → outcome (elements_at tables t) (λ xs. xs) change ≡ (result, new) → outcome tables (with_elements_at tables t) change ≡ (result, with_elements_at tables t new)
unfolding in_tables
changed tables t (Some xs) result new e = ap (in_tables tables t) e
changed tables t None result new e =
    let same : slice_set tables t (table_at tables t) ≡ tables = set-get_or tables t _ in
    ap (λ l. let p : Left (List Table) = (None, l) in p) (sym same) ∙ ap (in_tables tables t) e

-- a copy between two tables that are there
between : (tables : List Table) (dst src to from n : ℕ) (x y : Table) (result : Option (Unit {0})) (new : List Value)
    → table_at tables dst ≡ x → table_at tables src ≡ y → outcome x.elements (λ xs. xs) (copied x.elements y.elements to from n) ≡ (result, new)
    → outcome tables (with_elements_at tables dst) (copied (elements_at tables dst) (elements_at tables src) to from n) ≡ (result, slice_set tables dst (record x { elements = new }))
between tables dst src to from n x y result new a b e =
    let here : outcome (elements_at tables dst) (λ xs. xs) (copied (elements_at tables dst) (elements_at tables src) to from n) ≡ (result, new) =
    subst (λ (z : Table). outcome z.elements (λ xs. xs) (copied z.elements (elements_at tables src) to from n) ≡ (result, new)) (sym a)
    (subst (λ (z : Table). outcome x.elements (λ xs. xs) (copied x.elements z.elements to from n) ≡ (result, new)) (sym b) e) in
    changed tables dst _ result new here ∙ ap (λ (z : Table). let p : Left (List Table) = (result, slice_set tables dst (record z { elements = new })) in p) a

-- an element that was read, as it is seen
pub seen : {A : Type 0} (l : List A) (k : ℕ) (x z : A) → x ≡ get_or l k z → z ≡ get_or l k z → x ≡ get_or l k x
seen l k x z e h = subst (λ y. y ≡ get_or l k y) (h ∙ sym e) h

-- a slice that was lent by a Vec is what the Vec then holds
pub kept : {Z : Type 0} (v : Vec Value Z) (all : Left (List Value)) (result : Option (Unit {0})) (new : List Value) → length new ≡ v.len → all ≡ (result, new)
    → all ≡ (result, (with_items v new).items)
kept v all result new n e = e ∙ ap (λ l. let p : Left (List Value) = (result, l) in p) (sym (with_items_is v new n))

-- a table of the first part, or of the second
first : (tables front back : List Table) (t : ℕ) (x : Table) → tables ≡ front ++ back → t < length front → x ≡ get_or front t x → table_at tables t ≡ x
first tables front back t x e h read = ap (λ l. table_at l t) e ∙ get_or_append_left front back _ t h ∙ get_or_default front t _ x h ∙ sym read

second : (tables front back : List Table) (t : ℕ) (x : Table) → tables ≡ front ++ back → length front ≡ t → t < length tables → x ≡ get_or back 0 x → table_at tables t ≡ x
second tables front back t x e f h read =
    let none : t - t ≡ 0 = omega arith in
    get_or_default tables t _ x h ∙ ap (λ l. get_or l t x) e ∙ get_or-append_right front back t t x f (omega arith) ∙ ap (λ k. get_or back k x) none ∙ sym read

-- a copy from the second part to the first, where the second begins with the source
pub copied_to_front : (tables front back : List Table) (dst src to from n : ℕ) (x y : Table) (result : Option (Unit {0})) (new : List Value)
    → tables ≡ front ++ back → length front ≡ src → dst < src → src < length tables → x ≡ get_or front dst x → y ≡ get_or back 0 y
    → outcome x.elements (λ xs. xs) (copied x.elements y.elements to from n) ≡ (result, new)
    → outcome tables (with_elements_at tables dst) (copied (elements_at tables dst) (elements_at tables src) to from n) ≡ (result, slice_set front dst (record x { elements = new }) ++ back)
copied_to_front tables front back dst src to from n x y result new e f lt h read from_there done =
    let within : dst < length front = omega arith in
    between tables dst src to from n x y result new (first tables front back dst x e within read) (second tables front back src y e f h from_there) done
    ∙ ap (λ l. let p : Left (List Table) = (result, slice_set l dst (record x { elements = new })) in p) e
    ∙ ap (λ l. let p : Left (List Table) = (result, l) in p) (set-append_left front back dst (record x { elements = new }) within)

-- a copy from the first part to the second, which begins with the target
pub copied_to_back : (tables front back : List Table) (dst src to from n : ℕ) (x y : Table) (result : Option (Unit {0})) (new : List Value)
    → tables ≡ front ++ back → length front ≡ dst → src < dst → dst < length tables → x ≡ get_or back 0 x → y ≡ get_or front src y
    → outcome x.elements (λ xs. xs) (copied x.elements y.elements to from n) ≡ (result, new)
    → outcome tables (with_elements_at tables dst) (copied (elements_at tables dst) (elements_at tables src) to from n) ≡ (result, front ++ slice_set back 0 (record x { elements = new }))
copied_to_back tables front back dst src to from n x y result new e f lt h read from_there done =
    let within : src < length front = omega arith in
    let none : dst - dst ≡ 0 = omega arith in
    between tables dst src to from n x y result new (second tables front back dst x e f h read) (first tables front back src y e within from_there) done
    ∙ ap (λ l. let p : Left (List Table) = (result, slice_set l dst (record x { elements = new })) in p) e
    ∙ ap (λ l. let p : Left (List Table) = (result, l) in p) (set-append_right front back dst dst (record x { elements = new }) f (omega arith))
    ∙ ap (λ k. let p : Left (List Table) = (result, front ++ slice_set back k (record x { elements = new })) in p) none
