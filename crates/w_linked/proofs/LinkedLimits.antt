-- Files that pass no limit at first make a module that passes none.
use Rattle.std.proofs.Common.{◌≡◌, ℕ, suc, Bool, true, false, IsTrue, if◌then◌else◌, List, [], ◌∷◌, ◌++◌, map, Option, Some, None, refl, sym, subst}
use Rattle.std.specs.Prelude.{All, nat_le}
use Rattle.std.proofs.lemmas.List.{map-append}
use Rattle.std.proofs.lemmas.List.Elements.{All-nil, All-cons}
use Rattle.lists.proofs.Tests.{each_of}
use Rattle.w_syntax.specs.declared.module.Limits.{Limits}
use Rattle.w_syntax.specs.declared.module.Module.{Module}
use Rattle.w_syntax.specs.declared.module.Table.{Table}
use Rattle.w_memory.specs.Memory.{page_limit}
use Rattle.w_tables.specs.Elements.{table_limit}
use Rattle.w_reduce.specs.declared.limit.StartLimit.{StartLimit}
use Rattle.w_reduce.specs.declared.limit.StartLimit.TheVariants as limit
use Rattle.w_reduce.specs.Start.{none_above, exceeded}
use Rattle.w_link.specs.Resolved.{Instance}
use Rattle.w_link.specs.Items.{resolved_table}
use Rattle.w_linked.specs.Imports.{Placed}
use Rattle.w_linked.specs.Linked.{of_placed, linked}
use Rattle.w_linked.specs.Starting.{or_next, first_exceeded}
use Rattle.w_linked.proofs.Counting.{tables_in, memories_in}
use Rattle.w_linked.proofs.LinkedSound.{Each, and_file_holds}
use Rattle.w_linked.proofs.Lists.{map_twice}

-- ## Each file

-- a module passes no limit
abbrev pub IsWithin : Module → Type 0
IsWithin m = exceeded m ≡ None

both_none : (f : ℕ) (o : Option StartLimit) (r : Option (ℕ × StartLimit)) → or_next f o r ≡ None → (o ≡ None) × (r ≡ None)
both_none f (Some l) r e = absurd (cc)
both_none f None r e = (refl, e)

-- where there is no first file that passes a limit, no file does
pub all_within : (f : ℕ) (ms : List Module) → first_exceeded f ms ≡ None → All IsWithin ms
all_within f [] e = All-nil IsWithin
all_within f (m ∷ ms) e = let b = both_none f (exceeded m) (first_exceeded (suc f) ms) e in All-cons IsWithin m ms b.0 (all_within (suc f) ms b.1)

-- ## All together

above_neither : (most : ℕ) (xs ys : List ℕ) → IsTrue (none_above most xs) → IsTrue (none_above most ys) → IsTrue (none_above most (xs ++ ys))
above_neither most [] ys h k = k
above_neither most (x ∷ xs) ys h k =
    let b = each_of (nat_le x most) (none_above most xs) h in
    rw (b.0, above_neither most xs ys b.1 k) refl

none_in_all : {A : Type 0} (most : ℕ) (f : Instance → Module → List A) (g : A → ℕ) → ((i : Instance) (m : Module) → IsWithin m → IsTrue (none_above most (map g (f i m))))
    → (ps : List Placed) → Each IsWithin ps → IsTrue (none_above most (map g (of_placed f ps)))
none_in_all most f g own [] h = refl
none_in_all most f g own (p ∷ ps) (and_file_holds h r) =
    subst (λ (l : List ℕ). IsTrue (none_above most l)) (sym (map-append g (f p.instance p.source) (of_placed f ps)))
    (above_neither most (map g (f p.instance p.source)) (map g (of_placed f ps)) (own p.instance p.source h) (none_in_all most f g own ps r))

both_tests : (a b : Bool) (x y : StartLimit) → (if a then (if b then None else Some x) else Some y) ≡ None → IsTrue a × IsTrue b
both_tests true true x y h = (refl, refl)
both_tests true false x y h = absurd (cc)
both_tests false b x y h = absurd (cc)

abbrev min_of : Table → ℕ
min_of t = t.kind.limits.min

abbrev few_pages : Module → Bool
few_pages m = none_above page_limit (map (λ (l : Limits). l.min) m.memories)

abbrev few_elements : Module → Bool
few_elements m = none_above table_limit (map min_of m.tables)

within_both : (m : Module) → IsWithin m → IsTrue (few_pages m) × IsTrue (few_elements m)
within_both m h = both_tests (few_pages m) (few_elements m) limit.Table limit.Memory h

pages_within : (i : Instance) (m : Module) → IsWithin m → IsTrue (few_pages m)
pages_within i m h = (within_both m h).0

elements_within : (i : Instance) (m : Module) → IsWithin m → IsTrue (none_above table_limit (map min_of (tables_in i m)))
elements_within i m h =
    subst (λ (l : List ℕ). IsTrue (none_above table_limit l)) (sym (map_twice (resolved_table i) min_of min_of (λ t. refl) m.tables)) (within_both m h).1

-- the module that such files make passes no limit
pub linked_within : (ps : List Placed) → Each IsWithin ps → exceeded (linked ps) ≡ None
linked_within ps h =
    let few = none_in_all page_limit memories_in (λ (l : Limits). l.min) pages_within ps h in
    let small = none_in_all table_limit tables_in min_of elements_within ps h in
    rw (few, small) refl
