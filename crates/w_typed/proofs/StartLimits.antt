-- What a module asks for at first, where it passes no limit.
use Rattle.std.proofs.Common.{◌≡◌, ℕ, zero, suc, ◌≤◌, Bool, true, false, IsTrue, if◌then◌else◌, List, [], ◌∷◌, map, Option, Some, None, option_map, slice_get, refl, ap, ◌∙◌, arith}
use Rattle.std.specs.Prelude.{nat_le}
use Rattle.std.proofs.lemmas.Bool.{leb-true}
use Rattle.std.proofs.lemmas.Option.{slice_get-map}
use Rattle.w_syntax.specs.declared.module.Limits.{Limits}
use Rattle.w_syntax.specs.declared.module.Module.{Module}
use Rattle.w_syntax.specs.declared.module.Table.{Table}
use Rattle.w_memory.specs.Memory.{page_limit, most_pages}
use Rattle.w_rules.specs.Valid.{IsMaxValid}
use Rattle.w_tables.specs.Elements.{table_limit, most_elements}
use Rattle.w_reduce.specs.declared.limit.StartLimit.{StartLimit}
use Rattle.w_reduce.specs.declared.limit.StartLimit.TheVariants as limit
use Rattle.w_reduce.specs.Start.{none_above, exceeded}
use Rattle.w_typed.proofs.OneWay.{both_hold}

-- where none is above a number, the one at a place isn't
not_above : (most : ℕ) (ns : List ℕ) (i n : ℕ) → IsTrue (none_above most ns) → slice_get ns i ≡ Some n → n ≤ most
not_above most [] i n h is = absurd (cc)
not_above most (k ∷ ns) zero n h is =
    let below : k ≤ most = leb-true k most (both_hold (nat_le k most) (none_above most ns) h).0 in
    let same : k ≡ n = cc in
    omega arith
not_above most (k ∷ ns) (suc i) n h is = not_above most ns i n (both_hold (nat_le k most) (none_above most ns) h).1 is

both_tests : (a b : Bool) (x y : StartLimit) → (if a then (if b then None else Some x) else Some y) ≡ None → IsTrue a × IsTrue b
both_tests true true x y h = (refl, refl)
both_tests true false x y h = absurd (cc)
both_tests false b x y h = absurd (cc)

module _ (m : Module) (none : exceeded m ≡ None) where
  tests : IsTrue (none_above page_limit (map (λ (l : Limits). l.min) m.memories))
      × IsTrue (none_above table_limit (map (λ (t : Table). t.kind.limits.min) m.tables))
  tests = both_tests (none_above page_limit (map (λ (l : Limits). l.min) m.memories)) (none_above table_limit (map (λ (t : Table). t.kind.limits.min) m.tables)) limit.Table limit.Memory none

  pages_few : (i : ℕ) (l : Limits) → slice_get m.memories i ≡ Some l → l.min ≤ page_limit
  pages_few i l is =
      not_above page_limit (map (λ (l : Limits). l.min) m.memories) i l.min tests.0
      (slice_get-map (λ (l : Limits). l.min) m.memories i ∙ ap (option_map (λ (l : Limits). l.min)) is)

  elements_few : (i : ℕ) (t : Table) → slice_get m.tables i ≡ Some t → t.kind.limits.min ≤ table_limit
  elements_few i t is =
      not_above table_limit (map (λ (t : Table). t.kind.limits.min) m.tables) i t.kind.limits.min tests.1
      (slice_get-map (λ (t : Table). t.kind.limits.min) m.tables i ∙ ap (option_map (λ (t : Table). t.kind.limits.min)) is)

-- what is at most a limit, and at most a valid maximum
pages_allowed : (bound n : ℕ) (max : Option ℕ) → n ≤ page_limit → IsMaxValid bound n max → n ≤ most_pages max
pages_allowed bound n None h v = h
pages_allowed bound n (Some k) h v = omega (arith, v.0)

elements_allowed : (bound n : ℕ) (max : Option ℕ) → n ≤ table_limit → IsMaxValid bound n max → n ≤ most_elements max
elements_allowed bound n None h v = h
elements_allowed bound n (Some k) h v = omega (arith, v.0)

-- a memory begins with no more pages than it may come to
pub first_pages : (m : Module) → exceeded m ≡ None → (bound i : ℕ) (l : Limits) → slice_get m.memories i ≡ Some l → IsMaxValid bound l.min l.max
    → l.min ≤ most_pages l.max
first_pages m none bound i l is v = pages_allowed bound l.min l.max (pages_few m none i l is) v

-- and a table with no more elements
pub first_elements : (m : Module) → exceeded m ≡ None → (bound i : ℕ) (t : Table) → slice_get m.tables i ≡ Some t
    → IsMaxValid bound t.kind.limits.min t.kind.limits.max → t.kind.limits.min ≤ most_elements t.kind.limits.max
first_elements m none bound i t is v = elements_allowed bound t.kind.limits.min t.kind.limits.max (elements_few m none i t is) v
