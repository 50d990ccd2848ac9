-- The types of the module of a script in their groups: behind the first five a pair that name each other, and each of the others alone.
use Rattle.std.proofs.Common.{◌≡◌, ℕ, zero, suc, ◌+◌, ◌≤◌, List, [], ◌∷◌, ◌++◌, map, length, Some, refl, sym, ap, ◌∙◌, arith}
use Rattle.std.specs.Prelude.{take, drop, slice_get}
use Rattle.w_types.specs.declared.types.CompType.{CompType}
use Rattle.w_types.specs.declared.types.RecGroup.{RecGroup}
use Rattle.w_types.specs.declared.types.SubType.{SubType}
use Rattle.w_types.specs.Groups.{subtypes_of, composite_of, types_of}
use Rattle.w_syntax.specs.Types.{alone_of}
use Rattle.w_canon.specs.Supertypes.{KeepsKinds}
use Rattle.w_rules.specs.Types.{with_ends}
use Rattle.s_code.specs.Lowered.{group, pair_first, grouped}

-- m types each alone, and then a pair
abbrev behind_alone : ℕ → List CompType → List RecGroup
behind_alone m ts = map group (take m ts) ++ pair_first (drop m ts)

-- ## Their types

alone_each : (ts : List CompType) → subtypes_of (map group ts) ≡ map alone_of ts
unfolding subtypes_of
alone_each [] = refl
alone_each (t ∷ ts) = ap (λ (us : List SubType). alone_of t ∷ us) (alone_each ts)

in_pair : (ts : List CompType) → subtypes_of (pair_first ts) ≡ map alone_of ts
unfolding subtypes_of
in_pair [] = refl
in_pair (t ∷ []) = refl
in_pair (t ∷ u ∷ ts) = ap (λ (us : List SubType). alone_of t ∷ alone_of u ∷ us) (alone_each ts)

in_groups : (m : ℕ) (ts : List CompType) → subtypes_of (behind_alone m ts) ≡ map alone_of ts
unfolding subtypes_of
in_groups zero ts = in_pair ts
in_groups (suc m) [] = refl
in_groups (suc m) (t ∷ ts) = ap (λ (us : List SubType). alone_of t ∷ us) (in_groups m ts)

composites : (ts : List CompType) → map composite_of (map alone_of ts) ≡ ts
composites [] = refl
composites (t ∷ ts) = ap (λ (us : List CompType). t ∷ us) (composites ts)

-- they are those that were put into groups, in order
pub types_of_groups : (ts : List CompType) → types_of (grouped ts) ≡ ts
types_of_groups ts = ap (λ (us : List SubType). map composite_of us) (in_groups 5 ts) ∙ composites ts

-- none of them has supertypes
no_supertypes : (ts : List CompType) (i : ℕ) (t : SubType) → slice_get (map alone_of ts) i ≡ Some t → t.supertypes ≡ []
no_supertypes [] i t e = absurd (cc)
no_supertypes (u ∷ ts) zero t e = let same : alone_of u ≡ t = cc in ap (λ (s : SubType). s.supertypes) (sym same)
no_supertypes (u ∷ ts) (suc i) t e = no_supertypes ts i t e

-- so each supertype is of its subtypes' kind
pub kinds_kept : (ts : List CompType) → KeepsKinds (grouped ts)
kinds_kept ts x z h =
    let is = ap (λ (us : List SubType). slice_get us x) (sym (in_groups 5 ts)) ∙ h.is in
    let none : h.type.supertypes ≡ [] = no_supertypes ts x h.type is in let one = h.alone in absurd (cc)

-- ## The ends of their groups

-- the number of types up to the end of the group of type i, where m stand alone in front of the pair
abbrev pub end_behind : ℕ → ℕ → ℕ
end_behind zero zero = 2
end_behind zero (suc i) = suc (suc i)
end_behind (suc m) zero = 1
end_behind (suc m) (suc i) = suc (end_behind m i)

-- and of the module's
abbrev pub end_of : ℕ → ℕ
end_of i = end_behind 5 i

behind_itself : (m i : ℕ) → suc i ≤ end_behind m i
behind_itself zero zero = omega arith
behind_itself zero (suc i) = omega arith
behind_itself (suc m) zero = omega arith
behind_itself (suc m) (suc i) = let q = behind_itself m i in omega (arith, q)

-- a group ends behind each of its types
pub past : (i : ℕ) → suc i ≤ end_of i
past i = behind_itself 5 i

end_alone : (ts : List CompType) (k i n : ℕ) (t : CompType) → n ≡ k + i + 1 → slice_get ts i ≡ Some t → slice_get (with_ends k (map group ts)) i ≡ Some (n, alone_of t)
unfolding with_ends
end_alone [] k i n t is e = absurd (cc)
end_alone (u ∷ ts) k zero n t is e = let same : u ≡ t = cc in let end : k + 1 ≡ n = omega (arith, is) in ap (λ (v : CompType). Some (k + 1, alone_of v)) same ∙ ap (λ (m : ℕ). Some (m, alone_of t)) end
end_alone (u ∷ ts) k (suc i) n t is e = end_alone ts (k + 1) i n t (omega (arith, is)) e

end_in_pair : (ts : List CompType) (k i n : ℕ) (t : CompType) → 2 ≤ length ts → n ≡ k + end_behind 0 i → slice_get ts i ≡ Some t → slice_get (with_ends k (pair_first ts)) i ≡ Some (n, alone_of t)
unfolding with_ends
end_in_pair [] k i n t le is e = absurd (cc)
end_in_pair (u ∷ []) k i n t le is e = absurd (omega (arith, le))
end_in_pair (u ∷ v ∷ ts) k zero n t le is e = let same : u ≡ t = cc in ap (λ (w : CompType). Some (k + 2, alone_of w)) same ∙ ap (λ (m : ℕ). Some (m, alone_of t)) (sym is)
end_in_pair (u ∷ v ∷ ts) k (suc zero) n t le is e = let same : v ≡ t = cc in ap (λ (w : CompType). Some (k + 2, alone_of w)) same ∙ ap (λ (m : ℕ). Some (m, alone_of t)) (sym is)
end_in_pair (u ∷ v ∷ ts) k (suc (suc i)) n t le is e = end_alone ts (k + 2) i n t (omega (arith, is)) e

end_in_groups : (m : ℕ) (ts : List CompType) (k i n : ℕ) (t : CompType) → m + 2 ≤ length ts → n ≡ k + end_behind m i → slice_get ts i ≡ Some t → slice_get (with_ends k (behind_alone m ts)) i ≡ Some (n, alone_of t)
unfolding with_ends
end_in_groups zero ts k i n t le is e = end_in_pair ts k i n t le is e
end_in_groups (suc m) [] k i n t le is e = absurd (cc)
end_in_groups (suc m) (u ∷ ts) k zero n t le is e = let same : u ≡ t = cc in ap (λ (w : CompType). Some (k + 1, alone_of w)) same ∙ ap (λ (j : ℕ). Some (j, alone_of t)) (sym is)
end_in_groups (suc m) (u ∷ ts) k (suc i) n t le is e = end_in_groups m ts (k + 1) i n t (omega (arith, le)) (omega (arith, is)) e

-- where there are seven types or more, each ends so
pub end_at : (ts : List CompType) (i : ℕ) (t : CompType) → 7 ≤ length ts → slice_get ts i ≡ Some t → slice_get (with_ends 0 (grouped ts)) i ≡ Some (end_of i, alone_of t)
end_at ts i t le e = end_in_groups 5 ts 0 i (end_of i) t le (omega arith) e
