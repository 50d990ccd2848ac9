-- The types of a module with the ends of their groups, and what they keep where they are valid.
use Rattle.std.proofs.Common.{◌≡◌, ℕ, suc, ◌+◌, ◌<◌, List, [], ◌∷◌, ◌++◌, map, length, Some, slice_get, refl, sym, ap, subst, ◌∙◌, arith}
use Rattle.std.specs.Option.{option_map}
use Rattle.std.proofs.lemmas.List.{map-append, length-map}
use Rattle.std.proofs.lemmas.Option.{slice_get-map, slice_get_within}
use Rattle.w_types.specs.declared.types.CompType.{CompType}
use Rattle.w_types.specs.declared.types.SubType.{SubType}
use Rattle.w_types.specs.declared.types.RecGroup.{RecGroup}
use Rattle.w_types.specs.Groups.{subtypes_of, composite_of, types_of}
use Rattle.w_canon.specs.Entries.{kind_of}
use Rattle.w_canon.specs.Matching.{HasSupertype, CompMatches}
use Rattle.w_canon.specs.Supertypes.{KeepsKinds}
use Rattle.w_canon.proofs.Composites.{comp_kinds}
use Rattle.w_syntax.specs.declared.module.Module.{Module}
use Rattle.w_rules.specs.Types.{IsSupertype, AreSupertypes, with_ends}
use Rattle.w_rules.specs.Valid.{Valid, TypeItem, TypeValid}

-- ## The ends of groups

abbrev second : ℕ × SubType → SubType
second p = p.1

-- types with the end of their group
abbrev pub paired : ℕ → List SubType → List (ℕ × SubType)
paired end ts = map (λ t. (end, t)) ts

-- they are as many
pub length-paired : (end : ℕ) (ts : List SubType) → length (paired end ts) ≡ length ts
length-paired end [] = refl
length-paired end (t ∷ ts) = ap suc (length-paired end ts)

-- those of the first group, and of the others
pub ends_of_group : (start : ℕ) (g : RecGroup) (gs : List RecGroup)
    → with_ends start (g ∷ gs) ≡ paired (start + length g.types) g.types ++ with_ends (start + length g.types) gs
unfolding with_ends
ends_of_group start g gs = refl

unpaired : (end : ℕ) (ts : List SubType) → map second (paired end ts) ≡ ts
unpaired end [] = refl
unpaired end (t ∷ ts) = ap (λ us. t ∷ us) (unpaired end ts)

-- the types with the ends of their groups are the types
without_ends : (k : ℕ) (gs : List RecGroup) → map second (with_ends k gs) ≡ subtypes_of gs
unfolding with_ends subtypes_of
without_ends k [] = refl
without_ends k (g ∷ gs) =
    let end = k + length g.types in
    map-append second (paired end g.types) (with_ends end gs)
    ∙ ap (λ (ts : List SubType). ts ++ map second (with_ends end gs)) (unpaired end g.types)
    ∙ ap (λ (ts : List SubType). g.types ++ ts) (without_ends end gs)

-- there are as many
pub length-ends : (start : ℕ) (gs : List RecGroup) → length (with_ends start gs) ≡ length (subtypes_of gs)
length-ends start gs = sym (length-map (with_ends start gs) second) ∙ ap (λ (ts : List SubType). length ts) (without_ends start gs)

-- a type that stands with the end of its group is the type of this index
pub subtype_there : (gs : List RecGroup) (i end : ℕ) (t : SubType) → slice_get (with_ends 0 gs) i ≡ Some (end, t) → slice_get (subtypes_of gs) i ≡ Some t
subtype_there gs i end t is =
    ap (λ ts. slice_get ts i) (sym (without_ends 0 gs)) ∙ slice_get-map second (with_ends 0 gs) i ∙ ap (option_map second) is

-- ## Composite types

-- the composite type of a type is that of its index
composite_there : (gs : List RecGroup) (i : ℕ) (t : SubType) → slice_get (subtypes_of gs) i ≡ Some t → slice_get (types_of gs) i ≡ Some t.composite
composite_there gs i t is = slice_get-map composite_of (subtypes_of gs) i ∙ ap (option_map composite_of) is

pub composite_is : (gs : List RecGroup) (i : ℕ) (t : SubType) (c : CompType) → slice_get (subtypes_of gs) i ≡ Some t → slice_get (types_of gs) i ≡ Some c → t.composite ≡ c
composite_is gs i t c is there = let e = composite_there gs i t is in cc

-- ## Valid types

module _ (m : Module) (x z : ℕ) (valid : TypeValid m x) (h : HasSupertype m.types x z) where
  -- the supertype of a valid type is one by the rule
  above : IsSupertype m.types x valid.type.composite z
  above =
      let there = subtype_there m.types x valid.end valid.type valid.is in
      let is = h.is in
      let same : valid.type ≡ h.type = cc in
      subst (AreSupertypes m.types x valid.type.composite) (ap (λ (t : SubType). t.supertypes) same ∙ h.alone) valid.supertypes

  -- a valid type matches its supertype
  pub matches_supertype : (a b : CompType) → slice_get (types_of m.types) x ≡ Some a → slice_get (types_of m.types) z ≡ Some b → CompMatches m.types a b
  matches_supertype a b is at =
      let one = composite_is m.types x valid.type a (subtype_there m.types x valid.end valid.type valid.is) is in
      let other = composite_is m.types z above.type b above.is at in
      subst (λ (c : CompType). CompMatches m.types c b) one (subst (CompMatches m.types valid.type.composite) other above.matches)

  one_kind_above : option_map kind_of (slice_get (types_of m.types) x) ≡ option_map kind_of (slice_get (types_of m.types) z)
  one_kind_above =
      let here = composite_there m.types x valid.type (subtype_there m.types x valid.end valid.type valid.is) in
      let there = composite_there m.types z above.type above.is in
      ap (option_map kind_of) here ∙ ap (λ k. Some k) (comp_kinds above.matches) ∙ sym (ap (option_map kind_of) there)

-- valid types keep their kinds
pub kinds_of_valid : (m : Module) → ((i : ℕ) → i < length (types_of m.types) → TypeValid m i) → KeepsKinds m.types
kinds_of_valid m valid x z h =
    let n = length-map (subtypes_of m.types) composite_of in
    one_kind_above m x z (valid x (omega (arith, n, slice_get_within (subtypes_of m.types) x h.type h.is))) h

-- so do the types of a valid module
pub keeps_kinds : (m : Module) → Valid m → KeepsKinds m.types
keeps_kinds m valid = kinds_of_valid m (λ i lt. valid (TypeItem i) lt)
