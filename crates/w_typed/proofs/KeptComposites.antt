-- Where types are valid, composite types equal those of equivalent types, and match those of supertypes.
use Rattle.std.proofs.Common.{◌≡◌, inl, inr, ℕ, zero, suc, ◌+◌, ◌<◌, ◌≤◌, List, [], ◌∷◌, ◌++◌, length, refl, sym, ap, subst, ◌∙◌, arith}
use Rattle.std.specs.Prelude.{Some, slice_get, option_map}
use Rattle.std.proofs.lemmas.List.{length-append, length-map}
use Rattle.std.proofs.lemmas.Option.{slice_get-map, slice_get_within}
use Rattle.lists.proofs.Lists.{get-front, get-behind}
use Rattle.w_types.specs.declared.types.CompType.{CompType}
use Rattle.w_types.specs.declared.types.CompType.TheVariants as comp
use Rattle.w_types.specs.declared.types.SubType.{SubType}
use Rattle.w_types.specs.declared.types.RecGroup.{RecGroup}
use Rattle.w_types.specs.Groups.{subtypes_of, composite_of, types_of}
use Rattle.w_syntax.specs.declared.module.Module.{Module}
use Rattle.w_canon.specs.Classed.{count}
use Rattle.w_canon.specs.Equivalence.{Place, Same, SameIndex}
use Rattle.w_canon.specs.Matching.{IndexMatches, CompMatches}
use Rattle.w_canon.specs.Supertypes.{KeepsKinds, KeepsComposites}
use Rattle.w_canon.proofs.EqualTypes.{result_equal_refl, result_equal_sym, result_equal_matches}
use Rattle.w_canon.proofs.Laminar.{item_at}
use Rattle.w_canon.proofs.Places.{subtypes_of-cons, subtypes_of-nil, within_all, type_at_place}
use Rattle.w_canon.proofs.Supertypes.{related_at}
use Rattle.w_rules.specs.Sound.{Sound}
use Rattle.w_rules.specs.Types.{IsValidCompType, with_ends}
use Rattle.w_rules.specs.Valid.{TypeItem, TypeValid}
use Rattle.w_rules.proofs.ValidTypes.{paired, length-paired, ends_of_group, composite_is, matches_supertype, kinds_of_valid}
use Rattle.w_typed.proofs.AlikeTypes.{CompEqual, end_of, alike_same, alike_comp_equal}

-- ## The end of a type's group

count-cons : (g : RecGroup) (gs : List RecGroup) → count (g ∷ gs) ≡ length g.types + count gs
count-cons g gs = ap (λ (ts : List SubType). length ts) (subtypes_of-cons g gs) ∙ length-append g.types (subtypes_of gs)

-- the type at a position of a group behind others
end_behind : (start : ℕ) (front : List RecGroup) (g : RecGroup) (back : List RecGroup) (p i end : ℕ) (t : SubType) → i ≡ count front + p
    → end ≡ start + (count front + length g.types) → slice_get g.types p ≡ Some t → slice_get (with_ends start (front ++ g ∷ back)) i ≡ Some (end, t)
end_behind start [] g back p i end t at is there =
    let empty = ap (λ (ts : List SubType). length ts) subtypes_of-nil in
    let same_end : start + length g.types ≡ end = omega arith in
    let same_index : i ≡ p = omega arith in
    let within : i < length (paired end g.types) = omega (arith, slice_get_within g.types p t there, length-paired end g.types) in
    ap (λ l. slice_get l i) (ends_of_group start g back)
    ∙ ap (λ (e : ℕ). slice_get (paired e g.types ++ with_ends e back) i) same_end
    ∙ get-front (paired end g.types) (with_ends end back) i within
    ∙ slice_get-map (λ u. (end, u)) g.types i
    ∙ ap (λ (j : ℕ). option_map (λ u. (end, u)) (slice_get g.types j)) same_index
    ∙ ap (option_map (λ u. (end, u))) there
end_behind start (x ∷ front) g back p i end t at is there =
    let n = count-cons x front in
    let next = start + length x.types in
    let same_index : i ≡ length (paired next x.types) + (count front + p) = omega (arith, length-paired next x.types) in
    ap (λ l. slice_get l i) (ends_of_group start x (front ++ g ∷ back))
    ∙ ap (slice_get (paired next x.types ++ with_ends next (front ++ g ∷ back))) same_index
    ∙ get-behind (paired next x.types) (with_ends next (front ++ g ∷ back)) (count front + p)
    ∙ end_behind next front g back p (count front + p) end t refl (omega arith) there

-- ## Valid types

-- each type is valid by the rule
abbrev pub TypesValid : Module → Type 0
TypesValid m = (i : ℕ) → i < length (types_of m.types) → TypeValid m i

-- so are those of a sound module
pub types_valid : (m : Module) → Sound m → TypesValid m
types_valid m valid i lt = valid.items (TypeItem i) refl lt

-- which keep their kinds
pub keeps_kinds : (m : Module) → Sound m → KeepsKinds m.types
keeps_kinds m valid = kinds_of_valid m (types_valid m valid)

-- an index below their number is that of one
type_valid : (m : Module) → TypesValid m → (i : ℕ) → i < count m.types → TypeValid m i
type_valid m v i lt = v i (omega (arith, lt, length-map (subtypes_of m.types) composite_of))

-- the indices in a valid type are below the end of its group
valid_at_place : (m : Module) → TypesValid m → (i : ℕ) (P : Place m.types i) (t : SubType) → slice_get P.group.types P.position ≡ Some t
    → IsValidCompType (types_of m.types) (end_of m.types i P) t.composite
valid_at_place m v i P t there =
    let h : TypeValid m i = type_valid m v i (within_all m.types i P) in
    let is : slice_get (with_ends 0 m.types) i ≡ Some (end_of m.types i P, t) =
    ap (λ gs. slice_get (with_ends 0 gs) i) P.is
    ∙ end_behind 0 P.front P.group P.back P.position i (end_of m.types i P) t P.counts (omega arith) there in
    let same : ◌≡◌ {A = ℕ × SubType} (h.end, h.type) (end_of m.types i P, t) = let f = h.is in cc in
    subst (λ (p : ℕ × SubType). IsValidCompType (types_of m.types) p.0 p.1.composite) same h.valid

-- ## Composite types

-- those of types at one position of equal groups are equal
composites_alike : (m : Module) → TypesValid m → (n : ℕ) → n ≤ length m.types → (x y : ℕ) → Same n m.types x y → (a b : CompType)
    → slice_get (types_of m.types) x ≡ Some a → slice_get (types_of m.types) y ≡ Some b → CompEqual m.types a b
composites_alike m v zero le x y h a b is at = absurd h
composites_alike m v (suc n) le x y h a b is at =
    let gs = m.types in
    let t = item_at (subtypes_of gs) y (within_all gs y h.other) in
    let here : slice_get h.other.group.types h.other.position ≡ Some t.0 = sym (type_at_place gs y h.other) ∙ t.1 in
    let r = related_at h.other.position t.0 h.groups here in
    let there : slice_get h.one.group.types h.one.position ≡ Some r.item = ap (slice_get h.one.group.types) h.position ∙ r.there in
    let equal : CompEqual gs r.item.composite t.0.composite =
    alike_comp_equal gs (Same n gs) (count h.one.front) (count h.other.front) (end_of gs x h.one) (end_of gs y h.other) (alike_same n gs le x y h) (types_of gs) r.related.composite
    (valid_at_place m v x h.one r.item there) (valid_at_place m v y h.other t.0 here) in
    subst (λ (c : CompType). CompEqual gs c b) (composite_is gs x r.item a (type_at_place gs x h.one ∙ there) is)
    (subst (CompEqual gs r.item.composite) (composite_is gs y t.0 b t.1 at) equal)

-- each equals itself
comp_equal_refl : (gs : List RecGroup) (a : CompType) → CompEqual gs a a
comp_equal_refl gs (comp.Func f) = CompEqual.func (result_equal_refl gs f.params) (result_equal_refl gs f.results)
comp_equal_refl gs (comp.Cont x) = CompEqual.cont (inl refl)

-- those of equivalent types are equal
pub composites_same : (m : Module) → TypesValid m → (x y : ℕ) (a b : CompType) → SameIndex m.types x y
    → slice_get (types_of m.types) x ≡ Some a → slice_get (types_of m.types) y ≡ Some b → CompEqual m.types a b
composites_same m v x y a b (inl e) is at = let same : a ≡ b = cc in subst (CompEqual m.types a) same (comp_equal_refl m.types a)
composites_same m v x y a b (inr h) is at = composites_alike m v (length m.types) (omega arith) x y h a b is at

-- composite types that are equal match
comp_equal_matches : {gs : List RecGroup} {a b : CompType} → CompEqual gs a b → CompMatches gs a b
comp_equal_matches {gs} (CompEqual.func {f} {g} takes gives) = CompMatches.func (record {
  params = result_equal_matches gs g.params f.params (result_equal_sym gs f.params g.params takes);
  results = result_equal_matches gs f.results g.results gives;
})
comp_equal_matches (CompEqual.cont h) = CompMatches.cont (IndexMatches.same h)

-- valid types match equivalent ones and their supertypes, composite type by composite type
pub keeps_composites : (m : Module) → TypesValid m → KeepsComposites m.types
keeps_composites m v = record {
  equal = λ x y a b s is at. comp_equal_matches (composites_same m v x y a b s is at);
  super = λ x z a b h is at. matches_supertype m x z (type_valid m v x (slice_get_within (subtypes_of m.types) x h.type h.is)) h a b is at;
}
