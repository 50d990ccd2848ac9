-- Composite types of indices that match.
use Rattle.std.proofs.Common.{◌≡◌, ℕ, List, Some, slice_get, refl, sym, ap, ◌∙◌, arith}
use Rattle.std.specs.Option.{option_map}
use Rattle.std.proofs.lemmas.List.{length-map}
use Rattle.std.proofs.lemmas.Option.{slice_get-map, slice_get_within}
use Rattle.w_types.specs.declared.types.CompType.{CompType}
use Rattle.w_types.specs.declared.types.CompType.TheVariants as comp
use Rattle.w_types.specs.declared.types.RecGroup.{RecGroup}
use Rattle.w_types.specs.Groups.{subtypes_of, composite_of, types_of}
use Rattle.w_canon.specs.Entries.{kind_of}
use Rattle.w_canon.specs.Relations.{IsReflexive, IsTransitive}
use Rattle.w_canon.specs.Matching.{HasSupertype, IndexMatches, same, above, CompMatches}
use Rattle.w_canon.specs.Supertypes.{KeepsKinds, KeepsComposites}
use Rattle.w_canon.proofs.Equivalent.{reflexive}
use Rattle.w_canon.proofs.Laminar.{item_at}
use Rattle.w_canon.proofs.Supertypes.{index_joined}
use Rattle.w_canon.proofs.Preorder.{func_refl, func_trans}

-- a composite type matches itself
pub comp_refl : (gs : List RecGroup) → IsReflexive (CompMatches gs)
comp_refl gs (comp.Func f) = CompMatches.func (func_refl gs f)
comp_refl gs (comp.Cont x) = CompMatches.cont (IndexMatches.same (reflexive gs x))

comp_joined : (gs : List RecGroup) → KeepsKinds gs → {a b c : CompType} → CompMatches gs a b → CompMatches gs b c → CompMatches gs a c
comp_joined gs keeps (CompMatches.func {f} {g} h) (CompMatches.func {g = e} k) = CompMatches.func (func_trans gs keeps f g e h k)
comp_joined gs keeps (CompMatches.cont h) (CompMatches.cont k) = CompMatches.cont (index_joined gs h k)

-- matching of composite types is transitive
pub comp_trans : (gs : List RecGroup) → KeepsKinds gs → IsTransitive (CompMatches gs)
comp_trans gs keeps a b c h k = comp_joined gs keeps h k

-- composite types that match are of one kind
pub comp_kinds : {gs : List RecGroup} {a b : CompType} → CompMatches gs a b → kind_of a ≡ kind_of b
comp_kinds (CompMatches.func h) = refl
comp_kinds (CompMatches.cont h) = refl

module _ (gs : List RecGroup) (keeps : KeepsComposites gs) where
  -- a type that has a supertype is there, and so is its supertype
  there : (x z : ℕ) (h : HasSupertype gs x z) → slice_get (types_of gs) x ≡ Some (composite_of h.type)
  there x z h = slice_get-map composite_of (subtypes_of gs) x ∙ ap (option_map composite_of) h.is

  above_there : (x z : ℕ) → HasSupertype gs x z → (b : CompType) × (slice_get (types_of gs) z ≡ Some b)
  above_there x z h =
      let w = slice_get_within (subtypes_of gs) x h.type h.is in
      let b = h.before in
      let n = length-map (subtypes_of gs) composite_of in
      item_at (types_of gs) z (omega (arith, w, b, n))

  -- supertypes are of one kind with their subtypes
  pub kinds_kept : KeepsKinds gs
  kinds_kept x z h =
      let a = there x z h in
      let b = above_there x z h in
      ap (option_map kind_of) a
      ∙ ap (λ k. Some k) (comp_kinds (keeps.super x z (composite_of h.type) b.0 h a b.1))
      ∙ sym (ap (option_map kind_of) b.1)

  -- the composite types of indices that match, match
  pub composites_match : {x y : ℕ} → IndexMatches gs x y → (a b : CompType) → slice_get (types_of gs) x ≡ Some a → slice_get (types_of gs) y ≡ Some b → CompMatches gs a b
  composites_match (same {x} {y} s) a b is at = keeps.equal x y a b s is at
  composites_match (above {x} {y} {z = u} h m) a b is at =
      let c = above_there x u h in
      comp_joined gs kinds_kept (keeps.super x u a c.0 h is c.1) (composites_match m c.0 b c.1 at)
