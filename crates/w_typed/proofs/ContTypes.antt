-- Continuation types of a sound module: each is of a function type, and one that matches another has a function type that matches.
use Rattle.std.proofs.Common.{◌≡◌, ℕ, List, Option, Some, None, slice_get, sym, ap, subst, ◌∙◌}
use Rattle.std.specs.Prelude.{option_map}
use Rattle.std.proofs.lemmas.Option.{slice_get_within}
use Rattle.w_types.specs.declared.types.CompType.{CompType}
use Rattle.w_types.specs.declared.types.CompType.TheVariants as comp
use Rattle.w_types.specs.declared.types.FuncType.{FuncType}
use Rattle.w_types.specs.declared.types.RecGroup.{RecGroup}
use Rattle.w_types.specs.Groups.{types_of}
use Rattle.w_syntax.specs.Functions.{function_type, func_type}
use Rattle.w_syntax.specs.declared.module.Module.{Module}
use Rattle.w_canon.specs.Entries.{kind_of}
use Rattle.w_canon.specs.Matching.{IndexMatches, FuncMatches, CompMatches}
use Rattle.w_canon.proofs.Composites.{composites_match}
use Rattle.w_canon.proofs.Matches.{cont_by_kind}
use Rattle.w_canon.proofs.Supertypes.{index_kinds}
use Rattle.w_rules.specs.Context.{func_at, index_in_cont, func_index_of_cont, cont_of}
use Rattle.w_rules.specs.Sound.{Sound}
use Rattle.w_rules.specs.Spaces.{context_of}
use Rattle.w_rules.specs.Types.{IsValidCompType}
use Rattle.w_rules.specs.Valid.{TypeValid}
use Rattle.w_rules.proofs.ValidTypes.{subtype_there, composite_is}
use Rattle.w_typed.proofs.KeptComposites.{types_valid, keeps_kinds, keeps_composites}
use Rattle.w_typed.proofs.TypeKinds.{is_cont}
use Rattle.w_typed.proofs.SameTypes.{SameFunction, function_matches}

-- ## Of a function type

-- what has the index of a continuation type is a continuation type
index_here : (o : Option CompType) (f : ℕ) → index_in_cont o ≡ Some f → o ≡ Some (comp.Cont f)
index_here (Some (comp.Func g)) f h = absurd (cc)
index_here (Some (comp.Cont y)) f h = let e : y ≡ f = cc in ap (λ (z : ℕ). Some (comp.Cont z)) e
index_here None f h = absurd (cc)

-- the function type of a continuation type
cont_by_index : (m : Module) (x z : ℕ) (f : FuncType) → slice_get (types_of m.types) x ≡ Some (comp.Cont z) → func_type m z ≡ Some f
    → cont_of (context_of m) x ≡ Some f
cont_by_index m x z f is has = ap (λ (o : Option CompType). func_at (context_of m) (index_in_cont o)) is ∙ has

-- type x is a continuation type, of function type f
pub record IsContOf (m : Module) (x f : ℕ) : Type 0 where
  pub type : FuncType
  pub has_cont : cont_of (context_of m) x ≡ Some type
  pub has_func : func_type m f ≡ Some type

module _ (m : Module) (valid : Sound m) where
  -- a continuation type is of a function type
  pub is_cont_of : (x f : ℕ) → func_index_of_cont (context_of m) x ≡ Some f → IsContOf m x f
  is_cont_of x f h =
      let is : slice_get (types_of m.types) x ≡ Some (comp.Cont f) = index_here (slice_get (types_of m.types) x) f h in
      let v : TypeValid m x = types_valid m valid x (slice_get_within (types_of m.types) x (comp.Cont f) is) in
      let same : v.type.composite ≡ comp.Cont f = composite_is m.types x v.type (comp.Cont f) (subtype_there m.types x v.end v.type v.is) is in
      let c : IsValidCompType (types_of m.types) v.end (comp.Cont f) = subst (IsValidCompType (types_of m.types) v.end) same v.valid in
      let has : func_type m f ≡ Some c.1 = ap function_type c.2 in
      record { type = c.1; has_cont = cont_by_index m x f c.1 is has; has_func = has }

-- ## Those that match

-- type x is a continuation type whose function type matches f
pub record SameCont (m : Module) (x : ℕ) (f : FuncType) : Type 0 where
  pub type : FuncType
  pub has_type : cont_of (context_of m) x ≡ Some type
  pub matches : FuncMatches m.types type f

of_continuations : {gs : List RecGroup} {x y : ℕ} → CompMatches gs (comp.Cont x) (comp.Cont y) → IndexMatches gs x y
of_continuations (CompMatches.cont h) = h

-- a type that matches a continuation type is one, whose function type matches
pub cont_matches : (m : Module) → Sound m → {x y : ℕ} → IndexMatches m.types x y → (f : FuncType) → cont_of (context_of m) y ≡ Some f → SameCont m x f
cont_matches m valid {x} {y} s f is =
    let gs = m.types in
    let above = is_cont m y f is in
    let below = cont_by_kind (slice_get (types_of gs) x) (index_kinds gs (keeps_kinds m valid) s ∙ ap (option_map kind_of) above.1) in
    let one : IndexMatches gs below.0 above.0 = of_continuations (composites_match gs (keeps_composites m (types_valid m valid)) s (comp.Cont below.0) (comp.Cont above.0) below.1 above.1) in
    let of_above : func_type m above.0 ≡ Some f = sym (ap (λ (o : Option CompType). func_at (context_of m) (index_in_cont o)) above.1) ∙ is in
    let g : SameFunction m below.0 f = function_matches m (types_valid m valid) one f of_above in
    record { type = g.type; has_type = cont_by_index m x below.0 g.type below.1 g.has_type; matches = record { params = g.params; results = g.results } }
