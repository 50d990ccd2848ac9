-- Where types are valid, one that matches a function type is a function type that matches it, and an equivalent one is equal. Result
-- types that match are rows that match.
use Rattle.std.proofs.Common.{◌≡◌, ℕ, List, ap, ◌∙◌}
use Rattle.std.specs.Prelude.{Some, slice_get, option_map}
use Rattle.w_types.specs.declared.types.ValType.{ValType}
use Rattle.w_types.specs.declared.types.FuncType.{FuncType}
use Rattle.w_types.specs.declared.types.CompType.TheVariants as comp
use Rattle.w_types.specs.declared.types.RecGroup.{RecGroup}
use Rattle.w_types.specs.Groups.{types_of}
use Rattle.lists.specs.Rows.{Row, ε, ◌▹◌, onto, row_of}
use Rattle.w_syntax.specs.Functions.{function_type, func_type}
use Rattle.w_syntax.specs.declared.module.Module.{Module}
use Rattle.w_canon.specs.Entries.{kind_of}
use Rattle.w_canon.specs.Relations.{none, more}
use Rattle.w_canon.specs.Equality.{ResultEqual}
use Rattle.w_canon.specs.Equivalence.{SameIndex}
use Rattle.w_canon.specs.Matching.{IndexMatches, ResultMatches, FuncMatches, CompMatches}
use Rattle.w_canon.proofs.Composites.{composites_match}
use Rattle.w_canon.proofs.Matches.{func_by_kind}
use Rattle.w_canon.proofs.Supertypes.{index_kinds}
use Rattle.w_rules.specs.Matching.{value, RowMatches, known}
use Rattle.w_rules.proofs.ValidTypes.{kinds_of_valid}
use Rattle.w_typed.proofs.AlikeTypes.{CompEqual}
use Rattle.w_typed.proofs.KeptComposites.{TypesValid, composites_same, keeps_composites}
use Rattle.w_typed.proofs.TypeKinds.{func_here}

-- ## Types that match

-- type x is a function type that matches f: it takes what f takes, and gives what f gives
pub record SameFunction (m : Module) (x : ℕ) (f : FuncType) : Type 0 where
  pub type : FuncType
  pub has_type : func_type m x ≡ Some type
  pub params : ResultMatches m.types f.params type.params
  pub results : ResultMatches m.types type.results f.results

-- a type that matches a function type is a function type
function_below : (m : Module) → TypesValid m → {x y : ℕ} → IndexMatches m.types x y → (f : FuncType) → slice_get (types_of m.types) y ≡ Some (comp.Func f)
    → (g : FuncType) × (slice_get (types_of m.types) x ≡ Some (comp.Func g))
function_below m valid {x} s f above =
    func_by_kind (slice_get (types_of m.types) x) (index_kinds m.types (kinds_of_valid m valid) s ∙ ap (option_map kind_of) above)

of_functions : {gs : List RecGroup} {f g : FuncType} → CompMatches gs (comp.Func f) (comp.Func g) → FuncMatches gs f g
of_functions (CompMatches.func h) = h

-- one that matches it
pub function_matches : (m : Module) → TypesValid m → {x y : ℕ} → IndexMatches m.types x y → (f : FuncType) → func_type m y ≡ Some f → SameFunction m x f
function_matches m valid {x} {y} s f is =
    let gs = m.types in
    let above : slice_get (types_of gs) y ≡ Some (comp.Func f) = func_here (slice_get (types_of gs) y) f is in
    let below = function_below m valid s f above in
    let h : FuncMatches gs below.0 f = of_functions (composites_match gs (keeps_composites m valid) s (comp.Func below.0) (comp.Func f) below.1 above) in
    record { type = below.0; has_type = ap function_type below.1; params = h.params; results = h.results }

-- ## Types that are equivalent

-- type x is a function type whose parameters and results equal those of f
pub record EqualFunction (m : Module) (x : ℕ) (f : FuncType) : Type 0 where
  pub type : FuncType
  pub has_type : func_type m x ≡ Some type
  pub params : ResultEqual m.types type.params f.params
  pub results : ResultEqual m.types type.results f.results

-- the parameters and the results of equal function types
equal_parts : {gs : List RecGroup} {f g : FuncType} → CompEqual gs (comp.Func f) (comp.Func g) → ResultEqual gs f.params g.params × ResultEqual gs f.results g.results
equal_parts (CompEqual.func takes gives) = (takes, gives)

-- a type that is equivalent to a function type is an equal function type
pub equal_function : (m : Module) → TypesValid m → (x y : ℕ) → SameIndex m.types x y → (f : FuncType) → func_type m y ≡ Some f → EqualFunction m x f
equal_function m valid x y s f is =
    let gs = m.types in
    let above : slice_get (types_of gs) y ≡ Some (comp.Func f) = func_here (slice_get (types_of gs) y) f is in
    let below = function_below m valid (IndexMatches.same s) f above in
    let h = equal_parts (composites_same m valid x y (comp.Func below.0) (comp.Func f) s below.1 above) in
    record { type = below.0; has_type = ap function_type below.1; params = h.0; results = h.1 }

-- ## Rows

onto_rows : (gs : List RecGroup) {ts us : List ValType} (xs ys : Row ValType) → RowMatches gs (known xs) (known ys) → ResultMatches gs ts us
    → RowMatches gs (known (onto xs ts)) (known (onto ys us))
onto_rows gs xs ys h none = h
onto_rows gs xs ys h (more {x} {y} r k) = onto_rows gs (xs ▹ x) (ys ▹ y) (RowMatches.more h (value r)) k

-- result types that match are rows that match
pub result_rows : (gs : List RecGroup) {ts us : List ValType} → ResultMatches gs ts us → RowMatches gs (known (row_of ts)) (known (row_of us))
result_rows gs h = onto_rows gs ε ε RowMatches.none h
