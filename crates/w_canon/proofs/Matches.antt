-- What entries say of types, and lists that match.
use Rattle.std.proofs.Common.{◌≡◌, ◌↔◌, ℕ, suc, List, length, Option, Some, None, slice_get, refl, sym, ap, ◌∙◌}
use Rattle.std.specs.Option.{option_map}
use Rattle.std.proofs.lemmas.Option.{slice_get-map}
use Rattle.w_types.specs.declared.types.ValType.{ValType}
use Rattle.w_types.specs.declared.types.FuncType.{FuncType}
use Rattle.w_types.specs.declared.types.CompType.{CompType}
use Rattle.w_types.specs.declared.types.CompType.TheVariants as comp
use Rattle.w_types.specs.declared.types.RecGroup.{RecGroup}
use Rattle.w_types.specs.Groups.{types_of}
use Rattle.w_canon.specs.declared.entry.Kind.{Kind}
use Rattle.w_canon.specs.declared.entry.Kind.TheVariants as kind
use Rattle.w_canon.specs.declared.entry.Entry.{Entry}
use Rattle.w_canon.specs.Entries.{kind_of}
use Rattle.w_canon.specs.Relations.{Pairwise, none, more}
use Rattle.w_canon.specs.Matching.{IsFunc, IsCont, ResultMatches}
use Rattle.w_canon.specs.Equality.{ResultEqual}
use Rattle.w_canon.specs.IsClassesOf.{IsClassesOf}

-- equivalences joined
pub through : {P Q R : Type 0} → P ↔ Q → Q ↔ R → P ↔ R
through h k = (λ p. k.0 (h.0 p), λ r. h.1 (k.1 r))

-- ## Kinds

-- the kind of an entry is that of the type
pub kind_at : (gs : List RecGroup) (es : List Entry) (i : ℕ) → IsClassesOf gs es → option_map (λ (e : Entry). e.kind) (slice_get es i) ≡ option_map kind_of (slice_get (types_of gs) i)
kind_at gs es i h = sym (slice_get-map (λ (e : Entry). e.kind) es i) ∙ ap (λ (ks : List Kind). slice_get ks i) h.kinds ∙ slice_get-map kind_of (types_of gs) i

-- a type of the kind of functions is a function type
pub func_by_kind : (o : Option CompType) → option_map kind_of o ≡ Some kind.Func → (f : FuncType) × (o ≡ Some (comp.Func f))
func_by_kind (Some (comp.Func f)) h = (f, refl)
func_by_kind (Some (comp.Cont y)) h = absurd (cc)
func_by_kind None h = absurd (cc)

-- a type of the kind of continuations is a continuation type
pub cont_by_kind : (o : Option CompType) → option_map kind_of o ≡ Some kind.Cont → (y : ℕ) × (o ≡ Some (comp.Cont y))
cont_by_kind (Some (comp.Cont y)) h = (y, refl)
cont_by_kind (Some (comp.Func f)) h = absurd (cc)
cont_by_kind None h = absurd (cc)

-- what the entries say of a type tells whether it is a function type
pub func_by_entry : (gs : List RecGroup) (es : List Entry) (i : ℕ) → IsClassesOf gs es → (option_map (λ (e : Entry). e.kind) (slice_get es i) ≡ Some kind.Func) ↔ IsFunc gs i
func_by_entry gs es i h = (
  λ k. func_by_kind (slice_get (types_of gs) i) (sym (kind_at gs es i h) ∙ k),
  λ (f : IsFunc gs i). kind_at gs es i h ∙ ap (option_map kind_of) f.1,
)

-- or a continuation type
pub cont_by_entry : (gs : List RecGroup) (es : List Entry) (i : ℕ) → IsClassesOf gs es → (option_map (λ (e : Entry). e.kind) (slice_get es i) ≡ Some kind.Cont) ↔ IsCont gs i
cont_by_entry gs es i h = (
  λ k. cont_by_kind (slice_get (types_of gs) i) (sym (kind_at gs es i h) ∙ k),
  λ (f : IsCont gs i). kind_at gs es i h ∙ ap (option_map kind_of) f.1,
)

-- ## Lists

-- related lists have one length
pub one_length : {A : Type 0} {R : A → A → Type 0} {xs ys : List A} → Pairwise R xs ys → length xs ≡ length ys
one_length none = refl
one_length (more h t) = ap suc (one_length t)

-- so have result types that match
pub result_one_length : (gs : List RecGroup) (ts us : List ValType) → ResultMatches gs ts us → length ts ≡ length us
result_one_length gs ts us m = one_length m

-- and those that are equal
pub result_equal_one_length : (gs : List RecGroup) (ts us : List ValType) → ResultEqual gs ts us → length ts ≡ length us
result_equal_one_length gs ts us m = one_length m
