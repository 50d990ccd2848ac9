-- Function types that are narrow, by their index.
use Rattle.std.proofs.Common.{◌≡◌, ◌≤◌, ℕ, All, List, length, Option, Some, None, slice_get, refl, subst}
use Rattle.std.proofs.lemmas.Option.{slice_get_within, get_or_from_slice_get}
use Rattle.std.proofs.lemmas.List.Elements.{All-get_or}
use Rattle.w_types.specs.Groups.{types_of}
use Rattle.w_types.specs.declared.types.CompType.{CompType}
use Rattle.w_types.specs.declared.types.CompType.TheVariants as comp
use Rattle.w_types.specs.declared.types.FuncType.{FuncType}
use Rattle.w_syntax.specs.Functions.{function_type, func_type, type_at, type_of_function}
use Rattle.w_syntax.specs.declared.module.Module.{Module}
use Rattle.w_syntax.specs.declared.module.Tag.{Tag}
use Rattle.w_rules.specs.Context.{func_at, func_index_of_cont, cont_of, tag_in, type_of_tag}
use Rattle.w_rules.specs.Limits.{IsNarrow, most_params}
use Rattle.w_rules.specs.Spaces.{context_of, tags_of}
use Rattle.w_stands.specs.Code.{AreNarrow}

-- what holds of each holds of the one at a place
all_at : {A : Type 0} (P : A → Type 0) (xs : List A) (i : ℕ) (x : A) → All P xs → slice_get xs i ≡ Some x → P x
all_at P xs i x h is = subst P (get_or_from_slice_get xs i x x is) (All-get_or P xs i x (slice_get_within xs i x is) h)

narrow_in : (o : Option CompType) (t : FuncType) → ((c : CompType) → o ≡ Some c → IsNarrow c) → function_type o ≡ Some t → (length t.params ≤ most_params) × (length t.results ≤ most_params)
narrow_in None t h is = absurd (cc)
narrow_in (Some (comp.Cont x)) t h is = absurd (cc)
narrow_in (Some (comp.Func f)) t h is = let same : f ≡ t = cc in subst (λ (x : FuncType). (length x.params ≤ most_params) × (length x.results ≤ most_params)) same (h (comp.Func f) refl)

pub narrow_type : (m : Module) (x : ℕ) (t : FuncType) → AreNarrow m → func_type m x ≡ Some t → (length t.params ≤ most_params) × (length t.results ≤ most_params)
narrow_type m x t narrow is = narrow_in (slice_get (types_of m.types) x) t (λ c e. all_at IsNarrow (types_of m.types) x c narrow e) is

-- the function types of continuation types, and those of tags
pub narrow_at : (m : Module) (o : Option ℕ) (t : FuncType) → AreNarrow m → func_at (context_of m) o ≡ Some t → (length t.params ≤ most_params) × (length t.results ≤ most_params)
narrow_at m None t narrow is = absurd (cc)
narrow_at m (Some x) t narrow is = narrow_type m x t narrow is

pub narrow_cont : (m : Module) (x : ℕ) (t : FuncType) → AreNarrow m → cont_of (context_of m) x ≡ Some t → (length t.params ≤ most_params) × (length t.results ≤ most_params)
narrow_cont m x t narrow is = narrow_at m (func_index_of_cont (context_of m) x) t narrow is

narrow_tag_in : (m : Module) (o : Option Tag) (t : FuncType) → AreNarrow m → tag_in (context_of m) o ≡ Some t → (length t.params ≤ most_params) × (length t.results ≤ most_params)
narrow_tag_in m None t narrow is = absurd (cc)
narrow_tag_in m (Some tag) t narrow is = narrow_type m tag.type_index t narrow is

pub narrow_tag : (m : Module) (x : ℕ) (t : FuncType) → AreNarrow m → type_of_tag (context_of m) x ≡ Some t → (length t.params ≤ most_params) × (length t.results ≤ most_params)
narrow_tag m x t narrow is = narrow_tag_in m (slice_get (tags_of m) x) t narrow is

-- the types of functions
pub narrow_function : (m : Module) (i : ℕ) (t : FuncType) → AreNarrow m → type_of_function m i ≡ Some t → (length t.params ≤ most_params) × (length t.results ≤ most_params)
narrow_function m i t narrow is = narrow_in_functions (slice_get m.functions i) is
  where
    narrow_in_functions : (o : Option ℕ) → type_at m o ≡ Some t → (length t.params ≤ most_params) × (length t.results ≤ most_params)
    narrow_in_functions None e = absurd (cc)
    narrow_in_functions (Some x) e = narrow_type m x t narrow e
