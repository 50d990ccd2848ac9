-- The locals that arguments become.
use Rattle.std.proofs.Common.{◌≡◌, ℕ, zero, suc, List, [], ◌∷◌, ◌++◌, reverse, map, Option, Some, None, Bool, true, false, refl, sym, ap, ◌∙◌}
use Rattle.std.specs.Prelude.{replicate, if◌then◌else◌}
use Rattle.std.specs.Option.{option_map}
use Rattle.std.proofs.lemmas.List.{map-append, reverse-append}
use Rattle.lists.specs.Rows.{listed}
use Rattle.w_types.specs.Values.{default_of}
use Rattle.w_types.specs.declared.types.ValType.{ValType}
use Rattle.w_types.specs.declared.types.ValType.TheVariants as type
use Rattle.w_types.specs.declared.value.Value.{Value}
use Rattle.w_types.specs.declared.value.Value.TheVariants as value
use Rattle.w_syntax.specs.declared.locals.LocalRun.{LocalRun}
use Rattle.w_reduce.specs.Values.{Val, val, Null, default_of as default_in}
use Rattle.w_reduce.specs.Calls.{defaults}
use Rattle.w_stands.specs.Values.{stack, vals, local_vals}
use Rattle.w_call_ops.specs.Entering.{first_values}

-- from the left, they are those of the list from its end
pub listed_stack : (vs : List Value) → listed (stack vs) ≡ vals (reverse vs)
listed_stack [] = refl
listed_stack (v ∷ vs) =
    ap (λ (l : List Val). l ++ val v ∷ []) (listed_stack vs)
    ∙ sym (map-append val (reverse vs) (v ∷ []))
    ∙ ap vals (sym (reverse-append (v ∷ []) vs))

-- as locals
some_vals : (vs : List Value) → map (λ (v : Val). Some v) (vals vs) ≡ local_vals (map (λ (v : Value). Some v) vs)
some_vals [] = refl
some_vals (v ∷ vs) = ap (λ (l : List (Option Val)). Some (val v) ∷ l) (some_vals vs)

-- what a local begins with
null_val : (b : Bool) → option_map val (if b then Some value.Null else None) ≡ (if b then Some Null else None)
null_val true = refl
null_val false = refl

default_val : (t : ValType) → option_map val (default_of t) ≡ default_in t
default_val type.I32 = refl
default_val type.I64 = refl
default_val (type.Ref r) = null_val r.nullable

copies_val : (n : ℕ) (o : Option Value) → local_vals (replicate n o) ≡ replicate n (option_map val o)
copies_val zero o = refl
copies_val (suc n) o = ap (λ (l : List (Option Val)). option_map val o ∷ l) (copies_val n o)

first_vals : (rs : List LocalRun) → local_vals (first_values rs) ≡ defaults rs
first_vals [] = refl
first_vals (r ∷ rs) =
    map-append (λ (o : Option Value). option_map val o) (replicate r.count (default_of r.kind)) (first_values rs)
    ∙ ap (λ (l : List (Option Val)). l ++ local_vals (first_values rs)) (copies_val r.count (default_of r.kind) ∙ ap (replicate r.count) (default_val r.kind))
    ∙ ap (λ (l : List (Option Val)). replicate r.count (default_in r.kind) ++ l) (first_vals rs)

-- all locals of a frame that is entered
pub entered_locals : (vs : List Value) (rs : List LocalRun) →
    map (λ (v : Val). Some v) (listed (stack vs)) ++ defaults rs ≡ local_vals (map (λ (v : Value). Some v) (reverse vs) ++ first_values rs)
entered_locals vs rs =
    ap (λ (l : List (Option Val)). l ++ defaults rs) (ap (map (λ (v : Val). Some v)) (listed_stack vs) ∙ some_vals (reverse vs))
    ∙ ap (λ (l : List (Option Val)). local_vals (map (λ (v : Value). Some v) (reverse vs)) ++ l) (sym (first_vals rs))
    ∙ sym (map-append (λ (o : Option Value). option_map val o) (map (λ (v : Value). Some v) (reverse vs)) (first_values rs))
