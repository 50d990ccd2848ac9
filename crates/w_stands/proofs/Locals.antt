-- The locals of the innermost frame, in levels and in the context that they stand for.
use Rattle.std.proofs.Common.{◌≡◌, ℕ, zero, suc, List, [], ◌∷◌, Some, slice_get, refl, ap, ◌∙◌, subst, map, Option}
use Rattle.std.specs.Prelude.{slice_set}
use Rattle.std.specs.Option.{option_map}
use Rattle.w_types.specs.declared.value.Value.{Value}
use Rattle.w_syntax.specs.declared.module.Module.{Module}
use Rattle.w_segment.specs.Shape.{Level, Frame, locals_of}
use Rattle.w_segment.specs.Changes.{with_local}
use Rattle.w_reduce.specs.Values.{Val, val}
use Rattle.w_reduce.specs.Terms.{Rest, rest_of, Frame as InFrame, Context, locals_of as locals_in, with_local as with_local_in}
use Rattle.w_stands.specs.Values.{stack, local_vals}
use Rattle.w_stands.specs.Stands.{LevelsAre, label, frame, outermost}

pub mapped_get : {A B : Type 0} (f : A → B) (xs : List A) (x : ℕ) → slice_get (map f xs) x ≡ option_map f (slice_get xs x)
mapped_get f [] x = refl
mapped_get f (y ∷ ys) zero = refl
mapped_get f (y ∷ ys) (suc x) = mapped_get f ys x

pub mapped_set : {A B : Type 0} (f : A → B) (xs : List A) (x : ℕ) (a : A) → map f (slice_set xs x a) ≡ slice_set (map f xs) x (f a)
mapped_set f [] x a = refl
mapped_set f (y ∷ ys) zero a = refl
mapped_set f (y ∷ ys) (suc x) a = ap (λ l. f y ∷ l) (mapped_set f ys x a)

-- they are the same
pub around_locals : {m : Module} {outer : Context} {behind : Rest} {f q : ℕ} {ls : List Level} {e : Context} → LevelsAre m outer behind f q ls e → locals_in e ≡ local_vals (locals_of ls)
around_locals (label b r t w) = around_locals w
around_locals (frame n r w) = refl
around_locals (outermost n) = refl

-- one that is looked up
pub local_seen : {m : Module} {outer : Context} {behind : Rest} {f q : ℕ} {ls : List Level} {e : Context} → LevelsAre m outer behind f q ls e → (x : ℕ) →
    slice_get (locals_in e) x ≡ option_map (λ (o : Option Value). option_map val o) (slice_get (locals_of ls) x)
local_seen {ls = ls} w x = ap (λ (l : List (Option Val)). slice_get l x) (around_locals w) ∙ mapped_get (λ (o : Option Value). option_map val o) (locals_of ls) x

-- one that is set
pub around_set : {m : Module} {outer : Context} {behind : Rest} {f q : ℕ} {ls : List Level} {e : Context} (x : ℕ) (v : Value) → LevelsAre m outer behind f q ls e →
    LevelsAre m outer behind f q (with_local x v ls) (with_local_in x (val v) e)
around_set x v (label b r t w) = label b r t (around_set x v w)
around_set {m} {outer} {behind} {f} {q} x v (frame {n = n} {caller = g} {back = b} {below = below} {locals = locals} {rest = rest} {ls = ls} {e = e} p r w) =
    subst (λ l. LevelsAre m outer behind f q (Frame below n (slice_set locals x (Some v)) g b ∷ ls) (InFrame (stack below) n f l (rest_of rest) ∷ e))
    (mapped_set (λ (o : Option Value). option_map val o) locals x (Some v)) (frame p r w)
around_set {m} {outer} {behind} {f} {q} x v (outermost {n = n} {caller = g} {back = b} {below = below} {locals = locals} p) =
    subst (λ l. LevelsAre m outer behind f q (Frame below n (slice_set locals x (Some v)) g b ∷ []) (InFrame (stack below) n f l behind ∷ outer))
    (mapped_set (λ (o : Option Value). option_map val o) locals x (Some v)) (outermost p)
