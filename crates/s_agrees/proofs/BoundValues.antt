-- Values bound to parameters and names: what a body begins with is in the locals of its frame.
use Rattle.std.proofs.Common.{◌≡◌, ℕ, zero, suc, ◌+◌, Bool, true, false, List, [], ◌∷◌, ◌++◌, length, Option, Some, None, option_map, if◌then◌else◌, ◌⊎◌, inl, inr, refl, sym, ap, ◌∙◌, subst, arith, append_assoc, append-nil}
use Rattle.std.specs.Prelude.{slice_get}
use Rattle.std.specs.Str.{bytes_eq}
use Rattle.lists.specs.Rows.{Row, ε, ◌▹◌, ◌⧺◌, size, onto, listed as vals_listed}
use Rattle.w_reduce.specs.Values.{Val}
use Rattle.s_syntax.specs.declared.name.Name.{Name}
use Rattle.s_syntax.specs.declared.script.Parameter.{Parameter}
use Rattle.s_code.specs.Layouts.{Local, Layout, local_of}
use Rattle.s_meaning.specs.Terms.{Value, listed, listed_before, Variable}
use Rattle.s_meaning.specs.Focus.{variable_of}
use Rattle.s_meaning.specs.Steps.{bind, number_parameter, number_parameters}
use Rattle.s_meaning.proofs.Scopes.{same_is}
use Rattle.s_agrees.proofs.ScriptRows.{Values, many}
use Rattle.s_agrees.proofs.StandsFor.{Same, Sames, none, more, Locals, LocalIs, InLocal, Holds, Held}
use Rattle.s_agrees.proofs.Facts.{Parameters, Names}

pub some_is : {A : Type 0} {x y : A} → Some x ≡ Some y → x ≡ y
some_is e = cc

-- the variable that a parameter makes of its value
abbrev pub bound : Parameter → Value → Variable
bound p v = record { name = p.name; ty = p.ty; value = v }

-- ## What binds

-- as many values as parameters are bound
pub bind_known : (ps : List Parameter) (vs : List Value) → length ps ≡ length vs → (us : List Variable) × (bind ps vs ≡ Some us)
bind_known [] [] e = ([], refl)
bind_known [] (v ∷ vs) e = absurd (omega (arith, e))
bind_known (p ∷ ps) [] e = absurd (omega (arith, e))
bind_known (p ∷ ps) (v ∷ vs) e =
    let q = bind_known ps vs (omega (arith, e)) in (bound p v ∷ q.0, ap (λ (o : Option (List Variable)). option_map (λ (us : List Variable). bound p v ∷ us) o) q.1)

-- and only so many
pub bind_long : (ps : List Parameter) (vs : List Value) (us : List Variable) → bind ps vs ≡ Some us → length ps ≡ length vs
bind_long [] [] us e = refl
bind_long [] (v ∷ vs) us e = absurd (cc)
bind_long (p ∷ ps) [] us e = absurd (cc)
bind_long (p ∷ ps) (v ∷ vs) us e = by (bind ps vs) (bind_long ps vs) e
  where
    by : (o : Option (List Variable)) → ((ts : List Variable) → o ≡ Some ts → length ps ≡ length vs) → option_map (λ (ts : List Variable). bound p v ∷ ts) o ≡ Some us
        → length (p ∷ ps) ≡ length (v ∷ vs)
    by None r q = absurd (cc)
    by (Some ts) r q = ap suc (r ts refl)

-- a variable that was bound, with its parameter
pub record BoundAt (ps : List Parameter) (vs : List Value) (x : Name) (v : Variable) : Type 0 where
  pub place : ℕ
  pub parameter : Parameter
  pub is : slice_get ps place ≡ Some parameter
  pub given : slice_get vs place ≡ Some v.value
  pub named : x ≡ parameter.name
  pub ty : parameter.ty ≡ v.ty

pub bound_at : (ps : List Parameter) (vs : List Value) (us : List Variable) → bind ps vs ≡ Some us → (x : Name) (v : Variable) → variable_of x us ≡ Some v → BoundAt ps vs x v
bound_at [] [] [] e x v q = absurd (cc)
bound_at [] [] (u ∷ us) e x v q = absurd (cc)
bound_at [] (w ∷ ws) us e x v q = absurd (cc)
bound_at (p ∷ ps) [] us e x v q = absurd (cc)
bound_at (p ∷ ps) (w ∷ ws) us e x v q = by (bind ps ws) (λ ts r f. bound_at ps ws ts r x v f) e
  where
    one_more : (ts : List Variable) → (variable_of x ts ≡ Some v → BoundAt ps ws x v) → (b : Bool) → bytes_eq p.name x ≡ b → (if b then Some (bound p w) else variable_of x ts) ≡ Some v
        → BoundAt (p ∷ ps) (w ∷ ws) x v
    one_more ts r true t f =
        let same : bound p w ≡ v = some_is f in record {
          place = 0;
          parameter = p;
          is = refl;
          given = ap (λ (z : Variable). Some z.value) same;
          named = same_is x p.name t;
          ty = ap (λ (z : Variable). z.ty) same;
        }
    one_more ts r false t f =
        let b = r f in record { place = suc b.place; parameter = b.parameter; is = b.is; given = b.given; named = b.named; ty = b.ty }

    by : (o : Option (List Variable)) → ((ts : List Variable) → o ≡ Some ts → variable_of x ts ≡ Some v → BoundAt ps ws x v) → option_map (λ (ts : List Variable). bound p w ∷ ts) o ≡ Some us
        → BoundAt (p ∷ ps) (w ∷ ws) x v
    by None r f = absurd (cc)
    by (Some ts) r f = one_more ts (r ts refl) (bytes_eq p.name x) refl (subst (λ (z : List Variable). variable_of x z ≡ Some v) (sym (some_is f)) q)

-- ## Where it lies

-- the locals from `first` on have these values
pub record HeldFrom (ρ : List ℕ) (L : Locals) (first : ℕ) (vs : List Value) : Type 0 where
  pub each : (i : ℕ) (v : Value) → slice_get vs i ≡ Some v → LocalIs ρ L (first + i) v

-- parameters
pub holds_bound : {ρ : List ℕ} {Γ : Layout} {L : Locals} {ps : List Parameter} {vs : List Value} {us : List Variable} → Parameters Γ ps → bind ps vs ≡ Some us → Held ρ L vs → Holds ρ Γ us L
holds_bound {ρ} {Γ} {L} {ps} {vs} {us} at e h = record {
  each = λ x v q. let b = bound_at ps vs us e x v q in record {
    local = record { name = b.parameter.name; ty = b.parameter.ty; number = b.place };
    is = ap (λ (z : Name). local_of Γ.names z) b.named ∙ at.at b.place b.parameter b.is;
    ty = b.ty;
    held = h.each b.place v.value b.given;
  };
}

-- the parameter of a name among numbers
number_at : (xs : List Name) (j : ℕ) (q : Parameter) → slice_get (number_parameters xs) j ≡ Some q → (x : Name) × (slice_get xs j ≡ Some x) × (number_parameter x ≡ q)
number_at [] j q e = absurd (cc)
number_at (x ∷ xs) zero q e = (x, refl, some_is e)
number_at (x ∷ xs) (suc j) q e = number_at xs j q e

pub number_parameters_length : (xs : List Name) → length (number_parameters xs) ≡ length xs
number_parameters_length [] = refl
number_parameters_length (x ∷ xs) = ap suc (number_parameters_length xs)

-- names of numbers
pub holds_names : {ρ : List ℕ} {Γ : Layout} {L : Locals} {first : ℕ} {xs : List Name} {vs : List Value} {us : List Variable}
    → Names Γ first xs → bind (number_parameters xs) vs ≡ Some us → HeldFrom ρ L first vs → Holds ρ Γ us L
holds_names {ρ} {Γ} {L} {first} {xs} {vs} {us} at e h = record {
  each = λ x v q.
      let b = bound_at (number_parameters xs) vs us e x v q in
      let n = number_at xs b.place b.parameter b.is in
      let named : x ≡ n.0 = b.named ∙ sym (ap (λ (z : Parameter). z.name) n.2) in record {
        local = record { name = n.0; ty = (number_parameter n.0).ty; number = first + b.place };
        is = ap (λ (z : Name). local_of Γ.names z) named ∙ at.at b.place n.0 n.1;
        ty = ap (λ (z : Parameter). z.ty) n.2 ∙ b.ty;
        held = h.each b.place v.value b.given;
      };
}

-- ## Put together

variable_appended : (x : Name) (us vs : List Variable) (v : Variable) → variable_of x (us ++ vs) ≡ Some v → (variable_of x us ≡ Some v) ⊎ (variable_of x vs ≡ Some v)
variable_appended x [] vs v e = inr e
variable_appended x (u ∷ us) vs v e = by (variable_appended x us vs v) (bytes_eq u.name x) e
  where
    by : (variable_of x (us ++ vs) ≡ Some v → (variable_of x us ≡ Some v) ⊎ (variable_of x vs ≡ Some v)) → (b : Bool) → (if b then Some u else variable_of x (us ++ vs)) ≡ Some v
        → ((if b then Some u else variable_of x us) ≡ Some v) ⊎ (variable_of x vs ≡ Some v)
    by k true f = inl f
    by k false f = k f

pub holds_append : {ρ : List ℕ} {Γ : Layout} {L : Locals} {us vs : List Variable} → Holds ρ Γ us L → Holds ρ Γ vs L → Holds ρ Γ (us ++ vs) L
holds_append {ρ} {Γ} {L} {us} {vs} h k = record { each = λ x v e. either x v (variable_appended x us vs v e) }
  where
    either : (x : Name) (v : Variable) → (variable_of x us ≡ Some v) ⊎ (variable_of x vs ≡ Some v) → InLocal ρ Γ L x v
    either x v (inl e) = h.each x v e
    either x v (inr e) = k.each x v e

-- one variable
pub holds_one : {ρ : List ℕ} {Γ : Layout} {L : Locals} (v : Variable) (l : Local) → local_of Γ.names v.name ≡ Some l → l.ty ≡ v.ty → LocalIs ρ L l.number v.value → Holds ρ Γ (v ∷ []) L
holds_one {ρ} {Γ} {L} v l is ty held = record { each = λ x u e. by x u (bytes_eq v.name x) refl e }
  where
    by : (x : Name) (u : Variable) (b : Bool) → bytes_eq v.name x ≡ b → (if b then Some v else None) ≡ Some u → InLocal ρ Γ L x u
    by x u false t e = absurd (cc)
    by x u true t e =
        subst (λ (z : Variable). InLocal ρ Γ L x z) (some_is e) (record { local = l; is = ap (λ (z : Name). local_of Γ.names z) (same_is x v.name t) ∙ is; ty = ty; held = held })

-- ## Rows as lists

-- values of the script, and of the machine, side by side
pub data AllSame (ρ : List ℕ) : List Value → List Val → Type 0 where
  all_none : AllSame ρ [] []
  all_more : {v : Value} {w : Val} {vs : List Value} {ws : List Val} → Same ρ v w → AllSame ρ vs ws → AllSame ρ (v ∷ vs) (w ∷ ws)

listed_on : {ρ : List ℕ} {vs : Values} {ws : Row Val} (us : List Value) (xs : List Val) → Sames ρ vs ws → AllSame ρ us xs → AllSame ρ (listed_before vs us) (vals_listed ws ++ xs)
listed_on us xs none a = a
listed_on {ρ} us xs (more {vs = vs} {ws = ws} {v = v} {w = w} s h) a =
    subst (λ (z : List Val). AllSame ρ (listed_before vs (v ∷ us)) z) (sym (append_assoc (vals_listed ws) (w ∷ []) xs)) (listed_on (v ∷ us) (w ∷ xs) s (all_more h a))

pub listed_same : {ρ : List ℕ} {vs : Values} {ws : Row Val} → Sames ρ vs ws → AllSame ρ (listed vs) (vals_listed ws)
listed_same {ρ} {vs} {ws} s = subst (λ (z : List Val). AllSame ρ (listed vs) z) (append-nil (vals_listed ws)) (listed_on [] [] s all_none)

pub all_long : {ρ : List ℕ} {vs : List Value} {ws : List Val} → AllSame ρ vs ws → length vs ≡ length ws
all_long all_none = refl
all_long (all_more h a) = ap suc (all_long a)

pub all_get : {ρ : List ℕ} {vs : List Value} {ws : List Val} (i : ℕ) (v : Value) → AllSame ρ vs ws → slice_get vs i ≡ Some v → (w : Val) × (slice_get ws i ≡ Some w) × Same ρ v w
all_get i v all_none e = absurd (cc)
all_get {ρ} zero v (all_more {w = w} h a) e = (w, refl, subst (λ (z : Value). Same ρ z w) (some_is e) h)
all_get (suc i) v (all_more h a) e = all_get i v a e

listed_before_long : {ρ : List ℕ} {vs : Values} {ws : Row Val} (us : List Value) → Sames ρ vs ws → length (listed_before vs us) ≡ many vs + length us
listed_before_long us none = omega arith
listed_before_long us (more {vs = vs} {v = v} s h) = let q = listed_before_long (v ∷ us) s in omega (arith, q)

-- as many as there are
pub listed_long : {ρ : List ℕ} {vs : Values} {ws : Row Val} → Sames ρ vs ws → length (listed vs) ≡ many vs
listed_long s = let q = listed_before_long [] s in omega (arith, q)

pub sames_size : {ρ : List ℕ} {vs : Values} {ws : Row Val} → Sames ρ vs ws → size ws ≡ many vs
sames_size none = refl
sames_size (more s h) = ap suc (sames_size s)

onto_more : (ops : Row Val) (ws : List Val) (w : Val) → onto ops (ws ++ w ∷ []) ≡ onto ops ws ▹ w
onto_more ops [] w = refl
onto_more ops (x ∷ ws) w = onto_more (ops ▹ x) ws w

-- a row on another is its list on it
pub onto_listed : (ops ws : Row Val) → onto ops (vals_listed ws) ≡ ops ⧺ ws
onto_listed ops ε = refl
onto_listed ops (ws ▹ w) = onto_more ops (vals_listed ws) w ∙ ap (λ (z : Row Val). z ▹ w) (onto_listed ops ws)
