-- Typed contexts: what fills one, and the locals of its innermost frame.
use Rattle.std.proofs.Common.{◌≡◌, ℕ, zero, suc, Bool, true, List, [], ◌∷◌, ◌⊎◌, inl, inr, Option, Some, slice_get, slice_set, refl, sym, ap, subst}
use Rattle.w_types.specs.declared.types.ValType.{ValType}
use Rattle.lists.specs.Rows.{Row, ◌⧺◌, row_of}
use Rattle.w_syntax.specs.Code.{Code}
use Rattle.w_syntax.specs.declared.module.Module.{Module}
use Rattle.w_canon.specs.Supertypes.{KeepsKinds}
use Rattle.w_rules.specs.Matching.{RowMatches, known}
use Rattle.w_rules.specs.Operands.{Operand}
use Rattle.w_rules.proofs.Derive.{derives_left}
use Rattle.w_rules.proofs.Preorder.{row_size, row_trans}
use Rattle.w_reduce.specs.Values.{Val}
use Rattle.w_reduce.specs.Terms.{Administrative, Context, locals_of, with_local}
use Rattle.w_typed.specs.Values.{Arrows, ValueTyped}
use Rattle.w_typed.specs.Contexts.{Scope, in_scope, IsHeld, CodeTyped, RestTyped, code_alone, invoke_first, branch_first, Subset, LocalTyped, held, LocalsTyped, no_locals, locals, Within, outside, label, frame, handle}
use Rattle.w_typed.proofs.Low.{low_sub}

-- ## Sets of locals

pub subset_refl : (s : List Bool) → Subset s s
subset_refl s = record { still = λ x is. is }

pub subset_trans : {s t u : List Bool} → Subset s t → Subset t u → Subset s u
subset_trans h k = record { still = λ x is. k.still x (h.still x is) }

more_set : (s : List Bool) (x y : ℕ) → slice_get s y ≡ Some true → slice_get (slice_set s x true) y ≡ Some true
more_set [] x y is = is
more_set (b ∷ s) zero zero is = refl
more_set (b ∷ s) zero (suc y) is = is
more_set (b ∷ s) (suc x) zero is = is
more_set (b ∷ s) (suc x) (suc y) is = more_set s x y is

-- a local more is set
pub subset_set : (s : List Bool) (x : ℕ) → Subset s (slice_set s x true)
subset_set s x = record { still = λ y is. more_set s x y is }

set_there : (s : List Bool) (x y : ℕ) → slice_get (slice_set s x true) y ≡ Some true → (x ≡ y) ⊎ (slice_get s y ≡ Some true)
set_there [] x y is = inr is
set_there (b ∷ s) zero zero is = inl refl
set_there (b ∷ s) zero (suc y) is = inr is
set_there (b ∷ s) (suc x) zero is = inr is
set_there (b ∷ s) (suc x) (suc y) is = elim (set_there s x y is) [ inl e ↦ inl (ap suc e) | inr k ↦ inr k ]

set_in : (s : List Bool) (x : ℕ) (b : Bool) → slice_get s x ≡ Some b → slice_get (slice_set s x true) x ≡ Some true
set_in [] x b is = absurd (cc)
set_in (c ∷ s) zero b is = refl
set_in (c ∷ s) (suc x) b is = set_in s x b is

still_set : (few many : List Bool) (x y : ℕ) (b : Bool) → slice_get many x ≡ Some b → Subset few many → (x ≡ y) ⊎ (slice_get few y ≡ Some true)
    → slice_get (slice_set many x true) y ≡ Some true
still_set few many x y b there h (inl e) = subst (λ z. slice_get (slice_set many x true) z ≡ Some true) e (set_in many x b there)
still_set few many x y b there h (inr k) = more_set many x y (h.still y k)

-- the same local more in both, where the second has it
pub set_still : {few many : List Bool} (x : ℕ) (b : Bool) → slice_get many x ≡ Some b → Subset few many → Subset (slice_set few x true) (slice_set many x true)
set_still {few = few} {many = many} x b there h = record { still = λ y is. still_set few many x y b there h (set_there few x y is) }

-- ## Locals

-- a local of this type, and whether it is set
pub record Local (m : Module) (K : Arrows) (ls : List (Option Val)) (s : List Bool) (x : ℕ) (t : ValType) : Type 0 where
  pub item : Option Val
  pub set : Bool
  pub is : slice_get ls x ≡ Some item
  pub is_set : slice_get s x ≡ Some set
  pub holds : LocalTyped m K item t set

module _ (m : Module) {K : Arrows} where
  -- there is a local of each type
  pub local_at : (x : ℕ) {ls : List (Option Val)} {ts : List ValType} {s : List Bool} (t : ValType) → LocalsTyped m K ls ts s → slice_get ts x ≡ Some t
      → Local m K ls s x t
  local_at x t no_locals is = absurd (cc)
  local_at zero t (locals {l = l} {b = b} h k) is = record { item = l; set = b; is = refl; is_set = refl; holds = subst (λ u. LocalTyped m K l u b) (cc) h }
  local_at (suc x) t (locals h k) is = let r = local_at x t k is in record { item = r.item; set = r.set; is = r.is; is_set = r.is_set; holds = r.holds }

  -- a local may get a value of its type
  pub local_put : (x : ℕ) {ls : List (Option Val)} {ts : List ValType} {s : List Bool} (t : ValType) (v : Val) → LocalsTyped m K ls ts s → slice_get ts x ≡ Some t
      → ValueTyped m K v t → LocalsTyped m K (slice_set ls x (Some v)) ts (slice_set s x true)
  local_put x t v no_locals is w = no_locals
  local_put zero t v (locals h k) is w = locals (held (subst (λ u. ValueTyped m K v u) (cc) w)) k
  local_put (suc x) t v (locals h k) is w = locals h (local_put x t v k is w)

  -- the locals of the innermost frame
  pub local_within : {us : Row Operand} {e : Context} {c : Scope} {now : List Bool} {ts : Row Operand} (x : ℕ) (t : ValType) → Within m K us e c now ts
      → slice_get c.locals x ≡ Some t → Local m K (locals_of e) now x t
  local_within x t (outside r) is = absurd (cc)
  local_within x t (label beneath r n h again k still w) is = local_within x t w is
  local_within x t (frame beneath f r n ls h k still w) is = local_at x t ls is
  local_within x t (handle results beneath r hs tops h k still w) is = absurd (cc)

  -- one of them may get a value of its type
  pub put_within : {us : Row Operand} {e : Context} {c : Scope} {now : List Bool} {ts : Row Operand} (x : ℕ) (t : ValType) (v : Val) → Within m K us e c now ts
      → slice_get c.locals x ≡ Some t → ValueTyped m K v t → Within m K us (with_local x v e) c (slice_set now x true) ts
  put_within x t v (outside r) is h = absurd (cc)
  put_within x t v (label {now = now} beneath r n h again k still w) is u =
      label beneath r n h again k (subset_trans still (subset_set now x)) (put_within x t v w is u)
  put_within x t v (frame beneath f r n ls h k still w) is u = frame beneath f r n (local_put x t v ls is u) h k still w
  put_within x t v (handle results beneath r hs tops h k still w) is u = absurd (cc)

module _ (m : Module) (keeps : KeepsKinds m.types) where
  -- ## Filling

  -- what a hole takes it takes of types that match these
  pub within_sub : {K : Arrows} {us : Row Operand} {e : Context} {c : Scope} {now : List Bool} {ts ts' : Row Operand} → RowMatches m.types ts' ts → Within m K us e c now ts
      → Within m K us e c now ts'
  within_sub {us = us} {ts = ts} {ts' = ts'} q (outside r) = outside (row_trans m.types keeps ts' ts us q r)
  within_sub {ts = ts} {ts' = ts'} q (label {given = given} beneath r n h again k still w) = label beneath (row_trans m.types keeps ts' ts given q r) n h again k still w
  within_sub {ts = ts} {ts' = ts'} q (frame {results = results} beneath f r n ls h k still w) = frame beneath f (row_trans m.types keeps ts' ts (known results) q r) n ls h k still w
  within_sub {ts = ts} {ts' = ts'} q (handle results beneath r hs tops h k still w) = handle results beneath (row_trans m.types keeps ts' ts (known (row_of results)) q r) hs tops h k still w

  pub code_left : {c : Scope} {s : List Bool} {k : Code} {ts ts' us : Row Operand} → RowMatches m.types ts' ts → CodeTyped m c s k ts us → CodeTyped m c s k ts' us
  code_left {c = c} {s = s} {k = k} {ts = ts} {ts' = ts'} {us = us} q h = record { derives = derives_left (in_scope m c) keeps s k ts' ts us q h.derives; none = h.none; fits = h.fits; low = λ inside. low_sub m q (h.low inside) }

  pub rest_left : {c : Scope} {s : List Bool} {ahead : List Administrative} {k : Code} {ts ts' us : Row Operand} → RowMatches m.types ts' ts
      → RestTyped m c s ahead k ts us → RestTyped m c s ahead k ts' us
  rest_left q (code_alone h) = code_alone (code_left q h)
  rest_left {c = c} {ts = ts} {ts' = ts'} q (branch_first {taken = taken} beneath is r held_there) =
      branch_first beneath is (row_trans m.types keeps ts' ts (beneath ⧺ known taken) q r) (λ inside. subst (IsHeld m c) (sym (row_size m.types ts' ts q)) (held_there inside))
  rest_left {ts = ts} {ts' = ts'} q (invoke_first {t = t} beneath is r h) = invoke_first beneath is (row_trans m.types keeps ts' ts (beneath ⧺ known (row_of t.params)) q r) h
