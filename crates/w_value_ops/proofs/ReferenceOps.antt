-- Reference instructions: what each needs, and where it goes.
use Rattle.std.proofs.Common.{◌≡◌, ℕ, ◌+◌, [], ◌∷◌, drop, slice_get, refl, sym, ap, ◌∙◌, subst, true, false, Bool, if◌then◌else◌}
use Rattle.std.specs.Prelude.{◌≢◌}
use Rattle.lists.specs.Rows.{◌▹◌}
use Rattle.w_types.specs.declared.value.Value.{Value}
use Rattle.w_types.specs.declared.value.Value.TheVariants as value
use Rattle.w_types.specs.declared.types.HeapType.{HeapType}
use Rattle.w_syntax.specs.Code.{Code}
use Rattle.w_syntax.specs.declared.instructions.Instr.TheVariants as flat
use Rattle.w_syntax.specs.declared.instructions.Op.TheVariants as op
use Rattle.w_syntax.specs.declared.instructions.ReferenceOp.TheVariants as reference
use Rattle.w_syntax.specs.declared.module.Module.{Module}
use Rattle.w_segment.specs.Shape.{Shape}
use Rattle.w_segment.specs.Changes.{moved}
use Rattle.w_tables.specs.Store as instances
use Rattle.w_reduce.specs.Values.{val, I32, Func}
use Rattle.w_reduce.specs.declared.trap.Trap.TheVariants as trap
use Rattle.w_reduce.specs.Terms.{rest_of, Context}
use Rattle.w_reduce.specs.Reduced.{Reduced, Trapped, Stuck, steps_to, or_stuck}
use Rattle.w_num.specs.Comparisons.{truth}
use Rattle.w_reduce.specs.Reference.{by_null}
use Rattle.w_stands.specs.Values.{stack, store_of}
use Rattle.w_stands.specs.Taking.{Any, Is, Going, IsTaking}
use Rattle.w_stands.specs.GoingOn.{replaced, IsPushedNext, IsBehind}
use Rattle.w_stands.specs.declared.did.Did.TheVariants as did
use Rattle.w_stands.specs.Steps.{MovesAt, MovesAlone, Follows, FollowsAlone}
use Rattle.w_stands.proofs.LookedUp.{Found, found, goes_on}
use Rattle.w_stands.proofs.NextInstructions.{Needs, take_needs, take_follows, take_traps, replaced_behind, pushed_behind}
use Rattle.w_stands.specs.References.{is_null, IsReference}
use Rattle.w_value_ops.specs.Rules.{IsGiving}

-- ## Null or not

-- a rule that goes on by it takes a reference
is_reference : (v : Value) (a b : Reduced) → by_null (val v) a b ≢ Stuck → IsReference v
is_reference (value.I32 n) a b h = absurd (h refl)
is_reference (value.I64 n) a b h = absurd (h refl)
is_reference value.Null a b h = tt
is_reference (value.Func f) a b h = tt
is_reference (value.Cont r) a b h = tt

-- and which of two it leads to
by_reference : (v : Value) (a b : Reduced) → IsReference v → by_null (val v) a b ≡ (if is_null v then a else b)
by_reference (value.I32 n) a b h = absurd h
by_reference (value.I64 n) a b h = absurd h
by_reference value.Null a b h = refl
by_reference (value.Func f) a b h = refl
by_reference (value.Cont r) a b h = refl

-- ## ref.null

pub null_rule : (h : HeapType) → IsGiving (op.Reference (reference.Null h)) value.Null
null_rule h = λ p u e vs c. refl

-- ## ref.is_null

abbrev pub testing : Going
testing p s e c (Is r ∷ []) vs = by_null r (steps_to s e (vs ▹ I32 1) (rest_of c)) (steps_to s e (vs ▹ I32 0) (rest_of c))
testing p s e c _ vs = Stuck

-- it is the rule
test_rule : IsTaking (op.Reference reference.IsNull) (Any ∷ []) testing
test_rule = λ p s e vs c. refl

module _ (m : Module) (s : Shape) (k : MovesAlone (flat.Plain (op.Reference reference.IsNull)) m s) where
  -- what it needs
  pub test_needs : Needs m k.u s (Any ∷ []) testing
  test_needs = take_needs m k.u s (op.Reference reference.IsNull) (Any ∷ []) testing test_rule k.moves

  module _ (v : Value) (is : s.operands ≡ v ∷ drop 1 s.operands) where
    test_reference : IsReference v
    test_reference =
        let on = λ (n : ℕ). steps_to (store_of k.u) test_needs.e (stack (drop 1 s.operands) ▹ I32 n) (rest_of test_needs.c) in
        is_reference v (on 1) (on 0) (λ q. test_needs.applies (v ∷ []) (drop 1 s.operands) is tt q)

    -- what it goes on with
    abbrev with_number : instances.Store → Context → Code → ℕ → Reduced
    with_number u e c n = steps_to (store_of u) e (stack (drop 1 s.operands) ▹ I32 n) (rest_of c)

    tested : (n : Bool) (u : instances.Store) (e : Context) (c : Code) → (if n then with_number u e c 1 else with_number u e c 0) ≡ with_number u e c (truth n)
    tested true u e c = refl
    tested false u e c = refl

    -- where it goes
    pub test_goes : (n : ℕ) (s' : Shape) → n ≡ truth (is_null v) → s' ≡ replaced 1 (value.I32 n) s → FollowsAlone did.Went m s s'
    test_goes n s' same after = λ u.
        take_follows m u s (op.Reference reference.IsNull) (Any ∷ []) testing test_rule k.moves.stage k.moves.here (v ∷ []) (drop 1 s.operands) is tt [] u s'
        (value.I32 n ∷ []) (replaced_behind 1 (value.I32 n) s s' after)
        (λ p e c source program.
        by_reference v (with_number u e c 1) (with_number u e c 0) test_reference ∙ tested (is_null v) u e c ∙ ap (with_number u e c) (sym same))

-- ## ref.func

abbrev pub naming : ℕ → Going
naming x p s e c [] vs = or_stuck (slice_get s.functions x) (λ f. steps_to s e (vs ▹ Func x) (rest_of c))
naming x p s e c _ vs = Stuck

-- it is the rule
func_rule : (x : ℕ) → IsTaking (op.Reference (reference.Func x)) [] (naming x)
func_rule x = λ p s e vs c. refl

module _ (m : Module) (u : instances.Store) (s : Shape) (x : ℕ) (k : MovesAt (flat.Plain (op.Reference (reference.Func x))) m u s) where
  -- what it needs
  pub func_needs : Needs m u s [] (naming x)
  func_needs = take_needs m u s (op.Reference (reference.Func x)) [] (naming x) (func_rule x) k

  -- there is such a function
  func_there : Found (slice_get u.functions x) (λ f. steps_to (store_of u) func_needs.e (stack s.operands ▹ Func x) (rest_of func_needs.c))
  func_there =
      found (slice_get u.functions x) (λ f. steps_to (store_of u) func_needs.e (stack s.operands ▹ Func x) (rest_of func_needs.c)) (λ q. func_needs.applies [] s.operands refl tt q)

  -- where it goes
  pub func_goes : (s' : Shape) → IsPushedNext (value.Func x) s s' → Follows did.Went m [] u s u s'
  func_goes s' after =
      take_follows m u s (op.Reference (reference.Func x)) [] (naming x) (func_rule x) k.stage k.here [] s.operands refl tt [] u s' (value.Func x ∷ [])
      (pushed_behind (value.Func x) s s' after)
      (λ p e c source program. goes_on (slice_get u.functions x) (λ f. steps_to (store_of u) e (stack s.operands ▹ Func x) (rest_of c)) func_there.item func_there.is)

-- ## ref.as_non_null

abbrev pub requiring : Going
requiring p s e c (Is r ∷ []) vs = by_null r (Trapped trap.NullReference) (steps_to s e (vs ▹ r) (rest_of c))
requiring p s e c _ vs = Stuck

-- it is the rule
require_rule : IsTaking (op.Reference reference.AsNonNull) (Any ∷ []) requiring
require_rule = λ p s e vs c. refl

module _ (m : Module) (s : Shape) (k : MovesAlone (flat.Plain (op.Reference reference.AsNonNull)) m s) where
  -- what it needs
  pub require_needs : Needs m k.u s (Any ∷ []) requiring
  require_needs = take_needs m k.u s (op.Reference reference.AsNonNull) (Any ∷ []) requiring require_rule k.moves

  module _ (v : Value) (is : s.operands ≡ v ∷ drop 1 s.operands) where
    require_reference : IsReference v
    require_reference =
        is_reference v (Trapped trap.NullReference) (steps_to (store_of k.u) require_needs.e (stack (drop 1 s.operands) ▹ val v) (rest_of require_needs.c))
        (λ q. require_needs.applies (v ∷ []) (drop 1 s.operands) is tt q)

    -- what it goes on with
    abbrev onward : instances.Store → Context → Code → Reduced
    onward u e c = steps_to (store_of u) e (stack (drop 1 s.operands) ▹ val v) (rest_of c)

    required : (n : Bool) (u : instances.Store) (e : Context) (c : Code) → n ≡ is_null v →
        by_null (val v) (Trapped trap.NullReference) (onward u e c) ≡ (if n then Trapped trap.NullReference else onward u e c)
    required n u e c h =
        by_reference v (Trapped trap.NullReference) (onward u e c) require_reference ∙ ap (λ (x : Bool). if x then Trapped trap.NullReference else onward u e c) (sym h)

    -- it traps at null
    pub require_traps : true ≡ is_null v → FollowsAlone (did.Trapped trap.NullReference) m s s
    require_traps h = λ u.
        take_traps m u s (op.Reference reference.AsNonNull) (Any ∷ []) requiring require_rule k.moves.stage k.moves.here (v ∷ []) (drop 1 s.operands) is tt trap.NullReference s refl
        (λ p e c source program. required true u e c h)

    -- and else goes on with it
    pub require_goes : (s' : Shape) → false ≡ is_null v → s' ≡ moved (s.place + 1) s → FollowsAlone did.Went m s s'
    require_goes s' h after = λ u.
        take_follows m u s (op.Reference reference.AsNonNull) (Any ∷ []) requiring require_rule k.moves.stage k.moves.here (v ∷ []) (drop 1 s.operands) is tt [] u s' (v ∷ [])
        (subst (IsBehind 1 (v ∷ []) s) (sym after) (record { levels = refl; operands = is; func = refl; place = refl; stage = refl; capacity = refl }))
        (λ p e c source program. required false u e c h)
