-- Instructions on globals: what each needs, where it goes, and that what holds of all values still holds.
use Rattle.std.proofs.Common.{◌≡◌, ℕ, ◌<◌, [], ◌∷◌, length, drop, map, Some, slice_get, refl, ap, ◌∙◌, true}
use Rattle.std.specs.Prelude.{slice_index_or}
use Rattle.std.specs.Option.{option_map}
use Rattle.lists.specs.Rows.{◌▹◌}
use Rattle.w_types.specs.declared.value.Value.{Value}
use Rattle.w_types.specs.declared.value.Value.TheVariants as value
use Rattle.w_syntax.specs.Code.{Code}
use Rattle.w_syntax.specs.declared.instructions.Instr.TheVariants as flat
use Rattle.w_syntax.specs.declared.instructions.Op.TheVariants as op
use Rattle.w_syntax.specs.declared.instructions.VariableOp.TheVariants as variable
use Rattle.w_syntax.specs.declared.module.Module.{Module}
use Rattle.w_segment.specs.Shape.{Shape}
use Rattle.w_tables.specs.Operations as on
use Rattle.w_tables.specs.Operations.{table_grow}
use Rattle.w_tables.specs.Store as instances
use Rattle.w_reduce.specs.Values.{val}
use Rattle.w_reduce.specs.Store.{Store}
use Rattle.w_reduce.specs.Terms.{rest_of, Context}
use Rattle.w_reduce.specs.Variable.{with_global}
use Rattle.w_reduce.specs.Reduced.{Reduced, steps_to}
use Rattle.w_stands.specs.Values.{stack, store_of}
use Rattle.w_stands.specs.declared.did.Did.TheVariants as did
use Rattle.w_stands.specs.Keeps.{KeepsAll}
use Rattle.w_stands.specs.Steps.{MovesAt, Follows}
use Rattle.w_stands.specs.Taking.{Any}
use Rattle.w_stands.specs.GoingOn.{dropped, IsPushedNext}
use Rattle.w_stands.proofs.NextInstructions.{Needs, take_needs, take_follows, dropped_behind, pushed_behind}
use Rattle.w_stands.proofs.LookedUp.{mapped_found, goes_on}
use Rattle.w_table_ops.proofs.MappedElements.{store_set}
use Rattle.w_stands.proofs.Locals.{mapped_get}
use Rattle.std.proofs.lemmas.Option.{slice_get-get_or}
use Rattle.w_table_ops.proofs.Rules.{reading, global_get_rule, assigning, global_set_rule}
use Rattle.w_table_ops.proofs.FactsOfElements.{all_get, tops_hold, keeps_behind, set_holds}

module _ (m : Module) (u : instances.Store) (s : Shape) (x : ℕ) (k : MovesAt (flat.Plain (op.Variable (variable.GlobalGet x))) m u s) where
  -- what it needs
  pub global_get_needs : Needs m u s [] (reading x)
  global_get_needs = take_needs m u s (op.Variable (variable.GlobalGet x)) [] (reading x) (global_get_rule x) k

  -- there is a global
  pub global_there : x < length u.globals
  global_there =
      mapped_found val u.globals x (λ v. steps_to (store_of u) global_get_needs.e (stack s.operands ▹ v) (rest_of global_get_needs.c)) (λ q. global_get_needs.applies [] s.operands refl tt q)

  -- where it goes
  pub global_get_goes : (s' : Shape) (v : Value) → slice_get u.globals x ≡ Some v → IsPushedNext v s s' → Follows did.Went m [] u s u s'
  global_get_goes s' v h after =
      take_follows m u s (op.Variable (variable.GlobalGet x)) [] (reading x) (global_get_rule x) k.stage k.here [] s.operands refl tt [] u s' (v ∷ []) (pushed_behind v s s' after)
      (λ p e c source program.
      goes_on (slice_get (map val u.globals) x) (λ w. steps_to (store_of u) e (stack s.operands ▹ w) (rest_of c)) (val v) (mapped_get val u.globals x ∙ ap (option_map val) h))

  -- what holds of all values still holds
  pub global_get_keeps : (s' : Shape) (v : Value) → slice_get u.globals x ≡ Some v → IsPushedNext v s s' → KeepsAll u s u s'
  global_get_keeps s' v h after =
      keeps_behind u u s s' 0 (v ∷ []) (pushed_behind v s s' after) (λ test plain g w. (g, (all_get (λ y. test y ≡ true) u.globals x v g.globals h, tt)))

module _ (m : Module) (u : instances.Store) (s : Shape) (x : ℕ) (k : MovesAt (flat.Plain (op.Variable (variable.GlobalSet x))) m u s) where
  -- what it needs
  pub global_set_needs : Needs m u s (Any ∷ []) (assigning x)
  global_set_needs = take_needs m u s (op.Variable (variable.GlobalSet x)) (Any ∷ []) (assigning x) (global_set_rule x) k

  module _ (v : Value) (is : s.operands ≡ v ∷ drop 1 s.operands) where
    -- what is done with the global
    abbrev with_set : Context → Code → Reduced
    with_set e c = steps_to (with_global (store_of u) x (val v)) e (stack (drop 1 s.operands)) (rest_of c)

    -- there is a global
    pub global_set_there : x < length u.globals
    global_set_there =
        mapped_found val u.globals x (λ _. with_set global_set_needs.e global_set_needs.c) (λ q. global_set_needs.applies (v ∷ []) (drop 1 s.operands) is tt q)

    -- where it goes
    pub global_set_goes : (s' : Shape) → s' ≡ dropped 1 s → Follows did.Went m [] u s (on.global_set u x v) s'
    global_set_goes s' after =
        take_follows m u s (op.Variable (variable.GlobalSet x)) (Any ∷ []) (assigning x) (global_set_rule x) k.stage k.here (v ∷ []) (drop 1 s.operands) is tt [] (on.global_set u x v) s' []
        (dropped_behind 1 s s' after)
        (λ p e c source program.
        goes_on (slice_get (map val u.globals) x) (λ _. with_set e c) (val (slice_index_or u.globals x value.Null))
        (mapped_get val u.globals x ∙ ap (option_map val) (slice_get-get_or u.globals x value.Null global_set_there))
        ∙ ap (λ (z : Store). steps_to z e (stack (drop 1 s.operands)) (rest_of c)) (store_set u x v))

    -- what holds of all values still holds
    pub global_set_keeps : (s' : Shape) → s' ≡ dropped 1 s → KeepsAll u s (on.global_set u x v) s'
    global_set_keeps s' after =
        keeps_behind u (on.global_set u x v) s s' 1 [] (dropped_behind 1 s s' after)
        (λ test plain h g. (set_holds (λ y. test y ≡ true) u x v (tops_hold (λ y. test y ≡ true) s (v ∷ []) (drop 1 s.operands) is g).0 h, tt))
