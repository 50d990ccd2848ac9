-- elem.drop: what it needs, where it goes, and that what holds of all values still holds.
use Rattle.std.proofs.Common.{◌≡◌, ℕ, ◌<◌, [], length, map, slice_get, refl, ap, ◌∙◌, true}
use Rattle.w_syntax.specs.declared.instructions.Instr.TheVariants as flat
use Rattle.w_syntax.specs.declared.instructions.Op.TheVariants as op
use Rattle.w_syntax.specs.declared.instructions.TableOp.TheVariants as table
use Rattle.w_syntax.specs.declared.module.Module.{Module}
use Rattle.w_segment.specs.Shape.{Shape}
use Rattle.w_tables.specs.Operations as on
use Rattle.w_tables.specs.Operations.{table_grow}
use Rattle.w_tables.specs.Store as instances
use Rattle.w_reduce.specs.Store.{Store}
use Rattle.w_reduce.specs.Terms.{rest_of}
use Rattle.w_reduce.specs.Tables.{without_elements}
use Rattle.w_reduce.specs.Reduced.{steps_to}
use Rattle.w_stands.specs.Values.{stack, vals, store_of}
use Rattle.w_stands.specs.declared.did.Did.TheVariants as did
use Rattle.w_stands.specs.Keeps.{KeepsAll}
use Rattle.w_stands.specs.Steps.{MovesAt, Follows}
use Rattle.w_stands.specs.GoingOn.{IsBehind}
use Rattle.w_stands.proofs.NextInstructions.{Needs, take_needs, take_follows}
use Rattle.w_stands.proofs.LookedUp.{mapped_found, goes_on}
use Rattle.w_table_ops.proofs.MappedElements.{store_dropped, segment_there}
use Rattle.w_table_ops.proofs.Rules.{dropping, drop_rule}
use Rattle.w_table_ops.proofs.FactsOfElements.{keeps_behind, dropped_holds}

module _ (m : Module) (u : instances.Store) (s : Shape) (y : ℕ) (k : MovesAt (flat.Plain (op.Table (table.ElemDrop y))) m u s) where
  -- what it needs
  pub drop_needs : Needs m u s [] (dropping y)
  drop_needs = take_needs m u s (op.Table (table.ElemDrop y)) [] (dropping y) (drop_rule y) k

  -- there is a segment
  pub drop_segment : y < length u.elems
  drop_segment =
      mapped_found vals u.elems y (λ _. steps_to (without_elements (store_of u) y) drop_needs.e (stack s.operands) (rest_of drop_needs.c)) (λ q. drop_needs.applies [] s.operands refl tt q)

  -- where it goes
  pub drop_goes : (s' : Shape) → IsBehind 0 [] s s' → Follows did.Went m [] u s (on.elem_drop u y) s'
  drop_goes s' b =
      take_follows m u s (op.Table (table.ElemDrop y)) [] (dropping y) (drop_rule y) k.stage k.here [] s.operands refl tt [] (on.elem_drop u y) s' [] b
      (λ p e c source program.
      goes_on (slice_get (map vals u.elems) y) (λ _. steps_to (without_elements (store_of u) y) e (stack s.operands) (rest_of c)) (vals (on.elem_at u.elems y)) (segment_there u y drop_segment)
      ∙ ap (λ (z : Store). steps_to z e (stack s.operands) (rest_of c)) (store_dropped u y))

  -- what holds of all values still holds
  pub drop_keeps : (s' : Shape) → IsBehind 0 [] s s' → KeepsAll u s (on.elem_drop u y) s'
  drop_keeps s' b = keeps_behind u (on.elem_drop u y) s s' 0 [] b (λ test plain h g. (dropped_holds (λ v. test v ≡ true) u y h, tt))
