-- Tables of a declared type, after the operations on them.
use Rattle.std.proofs.Common.{◌≡◌, ℕ, ◌^◌, ◌<◌, ◌≤◌, List, length, replicate, Option, Some, None, refl, sym, subst, arith}
use Rattle.std.proofs.lemmas.List.{length-replicate}
use Rattle.w_types.specs.declared.types.ValType.TheVariants.{Ref}
use Rattle.w_num.specs.Signed.{inverse}
use Rattle.w_syntax.specs.declared.module.Module.{Module}
use Rattle.w_syntax.specs.declared.module.TableType.{TableType}
use Rattle.w_tables.specs.Elements.{table_limit, replaced, filled, copied, grown, most_elements}
use Rattle.w_tables.specs.Outcomes.{growth}
use Rattle.w_reduce.specs.Values.{Val}
use Rattle.w_reduce.specs.Store.{Store, Table}
use Rattle.w_typed.specs.Values.{Arrows, ValueTyped, AllTyped}
use Rattle.w_typed.specs.Stores.{TableTyped}
use Rattle.w_typed.proofs.Elements.{all_filled, all_copied, all_replaced, all_grown, all_replicate}
use Rattle.w_typed.proofs.Lengths.{length-filled, length-copied, length-replaced, length-grown}

-- no table has more elements
pub most_elements_few : (max : Option ℕ) → most_elements max ≤ table_limit
most_elements_few (Some n) = omega arith
most_elements_few None = omega arith

-- as many elements as are declared at least
pub first_table : (m : Module) (K : Arrows) (u : TableType) (v : Val) → u.limits.min ≤ most_elements u.limits.max → ValueTyped m K v (Ref u.element)
    → TableTyped m K (record { elements = replicate u.limits.min v; max = u.limits.max }) u
first_table m K u v h k =
    let long : length (replicate u.limits.min v) ≡ u.limits.min = length-replicate u.limits.min v in
    record { max = refl; least = omega arith; most = omega arith; elements = all_replicate m K (Ref u.element) u.limits.min v k }

module _ (m : Module) (K : Arrows) (u : TableType) (old : Table) (q : TableTyped m K old u) where
  -- as many other elements
  as_many : (new : List Val) → length new ≡ length old.elements → AllTyped m K (Ref u.element) new → TableTyped m K (record old { elements = new }) u
  as_many new e h = record {
    max = q.max;
    least = subst (λ (n : ℕ). u.limits.min ≤ n) (sym e) q.least;
    most = subst (λ (n : ℕ). n ≤ most_elements u.limits.max) (sym e) q.most;
    elements = h;
  }

  pub table_replaced : (i : ℕ) (v : Val) (new : List Val) → ValueTyped m K v (Ref u.element) → replaced old.elements i v ≡ Some new
      → TableTyped m K (record old { elements = new }) u
  table_replaced i v new h is = as_many new (length-replaced i v old.elements new is) (all_replaced m K (Ref u.element) i v old.elements new q.elements h is)

  pub table_filled : (to : ℕ) (v : Val) (n : ℕ) (new : List Val) → ValueTyped m K v (Ref u.element) → filled old.elements to v n ≡ Some new
      → TableTyped m K (record old { elements = new }) u
  table_filled to v n new h is = as_many new (length-filled to v n old.elements new is) (all_filled m K (Ref u.element) to v n old.elements new q.elements h is)

  pub table_copied : (to from n : ℕ) (source new : List Val) → AllTyped m K (Ref u.element) source → copied old.elements source to from n ≡ Some new
      → TableTyped m K (record old { elements = new }) u
  table_copied to from n source new h is =
      as_many new (length-copied to from n old.elements source new is) (all_copied m K (Ref u.element) to from n old.elements source new q.elements h is)

  pub table_grown : (v : Val) (n : ℕ) (new : List Val) → ValueTyped m K v (Ref u.element) → grown old.elements old.max v n ≡ Some new
      → TableTyped m K (record old { elements = new }) u
  table_grown v n new h is =
      let long = length-grown old.max v n old.elements new is in
      let least = q.least in
      record {
        max = q.max;
        least = omega (arith, long.0);
        most = subst (λ (x : Option ℕ). length new ≤ most_elements x) q.max long.1;
        elements = all_grown m K (Ref u.element) old.max v n old.elements new q.elements h is;
      }

  -- a number of elements is in range
  pub elements_below : length old.elements < 2 ^ 32
  elements_below = let few = most_elements_few u.limits.max in let most = q.most in omega arith

-- and what a growth answers
pub growth_below : (n : ℕ) (s : Store) (after : List Val → Store) (o : Option (List Val)) → n < 2 ^ 32 → inverse 32 ((growth n s after o).0) < 2 ^ 32
growth_below n s after (Some new) h = h
growth_below n s after None h = omega arith
