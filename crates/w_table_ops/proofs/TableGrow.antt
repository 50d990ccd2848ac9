-- table.grow: what it needs, where it goes, and that what holds of all values still holds.
use Rattle.std.proofs.Common.{◌≡◌, ℕ, ◌<◌, List, [], ◌∷◌, length, drop, map, Option, Some, None, slice_get, refl, sym, ap, ◌∙◌, true, add-one}
use Rattle.std.specs.Prelude.{◌-◌, ◌^◌, ℤ, pos, negsuc}
use Rattle.std.proofs.lemmas.Int.{to_z-of_z}
use mir.Syntax.{w32}
use mir.Val.{SFits, of_z, to_z}
use Rattle.std.specs.Option.{option_map}
use Rattle.std.proofs.lemmas.List.{length-map}
use Rattle.lists.specs.Rows.{◌▹◌}
use Rattle.w_types.specs.declared.value.Value.{Value}
use Rattle.w_types.specs.declared.value.Value.TheVariants as value
use Rattle.w_syntax.specs.Code.{Code}
use Rattle.w_syntax.specs.declared.instructions.Instr.TheVariants as flat
use Rattle.w_syntax.specs.declared.instructions.Op.TheVariants as op
use Rattle.w_syntax.specs.declared.instructions.TableOp.TheVariants as table
use Rattle.w_syntax.specs.declared.numeric.IntType.TheVariants as int
use Rattle.w_syntax.specs.declared.module.Module.{Module}
use Rattle.w_num.specs.Signed.{inverse}
use Rattle.w_segment.specs.Shape.{Shape}
use Rattle.w_tables.specs.Elements.{grown}
use Rattle.w_tables.specs.Outcomes.{growth}
use Rattle.w_tables.specs.Operations as on
use Rattle.w_tables.specs.Operations.{table_grow}
use Rattle.w_tables.specs.Store as instances
use Rattle.w_reduce.specs.Values.{Val, I32, val}
use Rattle.w_reduce.specs.Store.{Store, Table}
use Rattle.w_reduce.specs.Terms.{rest_of, Context}
use Rattle.w_reduce.specs.Tables.{with_elements}
use Rattle.w_reduce.specs.Reduced.{Reduced, steps_to}
use Rattle.w_stands.specs.Values.{stack, vals, table_of, store_of}
use Rattle.w_stands.specs.Numbers.{bits_in}
use Rattle.w_stands.specs.declared.did.Did.TheVariants as did
use Rattle.w_stands.specs.Keeps.{KeepsAll}
use Rattle.w_stands.specs.Steps.{MovesAt, Follows}
use Rattle.w_stands.specs.Taking.{Kind, Number, Any, AreOf}
use Rattle.w_stands.specs.GoingOn.{replaced}
use Rattle.w_stands.proofs.NextInstructions.{Needs, take_needs, take_follows, replaced_behind}
use Rattle.w_stands.proofs.LookedUp.{mapped_found, goes_on}
use Rattle.w_table_ops.proofs.MappedElements.{mapped_grown, store_written, table_there}
use Rattle.w_table_ops.proofs.Rules.{growing, grow_rule}
use Rattle.w_table_ops.proofs.FactsOfElements.{table_holds, tops_hold, keeps_behind, grown_made, growth_holds}

-- what the rule takes
abbrev pub to_grow : List Kind
to_grow = Number int.I32 ∷ Any ∷ []

-- the answer, and the store that is left, as a rule sees them
abbrev seen : ℤ × instances.Store → ℤ × Store
seen g = (g.0, store_of g.1)

-- a growth is the same in the store of the definitions
grew : (u : instances.Store) (x before : ℕ) (made : Option (List Value)) →
    growth before (store_of u) (with_elements (store_of u) x (table_of (on.table_at u.tables x))) (option_map vals made) ≡ seen (growth before u (on.with_elements u x) made)
grew u x before None = refl
grew u x before (Some new) = ap (λ (y : Store). let g : ℤ × Store = (pos before, y) in g) (store_written u x new)

-- a signed answer as the bits of an i32
bits_of : (z : ℤ) → of_z w32 z ≡ inverse 32 z
bits_of (pos n) = refl
bits_of (negsuc n) = ap (λ (k : ℕ). 2 ^ 32 - k) (sym (add-one n))

-- also where it was cast on the way
pub answer_bits : (bits : ℕ) (z : ℤ) → SFits w32 z → bits ≡ of_z w32 (to_z w32 (of_z w32 z)) → bits ≡ inverse 32 z
answer_bits bits z f h = h ∙ ap (of_z w32) (to_z-of_z w32 z f) ∙ bits_of z

-- the memories stay
grown_memories : (u u' : instances.Store) (x before : ℕ) (made : Option (List Value)) (answer : ℤ) → growth before u (on.with_elements u x) made ≡ (answer, u') → u'.memories ≡ u.memories
grown_memories u u' x before None answer h = sym (ap (λ (g : ℤ × instances.Store). g.1.memories) h)
grown_memories u u' x before (Some new) answer h = sym (ap (λ (g : ℤ × instances.Store). g.1.memories) h)

module _ (m : Module) (u : instances.Store) (s : Shape) (x : ℕ) (k : MovesAt (flat.Plain (op.Table (table.Grow x))) m u s) where
  -- what it needs
  pub grow_needs : Needs m u s to_grow (growing x)
  grow_needs = take_needs m u s (op.Table (table.Grow x)) to_grow (growing x) (grow_rule x) k

  module _ (v n : Value) (is : s.operands ≡ n ∷ v ∷ drop 2 s.operands) where
    -- the operands are of these kinds
    pub grow_of : AreOf to_grow (n ∷ v ∷ [])
    grow_of = grow_needs.of (n ∷ v ∷ []) (drop 2 s.operands) is refl

    -- what is done with a growth, and with a table
    abbrev with_growth : Context → Code → ℤ × Store → Reduced
    with_growth e c g = steps_to g.1 e (stack (drop 2 s.operands) ▹ I32 (inverse 32 g.0)) (rest_of c)

    abbrev with_table : Context → Code → Table → Reduced
    with_table e c t = with_growth e c (growth (length t.elements) (store_of u) (with_elements (store_of u) x t) (grown t.elements t.max (val v) (bits_in n)))

    -- there is a table
    pub grow_table : x < length u.tables
    grow_table = mapped_found table_of u.tables x (with_table grow_needs.e grow_needs.c) (λ q. grow_needs.applies (n ∷ v ∷ []) (drop 2 s.operands) is grow_of q)

    module _ (count : ℕ) (answer : ℤ) (u' : instances.Store) (w : count ≡ bits_in n) (left : table_grow u x v count ≡ (answer, u')) where
      abbrev els : List Value
      els = on.elements_at u.tables x

      abbrev max : Option ℕ
      max = (on.table_at u.tables x).max

      -- what the call answered and left
      left_is : growth (length els) u (on.with_elements u x) (grown els max v count) ≡ (answer, u')
      unfolding table_grow
      left_is = left

      -- is what the rule comes to
      grown_is : (e : Context) (c : Code) → with_table e c (table_of (on.table_at u.tables x)) ≡ with_growth e c (answer, store_of u')
      grown_is e c =
          ap (λ (y : ℕ). with_growth e c (growth (length (vals els)) (store_of u) (with_elements (store_of u) x (table_of (on.table_at u.tables x))) (grown (vals els) max (val v) y))) (sym w)
          ∙ ap (λ (y : ℕ). with_growth e c (growth y (store_of u) (with_elements (store_of u) x (table_of (on.table_at u.tables x))) (grown (vals els) max (val v) count))) (length-map els val)
          ∙ ap (λ (o : Option (List Val)). with_growth e c (growth (length els) (store_of u) (with_elements (store_of u) x (table_of (on.table_at u.tables x))) o)) (mapped_grown val els max v count)
          ∙ ap (with_growth e c) (grew u x (length els) (grown els max v count))
          ∙ ap (λ (g : ℤ × instances.Store). with_growth e c (seen g)) left_is

      -- where it goes
      pub grow_goes : (s' : Shape) (bits : ℕ) → bits ≡ inverse 32 answer → s' ≡ replaced 2 (value.I32 bits) s → Follows did.Went m [] u s u' s'
      grow_goes s' bits b after =
          take_follows m u s (op.Table (table.Grow x)) to_grow (growing x) (grow_rule x) k.stage k.here (n ∷ v ∷ []) (drop 2 s.operands) is grow_of [] u' s' (value.I32 bits ∷ [])
          (replaced_behind 2 (value.I32 bits) s s' after)
          (λ p e c source program.
          goes_on (slice_get (map table_of u.tables) x) (with_table e c) (table_of (on.table_at u.tables x)) (table_there u x grow_table)
          ∙ grown_is e c ∙ ap (λ (y : ℕ). steps_to (store_of u') e (stack (drop 2 s.operands) ▹ I32 y) (rest_of c)) (sym b))

      -- the memories stay
      pub grow_memories : u'.memories ≡ u.memories
      grow_memories = grown_memories u u' x (length els) (grown els max v count) answer left_is

      -- what holds of all values still holds
      pub grow_keeps : (s' : Shape) (bits : ℕ) → s' ≡ replaced 2 (value.I32 bits) s → KeepsAll u s u' s'
      grow_keeps s' bits after =
          keeps_behind u u' s s' 2 (value.I32 bits ∷ []) (replaced_behind 2 (value.I32 bits) s s' after)
          (λ test plain h g. (
            growth_holds (λ y. test y ≡ true) u u' x (length els) (grown els max v count) answer left_is
                (grown_made (λ y. test y ≡ true) els max v count (table_holds (λ y. test y ≡ true) u.tables x h.tables) (tops_hold (λ y. test y ≡ true) s (n ∷ v ∷ []) (drop 2 s.operands) is g).1.0) h,
            (plain.i32 bits, tt),
          ))
