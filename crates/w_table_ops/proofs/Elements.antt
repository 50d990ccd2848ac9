-- Instructions that read a table, table.get and table.size: what each needs, where it goes, and that what holds of all values still holds.
use Rattle.std.proofs.Common.{◌≡◌, ℕ, ◌<◌, List, [], ◌∷◌, length, drop, map, Option, Some, None, slice_get, refl, sym, ap, ◌∙◌, true}
use Rattle.std.specs.Option.{option_map}
use Rattle.std.proofs.lemmas.List.{length-map}
use Rattle.lists.specs.Rows.{◌▹◌}
use Rattle.w_types.specs.declared.value.Value.{Value}
use Rattle.w_types.specs.declared.value.Value.TheVariants as value
use Rattle.w_syntax.specs.Code.{Code}
use Rattle.w_syntax.specs.declared.instructions.Instr.TheVariants as flat
use Rattle.w_syntax.specs.declared.instructions.Op.TheVariants as op
use Rattle.w_syntax.specs.declared.instructions.TableOp.TheVariants as table
use Rattle.w_syntax.specs.declared.numeric.IntType.TheVariants as int
use Rattle.w_syntax.specs.declared.module.Module.{Module}
use Rattle.w_segment.specs.Shape.{Shape}
use Rattle.w_tables.specs.Elements.{get}
use Rattle.w_tables.specs.Operations as on
use Rattle.w_tables.specs.Operations.{table_grow}
use Rattle.w_tables.specs.Store as instances
use Rattle.w_reduce.specs.Values.{Val, I32, val}
use Rattle.w_reduce.specs.Terms.{rest_of, Context}
use Rattle.w_reduce.specs.Reduced.{Reduced, steps_to, or_trap}
use Rattle.w_reduce.specs.declared.trap.Trap.TheVariants as trap
use Rattle.w_stands.specs.Values.{stack, vals, table_of, store_of}
use Rattle.w_stands.specs.Numbers.{bits_in}
use Rattle.w_stands.specs.declared.did.Did.TheVariants as did
use Rattle.w_stands.specs.Keeps.{KeepsAll}
use Rattle.w_stands.specs.Steps.{MovesAt, Follows}
use Rattle.w_stands.specs.Taking.{Kind, Number, Bits, AreOf}
use Rattle.w_stands.specs.GoingOn.{replaced, IsPushedNext}
use Rattle.w_stands.proofs.NextInstructions.{Needs, take_needs, take_follows, take_traps, replaced_behind, pushed_behind}
use Rattle.w_stands.proofs.LookedUp.{mapped_found, goes_on}
use Rattle.w_table_ops.proofs.MappedElements.{table_there}
use Rattle.w_stands.proofs.Locals.{mapped_get}
use Rattle.w_table_ops.proofs.Rules.{getting, get_rule, sizing, size_rule}
use Rattle.w_table_ops.proofs.FactsOfElements.{all_get, table_holds, keeps_behind}

-- ## table.get

abbrev pub to_get : List Kind
to_get = Number int.I32 ∷ []

module _ (m : Module) (u : instances.Store) (s : Shape) (x : ℕ) (k : MovesAt (flat.Plain (op.Table (table.Get x))) m u s) where
  -- what it needs
  pub get_needs : Needs m u s to_get (getting x)
  get_needs = take_needs m u s (op.Table (table.Get x)) to_get (getting x) (get_rule x) k

  module _ (i : Value) (is : s.operands ≡ i ∷ drop 1 s.operands) where
    -- the operands are of these kinds
    pub get_of : AreOf to_get (i ∷ [])
    get_of = get_needs.of (i ∷ []) (drop 1 s.operands) is refl

    -- what is done with the element
    abbrev with_element : Context → Code → Option Val → Reduced
    with_element e c o = or_trap trap.TableOutOfBounds o (λ v. steps_to (store_of u) e (stack (drop 1 s.operands) ▹ v) (rest_of c))

    -- there is a table
    pub get_table : x < length u.tables
    get_table =
        mapped_found table_of u.tables x (λ t. with_element get_needs.e get_needs.c (get t.elements (bits_in i)))
        (λ q. get_needs.applies (i ∷ []) (drop 1 s.operands) is get_of q)

    -- what the rule comes to
    got : (e : Context) (c : Code) (at : ℕ) (o : Option Value) → at ≡ bits_in i → o ≡ on.table_get u x at →
        getting x get_needs.p (store_of u) e c (Bits (bits_in i) ∷ []) (stack (drop 1 s.operands)) ≡ with_element e c (option_map val o)
    got e c at o a h =
        goes_on (slice_get (map table_of u.tables) x) (λ t. with_element e c (get t.elements (bits_in i))) (table_of (on.table_at u.tables x)) (table_there u x get_table)
        ∙ ap (λ (n : ℕ). with_element e c (get (vals (on.elements_at u.tables x)) n)) (sym a)
        ∙ ap (with_element e c) (mapped_get val (on.elements_at u.tables x) at ∙ ap (option_map val) (sym h))

    module _ (at : ℕ) (o : Option Value) (a : at ≡ bits_in i) (h : o ≡ on.table_get u x at) where
      -- where it goes
      pub get_goes : (s' : Shape) (v : Value) → o ≡ Some v → s' ≡ replaced 1 v s → Follows did.Went m [] u s u s'
      get_goes s' v j after =
          take_follows m u s (op.Table (table.Get x)) to_get (getting x) (get_rule x) k.stage k.here (i ∷ []) (drop 1 s.operands) is get_of [] u s' (v ∷ []) (replaced_behind 1 v s s' after)
          (λ p e c source program. got e c at o a h ∙ ap (λ (y : Option Value). with_element e c (option_map val y)) j)

      -- where it traps
      pub get_traps : o ≡ None → Follows (did.Trapped trap.TableOutOfBounds) m [] u s u s
      get_traps j =
          take_traps m u s (op.Table (table.Get x)) to_get (getting x) (get_rule x) k.stage k.here (i ∷ []) (drop 1 s.operands) is get_of trap.TableOutOfBounds s refl
          (λ p e c source program. got e c at o a h ∙ ap (λ (y : Option Value). with_element e c (option_map val y)) j)

      -- an element passes what all pass
      pub get_keeps : (s' : Shape) (v : Value) → o ≡ Some v → s' ≡ replaced 1 v s → KeepsAll u s u s'
      get_keeps s' v j after =
          keeps_behind u u s s' 1 (v ∷ []) (replaced_behind 1 v s s' after)
          (λ test plain h' g. (h', (all_get (λ w. test w ≡ true) (on.elements_at u.tables x) at v (table_holds (λ w. test w ≡ true) u.tables x h'.tables) (sym h ∙ j), tt)))

-- ## table.size

module _ (m : Module) (u : instances.Store) (s : Shape) (x : ℕ) (k : MovesAt (flat.Plain (op.Table (table.Size x))) m u s) where
  -- what it needs
  pub size_needs : Needs m u s [] (sizing x)
  size_needs = take_needs m u s (op.Table (table.Size x)) [] (sizing x) (size_rule x) k

  -- there is a table
  pub size_table : x < length u.tables
  size_table =
      mapped_found table_of u.tables x (λ t. steps_to (store_of u) size_needs.e (stack s.operands ▹ I32 (length t.elements)) (rest_of size_needs.c))
      (λ q. size_needs.applies [] s.operands refl tt q)

  -- where it goes
  pub size_goes : (s' : Shape) (n : ℕ) → n ≡ on.table_size u x → IsPushedNext (value.I32 n) s s' → Follows did.Went m [] u s u s'
  size_goes s' n h after =
      take_follows m u s (op.Table (table.Size x)) [] (sizing x) (size_rule x) k.stage k.here [] s.operands refl tt [] u s' (value.I32 n ∷ []) (pushed_behind (value.I32 n) s s' after)
      (λ p e c source program.
      goes_on (slice_get (map table_of u.tables) x) (λ t. steps_to (store_of u) e (stack s.operands ▹ I32 (length t.elements)) (rest_of c)) (table_of (on.table_at u.tables x)) (table_there u x size_table)
      ∙ ap (λ (y : ℕ). steps_to (store_of u) e (stack s.operands ▹ I32 y) (rest_of c)) (length-map (on.elements_at u.tables x) val ∙ sym h))
