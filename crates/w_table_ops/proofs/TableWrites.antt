-- What instructions need that write to a table, and where they go.
use Rattle.std.proofs.Common.{◌≡◌, ℕ, ◌<◌, Bool, true, List, [], ◌++◌, length, map, Option, Some, None, slice_get, refl, sym, ap, ◌∙◌, subst}
use Rattle.std.specs.Option.{option_map}
use Rattle.lists.specs.Rows.{Row}
use Rattle.w_types.specs.declared.value.Value.{Value}
use Rattle.w_syntax.specs.Code.{Code}
use Rattle.w_syntax.specs.declared.instructions.Instr.TheVariants as flat
use Rattle.w_syntax.specs.declared.instructions.Op.{Op}
use Rattle.w_syntax.specs.declared.module.Module.{Module}
use Rattle.w_segment.specs.Shape.{Shape}
use Rattle.w_segment.specs.Holds.{AllOf}
use Rattle.w_tables.specs.Outcomes.{outcome}
use Rattle.w_tables.specs.Operations as on
use Rattle.w_tables.specs.Store as instances
use Rattle.w_reduce.specs.Values.{Val}
use Rattle.w_reduce.specs.Store.{Table}
use Rattle.w_reduce.specs.Terms.{rest_of, Context}
use Rattle.w_reduce.specs.Tables.{with_elements}
use Rattle.w_reduce.specs.Program.{Program}
use Rattle.w_reduce.specs.Reduced.{Reduced, Trapped, steps_to, or_stuck, or_trap}
use Rattle.w_reduce.specs.declared.trap.Trap.TheVariants as trap
use Rattle.w_stands.specs.Values.{stack, vals, table_of, store_of}
use Rattle.w_stands.specs.declared.did.Did.TheVariants as did
use Rattle.w_stands.specs.Keeps.{StoreHolds, KeepsAll}
use Rattle.w_stands.specs.Steps.{MovesAt, Follows}
use Rattle.w_stands.specs.Taking.{Kind, Going, IsTaking, AreOf, taken_of}
use Rattle.w_stands.specs.GoingOn.{dropped}
use Rattle.w_stands.proofs.NextInstructions.{take_needs, take_follows, take_traps, dropped_behind}
use Rattle.w_stands.proofs.LookedUp.{found, goes_on, mapped_found}
use Rattle.w_table_ops.proofs.MappedElements.{table_there, store_written}
use Rattle.w_table_ops.proofs.FactsOfElements.{MadeOf, outcome_holds, tops_hold, keeps_behind}
use Rattle.w_table_ops.proofs.Rules.{writing}

-- with the elements that it made it goes on, and traps where it made none
abbrev gone : instances.Store → Context → Code → ℕ → Row Val → Option (List Value) → Reduced
gone u e c x vs made = or_trap trap.TableOutOfBounds made (λ new. steps_to (store_of (on.with_elements u x new)) e vs (rest_of c))

-- the rule does the same with what others stand for
gone_is : (u : instances.Store) (e : Context) (c : Code) (x : ℕ) (vs : Row Val) (made : Option (List Value)) →
    or_trap trap.TableOutOfBounds (option_map vals made) (λ new. steps_to (with_elements (store_of u) x (table_of (on.table_at u.tables x)) new) e vs (rest_of c)) ≡ gone u e c x vs made
gone_is u e c x vs None = refl
gone_is u e c x vs (Some new) = ap (λ s. steps_to s e vs (rest_of c)) (store_written u x new)

-- where the call answers, the rule goes on
went_with : (u u' : instances.Store) (e : Context) (c : Code) (x : ℕ) (vs : Row Val) (made : Option (List Value)) → outcome u (on.with_elements u x) made ≡ (Some tt, u') →
    gone u e c x vs made ≡ steps_to (store_of u') e vs (rest_of c)
went_with u u' e c x vs None h = let k : None ≡ Some tt = ap (λ (p : Option (Unit {0}) × instances.Store). p.0) h in absurd (cc k)
went_with u u' e c x vs (Some new) h = ap (λ (p : Option (Unit {0}) × instances.Store). steps_to (store_of p.1) e vs (rest_of c)) h

-- where it answers nothing, the rule traps
trapped_with : (u u' : instances.Store) (e : Context) (c : Code) (x : ℕ) (vs : Row Val) (made : Option (List Value)) → outcome u (on.with_elements u x) made ≡ (None, u') →
    gone u e c x vs made ≡ Trapped trap.TableOutOfBounds
trapped_with u u' e c x vs None h = refl
trapped_with u u' e c x vs (Some new) h = let k : Some tt ≡ None = ap (λ (p : Option (Unit {0}) × instances.Store). p.0) h in absurd (cc k)

-- a trap changes nothing
same_with : (u u' : instances.Store) (x : ℕ) (made : Option (List Value)) → outcome u (on.with_elements u x) made ≡ (None, u') → u' ≡ u
same_with u u' x None h = sym (ap (λ (p : Option (Unit {0}) × instances.Store). p.1) h)
same_with u u' x (Some new) h = let k : Some tt ≡ None = ap (λ (p : Option (Unit {0}) × instances.Store). p.0) h in absurd (cc k)

-- the memories stay
memories_stay : (u u' : instances.Store) (x : ℕ) (made : Option (List Value)) (r : Option (Unit {0})) → outcome u (on.with_elements u x) made ≡ (r, u') → u'.memories ≡ u.memories
memories_stay u u' x None r h = sym (ap (λ (p : Option (Unit {0}) × instances.Store). p.1.memories) h)
memories_stay u u' x (Some new) r h = sym (ap (λ (p : Option (Unit {0}) × instances.Store). p.1.memories) h)

-- what becomes of a stack s and a store u where an instruction takes n operands, answers r and leaves the store u'
pub record Writes (m : Module) (u : instances.Store) (s : Shape) (n : ℕ) (r : Option (Unit {0})) (u' : instances.Store) : Type 0 where
  pub goes : (s' : Shape) → r ≡ Some tt → s' ≡ dropped n s → Follows did.Went m [] u s u' s'
  pub traps : r ≡ None → Follows (did.Trapped trap.TableOutOfBounds) m [] u s u' s
  pub memories : u'.memories ≡ u.memories
  pub keeps : (s' : Shape) → s' ≡ dropped n s → KeepsAll u s u' s'
  pub keeps_trapped : KeepsAll u s u' s

module _ (m : Module) (u : instances.Store) (s : Shape) (i : Op) (ks : List Kind) (go : Going) (rule : IsTaking i ks go) (k : MovesAt (flat.Plain i) m u s)
    (args rest : List Value) (is : s.operands ≡ args ++ rest) (of : AreOf ks args)
    (A : Type 0) (x : ℕ) (o : Option A) (make : A → Table → Option (List Val))
    (rule_writes : (p : Program) (e : Context) (c : Code) → go p (store_of u) e c (taken_of ks args) (stack rest) ≡ writing A (store_of u) e c x (stack rest) o make) where
  -- what it does with the table and what it looked up
  abbrev with_made : Context → Code → A → Table → Reduced
  with_made e c a t = or_trap trap.TableOutOfBounds (make a t) (λ new. steps_to (with_elements (store_of u) x t new) e (stack rest) (rest_of c))

  -- there is a table, and what it looks up
  pub write_table : x < length u.tables
  write_table =
      let n = take_needs m u s i ks go rule k in
      mapped_found table_of u.tables x (λ t. or_stuck o (λ a. with_made n.e n.c a t)) (λ q. n.applies args rest is of (rule_writes n.p n.e n.c ∙ q))

  -- the rule goes on with the table
  to_source : (e : Context) (c : Code) → writing A (store_of u) e c x (stack rest) o make ≡ or_stuck o (λ a. with_made e c a (table_of (on.table_at u.tables x)))
  to_source e c =
      goes_on (slice_get (map table_of u.tables) x) (λ t. or_stuck o (λ a. with_made e c a t)) (table_of (on.table_at u.tables x)) (table_there u x write_table)

  -- and what it looks up
  pub write_source : (a : A) × (o ≡ Some a)
  write_source =
      let n = take_needs m u s i ks go rule k in
      let f = found o (λ a. with_made n.e n.c a (table_of (on.table_at u.tables x))) (λ q. n.applies args rest is of (rule_writes n.p n.e n.c ∙ to_source n.e n.c ∙ q)) in
      (f.item, f.is)

  -- what it comes to
  module _ (a : A) (here : o ≡ Some a) (made : Option (List Value)) (makes : make a (table_of (on.table_at u.tables x)) ≡ option_map vals made) where
    -- what the rule comes to
    comes_to : (p : Program) (e : Context) (c : Code) → go p (store_of u) e c (taken_of ks args) (stack rest) ≡ gone u e c x (stack rest) made
    comes_to p e c =
        rule_writes p e c ∙ to_source e c ∙ goes_on o (λ a. with_made e c a (table_of (on.table_at u.tables x))) a here
        ∙ ap (λ (q : Option (List Val)). or_trap trap.TableOutOfBounds q (λ new. steps_to (with_elements (store_of u) x (table_of (on.table_at u.tables x)) new) e (stack rest) (rest_of c))) makes
        ∙ gone_is u e c x (stack rest) made

    module _ (r : Option (Unit {0})) (u' : instances.Store) (left : outcome u (on.with_elements u x) made ≡ (r, u')) where
      -- what the call left, by what it answered
      answered : (r' : Option (Unit {0})) → r ≡ r' → outcome u (on.with_elements u x) made ≡ (r', u')
      answered r' h = left ∙ ap (λ (y : Option (Unit {0})). let q : Option (Unit {0}) × instances.Store = (y, u') in q) h

      -- where the rule goes
      write_goes : (s' : Shape) → r ≡ Some tt → s' ≡ dropped (length args) s → Follows did.Went m [] u s u' s'
      write_goes s' h after =
          take_follows m u s i ks go rule k.stage k.here args rest is of [] u' s' [] (dropped_behind (length args) s s' after)
          (λ p e c source program. comes_to p e c ∙ went_with u u' e c x (stack rest) made (answered (Some tt) h))

      -- where it traps
      write_traps : r ≡ None → Follows (did.Trapped trap.TableOutOfBounds) m [] u s u' s
      write_traps h =
          subst (λ (w : instances.Store). Follows (did.Trapped trap.TableOutOfBounds) m [] u s w s) (sym (same_with u u' x made (answered None h)))
          (take_traps m u s i ks go rule k.stage k.here args rest is of trap.TableOutOfBounds s refl
          (λ p e c source program. comes_to p e c ∙ trapped_with u u' e c x (stack rest) made (answered None h)))

      -- all of it, where what holds of all values holds of the elements that it made
      pub writes : ((test : Value → Bool) → StoreHolds (λ v. test v ≡ true) u → AllOf (λ v. test v ≡ true) (args ++ rest) → MadeOf (λ v. test v ≡ true) made) → Writes m u s (length args) r u'
      writes good = record {
        goes = write_goes;
        traps = write_traps;
        memories = memories_stay u u' x made r left;
        keeps = λ s' after. keeps_behind u u' s s' (length args) [] (dropped_behind (length args) s s' after)
            (λ test plain h g. (outcome_holds (λ v. test v ≡ true) u u' x made r left (good test h (tops_hold (λ v. test v ≡ true) s args rest is g)) h, tt));
        keeps_trapped = λ test plain h g. (outcome_holds (λ v. test v ≡ true) u u' x made r left (good test h (tops_hold (λ v. test v ≡ true) s args rest is g)) h, g);
      }
