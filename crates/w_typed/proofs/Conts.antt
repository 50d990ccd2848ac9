-- The continuations of a typed store: consumed, made and taken.
use Rattle.std.proofs.Common.{◌≡◌, ℕ, Bool, List, [], ◌∷◌, ◌++◌, Option, Some, None, slice_get, sym, subst}
use Rattle.w_types.specs.declared.types.FuncType.{FuncType}
use Rattle.w_types.specs.declared.types.HeapType.TheVariants.{Index}
use Rattle.lists.specs.Rows.{Row}
use Rattle.w_syntax.specs.declared.module.Module.{Module}
use Rattle.w_canon.specs.Matching.{FuncMatches}
use Rattle.w_canon.specs.Supertypes.{KeepsKinds}
use Rattle.w_canon.proofs.Preorder.{heap_refl, func_trans}
use Rattle.w_rules.specs.Context.{cont_of}
use Rattle.w_rules.specs.InstructionTypes.{nullable}
use Rattle.w_rules.specs.Operands.{Operand}
use Rattle.w_rules.specs.Sound.{Sound}
use Rattle.w_rules.specs.Spaces.{context_of}
use Rattle.w_reduce.specs.Values.{Val}
use Rattle.w_reduce.specs.Store.{Store, next_cont, with_cont, without_cont}
use Rattle.w_reduce.specs.Terms.{Rest, Context, Continuation}
use Rattle.w_reduce.specs.Reduced.{Reduced, steps_to, unless_consumed, as_continuation}
use Rattle.w_typed.specs.Values.{Arrows, Grows, ContinuationTyped, ValueTyped, a_null, a_function, a_continuation, ValuesTyped}
use Rattle.w_typed.specs.Contexts.{Scope, RestTyped, Subset, Within, KeptTyped}
use Rattle.w_typed.specs.Stores.{no_instance, instances, ContTyped, consumed, kept, StoreTyped}
use Rattle.w_typed.specs.Configurations.{IsSafe, goes, traps}
use Rattle.w_typed.proofs.Places.{instance_at, instance_set, instance_count}
use Rattle.w_typed.proofs.ManyInstances.{instances_beside, instances_each, seam}
use Rattle.w_typed.proofs.MoreContinuations.{grows_refl, grows_more, within_grows, cont_grows, store_grows}
use Rattle.w_typed.proofs.Indirect.{one_type}
use Rattle.w_typed.proofs.TypeKinds.{func_no_cont}
use Rattle.w_typed.proofs.Calls.{function_there}
use Rattle.w_typed.proofs.ContTypes.{SameCont, cont_matches}

module _ (m : Module) {K : Arrows} where
  -- ## Stores

  -- a continuation may be consumed
  pub cont_consumed : (a : ℕ) (t : FuncType) (s : Store) → StoreTyped m K s → slice_get K a ≡ Some t → StoreTyped m K (without_cont a s)
  cont_consumed a t s u is = store_grows m (grows_refl K) s _ u (instance_set a None t u.conts is consumed)

  -- one more may be made, typed among all
  pub cont_made : (k : Continuation) (t : FuncType) (s : Store) → StoreTyped m K s → KeptTyped m (K ++ t ∷ []) k t → StoreTyped m (K ++ t ∷ []) (with_cont k s)
  cont_made k t s u h =
      store_grows m (grows_more K t) s _ u (instances_beside (instances_each (cont_grows m (grows_more K t)) u.conts) (instances (kept h) no_instance))

  -- the reference to it
  pub made_reference : (t type : FuncType) (x : ℕ) (s : Store) → StoreTyped m K s → cont_of (context_of m) x ≡ Some type → FuncMatches m.types t type
      → ContinuationTyped m (K ++ t ∷ []) (next_cont s) (Index x)
  made_reference t type x s u is h = record {
    arrow = t;
    is = subst (λ (n : ℕ). slice_get (K ++ t ∷ []) n ≡ Some t) (sym (instance_count u.conts)) (seam K t []);
    index = x;
    type = type;
    has_type = is;
    matches = h;
    heap = heap_refl m.types (Index x);
  }

  -- ## Configurations

  -- it goes on where there are more continuations
  pub goes_with_more : {L : Arrows} {us : Row Operand} {s : Store} {e : Context} {vs : Row Val} {r : Rest} {c : Scope} {set now : List Bool} {ts out : Row Operand}
      → Grows K L → StoreTyped m L s → Subset set now → ValuesTyped m L vs ts → RestTyped m c set r.ahead r.code ts out → Within m K us e c now out
      → IsSafe m K us (steps_to s e vs r)
  goes_with_more {c = c} {set = set} {now = now} {ts = ts} {out = out} g u still h k w = goes g (record {
    store = u;
    term = record { scope = c; set = set; now = now; still = still; before = ts; after = out; operands = h; rest = k; around = within_grows m g w };
  })

  module _ (keeps : KeepsKinds m.types) (us : Row Operand) where
    -- what the store has of a continuation: it was consumed, which traps, or is kept
    kept_or_consumed : {k : Option Continuation} {t : FuncType} (go : Continuation → Reduced) → ContTyped m K k t → ((k : Continuation) → KeptTyped m K k t → IsSafe m K us (go k))
        → IsSafe m K us (unless_consumed (Some k) go)
    kept_or_consumed go consumed f = traps
    kept_or_consumed go (kept {k = k} h) f = f k h

    -- a reference to a continuation type is null, or that of a continuation, which was consumed, or is of a function type that matches
    pub continuation_taken : {v : Val} {s : Store} (x : ℕ) (type : FuncType) (go : ℕ × Continuation → Reduced) → Sound m → StoreTyped m K s
        → cont_of (context_of m) x ≡ Some type → ValueTyped m K v (nullable x)
        → ((a : ℕ) (k : Continuation) (t : FuncType) → slice_get K a ≡ Some t → KeptTyped m K k t → FuncMatches m.types t type → IsSafe m K us (go (a, k)))
        → IsSafe m K us (as_continuation s v go)
    continuation_taken x type go valid u is (a_null n) f = traps
    continuation_taken x type go valid u is (a_function {a = a} {x = y} there h) f = absurd (func_no_cont m keeps y x (function_there m a y valid u there) (one_type m h) type is)
    continuation_taken x type go valid u is (a_continuation {a = a} c) f =
        let here = instance_at a c.arrow u.conts c.is in
        let below : SameCont m c.index type = cont_matches m valid (one_type m c.heap) type is in
        let one : c.type ≡ below.type = let p = c.has_type in let q = below.has_type in cc in
        let matches = func_trans m.types keeps c.arrow c.type type c.matches (subst (λ (t : FuncType). FuncMatches m.types t type) (sym one) below.matches) in
        rw (here.is) (kept_or_consumed (λ k. go (a, k)) here.holds (λ k h. f a k c.arrow c.is h matches))
