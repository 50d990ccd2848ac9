-- What calls by a reference and through a table need, and what they come to.
use Rattle.std.proofs.Common.{◌≡◌, ℕ, zero, suc, ◌⊎◌, inl, inr, ◌<◌, List, [], ◌∷◌, length, drop, map, Option, Some, None, Bool, true, false, slice_get, refl, sym, ap, ◌∙◌, subst, arith}
use Rattle.std.specs.Prelude.{◌≢◌, ◌↔◌, IsTrue}
use Rattle.std.specs.Option.{option_map}
use Rattle.lists.specs.Rows.{Row}
use Rattle.w_types.specs.declared.value.Value.{Value}
use Rattle.w_types.specs.declared.value.Value.TheVariants as value
use Rattle.w_syntax.specs.Code.{Code}
use Rattle.w_syntax.specs.declared.numeric.IntType.TheVariants as int
use Rattle.w_syntax.specs.declared.instructions.Instr.TheVariants as flat
use Rattle.w_syntax.specs.declared.instructions.Op.{Op}
use Rattle.w_syntax.specs.declared.instructions.Op.TheVariants as op
use Rattle.w_syntax.specs.declared.module.Module.{Module}
use Rattle.w_segment.specs.Shape.{Shape}
use Rattle.w_tables.specs.Store as instances
use Rattle.w_tables.specs.Operations.{table_at}
use Rattle.w_canon.specs.Matching.{IndexMatches}
use Rattle.w_rules.specs.Spaces.{functions_of}
use Rattle.w_reduce.specs.declared.trap.Trap.{Trap}
use Rattle.w_reduce.specs.declared.trap.Trap.TheVariants as trap
use Rattle.w_reduce.specs.Values.{Val, val}
use Rattle.w_reduce.specs.Store.{Store, Table}
use Rattle.w_reduce.specs.Terms.{Context}
use Rattle.w_reduce.specs.Program.{Program, IsProgram}
use Rattle.w_reduce.specs.Reduced.{Reduced, Trapped, Stuck, or_stuck, or_trap, as_function}
use Rattle.w_reduce.specs.Entering.{is_call}
use Rattle.w_reduce.specs.Control.{unless_mismatch}
use Rattle.w_stands.specs.Values.{stack, store_of, table_of}
use Rattle.w_stands.specs.Numbers.{IsNumber, bits_in}
use Rattle.w_stands.specs.Taking.{Kind, Number, Any, Bits, Is, taking, Going, IsTaking, AreOf, taken_of}
use Rattle.w_stands.specs.Steps.{MovesAt, Follows}
use Rattle.w_stands.specs.declared.did.Did.TheVariants as did
use Rattle.w_stands.proofs.Locals.{mapped_get}
use Rattle.w_stands.proofs.LookedUp.{found, mapped_found}
use Rattle.w_stands.proofs.TakenOperands.{all_taken}
use Rattle.w_stands.proofs.NextInstructions.{Needs, take_needs, take_traps}
use Rattle.w_call_ops.specs.Calling.{Onward, onward, GoesTo, by_reference, by_table}
use Rattle.w_call_ops.specs.declared.callees.CallKind.{CallKind}
use Rattle.w_call_ops.specs.declared.callees.CallKind.TheVariants as kind

-- ## An instruction that takes one operand and then invokes what it leads to

-- the operand, and those beneath
abbrev one : Value → List Value
one v = v ∷ []

module _ (m : Module) (u : instances.Store) (s : Shape) (i : Op) (k : Kind) (go : Going) (rule : IsTaking i (k ∷ []) go) (mv : MovesAt (flat.Plain i) m u s)
    (v : Value) (whole : s.operands ≡ v ∷ drop 1 s.operands) where
  pub one_needed : Needs m u s (k ∷ []) go
  one_needed = take_needs m u s i (k ∷ []) go rule mv

  pub one_of : AreOf (k ∷ []) (v ∷ [])
  one_of = one_needed.of (v ∷ []) (drop 1 s.operands) whole refl

  pub one_some : 0 < length s.operands
  one_some = let l = ap (λ (l : List Value). length l) whole in omega (arith, l)

  -- it goes on with the function of address a
  pub one_calls : (on : Onward) (a : ℕ) → is_call i ≡ true → ((p : Program) (e : Context) (c : Code) → p.source ≡ m → IsProgram p →
      go p (store_of u) e c (taken_of (k ∷ []) (v ∷ [])) (stack (drop 1 s.operands)) ≡ on p (store_of u) e c (stack (drop 1 s.operands), a)) → GoesTo on a 1 m u s
  one_calls on a call does = record {
    i = i;
    calls = call;
    moves = mv;
    there = omega (arith, one_some);
    rule = λ p e c g h.
        rule p (store_of u) e (stack s.operands) c
        ∙ ap (λ (l : List Value). taking (k ∷ []) (stack l) (go p (store_of u) e c)) whole
        ∙ all_taken (k ∷ []) (v ∷ []) (drop 1 s.operands) (go p (store_of u) e c) one_of
        ∙ does p e c g h;
  }

  -- it traps
  pub one_traps : (t : Trap) → ((p : Program) (e : Context) (c : Code) → p.source ≡ m → IsProgram p →
      go p (store_of u) e c (taken_of (k ∷ []) (v ∷ [])) (stack (drop 1 s.operands)) ≡ Trapped t) → Follows (did.Trapped t) m [] u s u s
  one_traps t does = take_traps m u s i (k ∷ []) go rule mv.stage mv.here (v ∷ []) (drop 1 s.operands) whole one_of t s refl does

-- ## By a reference

abbrev pub referring : Onward → Going
referring on p s e c (Is v ∷ []) vs = as_function trap.NullReference v (λ a. on p s e c (vs, a))
referring on p s e c xs vs = Stuck

reference_rule : (k : CallKind) (y : ℕ) → IsTaking (op.Control (by_reference k y)) (Any ∷ []) (referring (onward k))
reference_rule kind.Nested y = λ p s e vs c. refl
reference_rule kind.Tail y = λ p s e vs c. refl

reference_is : (k : CallKind) (y : ℕ) → is_call (op.Control (by_reference k y)) ≡ true
reference_is kind.Nested y = refl
reference_is kind.Tail y = refl

-- a reference is null, or to a function
function_or_null : (t : Trap) (v : Value) (go : ℕ → Reduced) → as_function t (val v) go ≢ Stuck → (v ≡ value.Null) ⊎ ((a : ℕ) × (v ≡ value.Func a))
function_or_null t value.Null go h = inl refl
function_or_null t (value.Func a) go h = inr (a, refl)
function_or_null t (value.I32 n) go h = absurd (h refl)
function_or_null t (value.I64 n) go h = absurd (h refl)
function_or_null t (value.Cont r) go h = absurd (h refl)

module _ (m : Module) (u : instances.Store) (s : Shape) (k : CallKind) (y : ℕ) (mv : MovesAt (flat.Plain (op.Control (by_reference k y))) m u s) where
  reference_needs : Needs m u s (Any ∷ []) (referring (onward k))
  reference_needs = take_needs m u s (op.Control (by_reference k y)) (Any ∷ []) (referring (onward k)) (reference_rule k y) mv

  pub reference_some : 0 < length s.operands
  reference_some = let h = reference_needs.some in omega (arith, h)

  pub reference_kind : (v : Value) → s.operands ≡ v ∷ drop 1 s.operands → (v ≡ value.Null) ⊎ ((a : ℕ) × (v ≡ value.Func a))
  reference_kind v whole =
      let n = reference_needs in
      function_or_null trap.NullReference v (λ a. onward k n.p (store_of u) n.e n.c (stack (drop 1 s.operands), a)) (n.applies (v ∷ []) (drop 1 s.operands) whole tt)

  pub reference_traps : (v : Value) → s.operands ≡ v ∷ drop 1 s.operands → v ≡ value.Null → Follows (did.Trapped trap.NullReference) m [] u s u s
  reference_traps v whole null =
      one_traps m u s (op.Control (by_reference k y)) Any (referring (onward k)) (reference_rule k y) mv v whole trap.NullReference
      (λ p e c g z. ap (λ (x : Value). as_function trap.NullReference (val x) (λ a. onward k p (store_of u) e c (stack (drop 1 s.operands), a))) null)

  pub reference_calls : (v : Value) (a : ℕ) → s.operands ≡ v ∷ drop 1 s.operands → v ≡ value.Func a → GoesTo (onward k) a 1 m u s
  reference_calls v a whole func =
      one_calls m u s (op.Control (by_reference k y)) Any (referring (onward k)) (reference_rule k y) mv v whole (onward k) a (reference_is k y)
      (λ p e c g z. ap (λ (x : Value). as_function trap.NullReference (val x) (λ b. onward k p (store_of u) e c (stack (drop 1 s.operands), b))) func)

-- ## Through a table

-- what is done with the element that was found
abbrev typed : Onward → Program → Store → Context → Code → Row Val → ℕ → ℕ → Option ℕ → Reduced
typed on p s e c vs y a o = or_stuck o (λ z. unless_mismatch (p.matches z y) (on p s e c (vs, a)))

abbrev finding : Onward → Program → Store → Context → Code → Row Val → ℕ → Option Val → Reduced
finding on p s e c vs y o = or_trap trap.UndefinedElement o (λ r. as_function trap.NullElement r (λ a. typed on p s e c vs y a (slice_get (functions_of p.source) a)))

abbrev indirect : Onward → ℕ → ℕ → Going
indirect on y x p s e c (Bits i ∷ []) vs = or_stuck (slice_get s.tables x) (λ (t : Table). finding on p s e c vs y (slice_get t.elements i))
indirect on y x p s e c xs vs = Stuck

table_rule : (k : CallKind) (y x : ℕ) → IsTaking (op.Control (by_table k y x)) (Number int.I32 ∷ []) (indirect (onward k) y x)
table_rule kind.Nested y x = λ p s e vs c. refl
table_rule kind.Tail y x = λ p s e vs c. refl

table_is : (k : CallKind) (y x : ℕ) → is_call (op.Control (by_table k y x)) ≡ true
table_is kind.Nested y x = refl
table_is kind.Tail y x = refl

-- the table, as the definitions see it
table_found : (ts : List instances.Table) (x : ℕ) (go : Table → Reduced) → x < length ts → or_stuck (slice_get (map table_of ts) x) go ≡ go (table_of (table_at ts x))
table_found [] x go h = absurd (omega arith)
table_found (t ∷ ts) zero go h = refl
table_found (t ∷ ts) (suc x) go h = table_found ts x go (omega arith)

module _ (m : Module) (u : instances.Store) (s : Shape) (k : CallKind) (y x : ℕ) (mv : MovesAt (flat.Plain (op.Control (by_table k y x))) m u s) where
  indirect_needs : Needs m u s (Number int.I32 ∷ []) (indirect (onward k) y x)
  indirect_needs = take_needs m u s (op.Control (by_table k y x)) (Number int.I32 ∷ []) (indirect (onward k) y x) (table_rule k y x) mv

  pub indirect_some : 0 < length s.operands
  indirect_some = let h = indirect_needs.some in omega (arith, h)

  module _ (v : Value) (whole : s.operands ≡ v ∷ drop 1 s.operands) where
    pub indirect_number : IsNumber int.I32 v
    indirect_number = (indirect_needs.of (v ∷ []) (drop 1 s.operands) whole refl).0

    there_at : or_stuck (slice_get (map table_of u.tables) x) (λ (t : Table). finding (onward k) indirect_needs.p (store_of u) indirect_needs.e indirect_needs.c (stack (drop 1 s.operands)) y (slice_get t.elements (bits_in v))) ≢ Stuck
    there_at = indirect_needs.applies (v ∷ []) (drop 1 s.operands) whole (indirect_number, tt)

    pub indirect_table : x < length u.tables
    indirect_table =
        let n = indirect_needs in
        mapped_found table_of u.tables x (λ (t : Table). finding (onward k) n.p (store_of u) n.e n.c (stack (drop 1 s.operands)) y (slice_get t.elements (bits_in v))) there_at

    -- the element, as the definitions see it
    element_is : (o : Option Value) → slice_get (table_at u.tables x).elements (bits_in v) ≡ o → slice_get (table_of (table_at u.tables x)).elements (bits_in v) ≡ option_map val o
    element_is o h = mapped_get val (table_at u.tables x).elements (bits_in v) ∙ ap (option_map val) h

    -- what the rule comes to with it
    comes_to : (o : Option Value) → slice_get (table_at u.tables x).elements (bits_in v) ≡ o → (p : Program) (e : Context) (c : Code) →
        indirect (onward k) y x p (store_of u) e c (taken_of (Number int.I32 ∷ []) (v ∷ [])) (stack (drop 1 s.operands)) ≡ finding (onward k) p (store_of u) e c (stack (drop 1 s.operands)) y (option_map val o)
    comes_to o h p e c =
        table_found u.tables x (λ (t : Table). finding (onward k) p (store_of u) e c (stack (drop 1 s.operands)) y (slice_get t.elements (bits_in v))) indirect_table
        ∙ ap (finding (onward k) p (store_of u) e c (stack (drop 1 s.operands)) y) (element_is o h)

    pub indirect_past : slice_get (table_at u.tables x).elements (bits_in v) ≡ None → Follows (did.Trapped trap.UndefinedElement) m [] u s u s
    indirect_past h = one_traps m u s (op.Control (by_table k y x)) (Number int.I32) (indirect (onward k) y x) (table_rule k y x) mv v whole trap.UndefinedElement (λ p e c g is. comes_to None h p e c)

    pub indirect_null : slice_get (table_at u.tables x).elements (bits_in v) ≡ Some value.Null → Follows (did.Trapped trap.NullElement) m [] u s u s
    indirect_null h = one_traps m u s (op.Control (by_table k y x)) (Number int.I32) (indirect (onward k) y x) (table_rule k y x) mv v whole trap.NullElement (λ p e c g is. comes_to (Some value.Null) h p e c)

    pub indirect_kind : (w : Value) → slice_get (table_at u.tables x).elements (bits_in v) ≡ Some w → (w ≡ value.Null) ⊎ ((a : ℕ) × (w ≡ value.Func a))
    indirect_kind w h =
        let n = indirect_needs in
        function_or_null trap.NullElement w (λ a. typed (onward k) n.p (store_of u) n.e n.c (stack (drop 1 s.operands)) y a (slice_get (functions_of n.p.source) a))
        (λ q. indirect_needs.applies (v ∷ []) (drop 1 s.operands) whole (indirect_number, tt) (comes_to (Some w) h n.p n.e n.c ∙ q))

    module _ (a : ℕ) (h : slice_get (table_at u.tables x).elements (bits_in v) ≡ Some (value.Func a)) where
      pub indirect_function : (z : ℕ) × (slice_get (functions_of m) a ≡ Some z)
      indirect_function =
          let n = indirect_needs in
          let f = found (slice_get (functions_of n.p.source) a) (λ z. unless_mismatch (n.p.matches z y) (onward k n.p (store_of u) n.e n.c (stack (drop 1 s.operands), a)))
          (λ q. indirect_needs.applies (v ∷ []) (drop 1 s.operands) whole (indirect_number, tt) (comes_to (Some (value.Func a)) h n.p n.e n.c ∙ q)) in
          subst (λ (x : Module). (z : ℕ) × (slice_get (functions_of x) a ≡ Some z)) n.source (f.item, f.is)

      -- with the index of its type
      with_kind : (z : ℕ) → slice_get (functions_of m) a ≡ Some z → (p : Program) (e : Context) (c : Code) → p.source ≡ m →
          indirect (onward k) y x p (store_of u) e c (taken_of (Number int.I32 ∷ []) (v ∷ [])) (stack (drop 1 s.operands))
          ≡ unless_mismatch (p.matches z y) (onward k p (store_of u) e c (stack (drop 1 s.operands), a))
      with_kind z there p e c g =
          comes_to (Some (value.Func a)) h p e c
          ∙ ap (typed (onward k) p (store_of u) e c (stack (drop 1 s.operands)) y a) (ap (λ (x : Module). slice_get (functions_of x) a) g ∙ there)

      pub indirect_calls : (z : ℕ) → slice_get (functions_of m) a ≡ Some z → ((p : Program) → p.source ≡ m → IsProgram p → p.matches z y ≡ true) → GoesTo (onward k) a 1 m u s
      indirect_calls z there fits =
          one_calls m u s (op.Control (by_table k y x)) (Number int.I32) (indirect (onward k) y x) (table_rule k y x) mv v whole (onward k) a (table_is k y x)
          (λ p e c g is. with_kind z there p e c g ∙ ap (λ (b : Bool). unless_mismatch b (onward k p (store_of u) e c (stack (drop 1 s.operands), a))) (fits p g is))

      pub indirect_mismatch : (z : ℕ) → slice_get (functions_of m) a ≡ Some z → ((p : Program) → p.source ≡ m → IsProgram p → p.matches z y ≡ false) →
          Follows (did.Trapped trap.CallTypeMismatch) m [] u s u s
      indirect_mismatch z there fits =
          one_traps m u s (op.Control (by_table k y x)) (Number int.I32) (indirect (onward k) y x) (table_rule k y x) mv v whole trap.CallTypeMismatch
          (λ p e c g is. with_kind z there p e c g ∙ ap (λ (b : Bool). unless_mismatch b (onward k p (store_of u) e c (stack (drop 1 s.operands), a))) (fits p g is))

-- ## Matching

-- two tests that hold just where one statement does agree
agree : {P : Type 0} (a b : Bool) → (IsTrue a ↔ P) → (IsTrue b ↔ P) → a ≡ b
agree true true h g = refl
agree false false h g = refl
agree true false h g = sym (g.1 (h.0 refl))
agree false true h g = h.1 (g.0 refl)

pub kinds_agree : (m : Module) (r : Bool) (z y : ℕ) → (IsTrue r ↔ IndexMatches m.types z y) → (p : Program) → p.source ≡ m → IsProgram p → p.matches z y ≡ r
kinds_agree m r z y h p e is = agree (p.matches z y) r (subst (λ (x : Module). IsTrue (p.matches z y) ↔ IndexMatches x.types z y) e (is z y)) h
