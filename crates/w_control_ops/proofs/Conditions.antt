-- Instructions that take one operand, and branch or go on by it: what they need, and where they go.
use Rattle.std.proofs.Common.{◌≡◌, ℕ, zero, suc, ◌+◌, ◌<◌, List, [], ◌∷◌, ◌++◌, true, false, length, refl, sym, ap, ◌∙◌, arith, drop, slice_get}
use Rattle.std.specs.Prelude.{◌≢◌, ◌^◌}
use Rattle.lists.specs.Rows.{◌▹◌}
use Rattle.w_types.specs.declared.value.Value.{Value}
use Rattle.w_types.specs.declared.value.Value.TheVariants as value
use Rattle.w_syntax.specs.Code.{Code}
use Rattle.w_syntax.specs.declared.numeric.IntType.TheVariants as int
use Rattle.w_syntax.specs.declared.instructions.Instr.TheVariants as flat
use Rattle.w_syntax.specs.declared.instructions.Op.{Op}
use Rattle.w_syntax.specs.declared.instructions.Op.TheVariants as op
use Rattle.w_syntax.specs.declared.instructions.ControlOp.TheVariants as control
use Rattle.w_syntax.specs.declared.module.Module.{Module}
use Rattle.w_segment.specs.Shape.{Shape, IsAt}
use Rattle.w_segment.specs.Changes.{discarded}
use Rattle.w_segment.proofs.FactsOfValues.{discarded_holds}
use Rattle.w_tables.specs.Store as instances
use Rattle.w_reduce.specs.Values.{Val, val, Null, I32, I64, Func, Cont}
use Rattle.w_reduce.specs.Terms.{rest_of, Context}
use Rattle.w_reduce.specs.Program.{Program}
use Rattle.w_reduce.specs.Reduced.{Reduced, Stuck, steps_to}
use Rattle.w_reduce.specs.Reference.{by_null}
use Rattle.w_reduce.specs.Control.{unless_zero, label_in}
use Rattle.w_reduce.specs.Branches.{branch}
use Rattle.w_stands.specs.Values.{stack, store_of}
use Rattle.w_stands.specs.Numbers.{bits_in}
use Rattle.w_stands.specs.declared.did.Did.TheVariants as did
use Rattle.w_stands.specs.Keeps.{Keeps}
use Rattle.w_stands.specs.GoingOn.{dropped, IsBehind}
use Rattle.w_stands.specs.Steps.{MovesAlone, FollowsAlone}
use Rattle.w_stands.specs.Taking.{Kind, Number, Any, Bits, Is, Going, IsTaking, AreOf, taken_of}
use Rattle.w_stands.proofs.NextInstructions.{dropped_behind, take_needs, take_follows}
use Rattle.w_stands.specs.References.{is_null}
use Rattle.w_control_ops.proofs.Branches.{Beneath, IsBranched, IsBranching, taken_there, taken_follows, branch_keeps}

-- ## The rules, by the operand that they take

-- br
abbrev pub branching : ℕ → Going
branching l p s e c xs vs = branch s l e vs

-- br_if
abbrev pub if_branching : ℕ → Going
if_branching l p s e c [] vs = Stuck
if_branching l p s e c (Bits n ∷ xs) vs = unless_zero n (branch s l e vs) (steps_to s e vs (rest_of c))
if_branching l p s e c (Is v ∷ xs) vs = Stuck

-- br_table
abbrev pub table_branching : List ℕ → ℕ → Going
table_branching ls l p s e c [] vs = Stuck
table_branching ls l p s e c (Bits i ∷ xs) vs = branch s (label_in (slice_get ls i) l) e vs
table_branching ls l p s e c (Is v ∷ xs) vs = Stuck

-- br_on_null
abbrev pub null_branching : ℕ → Going
null_branching l p s e c [] vs = Stuck
null_branching l p s e c (Bits n ∷ xs) vs = Stuck
null_branching l p s e c (Is v ∷ xs) vs = by_null v (branch s l e vs) (steps_to s e (vs ▹ v) (rest_of c))

-- br_on_non_null
abbrev pub other_branching : ℕ → Going
other_branching l p s e c [] vs = Stuck
other_branching l p s e c (Bits n ∷ xs) vs = Stuck
other_branching l p s e c (Is v ∷ xs) vs = by_null v (steps_to s e vs (rest_of c)) (branch s l e (vs ▹ v))

-- each is the rule of its instruction
pub br_rule : (l : ℕ) → IsTaking (op.Control (control.Br l)) [] (branching l)
br_rule l = λ p s e vs c. refl

pub if_rule : (l : ℕ) → IsTaking (op.Control (control.BrIf l)) (Number int.I32 ∷ []) (if_branching l)
if_rule l = λ p s e vs c. refl

pub table_rule : (ls : List ℕ) (l : ℕ) → IsTaking (op.Control (control.BrTable ls l)) (Number int.I32 ∷ []) (table_branching ls l)
table_rule ls l = λ p s e vs c. refl

pub null_rule : (l : ℕ) → IsTaking (op.Control (control.BrOnNull l)) (Any ∷ []) (null_branching l)
null_rule l = λ p s e vs c. refl

pub other_rule : (l : ℕ) → IsTaking (op.Control (control.BrOnNonNull l)) (Any ∷ []) (other_branching l)
other_rule l = λ p s e vs c. refl

-- ## Which way

-- a number that isn't 0 takes the branch
zero_taken : (n : ℕ) (a b : Reduced) → n ≢ 0 → unless_zero n a b ≡ a
zero_taken zero a b h = absurd (h refl)
zero_taken (suc n) a b h = refl

-- 0 goes on
zero_passed : (n : ℕ) (a b : Reduced) → n ≡ 0 → unless_zero n a b ≡ b
zero_passed n a b h = ap (λ (x : ℕ). unless_zero x a b) h

-- null leads to the first
null_one : (v : Value) (a b : Reduced) → is_null v ≡ true → by_null (val v) a b ≡ a
null_one value.Null a b h = refl
null_one (value.I32 n) a b h = absurd cc
null_one (value.I64 n) a b h = absurd cc
null_one (value.Func f) a b h = absurd cc
null_one (value.Cont r) a b h = absurd cc

-- a reference
abbrev IsReference : Val → Type 0
IsReference (I32 n) = ⊥
IsReference (I64 n) = ⊥
IsReference Null = Unit {0}
IsReference (Func a) = Unit {0}
IsReference (Cont a) = Unit {0}

-- where the rule applies there is one
reference_there : (v : Val) (a b : Reduced) → by_null v a b ≢ Stuck → IsReference v
reference_there (I32 n) a b h = absurd (h refl)
reference_there (I64 n) a b h = absurd (h refl)
reference_there Null a b h = tt
reference_there (Func f) a b h = tt
reference_there (Cont f) a b h = tt

-- another reference leads to the second
null_other : (v : Value) (a b : Reduced) → is_null v ≡ false → IsReference (val v) → by_null (val v) a b ≡ b
null_other value.Null a b h g = absurd cc
null_other (value.I32 n) a b h g = absurd g
null_other (value.I64 n) a b h g = absurd g
null_other (value.Func f) a b h g = refl
null_other (value.Cont r) a b h g = refl

-- ## What one operand needs

module _ (m : Module) (s : Shape) (i : Op) (kind : Kind) (go : Going) (rule : IsTaking i (kind ∷ []) go) (k : MovesAlone (flat.Plain i) m s) where
  -- it is there
  pub one_there : 0 < length s.operands
  one_there = let n = (take_needs m k.u s i (kind ∷ []) go rule k.moves).some in omega (arith, n)

  -- so is a place behind the instruction
  pub one_place : s.place + 1 < 2 ^ 32
  one_place = (take_needs m k.u s i (kind ∷ []) go rule k.moves).place

  -- it is of the kind
  pub one_of : (v : Value) → s.operands ≡ v ∷ drop 1 s.operands → AreOf (kind ∷ []) (v ∷ [])
  one_of v is = (take_needs m k.u s i (kind ∷ []) go rule k.moves).of (v ∷ []) (drop 1 s.operands) is refl

  -- the operand is gone, and the stack goes on behind the instruction
  pub one_passes : (v : Value) → s.operands ≡ v ∷ drop 1 s.operands → (given : List Value) (s' : Shape) → IsBehind 1 given s s' →
      ((p : Program) (u : instances.Store) (e : Context) (c : Code) → go p (store_of u) e c (taken_of (kind ∷ []) (v ∷ [])) (stack (drop 1 s.operands)) ≡ steps_to (store_of u) e (stack (given ++ drop 1 s.operands)) (rest_of c)) →
      FollowsAlone did.Went m s s'
  one_passes v is given s' b does = λ u.
      take_follows m u s i (kind ∷ []) go rule k.moves.stage k.moves.here (v ∷ []) (drop 1 s.operands) is (one_of v is) [] u s' given b (λ p e c _ _. does p u e c)

-- without the topmost operand
beneath_one : (s : Shape) → Beneath s (drop 1 s.operands) (discarded 1 s)
beneath_one s = record { levels = refl; operands = refl; func = refl; stage = refl; capacity = refl }

-- with all of them
beneath_none : (s : Shape) → Beneath s s.operands s
beneath_none s = record { levels = refl; operands = refl; func = refl; stage = refl; capacity = refl }

-- what holds is kept by a branch beneath the topmost operand
pub dropped_keeps : (l : ℕ) (s s' : Shape) → IsAt l (discarded 1 s) → IsBranched l (discarded 1 s) s' → Keeps s s'
dropped_keeps l s s' at to = branch_keeps l s (discarded 1 s) s' at to (λ P h. discarded_holds P 1 s h)

-- and by one of all operands
pub all_keeps : (l : ℕ) (s s' : Shape) → IsAt l s → IsBranched l s s' → Keeps s s'
all_keeps l s s' at to = branch_keeps l s s s' at to (λ P h. h)

-- ## br

module _ (m : Module) (s : Shape) (l : ℕ) (k : MovesAlone (flat.Plain (op.Control (control.Br l))) m s) where
  -- the label is there
  pub br_there : IsAt l s
  br_there = taken_there m s (op.Control (control.Br l)) [] (branching l) (br_rule l) k [] s.operands refl tt l s.operands (λ p u e c. refl) s (beneath_none s)

  -- it branches
  pub br_follows : (s' : Shape) → IsBranched l s s' → FollowsAlone did.Went m s s'
  br_follows s' to = taken_follows m s (op.Control (control.Br l)) [] (branching l) (br_rule l) k [] s.operands refl tt l s.operands (λ p u e c. refl) s s' (beneath_none s) to

-- ## br_if

module _ (m : Module) (s : Shape) (l : ℕ) (k : MovesAlone (flat.Plain (op.Control (control.BrIf l))) m s) (v : Value) (is : s.operands ≡ v ∷ drop 1 s.operands) where
  -- the operand is a number
  pub if_of : AreOf (Number int.I32 ∷ []) (v ∷ [])
  if_of = one_of m s (op.Control (control.BrIf l)) (Number int.I32) (if_branching l) (if_rule l) k v is

  -- the label is there where it isn't 0
  pub if_there : bits_in v ≢ 0 → IsAt l (discarded 1 s)
  if_there h =
      taken_there m s (op.Control (control.BrIf l)) (Number int.I32 ∷ []) (if_branching l) (if_rule l) k (v ∷ []) (drop 1 s.operands) is if_of l (drop 1 s.operands)
      (λ p u e c. zero_taken (bits_in v) _ _ h) (discarded 1 s) (beneath_one s)

  -- then it branches beneath it
  pub if_follows : (s' : Shape) → bits_in v ≢ 0 → IsBranched l (discarded 1 s) s' → FollowsAlone did.Went m s s'
  if_follows s' h to =
      taken_follows m s (op.Control (control.BrIf l)) (Number int.I32 ∷ []) (if_branching l) (if_rule l) k (v ∷ []) (drop 1 s.operands) is if_of l (drop 1 s.operands)
      (λ p u e c. zero_taken (bits_in v) _ _ h) (discarded 1 s) s' (beneath_one s) to

  -- and else goes on
  pub if_passes : (s' : Shape) → bits_in v ≡ 0 → s' ≡ dropped 1 s → FollowsAlone did.Went m s s'
  if_passes s' h after =
      one_passes m s (op.Control (control.BrIf l)) (Number int.I32) (if_branching l) (if_rule l) k v is [] s' (dropped_behind 1 s s' after)
      (λ p u e c. zero_passed (bits_in v) _ _ h)

-- ## br_table

module _ (m : Module) (s : Shape) (ls : List ℕ) (last : ℕ) (k : MovesAlone (flat.Plain (op.Control (control.BrTable ls last))) m s) (v : Value) (is : s.operands ≡ v ∷ drop 1 s.operands)
    (l : ℕ) (chosen : l ≡ label_in (slice_get ls (bits_in v)) last) where
  -- the operand is a number
  pub table_of : AreOf (Number int.I32 ∷ []) (v ∷ [])
  table_of = one_of m s (op.Control (control.BrTable ls last)) (Number int.I32) (table_branching ls last) (table_rule ls last) k v is

  -- the label that it chooses is there
  pub table_there : IsAt l (discarded 1 s)
  table_there =
      taken_there m s (op.Control (control.BrTable ls last)) (Number int.I32 ∷ []) (table_branching ls last) (table_rule ls last) k (v ∷ []) (drop 1 s.operands) is table_of l (drop 1 s.operands)
      (λ p u e c. ap (λ (n : ℕ). branch (store_of u) n e (stack (drop 1 s.operands))) (sym chosen)) (discarded 1 s) (beneath_one s)

  -- it branches beneath it
  pub table_follows : (s' : Shape) → IsBranched l (discarded 1 s) s' → FollowsAlone did.Went m s s'
  table_follows s' to =
      taken_follows m s (op.Control (control.BrTable ls last)) (Number int.I32 ∷ []) (table_branching ls last) (table_rule ls last) k (v ∷ []) (drop 1 s.operands) is table_of l (drop 1 s.operands)
      (λ p u e c. ap (λ (n : ℕ). branch (store_of u) n e (stack (drop 1 s.operands))) (sym chosen)) (discarded 1 s) s' (beneath_one s) to

-- ## br_on_null

module _ (m : Module) (s : Shape) (l : ℕ) (k : MovesAlone (flat.Plain (op.Control (control.BrOnNull l))) m s) (v : Value) (is : s.operands ≡ v ∷ drop 1 s.operands) where
  -- the label is there where the operand is null
  pub null_there : is_null v ≡ true → IsAt l (discarded 1 s)
  null_there h =
      taken_there m s (op.Control (control.BrOnNull l)) (Any ∷ []) (null_branching l) (null_rule l) k (v ∷ []) (drop 1 s.operands) is tt l (drop 1 s.operands)
      (λ p u e c. null_one v _ _ h) (discarded 1 s) (beneath_one s)

  -- then it branches beneath it
  pub null_follows : (s' : Shape) → is_null v ≡ true → IsBranched l (discarded 1 s) s' → FollowsAlone did.Went m s s'
  null_follows s' h to =
      taken_follows m s (op.Control (control.BrOnNull l)) (Any ∷ []) (null_branching l) (null_rule l) k (v ∷ []) (drop 1 s.operands) is tt l (drop 1 s.operands)
      (λ p u e c. null_one v _ _ h) (discarded 1 s) s' (beneath_one s) to

  -- the operand is a reference
  null_reference : IsReference (val v)
  null_reference =
      let n = take_needs m k.u s (op.Control (control.BrOnNull l)) (Any ∷ []) (null_branching l) (null_rule l) k.moves in
      reference_there (val v) _ _ (n.applies (v ∷ []) (drop 1 s.operands) is tt)

  -- and else goes on, with the reference
  pub null_passes : (s' : Shape) → is_null v ≡ false → s' ≡ dropped 0 s → FollowsAlone did.Went m s s'
  null_passes s' h after =
      let b = dropped_behind 0 s s' after in
      one_passes m s (op.Control (control.BrOnNull l)) Any (null_branching l) (null_rule l) k v is (v ∷ []) s'
      (record { levels = b.levels; operands = b.operands ∙ is; func = b.func; place = b.place; stage = b.stage; capacity = b.capacity })
      (λ p u e c. null_other v _ _ h null_reference)

-- ## br_on_non_null

module _ (m : Module) (s : Shape) (l : ℕ) (k : MovesAlone (flat.Plain (op.Control (control.BrOnNonNull l))) m s) (v : Value) (is : s.operands ≡ v ∷ drop 1 s.operands) where
  -- the operand is a reference
  other_reference : IsReference (val v)
  other_reference =
      let n = take_needs m k.u s (op.Control (control.BrOnNonNull l)) (Any ∷ []) (other_branching l) (other_rule l) k.moves in
      reference_there (val v) _ _ (n.applies (v ∷ []) (drop 1 s.operands) is tt)

  -- where it isn't null the rule branches with it
  other_does : is_null v ≡ false → IsBranching (Any ∷ []) (other_branching l) m (v ∷ []) (drop 1 s.operands) l s.operands
  other_does h = λ p u e c. null_other v _ _ h other_reference ∙ ap (λ (xs : List Value). branch (store_of u) l e (stack xs)) (sym is)

  -- then the label is there
  pub other_there : is_null v ≡ false → IsAt l s
  other_there h =
      taken_there m s (op.Control (control.BrOnNonNull l)) (Any ∷ []) (other_branching l) (other_rule l) k (v ∷ []) (drop 1 s.operands) is tt l s.operands
      (other_does h) s (beneath_none s)

  -- it branches there
  pub other_follows : (s' : Shape) → is_null v ≡ false → IsBranched l s s' → FollowsAlone did.Went m s s'
  other_follows s' h to =
      taken_follows m s (op.Control (control.BrOnNonNull l)) (Any ∷ []) (other_branching l) (other_rule l) k (v ∷ []) (drop 1 s.operands) is tt l s.operands
      (other_does h) s s' (beneath_none s) to

  -- and else goes on, without the null
  pub other_passes : (s' : Shape) → is_null v ≡ true → s' ≡ dropped 1 s → FollowsAlone did.Went m s s'
  other_passes s' h after =
      one_passes m s (op.Control (control.BrOnNonNull l)) Any (other_branching l) (other_rule l) k v is [] s' (dropped_behind 1 s s' after)
      (λ p u e c. null_one v _ _ h)
