-- The rows that operands stand for, and how taking and giving operands changes them.
use Rattle.std.proofs.Common.{Bool, true, false, List, Some, IsTrue, if◌then◌else◌, refl}
use Rattle.w_types.specs.declared.types.RecGroup.{RecGroup}
use Rattle.w_types.specs.declared.types.ValType.{ValType}
use Rattle.w_types.specs.declared.types.ValType.TheVariants.{I32, I64, Ref}
use Rattle.lists.specs.Rows.{Row, ε, ◌▹◌, ◌⧺◌}
use Rattle.w_canon.specs.declared.entry.Entry.{Entry}
use Rattle.w_canon.specs.Supertypes.{KeepsKinds}
use Rattle.w_canon.proofs.MatchingTests.{val_decided}
use Rattle.w_rules.specs.Operands.{Operand}
use Rattle.w_rules.specs.Operands.{Known, Bottom, BottomRef}
use Rattle.w_rules.specs.Conditions.{Holds}
use Rattle.w_rules.specs.Matching.{OperandMatches, value, bottom, bottom_ref, RowMatches, none, more, known}
use Rattle.w_rules.specs.Typing.{HasType}
use Rattle.w_rules.specs.View.{AreClasses}
use Rattle.w_rules.proofs.Preorder.{operand_refl, operand_trans, row_refl}
use Rattle.w_flow.specs.Flow.{Covers, operand_test, pops, pop}
use Rattle.w_flow.proofs.Options.{guard_in, guard_out, holds_map, with_value}

-- ## What operands stand for

-- where more may lie beneath, no operands stand for each row
pub any_covers : (gs : List RecGroup) (p : Bool) → IsTrue p → (us : Row Operand) → Covers gs p ε us
any_covers gs p h ε = tt
any_covers gs p h (us ▹ u) = h

-- operands stand for themselves
pub covers_refl : (gs : List RecGroup) (p : Bool) (ts : Row Operand) → Covers gs p ts ts
covers_refl gs p ε = tt
covers_refl gs p (ts ▹ t) = (covers_refl gs p ts, operand_refl gs t)

-- and for each row that matches one that they stand for
pub covers_trans : (gs : List RecGroup) → KeepsKinds gs → (p : Bool) (ts us vs : Row Operand) → Covers gs p ts us → RowMatches gs us vs → Covers gs p ts vs
covers_trans gs keeps p ts _ _ h none = h
covers_trans gs keeps p ε _ _ h (more r k) = h
covers_trans gs keeps p (ts ▹ t) _ _ h (more {ts = us} {us = vs} {t = u} {u = v} r k) = (covers_trans gs keeps p ts us vs h.0 r, operand_trans gs keeps t u v h.1 k)

-- ## The test of an operand

-- the test of a reference to the bottom heap type
null_found : (n m : Bool) → IsTrue (if n then m else true) → IsTrue n → IsTrue m
null_found true m h k = h
null_found false m h k = absurd (cc)

module _ (gs : List RecGroup) (es : List Entry) (s : AreClasses gs es) where
  -- an operand that passes the test matches
  pub operand_found : (t : Operand) (u : ValType) → IsTrue (operand_test es t u) → OperandMatches gs t (Known u)
  operand_found (Known t) u h = value ((val_decided gs es s.classes t u).0 h)
  operand_found Bottom u h = bottom
  operand_found (BottomRef true) (Ref r) h = bottom_ref (λ k. h)
  operand_found (BottomRef false) (Ref r) h = bottom_ref (λ k. absurd (cc))
  operand_found (BottomRef n) I32 h = absurd (cc)
  operand_found (BottomRef n) I64 h = absurd (cc)

  -- an operand that matches passes the test
  pub operand_holds : (t : Operand) (u : ValType) → OperandMatches gs t (Known u) → IsTrue (operand_test es t u)
  operand_holds _ _ (value {t} {u} h) = (val_decided gs es s.classes t u).1 h
  operand_holds _ u bottom = refl
  operand_holds _ _ (bottom_ref {n = true} f) = f refl
  operand_holds _ _ (bottom_ref {n = false} f) = refl

  -- ## Taking operands

  -- what lies beneath the types taken is what is left
  pub pops_in : (p : Bool) (ts : Row Operand) (a : Row ValType) (rest : Row Operand) → Covers gs p ts (rest ⧺ known a) →
      Holds (pops es p ts a) (λ (w : Row Operand). Covers gs p w rest)
  pops_in p ts ε rest h = h
  pops_in p ε (us ▹ u) rest h = guard_in p (pops es p ε us) _ h (pops_in p ε us rest (any_covers gs p h (rest ⧺ known us)))
  pops_in p (ts ▹ t) (us ▹ u) rest h =
      guard_in (operand_test es t u) (pops es p ts us) _ (operand_holds t u h.1) (pops_in p ts us rest h.0)

  -- and what lies beneath what is left, beneath the types taken
  pub pops_out : (p : Bool) (ts : Row Operand) (a : Row ValType) (rest : Row Operand) →
      Holds (pops es p ts a) (λ (w : Row Operand). Covers gs p w rest) → Covers gs p ts (rest ⧺ known a)
  pops_out p ts ε rest h = h
  pops_out p ε (us ▹ u) rest h = (guard_out p (pops es p ε us) _ h).0
  pops_out p (ts ▹ t) (us ▹ u) rest h =
      let g = guard_out (operand_test es t u) (pops es p ts us) (λ (w : Row Operand). Covers gs p w rest) h in
      (pops_out p ts us rest g.1, operand_found t u g.0)

-- what lies beneath the topmost operand, whatever it is
pub pop_in : (gs : List RecGroup) (p : Bool) (ts : Row Operand) (u : Operand) (rest : Row Operand) → Covers gs p ts (rest ▹ u) →
    Holds (pop p ts) (λ (r : Row Operand × Operand). Covers gs p r.0 rest × OperandMatches gs r.1 u)
pop_in gs p ε u rest h = guard_in p (Some (ε, Bottom)) _ h (any_covers gs p h rest, bottom)
pop_in gs p (ts ▹ t) u rest h = h

-- and back
pub pop_out : (gs : List RecGroup) (p : Bool) (ts : Row Operand) (u : Operand) (rest : Row Operand) →
    Holds (pop p ts) (λ (r : Row Operand × Operand). Covers gs p r.0 rest × OperandMatches gs r.1 u) → Covers gs p ts (rest ▹ u)
pop_out gs p ε u rest h =
    (guard_out p (Some (ε, Bottom)) (λ (r : Row Operand × Operand). Covers gs p r.0 rest × OperandMatches gs r.1 u) h).0
pop_out gs p (ts ▹ t) u rest h = h

-- ## Giving operands

-- operands with others at their right stand for what rows that they stand for and these others match
pub push_in : (gs : List RecGroup) → KeepsKinds gs → (p : Bool) (ts b rest us : Row Operand) → Covers gs p ts rest → RowMatches gs (rest ⧺ b) us →
    Covers gs p (ts ⧺ b) us
push_in gs keeps p ts ε rest us h m = covers_trans gs keeps p ts rest us h m
push_in gs keeps p ts (b ▹ t) rest _ h (more {us} r k) = (push_in gs keeps p ts b rest us h r, k)

-- and each row that they stand for is such a one
pub push_out : (gs : List RecGroup) (p : Bool) (ts b us : Row Operand) → Covers gs p (ts ⧺ b) us →
    (rest : Row Operand) × Covers gs p ts rest × RowMatches gs (rest ⧺ b) us
push_out gs p ts ε us h = (us, h, row_refl gs us)
push_out gs p ts (b ▹ t) ε h = absurd h
push_out gs p ts (b ▹ t) (us ▹ u) h =
    let r = push_out gs p ts b us h.0 in
    (r.0, r.1, more r.2 h.1)

-- ## Taking and giving

module _ (gs : List RecGroup) (es : List Entry) (s : AreClasses gs es) where
  -- operands that are given where others were taken stand for what [a] to [b] leads to
  pub steps_in : (p : Bool) (ts : Row Operand) (a : Row ValType) (b vs us : Row Operand) → Covers gs p ts vs → HasType gs (known a) b vs us →
      Holds (pops es p ts a) (λ (w : Row Operand). Covers gs p (w ⧺ b) us)
  steps_in p ts a b vs us h t =
      holds_map (pops es p ts a) (λ (w : Row Operand). Covers gs p w t.beneath) _
      (pops_in gs es s p ts a t.beneath (covers_trans gs s.keeps p ts vs (t.beneath ⧺ known a) h t.takes))
      (λ w k. push_in gs s.keeps p w b t.beneath us k t.gives)

  -- and each row that they stand for is one that [a] to [b] leads to
  pub steps_out : (p : Bool) (ts : Row Operand) (a : Row ValType) (b us : Row Operand) →
      Holds (pops es p ts a) (λ (w : Row Operand). Covers gs p (w ⧺ b) us) → (vs : Row Operand) × Covers gs p ts vs × HasType gs (known a) b vs us
  steps_out p ts a b us h =
      with_value (pops es p ts a) (λ (w : Row Operand). Covers gs p (w ⧺ b) us) _ h (λ w k e.
      let r = push_out gs p w b us k in (
        r.0 ⧺ known a,
        pops_out gs es s p ts a r.0 (rw e r.1),
        record { beneath = r.0; takes = row_refl gs (r.0 ⧺ known a); gives = r.2 },
      ))
