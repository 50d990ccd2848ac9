-- Taking a reference, whatever it refers to.
use Rattle.std.proofs.Common.{Bool, true, false, List, Option, Some, None, refl}
use Rattle.w_types.specs.declared.types.HeapType.{HeapType}
use Rattle.w_types.specs.declared.types.RecGroup.{RecGroup}
use Rattle.w_types.specs.declared.types.ValType.TheVariants.{I32, I64, Ref}
use Rattle.lists.specs.Rows.{Row, ◌▹◌}
use Rattle.w_canon.specs.Matching.{ref}
use Rattle.w_rules.specs.Operands.{Operand}
use Rattle.w_rules.specs.Operands.{Known, Bottom, BottomRef}
use Rattle.w_rules.specs.Conditions.{Holds}
use Rattle.w_rules.specs.Matching.{OperandMatches, value, bottom, bottom_ref, bottom_refs}
use Rattle.w_rules.specs.Typing.{ref_to}
use Rattle.w_flow.specs.Flow.{Covers, pop, pop_ref, heap_of}
use Rattle.w_flow.proofs.Options.{holds_map, bind_in, bind_out, left_of}
use Rattle.w_flow.proofs.Covers.{pop_in, pop_out}

-- references to one heap type, or to bottom where that is none, match those to another
abbrev pub Below : List RecGroup → Option HeapType → Option HeapType → Type 0
Below gs g h = OperandMatches gs (ref_to false g) (ref_to false h)

module _ (gs : List RecGroup) where
  -- what matches a reference that may be null is one, to what its heap type matches
  pub heap_in : (t : Operand) (h : Option HeapType) → OperandMatches gs t (ref_to true h) → Holds (heap_of t) (λ (g : Option HeapType). Below gs g h)
  heap_in _ (Some h) (value (ref m)) = value (ref (record { nullable = λ x. x; heap = m.heap }))
  heap_in _ (Some h) bottom = bottom_ref (λ x. x)
  heap_in _ (Some h) (bottom_ref f) = bottom_ref (λ x. x)
  heap_in _ None bottom = bottom_refs (λ x. x)
  heap_in _ None (bottom_refs f) = bottom_refs (λ x. x)

  -- and such a reference matches it
  pub heap_out : (t : Operand) (h : Option HeapType) → Holds (heap_of t) (λ (g : Option HeapType). Below gs g h) → OperandMatches gs t (ref_to true h)
  heap_out Bottom h k = bottom
  heap_out (BottomRef n) (Some h) k = bottom_ref (λ x. refl)
  heap_out (BottomRef n) None k = bottom_refs (λ x. refl)
  heap_out (Known (Ref r)) (Some h) (value (ref m)) = value (ref (record { nullable = λ x. refl; heap = m.heap }))
  heap_out (Known (Ref r)) None k = elim k [ ]
  heap_out (Known I32) h k = absurd k
  heap_out (Known I64) h k = absurd k

  -- what lies beneath the reference that is taken
  pub pop_ref_in : (p : Bool) (ts : Row Operand) (h : Option HeapType) (rest : Row Operand) → Covers gs p ts (rest ▹ ref_to true h) →
      Holds (pop_ref p ts) (λ (r : Row Operand × Option HeapType). Covers gs p r.0 rest × Below gs r.1 h)
  pop_ref_in p ts h rest c =
      bind_in (pop p ts) _ _ (holds_map (pop p ts) (λ (r : Row Operand × Operand). Covers gs p r.0 rest × OperandMatches gs r.1 (ref_to true h)) _
      (pop_in gs p ts (ref_to true h) rest c)
      (λ r k. bind_in (heap_of r.1) _ _ (holds_map (heap_of r.1) (λ (g : Option HeapType). Below gs g h) _ (heap_in r.1 h k.1) (λ g l. (k.0, l)))))

  -- and back
  pub pop_ref_out : (p : Bool) (ts : Row Operand) (h : Option HeapType) (rest : Row Operand) →
      Holds (pop_ref p ts) (λ (r : Row Operand × Option HeapType). Covers gs p r.0 rest × Below gs r.1 h) → Covers gs p ts (rest ▹ ref_to true h)
  pop_ref_out p ts h rest c =
      pop_out gs p ts (ref_to true h) rest (holds_map (pop p ts) _ _
      (bind_out (pop p ts) _ (λ (r : Row Operand × Option HeapType). Covers gs p r.0 rest × Below gs r.1 h) c)
      (λ r k.
      let d : Holds (heap_of r.1) (λ (g : Option HeapType). Below gs g h × Covers gs p r.0 rest) =
      holds_map (heap_of r.1) _ _ (bind_out (heap_of r.1) _ (λ (q : Row Operand × Option HeapType). Covers gs p q.0 rest × Below gs q.1 h) k) (λ g l. (l.1, l.0)) in
      let l = left_of (heap_of r.1) (λ (g : Option HeapType). Below gs g h) (Covers gs p r.0 rest) d in
      (l.1, heap_out r.1 h l.0)))
