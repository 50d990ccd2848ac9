-- Types that take one operand after another, and another operand in the place of the topmost.
use Rattle.std.proofs.Common.{◌≡◌, Bool, true, false, List, [], ◌∷◌, ◌++◌, Option, Some, None, if◌then◌else◌, refl, sym, ◌∙◌, ap}
use Rattle.w_types.specs.declared.types.ValType.{ValType}
use Rattle.lists.specs.Rows.{Row, ε, ◌▹◌, ◌⧺◌}
use Rattle.w_canon.specs.declared.entry.Entry.{Entry}
use Rattle.w_rules.specs.Operands.{Operand as TheType, Known}
use Rattle.w_rules.specs.InstructionTypes.{fixed}
use Rattle.w_rules.specs.Matching.{known}
use Rattle.w_rows.specs.Operands.{type_of, row_in}
use Rattle.w_rows.specs.declared.operand.Operand.{Operand}
use Rattle.w_rows.proofs.WordedOperands.{row_pushed}
use Rattle.w_flow.specs.Flow.{Flow, ◌>>=◌, operand_test, pops, step}

-- ## The topmost operand

module _ (es : List Entry) (p : Bool) (old : List Operand) (t u : ValType) where
  -- a step that takes it and gives another, by its test
  by_test : (b : Bool) (rest : List Operand) (top : Operand) → old ≡ rest ++ top ∷ [] → operand_test es (type_of top) t ≡ b →
      step es (fixed (ε ▹ t) (ε ▹ u)) p (row_in old)
      ≡ ((if b then Some (row_in rest) else None) >>= λ r. Some (record { any = p; operands = r ▹ Known u }))
  by_test b rest top at e =
      ap (λ (r : Row TheType). step es (fixed (ε ▹ t) (ε ▹ u)) p r) (row_pushed rest old top at)
      ∙ ap (λ (c : Bool). (if c then Some (row_in rest) else None) >>= λ r. Some (record { any = p; operands = r ▹ Known u })) e

  -- where it does not pass
  pub turns_none : (rest : List Operand) (top : Operand) → old ≡ rest ++ top ∷ [] → operand_test es (type_of top) t ≡ false →
      step es (fixed (ε ▹ t) (ε ▹ u)) p (row_in old) ≡ None
  turns_none rest top at e = by_test false rest top at e

  -- where it passes, another stands in its place
  pub turns_some : (rest new : List Operand) (top x : Operand) → old ≡ rest ++ top ∷ [] → operand_test es (type_of top) t ≡ true →
      new ≡ rest ++ x ∷ [] → type_of x ≡ Known u → step es (fixed (ε ▹ t) (ε ▹ u)) p (row_in old) ≡ Some (record { any = p; operands = row_in new })
  turns_some rest new top x at e now k =
      by_test true rest top at e
      ∙ ap (λ (r : Row TheType). Some (record { any = p; operands = r })) (sym (row_pushed rest new x now ∙ ap (λ (v : TheType). row_in rest ▹ v) k))

  -- where there is none, one is made up
  pub turns_made : old ≡ [] → p ≡ true → step es (fixed (ε ▹ t) (ε ▹ u)) p (row_in old) ≡ step es (fixed ε (ε ▹ u)) p (row_in old)
  turns_made none any =
      ap (λ (xs : List Operand). step es (fixed (ε ▹ t) (ε ▹ u)) p (row_in xs)) none
      ∙ ap (λ (b : Bool). (if b then Some ε else None) >>= λ r. Some (record { any = p; operands = r ▹ Known u })) any
      ∙ ap (λ (xs : List Operand). step es (fixed ε (ε ▹ u)) p (row_in xs)) (sym none)

-- ## One operand after another

module _ (es : List Entry) (p : Bool) where
  -- the others are taken from what the topmost leaves
  pops_more : (ts : Row TheType) (us : Row ValType) (u : ValType) → pops es p ts (us ▹ u) ≡ (pops es p ts (ε ▹ u) >>= λ rest. pops es p rest us)
  pops_more ε us u = by p refl
    where
      by : (b : Bool) → b ≡ p → (if b then pops es p ε us else None) ≡ ((if b then Some ε else None) >>= λ rest. pops es p rest us)
      by true e = refl
      by false e = refl
  pops_more (ts ▹ t) us u = by (operand_test es t u)
    where
      by : (b : Bool) → (if b then pops es p ts us else None) ≡ ((if b then Some ts else None) >>= λ rest. pops es p rest us)
      by true = refl
      by false = refl

  taken_first : (o : Option (Row TheType)) (w : Flow) → (o >>= λ rest. Some (record { any = p; operands = rest })) ≡ Some w → (w.any ≡ p) × (o ≡ Some w.operands)
  taken_first None w e = absurd (cc)
  taken_first (Some rest) w e =
      let same : record { any = p; operands = rest } ≡ w = cc in
      (ap (λ (f : Flow). f.any) (sym same), ap (λ (f : Flow). Some f.operands) same)

  -- a step, where the topmost operand is taken
  pub below : (ts : Row TheType) (us outs : Row ValType) (u : ValType) (w : Flow) → step es (fixed (ε ▹ u) ε) p ts ≡ Some w →
      step es (fixed (us ▹ u) outs) p ts ≡ step es (fixed us outs) w.any w.operands
  below ts us outs u w e =
      let first = taken_first (pops es p ts (ε ▹ u)) w e in
      ap (λ (o : Option (Row TheType)). o >>= λ (r : Row TheType). Some (record { any = p; operands = r ⧺ known outs }))
      (pops_more ts us u ∙ ap (λ (o : Option (Row TheType)). o >>= λ (r : Row TheType). pops es p r us) first.1)
      ∙ ap (λ (b : Bool). step es (fixed us outs) b w.operands) (sym first.0)

  not_taken : (o : Option (Row TheType)) → ◌≡◌ {A = Option Flow} (o >>= λ rest. Some (record { any = p; operands = rest })) None → o ≡ None
  not_taken None e = refl
  not_taken (Some rest) e = absurd (cc)

  -- nor is there one where it can't be taken
  pub none_below : (ts : Row TheType) (us outs : Row ValType) (u : ValType) → step es (fixed (ε ▹ u) ε) p ts ≡ None → step es (fixed (us ▹ u) outs) p ts ≡ None
  none_below ts us outs u e =
      ap (λ (o : Option (Row TheType)). o >>= λ (r : Row TheType). Some (record { any = p; operands = r ⧺ known outs }))
      (pops_more ts us u ∙ ap (λ (o : Option (Row TheType)). o >>= λ (r : Row TheType). pops es p r us) (not_taken (pops es p ts (ε ▹ u)) e))
