use Rattle.std.proofs.Common.{◌≡◌, ℕ, ◌-◌, ◌≤◌, ◌⊎◌, inl, inr, Bool, true, false, List, Option, Some, None, length, take, sym, ap, ◌∙◌, arith}
use Rattle.w_types.specs.declared.types.ValType.{ValType}
use Rattle.lists.specs.Rows.{Row, ε, row_of}
use Rattle.w_canon.specs.declared.entry.Entry.{Entry}
use Rattle.w_rules.specs.Operands.{Operand as TheType}
use Rattle.w_rows.specs.Operands.{row_in}
use Rattle.w_rows.specs.declared.operand.Operand.{Operand}
use Rattle.w_flow.specs.Flow.{pops}
use Rattle.w_flow.proofs.RowsOfLists.{none_there, decided}
use Rattle.w_flow.proofs.SameTypes.{none_wanted}
use Rattle.w_flow.proofs.FittingRows.{taken_below}
use Rattle.w_flow.proofs.operands.left_at_once.Goals as goal

-- what is left where no more types are wanted, or where there are no more operands and more may be made up
left_beneath : (es : List Entry) (p : Bool) (xs : List Operand) (us : List ValType) (n m : ℕ) → ((m ≡ 0 → ⊥) → n ≡ 0) → m ≤ length us →
    (m ≡ 0) ⊎ ((m ≡ 0 → ⊥) × p ≡ true) → pops es p (row_in (take n xs)) (row_of (take m us)) ≡ Some (row_in (take n xs))
left_beneath es p xs us n m a h (inl e) = none_wanted es p (row_in (take n xs)) us m e
left_beneath es p xs us n m a h (inr f) =
    let some = f.0 in
    none_there es p xs us n m (a some) (omega arith) h ∙ decided p true (Some ε) None f.1
    ∙ sym (ap (λ (k : ℕ). let o : Option (Row TheType) = Some (row_in (take k xs)) in o) (a some))

pub returns-then-any-clause-what : goal.returns-then-any-clause-what
returns-then-any-clause-what c =
    let n = length c.args.operands.now - c.min-common.result in
    let m = length c.args.types.now - c.min-common.result in
    taken_below c.args.classes.now c.args.any c.args.operands.now c.args.types.now c.args.words.wanted.now c.args.words.lengths.now n m c.requires.worded c.requires.ready.1.1.0 c.requires.ready.1.1.1 (omega arith) (c.operands_fit.ensures c.if-not-operands_fit.false)
    ∙ left_beneath c.args.classes.now c.args.any c.args.operands.now c.args.types.now n m (omega arith) (omega arith) c.if-any.either

pub returns-else-any-clause-what : goal.returns-else-any-clause-what
returns-else-any-clause-what c =
    let n = length c.args.operands.now - c.min-common.result in
    let m = length c.args.types.now - c.min-common.result in
    taken_below c.args.classes.now c.args.any c.args.operands.now c.args.types.now c.args.words.wanted.now c.args.words.lengths.now n m c.requires.worded c.requires.ready.1.1.0 c.requires.ready.1.1.1 (omega arith) (c.operands_fit.ensures c.if-not-operands_fit.false)
    ∙ none_there c.args.classes.now c.args.any c.args.operands.now c.args.types.now n m (omega arith) (omega arith) (omega arith)
    ∙ decided c.args.any false _ _ c.if-any.false.1
