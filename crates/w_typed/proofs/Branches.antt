-- Branches, returns and exits of typed configurations.
use Rattle.std.proofs.Common.{◌≡◌, ◌≤◌, ◌+◌, ℕ, zero, suc, Bool, true, nat_eq, List, Some, None, slice_get, refl, sym, ap, subst, ◌∙◌, arith}
use Rattle.std.proofs.lemmas.Bool.{eq-eqb}
use Rattle.w_types.specs.declared.types.ValType.{ValType}
use Rattle.lists.specs.Rows.{Row, ◌⧺◌, size}
use Rattle.w_syntax.specs.declared.module.Module.{Module}
use Rattle.w_canon.specs.Supertypes.{KeepsKinds}
use Rattle.w_rules.specs.Matching.{known}
use Rattle.w_rules.specs.Operands.{Operand}
use Rattle.w_rules.proofs.Preorder.{row_size}
use Rattle.w_reduce.specs.Values.{Val}
use Rattle.w_reduce.specs.Store.{Store}
use Rattle.w_reduce.specs.Terms.{Context}
use Rattle.w_reduce.specs.Branches.{branch, returns}
use Rattle.w_reduce.specs.Exits.{leave}
use Rattle.w_typed.specs.Values.{Arrows, ValuesTyped, no_values, values}
use Rattle.w_typed.specs.Stores.{StoreTyped}
use Rattle.w_reduce.specs.Room.{most_operands}
use Rattle.w_typed.specs.Contexts.{Scope, code_alone, Within, outside, label, frame, handle}
use Rattle.w_typed.specs.Configurations.{IsSafe, ends}
use Rattle.w_typed.proofs.Subsumption.{values_sub, values_beside}
use Rattle.w_typed.proofs.TypedOperands.{values_taken}
use Rattle.w_typed.proofs.Low.{size_beside, size_known, reached}
use Rattle.w_typed.proofs.Onward.{goes_on}

-- values are as many as their types
pub values_size : (m : Module) {K : Arrows} {vs : Row Val} {ts : Row Operand} → ValuesTyped m K vs ts → size vs ≡ size ts
values_size m no_values = refl
values_size m (values h v) = ap suc (values_size m h)

module _ (m : Module) {K : Arrows} (us : Row Operand) where
  -- a branch finds its label, with what that takes
  pub branch_safe : (l : ℕ) {s : Store} {e : Context} {vs : Row Val} {c : Scope} {now : List Bool} {out : Row Operand} (beneath : Row Operand) (taken : Row ValType)
      → StoreTyped m K s → slice_get c.labels l ≡ Some taken → ((c.results ≡ None → ⊥) → c.base + size taken ≤ most_operands m c.function)
      → ValuesTyped m K vs (beneath ⧺ known taken) → Within m K us e c now out → IsSafe m K us (branch s l e vs)
  branch_safe l beneath taken u is room v (outside r) = absurd (cc)
  branch_safe zero {vs = vs} beneath taken u is room v (label {n = n} {taken = own} under r size_is h again k still w) =
      let same : taken ≡ own = cc in
      let low = values_size m h in
      let all = size_beside under (known own) in
      let few = size_known own in
      let as_many = ap (λ (z : Row ValType). size z) same in
      values_taken m us n vs beneath (known own) _ (size_is ∙ sym (size_known own)) (subst (λ (z : Row ValType). ValuesTyped m K vs (beneath ⧺ known z)) same v)
      (λ below args b a. goes_on m us u still (values_beside m h a) (code_alone (reached m (λ inside. let fits = room inside in omega (arith, fits, low, all, few, as_many)) again)) w)
  branch_safe (suc l) beneath taken u is room v (label under r size_is h again k still w) =
      branch_safe l beneath taken u is (λ inside. let fits = room inside in omega (arith, fits)) v w
  branch_safe l beneath taken u is room v (frame under f r size_is ls h k still w) = absurd (cc)
  branch_safe l beneath taken u is room v (handle results under r hs tops h k still w) = absurd (cc)

  -- a return finds its frame, with the function's results
  pub returns_safe : {s : Store} {e : Context} {vs : Row Val} {c : Scope} {now : List Bool} {out : Row Operand} (beneath : Row Operand) (taken : Row ValType)
      → StoreTyped m K s → c.results ≡ Some taken → ValuesTyped m K vs (beneath ⧺ known taken) → Within m K us e c now out → IsSafe m K us (returns s e vs)
  returns_safe beneath taken u is v (outside r) = absurd (cc)
  returns_safe beneath taken u is v (label under r size_is h again k still w) = returns_safe beneath taken u is v w
  returns_safe beneath taken u is v (handle results under r hs tops h k still w) = absurd (cc)
  returns_safe {vs = vs} beneath taken u is v (frame {n = n} {results = own} under f r size_is ls h k still w) =
      let same : taken ≡ own = cc in
      values_taken m us n vs beneath (known own) _ (size_is ∙ sym (size_known own)) (subst (λ (z : Row ValType). ValuesTyped m K vs (beneath ⧺ known z)) same v)
      (λ below args b a. goes_on m us u still (values_beside m h a) k w)

module _ (m : Module) (keeps : KeepsKinds m.types) {K : Arrows} (us : Row Operand) where
  -- at the end of a sequence its values leave the label, the frame or the handle, or are the results
  pub leave_safe : {s : Store} {e : Context} {vs : Row Val} {c : Scope} {now : List Bool} {out : Row Operand} → StoreTyped m K s
      → ((c.results ≡ None → ⊥) → c.base + size out ≤ most_operands m c.function) → ValuesTyped m K vs out
      → Within m K us e c now out → IsSafe m K us (leave s e vs)
  leave_safe u room v (outside r) = ends (values_sub m keeps r v)
  leave_safe {out = out} u room v (label {given = given} under r size_is h again k still w) =
      let low = values_size m h in
      let all = size_beside under given in
      let as_many = row_size m.types out given r in
      goes_on m us u still (values_beside m h (values_sub m keeps r v)) (code_alone (reached m (λ inside. let fits = room inside in omega (arith, fits, low, all, as_many)) k)) w
  leave_safe u room v (handle results under r hs tops h k still w) = goes_on m us u still (values_beside m h (values_sub m keeps r v)) (code_alone k) w
  leave_safe {vs = vs} {out = out} u room v (frame {n = n} {results = own} under f r size_is ls h k still w) =
      let e : nat_eq (size vs) n ≡ true = subst (λ (z : ℕ). nat_eq (size vs) z ≡ true) (values_size m v ∙ row_size m.types out (known own) r ∙ size_known own ∙ sym size_is) (eq-eqb (size vs) (size vs) refl) in
      rw e (goes_on m us u still (values_beside m h (values_sub m keeps r v)) k w)
