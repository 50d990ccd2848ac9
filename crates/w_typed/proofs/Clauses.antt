-- Handles and their clauses: what is found of them.
use Rattle.std.proofs.Common.{◌≡◌, ℕ, Bool, true, false, nat_eq, if◌then◌else◌, All, List, [], ◌∷◌, Option, Some, None, refl, subst}
use Rattle.std.proofs.lemmas.Bool.{eqb-true}
use Rattle.std.proofs.lemmas.List.Elements.{All-head, All-tail}
use Rattle.w_types.specs.declared.types.ValType.{ValType}
use Rattle.w_syntax.specs.declared.instructions.Clause.{Clause}
use Rattle.w_syntax.specs.declared.instructions.Clause.TheVariants as clause
use Rattle.w_syntax.specs.declared.module.Module.{Module}
use Rattle.w_rules.specs.Conditions.{ClauseTyped, LabelClauseTyped, SwitchClauseTyped}
use Rattle.w_rules.specs.Context as rules
use Rattle.w_rules.specs.Operands.{Operand}
use Rattle.lists.specs.Rows.{Row}
use Rattle.w_reduce.specs.Reduced.{Reduced}
use Rattle.w_reduce.specs.Terms.{Context}
use Rattle.w_reduce.specs.Handlers.{Handler, label_clause, has_switch, switch_clause, find, IsInnermost}
use Rattle.w_reduce.proofs.InnermostHandle.{finding}
use Rattle.w_reduce.specs.Switching.{or_unhandled}
use Rattle.w_typed.specs.Values.{Arrows}
use Rattle.w_typed.specs.Configurations.{IsSafe, traps}

module _ (c : rules.Context) (results : List ValType) where
  -- the first clause that fits, or a later one
  first_label : (x e l l' : ℕ) (hs : List Clause) (b : Bool) → nat_eq x e ≡ b → (if b then Some l' else label_clause e hs) ≡ Some l
      → LabelClauseTyped c results x l' → (label_clause e hs ≡ Some l → LabelClauseTyped c results e l) → LabelClauseTyped c results e l
  first_label x e l l' hs true q is here later =
      let same : l' ≡ l = cc in
      subst (λ (y : ℕ). LabelClauseTyped c results y l) (eqb-true x e q) (subst (λ (n : ℕ). LabelClauseTyped c results x n) same here)
  first_label x e l l' hs false q is here later = later is

  -- the clause (on e l) that is found
  pub label_found : (e l : ℕ) (hs : List Clause) → All (ClauseTyped c results) hs → label_clause e hs ≡ Some l → LabelClauseTyped c results e l
  label_found e l [] h is = absurd (cc)
  label_found e l (clause.Label x n ∷ hs) h is =
      first_label x e l n hs (nat_eq x e) refl is (All-head (ClauseTyped c results) (clause.Label x n) hs h)
      (label_found e l hs (All-tail (ClauseTyped c results) (clause.Label x n) hs h))
  label_found e l (clause.Switch x ∷ hs) h is = label_found e l hs (All-tail (ClauseTyped c results) (clause.Switch x) hs h) is

  -- the same of a clause (on e switch)
  first_switch : (x e : ℕ) (hs : List Clause) (b : Bool) → nat_eq x e ≡ b → (if b then true else has_switch e hs) ≡ true → SwitchClauseTyped c results x
      → (has_switch e hs ≡ true → SwitchClauseTyped c results e) → SwitchClauseTyped c results e
  first_switch x e hs true q is here later = subst (λ (y : ℕ). SwitchClauseTyped c results y) (eqb-true x e q) here
  first_switch x e hs false q is here later = later is

  -- where there is one, it is typed
  switch_there : (e : ℕ) (hs : List Clause) → All (ClauseTyped c results) hs → has_switch e hs ≡ true → SwitchClauseTyped c results e
  switch_there e [] h is = absurd (cc)
  switch_there e (clause.Label x n ∷ hs) h is = switch_there e hs (All-tail (ClauseTyped c results) (clause.Label x n) hs h) is
  switch_there e (clause.Switch x ∷ hs) h is =
      first_switch x e hs (nat_eq x e) refl is (All-head (ClauseTyped c results) (clause.Switch x) hs h)
      (switch_there e hs (All-tail (ClauseTyped c results) (clause.Switch x) hs h))

  -- a test that has a value holds
  switch_if : (b : Bool) (u : Unit {0}) → (if b then Some tt else None) ≡ Some u → b ≡ true
  switch_if true u is = refl
  switch_if false u is = absurd (cc)

  -- the clause (on e switch) that is found
  pub switch_found : (e : ℕ) (hs : List Clause) (u : Unit {0}) → All (ClauseTyped c results) hs → switch_clause e hs ≡ Some u → SwitchClauseTyped c results e
  switch_found e hs u h is = switch_there e hs h (switch_if (has_switch e hs) u is)

module _ (m : Module) {K : Arrows} (us : Row Operand) {A : Type 0} where
  -- there is a handle, or there is none, which traps
  handled_or : (x : ℕ) (o : Option (Handler A)) (go : Handler A → Reduced) → ((h : Handler A) → o ≡ Some h → IsSafe m K us (go h))
      → IsSafe m K us (or_unhandled x o go)
  handled_or x None go f = traps
  handled_or x (Some h) go f = f h refl

  -- the innermost handle that answers is found, or none is, which traps
  pub handle_found : (x : ℕ) (answer : List Clause → Option A) (e : Context) (go : Handler A → Reduced)
      → ((h : Handler A) → IsInnermost answer e h → IsSafe m K us (go h)) → IsSafe m K us (or_unhandled x (find answer e) go)
  handle_found x answer e go f = handled_or x (find answer e) go (λ h is. f h ((finding A answer e h).0 is))
