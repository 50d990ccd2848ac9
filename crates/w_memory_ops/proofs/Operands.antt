-- Where an instruction's operands are there, its rule applies to them.
use Rattle.std.proofs.Common.{◌≡◌, ℕ, List, ◌++◌, length, take, drop, sym, ap, ◌∙◌, subst}
use Rattle.std.specs.Prelude.{◌≢◌}
use Rattle.std.proofs.lemmas.List.{take-append-drop, length-take-le}
use Rattle.w_types.specs.declared.value.Value.{Value}
use Rattle.w_syntax.specs.declared.module.Module.{Module}
use Rattle.w_segment.specs.Shape.{Shape}
use Rattle.w_tables.specs.Store as instances
use Rattle.w_reduce.specs.Reduced.{Stuck}
use Rattle.w_stands.specs.Values.{stack, store_of}
use Rattle.w_stands.specs.Taking.{Kind, Going, Taken, taken_of}
use Rattle.w_stands.proofs.NextInstructions.{Needs}

-- some operands, as the rule sees them, with which it applies
pub record Applies (m : Module) (u : instances.Store) (s : Shape) (ks : List Kind) (go : Going) (n : Needs m u s ks go) : Type 0 where
  pub seen : List Taken
  pub rest : List Value
  pub applies : go n.p (store_of u) n.e n.c seen (stack rest) ≢ Stuck

-- those that are there
pub on_operands : (m : Module) (u : instances.Store) (s : Shape) (ks : List Kind) (go : Going) (n : Needs m u s ks go) → Applies m u s ks go n
on_operands m u s ks go n =
    let args = take (length ks) s.operands in
    let rest = drop (length ks) s.operands in
    let is : s.operands ≡ args ++ rest = sym (take-append-drop (length ks) s.operands) in
    let long : length args ≡ length ks = length-take-le (length ks) s.operands n.some in
    record { seen = taken_of ks args; rest = rest; applies = n.applies args rest is (n.of args rest is long) }

-- an operation on bits that were read
pub by_three : {A : Type 0} (g : ℕ → ℕ → ℕ → A) {a b n a' b' n' : ℕ} {r : A} → a' ≡ a → b' ≡ b → n' ≡ n → g a' b' n' ≡ r → g a b n ≡ r
by_three g {a} {b} {n} {a'} {b'} {n'} e h k l = sym (ap (λ (x : ℕ). g x b' n') e ∙ ap (λ (x : ℕ). g a x n') h ∙ ap (g a b) k) ∙ l

-- a fact of bits that were read
pub of_three : (P : ℕ → ℕ → ℕ → Type 0) {a b n a' b' n' : ℕ} → a' ≡ a → b' ≡ b → n' ≡ n → P a' b' n' → P a b n
of_three P {a} {b} {n} {a'} {b'} {n'} e h k p = subst (λ (x : ℕ). P a b x) k (subst (λ (x : ℕ). P a x n') h (subst (λ (x : ℕ). P x b' n') e p))
