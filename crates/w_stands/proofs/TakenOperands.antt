-- Operands of some kinds that a rule takes: they are there, and it goes on with them.
use Rattle.std.proofs.Common.{◌≡◌, List, [], ◌∷◌, ◌++◌, length, refl, ap, ◌∙◌, subst}
use Rattle.std.specs.Prelude.{◌≢◌}
use Rattle.lists.specs.Rows.{Row}
use Rattle.w_types.specs.declared.value.Value.{Value}
use Rattle.w_reduce.specs.Values.{Val, val}
use Rattle.w_reduce.specs.Reduced.{Reduced, Stuck}
use Rattle.w_stands.specs.Numbers.{IsNumber, bits_in}
use Rattle.w_stands.specs.Values.{stack}
use Rattle.w_stands.specs.Taking.{Kind, Number, Any, Taken, Bits, Is, taking, AreOf, taken_of}
use Rattle.w_stands.proofs.Numbers.{number_there, number_taken, number_top}

pub record TakesAll (ks : List Kind) (vs : List Value) : Type 0 where
  pub args : List Value
  pub rest : List Value
  pub is : vs ≡ args ++ rest
  pub of : AreOf ks args

pub all_there : (ks : List Kind) (vs : List Value) (go : List Taken → Row Val → Reduced) → taking ks (stack vs) go ≢ Stuck → TakesAll ks vs
all_there [] vs go h = record { args = []; rest = vs; is = refl; of = tt }
all_there (Number t ∷ ks) vs go h =
    let n = number_there t vs (λ q. taking ks q.0 (λ xs rest. go (Bits q.1 ∷ xs) rest)) h in
    let k : taking ks (stack n.rest) (λ xs rest. go (Bits (bits_in n.top) ∷ xs) rest) ≢ Stuck =
    λ e. h (number_taken t vs (λ q. taking ks q.0 (λ xs rest. go (Bits q.1 ∷ xs) rest)) n ∙ e) in
    let r = all_there ks n.rest (λ xs rest. go (Bits (bits_in n.top) ∷ xs) rest) k in
    record { args = n.top ∷ r.args; rest = r.rest; is = n.is ∙ ap (λ (l : List Value). n.top ∷ l) r.is; of = (n.number, r.of) }
all_there (Any ∷ ks) [] go h = absurd (h refl)
all_there (Any ∷ ks) (v ∷ vs) go h =
    let r = all_there ks vs (λ xs rest. go (Is (val v) ∷ xs) rest) h in
    record { args = v ∷ r.args; rest = r.rest; is = ap (λ (l : List Value). v ∷ l) r.is; of = r.of }

-- the rule goes on with what it sees of them
pub all_taken : (ks : List Kind) (args rest : List Value) (go : List Taken → Row Val → Reduced) → AreOf ks args →
    taking ks (stack (args ++ rest)) go ≡ go (taken_of ks args) (stack rest)
all_taken [] [] rest go h = refl
all_taken [] (v ∷ vs) rest go h = absurd h
all_taken (Number t ∷ ks) [] rest go h = absurd h
all_taken (Any ∷ ks) [] rest go h = absurd h
all_taken (Number t ∷ ks) (v ∷ vs) rest go h =
    number_top t v (vs ++ rest) (λ q. taking ks q.0 (λ xs r. go (Bits q.1 ∷ xs) r)) h.0 ∙ all_taken ks vs rest (λ xs r. go (Bits (bits_in v) ∷ xs) r) h.1
all_taken (Any ∷ ks) (v ∷ vs) rest go h = all_taken ks vs rest (λ xs r. go (Is (val v) ∷ xs) r) h

-- as many of the operands, told in another way, are of the same kinds
pub all_of : (ks : List Kind) (args rest args' rest' : List Value) → args ++ rest ≡ args' ++ rest' → length args' ≡ length ks → AreOf ks args → AreOf ks args'
all_of [] [] rest [] rest' e l h = tt
all_of [] [] rest (w ∷ ws) rest' e l h = absurd cc
all_of [] (v ∷ vs) rest args' rest' e l h = absurd h
all_of (Number t ∷ ks) [] rest args' rest' e l h = absurd h
all_of (Any ∷ ks) [] rest args' rest' e l h = absurd h
all_of (Number t ∷ ks) (v ∷ vs) rest [] rest' e l h = absurd cc
all_of (Any ∷ ks) (v ∷ vs) rest [] rest' e l h = absurd cc
all_of (Number t ∷ ks) (v ∷ vs) rest (w ∷ ws) rest' e l h =
    let top : v ≡ w = cc in
    let beneath : vs ++ rest ≡ ws ++ rest' = cc in
    let long : length ws ≡ length ks = cc in
    (subst (IsNumber t) top h.0, all_of ks vs rest ws rest' beneath long h.1)
all_of (Any ∷ ks) (v ∷ vs) rest (w ∷ ws) rest' e l h =
    let beneath : vs ++ rest ≡ ws ++ rest' = cc in
    let long : length ws ≡ length ks = cc in
    all_of ks vs rest ws rest' beneath long h
