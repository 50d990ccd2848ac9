-- A typed context, cut at the handle that is found.
use Rattle.std.proofs.Common.{◌≡◌, ◌≤◌, ◌+◌, All, Bool, List, [], ◌∷◌, ◌++◌, Option, None, subst}
use Rattle.w_types.specs.declared.types.ValType.{ValType}
use Rattle.lists.specs.Rows.{Row, ◌⧺◌, row_of, size}
use Rattle.w_syntax.specs.Code.{Code}
use Rattle.w_syntax.specs.declared.instructions.Clause.{Clause}
use Rattle.w_syntax.specs.declared.module.Module.{Module}
use Rattle.w_rules.specs.Conditions.{ClauseTyped}
use Rattle.w_rules.specs.Matching.{known}
use Rattle.w_rules.specs.Operands.{Operand}
use Rattle.w_rules.specs.Peak.{clause_tops}
use Rattle.w_reduce.specs.Values.{Val}
use Rattle.w_reduce.specs.Terms.{Label, Frame, Handle, Context}
use Rattle.w_reduce.specs.Handlers.{Handler, IsInnermost}
use Rattle.w_typed.specs.Values.{Arrows, ValuesTyped}
use Rattle.w_reduce.specs.Room.{most_operands}
use Rattle.w_typed.specs.Contexts.{Scope, in_scope, CodeTyped, Subset, Within, outside, label, frame, handle}

-- a handle between the context inside it, whose hole is this one, and the context around it, of results us
pub record HandleTyped (m : Module) (K : Arrows) (us : Row Operand) (c : Scope) (now : List Bool) (ts : Row Operand) (inner : Context) (below : Row Val)
    (hs : List Clause) (rest : Code) (outer : Context) : Type 0 where
  pub results : List ValType
  pub inside : Within m K (known (row_of results)) inner c now ts
  pub scope : Scope
  pub set : List Bool
  pub now_there : List Bool
  pub still : Subset set now_there
  pub beneath : Row Operand
  pub out : Row Operand
  pub clauses : All (ClauseTyped (in_scope m scope) results) hs
  pub tops : (scope.results ≡ None → ⊥) → clause_tops scope.labels (scope.base + size beneath) hs ≤ most_operands m scope.function
  pub values : ValuesTyped m K below beneath
  pub behind : CodeTyped m scope set rest (beneath ⧺ known (row_of results)) out
  pub around : Within m K us outer scope now_there out

module _ (m : Module) {K : Arrows} {us : Row Operand} (below : Row Val) (hs : List Clause) (rest : Code) (outer : Context) where
  -- a layer more inside
  deeper : {c d : Scope} {now there : List Bool} {ts out : Row Operand} {i j : Context}
      → ((results : List ValType) → Within m K (known (row_of results)) i d there out → Within m K (known (row_of results)) j c now ts)
      → HandleTyped m K us d there out i below hs rest outer → HandleTyped m K us c now ts j below hs rest outer
  deeper put h = record {
    results = h.results;
    inside = put h.results h.inside;
    scope = h.scope;
    set = h.set;
    now_there = h.now_there;
    still = h.still;
    beneath = h.beneath;
    out = h.out;
    clauses = h.clauses;
    tops = h.tops;
    values = h.values;
    behind = h.behind;
    around = h.around;
  }

  -- at the handle that stands behind these layers
  cut : (i : Context) {c : Scope} {now : List Bool} {ts : Row Operand} → Within m K us (i ++ Handle below hs rest ∷ outer) c now ts
      → HandleTyped m K us c now ts i below hs rest outer
  cut [] (handle {s = s} {outer = there} {out = out} results beneath r clauses tops h k still w) = record {
    results = results;
    inside = outside r;
    scope = _;
    set = s;
    now_there = there;
    still = still;
    beneath = beneath;
    out = out;
    clauses = clauses;
    tops = tops;
    values = h;
    behind = k;
    around = w;
  }
  cut (Label b n again k ∷ i) (label beneath r size_is h d f still w) = deeper (λ results x. label beneath r size_is h d f still x) (cut i w)
  cut (Frame b n g ls k ∷ i) (frame beneath f r size_is l h d still w) = deeper (λ results x. frame beneath f r size_is l h d still x) (cut i w)
  cut (Handle b gs k ∷ i) (handle given beneath r clauses tops h d still w) = deeper (λ results x. handle given beneath r clauses tops h d still x) (cut i w)

-- a typed context is typed on both sides of the handle that is found in it
pub cut_found : (m : Module) {K : Arrows} {us : Row Operand} {A : Type 0} (answer : List Clause → Option A) (e : Context) (h : Handler A) {c : Scope}
    {now : List Bool} {ts : Row Operand} → IsInnermost answer e h → Within m K us e c now ts
    → HandleTyped m K us c now ts h.inner h.below h.clauses h.rest h.outer
cut_found m {K} {us} answer e h {c} {now} {ts} f w =
    cut m h.below h.clauses h.rest h.outer h.inner (subst (λ (x : Context). Within m K us x c now ts) f.context w)
