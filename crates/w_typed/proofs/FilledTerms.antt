-- Terms with a hole: filled, and put into a context.
use Rattle.std.proofs.Common.{Bool, List, ◌++◌, sym, subst}
use Rattle.lists.specs.Rows.{Row, ε, ◌⧺◌}
use Rattle.lists.proofs.Rows.{beside_assoc}
use Rattle.w_syntax.specs.declared.module.Module.{Module}
use Rattle.w_canon.specs.Supertypes.{KeepsKinds}
use Rattle.w_rules.specs.Matching.{RowMatches}
use Rattle.w_rules.specs.Operands.{Operand}
use Rattle.w_rules.proofs.Preorder.{row_refl, row_beside}
use Rattle.w_reduce.specs.Values.{Val}
use Rattle.w_reduce.specs.Terms.{Context, Term, filled, in_context}
use Rattle.w_typed.specs.Values.{Arrows, ValuesTyped}
use Rattle.w_typed.specs.Contexts.{Scope, closed, Within, outside, label, frame, handle, HoleTyped}
use Rattle.w_typed.proofs.Subsumption.{values_beside}
use Rattle.w_typed.proofs.Holes.{rest_left, within_sub}

module _ (m : Module) (keeps : KeepsKinds m.types) {K : Arrows} {mid us : Row Operand} where
  -- a context, in another one that takes its results
  pub within_join : {inner outer : Context} {c : Scope} {now : List Bool} {ts : Row Operand} → Within m K mid inner c now ts
      → ((any : List Bool) → Within m K us outer closed any mid) → Within m K us (inner ++ outer) c now ts
  within_join (outside {now = now} r) k = within_sub m keeps r (k now)
  within_join (label beneath r n h again d still w) k = label beneath r n h again d still (within_join w k)
  within_join (frame beneath f r n ls h d still w) k = frame beneath f r n ls h d still (within_join w k)
  within_join (handle results beneath r hs tops h d still w) k = handle results beneath r hs tops h d still (within_join w k)

  -- a term with a hole, in a context that takes its results
  pub hole_within : {ps : Row Operand} {outer : Context} (t : Term) → HoleTyped m K ps mid t → ((any : List Bool) → Within m K us outer closed any mid)
      → HoleTyped m K ps us (in_context outer t)
  hole_within t h k = record {
    scope = h.scope;
    set = h.set;
    now = h.now;
    still = h.still;
    before = h.before;
    after = h.after;
    operands = h.operands;
    rest = h.rest;
    around = within_join h.around k;
  }

module _ (m : Module) {K : Arrows} {us : Row Operand} where
  -- all values that a hole takes are put there
  pub hole_full : {ps : Row Operand} {vs : Row Val} (t : Term) → HoleTyped m K ps us t → ValuesTyped m K vs ps → HoleTyped m K ε us (filled t vs)
  hole_full {ps} t h v = record {
    scope = h.scope;
    set = h.set;
    now = h.now;
    still = h.still;
    before = h.before ⧺ ps;
    after = h.after;
    operands = values_beside m h.operands v;
    rest = h.rest;
    around = h.around;
  }

module _ (m : Module) (keeps : KeepsKinds m.types) {K : Arrows} {us : Row Operand} where
  -- the first values that a hole takes are put there, and it takes the others
  pub hole_filled : {ps : Row Operand} {vs : Row Val} (first others : Row Operand) (t : Term) → HoleTyped m K ps us t → RowMatches m.types (first ⧺ others) ps
      → ValuesTyped m K vs first → HoleTyped m K others us (filled t vs)
  hole_filled {ps} first others t h r v = record {
    scope = h.scope;
    set = h.set;
    now = h.now;
    still = h.still;
    before = h.before ⧺ first;
    after = h.after;
    operands = values_beside m h.operands v;
    rest = rest_left m keeps (subst (λ (ts : Row Operand). RowMatches m.types ts (h.before ⧺ ps)) (sym (beside_assoc h.before first others))
        (row_beside m.types h.before h.before (first ⧺ others) ps (row_refl m.types h.before) r)) h.rest;
    around = h.around;
  }
