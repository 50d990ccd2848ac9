-- A clause with switch.
use Rattle.std.proofs.Common.{◌≡◌, ◌↔◌, ℕ, Bool, [], List, Some, subst}
use Rattle.std.specs.Prelude.{IsTrue}
use Rattle.w_types.specs.declared.types.FuncType.{FuncType}
use Rattle.w_types.specs.declared.types.ValType.{ValType}
use Rattle.w_canon.specs.Equality.{ResultEqual}
use Rattle.w_rules.specs.Conditions.{SwitchClauseTyped}
use Rattle.w_rules.specs.Context.{Context, type_of_tag}
use Rattle.w_vswitch.proofs.FoundTypes.{one_value}

-- whether the results equal those of the tag tells whether the clause is typed
pub switch_decided : (c : Context) (results : List ValType) (e : ℕ) (tag : FuncType) (b : Bool) → type_of_tag c e ≡ Some tag → tag.params ≡ [] →
    IsTrue b ↔ ResultEqual c.types tag.results results → IsTrue b ↔ SwitchClauseTyped c results e
switch_decided c results e tag b has_tag no_params decided = (
  λ t. record {
    tag = tag;
    has_tag = has_tag;
    no_params = no_params;
    equal = decided.0 t;
  },
  λ t.
      let P : FuncType → Type 0 = λ f. ResultEqual c.types f.results results in
      decided.1 (subst P (one_value (type_of_tag c e) t.tag tag t.has_tag has_tag) t.equal),
)
