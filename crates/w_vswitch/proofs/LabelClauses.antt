-- A clause with a label.
use Rattle.std.proofs.Common.{◌≡◌, ◌↔◌, ℕ, Bool, ◌&&◌, List, Some, slice_get, sym, ap, ◌∙◌, subst}
use Rattle.std.specs.Prelude.{IsTrue}
use Rattle.w_types.specs.declared.types.FuncType.{FuncType}
use Rattle.w_types.specs.declared.types.HeapType.TheVariants.{Index}
use Rattle.w_types.specs.declared.types.ValType.{ValType}
use Rattle.w_types.specs.declared.types.ValType.TheVariants.{Ref}
use Rattle.lists.specs.Rows.{Row, ◌▹◌, row_of, listed}
use Rattle.lists.proofs.Rows.{listed-row_of}
use Rattle.lists.proofs.Tests.{both_decided}
use Rattle.w_canon.specs.declared.entry.Entry.{Entry}
use Rattle.w_canon.specs.Matching.{ResultMatches}
use Rattle.w_canon.specs.IsClassesOf.{IsClassesOf}
use Rattle.w_canon.specs.Tests.{result_test}
use Rattle.w_canon.proofs.MatchingTests.{result_decided}
use Rattle.w_rules.specs.Conditions.{LabelClauseTyped}
use Rattle.w_rules.specs.Context.{Context, type_of_tag, cont_of}
use Rattle.w_vswitch.specs.Rows.{label_test, last_index}
use Rattle.w_vswitch.proofs.FoundTypes.{one_value}
use Rattle.w_vswitch.proofs.LastTypes.{last_found}

module _ (es : List Entry) (c : Context) (st : IsClassesOf c.types es) (results : List ValType) where
  -- the test tells that all match
  label_decided : (tag target : FuncType) (beneath : List ValType) → IsTrue (label_test es results tag beneath target) ↔
      (ResultMatches c.types tag.params beneath × (ResultMatches c.types target.params tag.results × ResultMatches c.types results target.results))
  label_decided tag target beneath =
      both_decided (result_test es tag.params beneath) (result_test es target.params tag.results && result_test es results target.results)
      (result_decided c.types es st tag.params beneath)
      (both_decided (result_test es target.params tag.results) (result_test es results target.results)
      (result_decided c.types es st target.params tag.results) (result_decided c.types es st results target.results))

  module _ (e l : ℕ) (label beneath : List ValType) (y : ℕ) (tag target : FuncType) (there : slice_get c.labels l ≡ Some (row_of label))
      (has_tag : type_of_tag c e ≡ Some tag) (ends : last_index (row_of label) ≡ Some (row_of beneath, y)) (has_cont : cont_of c y ≡ Some target) where
    -- where all match, the clause is typed
    typed_in : ResultMatches c.types tag.params beneath × (ResultMatches c.types target.params tag.results × ResultMatches c.types results target.results) →
        LabelClauseTyped c results e l
    typed_in m =
        let last = last_found (row_of label) (row_of beneath) y ends in record {
          tag = tag;
          beneath = row_of beneath;
          is_null = last.0;
          index = y;
          target = target;
          has_tag = has_tag;
          has_label = there ∙ ap Some last.1;
          has_cont = has_cont;
          arguments = (let P : List ValType → Type 0 = λ us. ResultMatches c.types tag.params us in subst P (sym (listed-row_of beneath)) m.0);
          takes = m.1.0;
          gives = m.1.1;
        }

    -- and only there
    typed_out : LabelClauseTyped c results e l →
        ResultMatches c.types tag.params beneath × (ResultMatches c.types target.params tag.results × ResultMatches c.types results target.results)
    typed_out t =
        let one_tag : t.tag ≡ tag = one_value (type_of_tag c e) t.tag tag t.has_tag has_tag in
        let one_label : row_of label ≡ t.beneath ▹ Ref (record { nullable = t.is_null; heap = Index t.index }) = one_value (slice_get c.labels l) _ _ there t.has_label in
        let one_end : (row_of beneath, y) ≡ (t.beneath, t.index) = one_value (last_index (row_of label)) _ _ ends (ap last_index one_label) in
        let one_target : t.target ≡ target = one_value (cont_of c t.index) t.target target t.has_cont (ap (λ (p : Row ValType × ℕ). cont_of c p.1) (sym one_end) ∙ has_cont) in
        let P : FuncType → Type 0 = λ f. ResultMatches c.types f.params (listed t.beneath) in
        let Q : Row ValType × ℕ → Type 0 = λ p. ResultMatches c.types tag.params (listed p.0) in
        let R : List ValType → Type 0 = λ us. ResultMatches c.types tag.params us in
        let S : FuncType → Type 0 = λ f. ResultMatches c.types t.target.params f.results in
        let T : FuncType → Type 0 = λ f. ResultMatches c.types f.params tag.results in
        let U : FuncType → Type 0 = λ f. ResultMatches c.types results f.results in (
          subst R (listed-row_of beneath) (subst Q (sym one_end) (subst P one_tag t.arguments)),
          (subst T one_target (subst S one_tag t.takes), subst U one_target t.gives),
        )

    -- the test tells whether the clause is typed
    pub clause_decided : (b : Bool) → b ≡ label_test es results tag beneath target → IsTrue b ↔ LabelClauseTyped c results e l
    clause_decided b same =
        let decided = label_decided tag target beneath in
        (λ t. typed_in (decided.0 (sym same ∙ t)), λ t. same ∙ decided.1 (typed_out t))
