-- What else rules ask of instructions, with addresses in the place of indices.
use Rattle.std.proofs.Common.{◌≡◌, ◌+◌, ◌-◌, ℕ, List, [], ◌∷◌, map, length, Option, Some, None, slice_get, refl, sym, ap, subst, ◌∙◌}
use Rattle.std.specs.Prelude.{All, option_map}
use Rattle.std.proofs.lemmas.List.{length-map, drop-map}
use Rattle.std.proofs.lemmas.List.Elements.{All-head, All-tail, All-nil, All-cons}
use Rattle.std.proofs.lemmas.Option.{slice_get-map}
use Rattle.w_types.specs.declared.types.FuncType.{FuncType}
use Rattle.w_types.specs.declared.types.RecGroup.{RecGroup}
use Rattle.w_types.specs.declared.types.RefType.{RefType}
use Rattle.w_types.specs.declared.types.ValType.{ValType}
use Rattle.w_types.specs.declared.types.ValType.TheVariants.{Ref}
use Rattle.lists.specs.Rows.{Row, listed}
use Rattle.w_syntax.specs.declared.instructions.Clause.{Clause}
use Rattle.w_syntax.specs.declared.instructions.Clause.TheVariants as clause
use Rattle.w_syntax.specs.declared.instructions.ControlOp.{ControlOp}
use Rattle.w_syntax.specs.declared.instructions.ControlOp.TheVariants as control
use Rattle.w_syntax.specs.declared.instructions.Op.{Op}
use Rattle.w_syntax.specs.declared.instructions.Op.TheVariants as op
use Rattle.w_syntax.specs.declared.instructions.SwitchingOp.{SwitchingOp}
use Rattle.w_syntax.specs.declared.instructions.SwitchingOp.TheVariants as switching
use Rattle.w_syntax.specs.declared.instructions.TableOp.{TableOp}
use Rattle.w_syntax.specs.declared.instructions.TableOp.TheVariants as table
use Rattle.w_syntax.specs.declared.module.TableType.{TableType}
use Rattle.w_canon.specs.Relations.{none, more}
use Rattle.w_canon.specs.Equality.{RefEqual, ValEqual, ResultEqual}
use Rattle.w_canon.specs.Equality as equal
use Rattle.w_canon.specs.Matching.{RefMatches, ValMatches, ResultMatches}
use Rattle.w_canon.specs.Matching as matching
use Rattle.w_canon.proofs.EqualTypes.{val_equal_sym, val_equal_matches, result_equal_sym, result_equal_trans, result_equal_matches}
use Rattle.w_canon.specs.Supertypes.{KeepsKinds}
use Rattle.w_canon.proofs.Preorder.{ref_trans, result_refl, result_trans}
use Rattle.w_rules.specs.Conditions.{Holds, funcref, HoldsFunctions, ReturnsTyped, ControlCondition, TableCondition, LabelClauseTyped, SwitchClauseTyped, ClauseTyped, BindTyped, SwitchTyped, SwitchingCondition, Condition}
use Rattle.w_rules.specs.Context.{Context, func_of, type_of_func, cont_of}
use Rattle.w_link.specs.Shifted.{ref_shifted, type_shifted, types_shifted, func_shifted, row_shifted}
use Rattle.w_link.specs.Resolved.{Instance, at, control_resolved, table_resolved, clause_resolved, switching_resolved, op_resolved}
use Rattle.w_link.specs.Fits.{Fits}
use Rattle.w_link.proofs.ShiftedMatching.{ref_carried, result_carried, result_equal_carried}
use Rattle.w_link.proofs.ShiftedRows.{row_of_shifted, listed_shifted}
use Rattle.w_link.proofs.FineInstructions.{func_there, function_there, cont_there, tag_there}

ref_of : (gs : List RecGroup) {r q : RefType} → ValMatches gs (Ref r) (Ref q) → RefMatches gs r q
ref_of gs (matching.ValMatches.ref h) = h

-- what holds of what is there
pub at_some : {A : Type 0} (o : Option A) (a : A) (P : A → Type 0) → o ≡ Some a → P a → Holds o P
at_some o a P e h = subst (λ q. Holds q P) (sym e) h

-- what is there, of which something holds
pub of_some : {A : Type 0} (o : Option A) (P : A → Type 0) (G : Type 0) → Holds o P → ((a : A) → o ≡ Some a → P a → G) → G
of_some None P G h f = absurd h
of_some (Some a) P G h f = f a refl h

module _ (i : Instance) (c d : Context) (fits : Fits i c d) where
  pub given : (r q : RefType) → RefEqual d.types q (ref_shifted i.types r) → RefMatches d.types q (ref_shifted i.types r)
  given r q h = ref_of d.types (val_equal_matches d.types (Ref q) (Ref (ref_shifted i.types r)) (equal.ValEqual.ref h))

  pub taken : (r q : RefType) → RefEqual d.types q (ref_shifted i.types r) → RefMatches d.types (ref_shifted i.types r) q
  taken r q h = ref_of d.types (val_equal_matches d.types (Ref (ref_shifted i.types r)) (Ref q) (val_equal_sym d.types (Ref q) (Ref (ref_shifted i.types r)) (equal.ValEqual.ref h)))

  pub refs : (r q : RefType) → RefMatches c.types r q → RefMatches d.types (ref_shifted i.types r) (ref_shifted i.types q)
  refs r q h = ref_carried i.types c.types d.types fits.types r q h

  pub results : {ts us : List ValType} → ResultMatches c.types ts us → ResultMatches d.types (types_shifted i.types ts) (types_shifted i.types us)
  results h = result_carried i.types c.types d.types fits.types h

-- Matching is transitive among all, where each supertype is of its subtypes' kind.
module _ (i : Instance) (c d : Context) (keeps : KeepsKinds d.types) (fits : Fits i c d) where
  -- ## Control instructions

  functions_held : (x : ℕ) → HoldsFunctions c x → HoldsFunctions d (at i.tables x)
  functions_held x h = of_some (slice_get c.tables x) (λ (t : TableType). RefMatches c.types t.element funcref) _ h (λ t is m.
      let u = fits.tables x t is in
      at_some (slice_get d.tables (at i.tables x)) u.value (λ (t : TableType). RefMatches d.types t.element funcref) u.is
      (ref_trans d.types keeps u.value.element (ref_shifted i.types t.element) funcref (given i c d fits t.element u.value.element u.holds) (refs i c d fits t.element funcref m)))

  -- results that match those of a function among all
  returned : (ts us : List ValType) → ResultMatches d.types us (types_shifted i.types ts) → ResultMatches c.types ts (listed c.results) → ResultMatches d.types us (listed d.results)
  returned ts us h k =
      let end : types_shifted i.types (listed c.results) ≡ listed d.results = sym (listed_shifted i.types c.results) ∙ ap listed (sym fits.results) in
      subst (λ (vs : List ValType). ResultMatches d.types us vs) end
      (result_trans d.types keeps us (types_shifted i.types ts) (types_shifted i.types (listed c.results)) h (results i c d fits k))

  returned_by : (y : ℕ) → ReturnsTyped c (func_of c y) → ReturnsTyped d (func_of d (i.types + y))
  returned_by y h = of_some (func_of c y) (λ (t : FuncType). ResultMatches c.types t.results (listed c.results)) _ h (λ t is k.
      at_some (func_of d (i.types + y)) (func_shifted i.types t) (λ (t : FuncType). ResultMatches d.types t.results (listed d.results)) (func_there i c d fits y t is)
      (returned t.results (types_shifted i.types t.results) (result_refl d.types (types_shifted i.types t.results)) k))

  returned_from : (x : ℕ) → ReturnsTyped c (type_of_func c x) → ReturnsTyped d (type_of_func d (at i.functions x))
  returned_from x h = of_some (type_of_func c x) (λ (t : FuncType). ResultMatches c.types t.results (listed c.results)) _ h (λ t is k.
      let u = function_there i c d fits x t is in
      at_some (type_of_func d (at i.functions x)) u.value (λ (t : FuncType). ResultMatches d.types t.results (listed d.results)) u.is
      (returned t.results u.value.results u.holds.results k))

  control_holds : (o : ControlOp) → ControlCondition c o → ControlCondition d (control_resolved i o)
  control_holds (control.CallIndirect y x) h = functions_held x h
  control_holds (control.ReturnCall x) h = returned_from x h
  control_holds (control.ReturnCallIndirect y x) h = (functions_held x h.0, returned_by y h.1)
  control_holds (control.ReturnCallRef y) h = returned_by y h
  control_holds control.Unreachable h = tt
  control_holds control.Nop h = tt
  control_holds (control.Br l) h = tt
  control_holds (control.BrIf l) h = tt
  control_holds (control.BrTable ls l) h = tt
  control_holds control.Return h = tt
  control_holds (control.BrOnNull l) h = tt
  control_holds (control.BrOnNonNull l) h = tt
  control_holds (control.Call x) h = tt
  control_holds (control.CallRef y) h = tt

  table_holds : (o : TableOp) → TableCondition c o → TableCondition d (table_resolved i o)
  table_holds (table.Init y x) h = of_some (slice_get c.elements y) _ _ h (λ r is k. of_some (slice_get c.tables x) (λ (t : TableType). RefMatches c.types r t.element) _ k (λ t there m.
      let u = fits.tables x t there in
      at_some (slice_get d.elements (i.elements + y)) (ref_shifted i.types r) _ (fits.elements y r is)
      (at_some (slice_get d.tables (at i.tables x)) u.value (λ (t : TableType). RefMatches d.types (ref_shifted i.types r) t.element) u.is
      (ref_trans d.types keeps (ref_shifted i.types r) (ref_shifted i.types t.element) u.value.element (refs i c d fits r t.element m) (taken i c d fits t.element u.value.element u.holds)))))
  table_holds (table.Copy x y) h = of_some (slice_get c.tables x) _ _ h (λ t is k. of_some (slice_get c.tables y) (λ (u : TableType). RefMatches c.types u.element t.element) _ k (λ s there m.
      let u = fits.tables x t is in
      let v = fits.tables y s there in
      at_some (slice_get d.tables (at i.tables x)) u.value _ u.is
      (at_some (slice_get d.tables (at i.tables y)) v.value (λ (w : TableType). RefMatches d.types w.element u.value.element) v.is
      (ref_trans d.types keeps v.value.element (ref_shifted i.types s.element) u.value.element (given i c d fits s.element v.value.element v.holds)
      (ref_trans d.types keeps (ref_shifted i.types s.element) (ref_shifted i.types t.element) u.value.element (refs i c d fits s.element t.element m) (taken i c d fits t.element u.value.element u.holds))))))
  table_holds (table.Get x) h = tt
  table_holds (table.Set x) h = tt
  table_holds (table.ElemDrop y) h = tt
  table_holds (table.Grow x) h = tt
  table_holds (table.Size x) h = tt
  table_holds (table.Fill x) h = tt

  -- ## Clauses

  none_equal : {gs : List RecGroup} {ts us : List ValType} → us ≡ [] → ResultEqual gs ts us → ts ≡ []
  none_equal e none = refl
  none_equal e (more h k) = absurd (cc)

  none_shifted : (n : ℕ) (ts : List ValType) → ts ≡ [] → types_shifted n ts ≡ []
  none_shifted n ts e = ap (types_shifted n) e

  label_holds : (rs : List ValType) (e l : ℕ) → LabelClauseTyped c rs e l → LabelClauseTyped d (types_shifted i.types rs) (at i.tags e) l
  label_holds rs e l h =
      let t = tag_there i c d fits e h.tag h.has_tag in
      let from = types_shifted i.types h.tag.params in
      let to = types_shifted i.types h.tag.results in
      record {
        tag = t.value;
        beneath = row_shifted i.types h.beneath;
        is_null = h.is_null;
        index = i.types + h.index;
        target = func_shifted i.types h.target;
        has_tag = t.is;
        has_label = ap (λ (ls : List (Row ValType)). slice_get ls l) fits.labels ∙ slice_get-map (row_shifted i.types) c.labels l ∙ ap (option_map (row_shifted i.types)) h.has_label;
        has_cont = cont_there i c d fits h.index h.target h.has_cont;
        arguments = result_trans d.types keeps t.value.params from (listed (row_shifted i.types h.beneath)) (result_equal_matches d.types t.value.params from t.holds.params)
            (subst (λ (ts : List ValType). ResultMatches d.types from ts) (sym (listed_shifted i.types h.beneath)) (results i c d fits h.arguments));
        takes = result_trans d.types keeps (types_shifted i.types h.target.params) to t.value.results (results i c d fits h.takes)
            (result_equal_matches d.types to t.value.results (result_equal_sym d.types t.value.results to t.holds.results));
        gives = results i c d fits h.gives;
      }

  switch_holds : (rs : List ValType) (e : ℕ) → SwitchClauseTyped c rs e → SwitchClauseTyped d (types_shifted i.types rs) (at i.tags e)
  switch_holds rs e h =
      let t = tag_there i c d fits e h.tag h.has_tag in
      record {
        tag = t.value;
        has_tag = t.is;
        no_params = none_equal (none_shifted i.types h.tag.params h.no_params) t.holds.params;
        equal = result_equal_trans d.types t.value.results (types_shifted i.types h.tag.results) (types_shifted i.types rs) t.holds.results
            (result_equal_carried i.types c.types d.types fits.types h.equal);
      }

  clause_holds : (rs : List ValType) (h : Clause) → ClauseTyped c rs h → ClauseTyped d (types_shifted i.types rs) (clause_resolved i h)
  clause_holds rs (clause.Label e l) k = label_holds rs e l k
  clause_holds rs (clause.Switch e) k = switch_holds rs e k

  clauses_hold : (rs : List ValType) (hs : List Clause) → All (ClauseTyped c rs) hs → All (ClauseTyped d (types_shifted i.types rs)) (map (clause_resolved i) hs)
  clauses_hold rs [] k = All-nil (ClauseTyped d (types_shifted i.types rs))
  clauses_hold rs (h ∷ hs) k = All-cons (ClauseTyped d (types_shifted i.types rs)) (clause_resolved i h) (map (clause_resolved i) hs)
      (clause_holds rs h (All-head (ClauseTyped c rs) h hs k)) (clauses_hold rs hs (All-tail (ClauseTyped c rs) h hs k))

  -- ## Stack switching

  bind_holds : (x y : ℕ) → BindTyped c x y → BindTyped d (i.types + x) (i.types + y)
  bind_holds x y h =
      let less = length h.one.params - length h.other.params in
      record {
        one = func_shifted i.types h.one;
        other = func_shifted i.types h.other;
        has_one = cont_there i c d fits x h.one h.has_one;
        has_other = cont_there i c d fits y h.other h.has_other;
        takes = rw (length-map h.one.params (type_shifted i.types), length-map h.other.params (type_shifted i.types))
            (subst (λ (ts : List ValType). ResultMatches d.types (types_shifted i.types h.other.params) ts) (sym (drop-map (type_shifted i.types) less h.one.params)) (results i c d fits h.takes));
        gives = results i c d fits h.gives;
      }

  switch_typed : (x e : ℕ) → SwitchTyped c x e → SwitchTyped d (i.types + x) (at i.tags e)
  switch_typed x e h =
      let t = tag_there i c d fits e h.tag h.has_tag in
      let mid = types_shifted i.types h.tag.results in
      record {
        one = func_shifted i.types h.one;
        beneath = row_shifted i.types h.beneath;
        is_null = h.is_null;
        index = i.types + h.index;
        other = func_shifted i.types h.other;
        tag = t.value;
        has_one = cont_there i c d fits x h.one h.has_one;
        params = sym (row_of_shifted i.types h.one.params) ∙ ap (row_shifted i.types) h.params;
        has_other = cont_there i c d fits h.index h.other h.has_other;
        has_tag = t.is;
        no_params = none_equal (none_shifted i.types h.tag.params h.no_params) t.holds.params;
        results = result_trans d.types keeps (types_shifted i.types h.one.results) mid t.value.results (results i c d fits h.results)
            (result_equal_matches d.types mid t.value.results (result_equal_sym d.types t.value.results mid t.holds.results));
        comes_back = result_trans d.types keeps t.value.results mid (types_shifted i.types h.other.results) (result_equal_matches d.types t.value.results mid t.holds.results) (results i c d fits h.comes_back);
      }

  switching_holds : (o : SwitchingOp) → SwitchingCondition c o → SwitchingCondition d (switching_resolved i o)
  switching_holds (switching.ContNew x) h = tt
  switching_holds (switching.ContBind x y) h = bind_holds x y h
  switching_holds (switching.Suspend e) h = tt
  switching_holds (switching.Resume x hs) h = of_some (cont_of c x) (λ (t : FuncType). All (ClauseTyped c t.results) hs) _ h (λ t is k.
      at_some (cont_of d (i.types + x)) (func_shifted i.types t) (λ (t : FuncType). All (ClauseTyped d t.results) (map (clause_resolved i) hs)) (cont_there i c d fits x t is) (clauses_hold t.results hs k))
  switching_holds (switching.Switch x e) h = switch_typed x e h

  -- what a rule asks of an instruction holds with addresses
  pub condition_holds : (o : Op) → Condition c o → Condition d (op_resolved i o)
  condition_holds (op.Control o) h = control_holds o h
  condition_holds (op.Table o) h = table_holds o h
  condition_holds (op.Switching o) h = switching_holds o h
  condition_holds (op.Parametric o) h = tt
  condition_holds (op.Variable o) h = tt
  condition_holds (op.Memory o) h = tt
  condition_holds (op.Numeric o) h = tt
  condition_holds (op.Reference o) h = tt
