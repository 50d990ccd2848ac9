-- Types that were looked up.
use Rattle.std.proofs.Common.{◌≡◌, ℕ, List, Option, Some, None, refl, sym, ap, ◌∙◌, subst}
use Rattle.std.specs.Borrow.{Bor}
use Rattle.std.specs.Option.{option_copied, option_map}
use Rattle.w_types.specs.declared.types.FuncType.{FuncType}
use Rattle.w_types.specs.declared.types.ValType.{ValType}
use Rattle.lists.specs.Rows.{Row, ε, ◌▹◌, row_of}
use Rattle.w_syntax.specs.declared.instructions.SwitchingOp.{SwitchingOp}
use Rattle.w_syntax.specs.declared.instructions.SwitchingOp.TheVariants as op
use Rattle.w_rules.specs.Context.{Context, type_of_tag, func_index_of_cont}
use Rattle.w_rules.specs.InstructionTypes.{fixed, cont_new_type, call_type, nullable, non_null}
use Rattle.w_rows.specs.TypeRows.{rows_type}
use Rattle.w_rows.specs.declared.type_rows.FuncRows.{FuncRows}
use Rattle.w_vswitch.specs.Rows.{RowAt}

-- what was found is there
pub found : (o : Option (Bor FuncType)) (k : Bor FuncType) (t : Option FuncType) → option_copied o ≡ t → o ≡ Some k → t ≡ Some k.now
found o k t e f = sym e ∙ ap option_copied f

-- and what was not found is not there
pub missing : (o : Option (Bor FuncType)) (t : Option FuncType) → option_copied o ≡ t → o ≡ None → t ≡ None
missing o t e f = sym e ∙ ap option_copied f

-- the same of rows that were found
pub found_rows : (o : Option FuncRows) (k : FuncRows) (t : Option FuncType) → option_map rows_type o ≡ t → o ≡ Some k → t ≡ Some (rows_type k)
found_rows o k t e f = sym e ∙ ap (option_map rows_type) f

pub missing_rows : (o : Option FuncRows) (t : Option FuncType) → option_map rows_type o ≡ t → o ≡ None → t ≡ None
missing_rows o t e f = sym e ∙ ap (option_map rows_type) f

-- there is one value alone
pub one_value : {A : Type 0} (o : Option A) (a b : A) → o ≡ Some a → o ≡ Some b → a ≡ b
one_value o a b e f = cc

-- the row of a cont.new
pub new_row : (c : Context) (x f : ℕ) (ref cont : ValType) → func_index_of_cont c x ≡ Some f → ref ≡ nullable f → cont ≡ non_null x →
    RowAt (op.ContNew x) (ε ▹ ref) (ε ▹ cont) None c
new_row c x f ref cont e r n = record {
  condition = tt;
  row = ap (cont_new_type x) e ∙ ap (λ (t : ValType). fixed (ε ▹ t) (ε ▹ non_null x)) (sym r) ∙ ap (λ (t : ValType). fixed (ε ▹ ref) (ε ▹ t)) (sym n);
  adds = λ h. refl;
}

-- the row of a suspend
pub suspend_row : (c : Context) (e : ℕ) (kind : FuncType) (ins outs : List ValType) → type_of_tag c e ≡ Some kind → ins ≡ kind.params → outs ≡ kind.results →
    RowAt (op.Suspend e) (row_of ins) (row_of outs) None c
suspend_row c e kind ins outs t i o = record {
  condition = tt;
  row = ap call_type t ∙ ap (λ (us : List ValType). fixed (row_of us) (row_of kind.results)) (sym i) ∙ ap (λ (us : List ValType). fixed (row_of ins) (row_of us)) (sym o);
  adds = λ h. refl;
}

-- the row with another type on top, which is the same
pub with_top : (o : SwitchingOp) (ins outs : Row ValType) (t u : ValType) (raise : Option ℕ) (c : Context) → u ≡ t →
    RowAt o (ins ▹ t) outs raise c → RowAt o (ins ▹ u) outs raise c
with_top o ins outs t u raise c e r = let P : ValType → Type 0 = λ v. RowAt o (ins ▹ v) outs raise c in subst P (sym e) r

-- and with another one given
pub with_types : (o : SwitchingOp) (ins outs : Row ValType) (t u v w : ValType) (raise : Option ℕ) (c : Context) → u ≡ t → w ≡ v →
    RowAt o (ins ▹ t) (outs ▹ v) raise c → RowAt o (ins ▹ u) (outs ▹ w) raise c
with_types o ins outs t u v w raise c e f r =
    let P : ValType → Type 0 = λ x. RowAt o (ins ▹ u) (outs ▹ x) raise c in
    subst P (sym f) (with_top o ins (outs ▹ v) t u raise c e r)

-- and with the same types by other names
pub with_rows : (o : SwitchingOp) (ins outs us vs : List ValType) (t : ValType) (raise : Option ℕ) (c : Context) → us ≡ ins → vs ≡ outs →
    RowAt o (row_of ins ▹ t) (row_of outs) raise c → RowAt o (row_of us ▹ t) (row_of vs) raise c
with_rows o ins outs us vs t raise c e f r =
    let P : List ValType → Type 0 = λ xs. RowAt o (row_of us ▹ t) (row_of xs) raise c in
    let Q : List ValType → Type 0 = λ xs. RowAt o (row_of xs ▹ t) (row_of outs) raise c in
    subst P (sym f) (subst Q (sym e) r)
