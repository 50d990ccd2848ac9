-- cont.bind.
use Rattle.std.proofs.Common.{◌≡◌, ℕ, ◌-◌, ◌<◌, ◌≤◌, Bool, List, length, take, drop, Option, Some, None, refl, sym, ap, ◌∙◌, subst, arith, length-drop, le-leb}
use Rattle.w_types.specs.declared.types.FuncType.{FuncType}
use Rattle.w_types.specs.declared.types.ValType.{ValType}
use Rattle.lists.specs.Rows.{ε, ◌▹◌, row_of}
use Rattle.w_syntax.specs.declared.instructions.SwitchingOp.TheVariants as op
use Rattle.w_canon.specs.Matching.{ResultMatches}
use Rattle.w_rules.specs.InstructionTypes.{fixed, if_valid, nullable, non_null, cont_bind_type}
use Rattle.w_vswitch.specs.Rows.{RowAt}
use Rattle.w_canon.proofs.Matches.{one_length}
use Rattle.w_rules.specs.Conditions.{BindTyped}
use Rattle.w_rules.specs.Context.{Context, cont_of}
use Rattle.w_vswitch.proofs.FoundTypes.{one_value}

-- the second type has no more parameters than the first
pub no_longer : (c : Context) (x y : ℕ) (one other : FuncType) → cont_of c x ≡ Some one → cont_of c y ≡ Some other → length one.params < length other.params → BindTyped c x y → ⊥
no_longer c x y one other e f lt t =
    let same : t.one ≡ one = one_value (cont_of c x) t.one one t.has_one e in
    let too : t.other ≡ other = one_value (cont_of c y) t.other other t.has_other f in
    let m : length t.one.params ≡ length one.params = ap (λ (k : FuncType). length k.params) same in
    let n : length t.other.params ≡ length other.params = ap (λ (k : FuncType). length k.params) too in
    let applies = one_length t.takes in
    omega (arith, applies, length-drop (length t.one.params - length t.other.params) t.one.params)

-- the row of a cont.bind
pub bind_row : (c : Context) (x y count : ℕ) (one other : FuncType) (front left : List ValType) → cont_of c x ≡ Some one → cont_of c y ≡ Some other →
    length other.params ≤ length one.params → count ≡ length one.params - length other.params → front ≡ take count one.params → left ≡ drop count one.params →
    ResultMatches c.types other.params left → ResultMatches c.types one.results other.results →
    RowAt (op.ContBind x y) (row_of front ▹ nullable x) (ε ▹ non_null y) None c
bind_row c x y count one other front left e f le n before behind takes gives = record {
  condition = record {
    one = one;
    other = other;
    has_one = e;
    has_other = f;
    takes = (let P : List ValType → Type 0 = ResultMatches c.types other.params in subst P (behind ∙ ap (λ (k : ℕ). drop k one.params) n) takes);
    gives = gives;
  };
  row = ap (λ (o : Option FuncType). cont_bind_type x y o (cont_of c y)) e ∙ ap (cont_bind_type x y (Some one)) f
      ∙ ap (λ (b : Bool). if_valid b (fixed (row_of (take (length one.params - length other.params) one.params) ▹ nullable x) (ε ▹ non_null y))) (le-leb (length other.params) (length one.params) le)
      ∙ ap (λ (us : List ValType). fixed (row_of us ▹ nullable x) (ε ▹ non_null y)) (sym (before ∙ ap (λ (k : ℕ). take k one.params) n));
  adds = λ h. refl;
}
