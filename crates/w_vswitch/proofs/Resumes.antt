-- resume.
use Rattle.std.proofs.Common.{◌≡◌, ◌↔◌, inl, ℕ, suc, ◌+◌, ◌-◌, Bool, true, false, List, length, Option, Some, None, refl, sym, ap, ◌∙◌, subst, arith}
use Rattle.std.specs.Prelude.{IsTrue, All}
use Rattle.w_types.specs.declared.types.FuncType.{FuncType}
use Rattle.w_types.specs.declared.types.ValType.{ValType}
use Rattle.lists.specs.Rows.{◌▹◌, row_of, size}
use Rattle.lists.proofs.Rows.{size-row_of}
use Rattle.w_syntax.specs.declared.instructions.Clause.{Clause}
use Rattle.w_syntax.specs.declared.instructions.SwitchingOp.TheVariants as op
use Rattle.w_rules.specs.declared.context.Context as rt
use Rattle.w_rules.specs.Conditions.{Holds, ClauseTyped}
use Rattle.w_rules.specs.Context.{Context, cont_of}
use Rattle.w_rules.specs.InstructionTypes.{fixed, nullable, resume_type}
use Rattle.w_rules.specs.Peak.{clause_tops, resume_tops}
use Rattle.w_rules.specs.View.{context_in}
use Rattle.w_vplain.specs.Prefixes.{Prefix}
use Rattle.w_vplain.specs.Row.{above}
use Rattle.w_vplain.specs.Standing.{context_for}
use Rattle.w_vplain.specs.declared.checker.Checker.{Checker}
use Rattle.w_vswitch.specs.Places.{at_end}
use Rattle.w_vswitch.specs.Rows.{RowAt, RefusedAt}

-- a continuation's type, where the checker stands
pub cont_at : (c : Checker) (cx : rt.Context) → cx ≡ c.setting.cx.now → (x : ℕ) (kind : FuncType) → cont_of (context_in cx) x ≡ Some kind →
    (w : Prefix) → cont_of (at_end (context_for c) w) x ≡ Some kind
cont_at c cx e x kind h w = ap (λ (d : rt.Context). cont_of (context_in d) x) (sym e) ∙ h

module _ (c : Context) (x : ℕ) (hs : List Clause) (kind : FuncType) (results : List ValType) where
  -- where a clause is not typed
  pub resume_refused : (fit : Bool) → cont_of c x ≡ Some kind → results ≡ kind.results → IsTrue fit ↔ All (ClauseTyped c results) hs → fit ≡ false → RefusedAt (op.Resume x hs) c
  resume_refused fit h same decided no_fit = inl (λ t.
      let P : Option FuncType → Type 0 = λ o. Holds o (λ (k : FuncType). All (ClauseTyped c k.results) hs) in
      let Q : List ValType → Type 0 = λ us. All (ClauseTyped c us) hs in
      let passed : fit ≡ true = decided.1 (subst Q (sym same) (subst P h t)) in
      absurd (cc))

  -- what is added: the operands beneath, and the longest label
  added : (ins : List ValType) (t : ValType) (raise : Option ℕ) → cont_of c x ≡ Some kind → ins ≡ kind.params → ((h : ℕ) → clause_tops c.labels h hs ≡ above 0 raise h) →
      (h : ℕ) → resume_tops c.labels h hs (cont_of c x) ≡ above (size (row_of ins ▹ t)) raise h
  added ins t raise e same tops h =
      ap (resume_tops c.labels h hs) e ∙ tops (h - (length kind.params + 1))
      ∙ beneath raise (length kind.params) (size (row_of ins)) (sym (ap length same) ∙ sym (size-row_of ins))
    where
      beneath : (o : Option ℕ) (m n : ℕ) → m ≡ n → above 0 o (h - (m + 1)) ≡ above (suc n) o h
      beneath None m n e = refl
      beneath (Some k) m n e = omega arith

  -- where all are
  pub resume_row : (ins outs : List ValType) (t : ValType) (raise : Option ℕ) → cont_of c x ≡ Some kind → results ≡ kind.results → ins ≡ kind.params → outs ≡ kind.results → t ≡ nullable x →
      All (ClauseTyped c results) hs → ((h : ℕ) → clause_tops c.labels h hs ≡ above 0 raise h) → RowAt (op.Resume x hs) (row_of ins ▹ t) (row_of outs) raise c
  resume_row ins outs t raise e same takes gives top typed tops = record {
    condition = (
        let P : Option FuncType → Type 0 = λ o. Holds o (λ (k : FuncType). All (ClauseTyped c k.results) hs) in
        let Q : List ValType → Type 0 = λ us. All (ClauseTyped c us) hs in
        subst P (sym e) (subst Q same typed));
    row = ap (resume_type x) e
        ∙ ap (λ (us : List ValType). fixed (row_of us ▹ nullable x) (row_of kind.results)) (sym takes)
        ∙ ap (λ (u : ValType). fixed (row_of ins ▹ u) (row_of kind.results)) (sym top)
        ∙ ap (λ (us : List ValType). fixed (row_of ins ▹ t) (row_of us)) (sym gives);
    adds = added ins t raise e takes tops;
  }
