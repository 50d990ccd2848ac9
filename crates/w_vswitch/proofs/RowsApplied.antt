-- What a call answers for a stack switching instruction, by the row that was found for it, or by that there is none.
use Rattle.std.proofs.Common.{◌≡◌, Bool, false, List, Result, Option, if◌then◌else◌, ap, subst, refl, sym, ◌∙◌}
use Rattle.std.specs.Prelude.{ℕ, IfOk}
use Rattle.std.proofs.lemmas.Bool.{false≢true}
use Rattle.w_types.specs.declared.types.ValType.{ValType}
use Rattle.lists.specs.Rows.{Row, row_of}
use Rattle.w_syntax.specs.declared.instructions.Instr.{Instr}
use Rattle.w_syntax.specs.declared.instructions.Op.TheVariants as op
use Rattle.w_syntax.specs.declared.instructions.SwitchingOp.{SwitchingOp}
use Rattle.w_rules.specs.declared.context.Context as rt
use Rattle.w_rules.specs.Context.{Context}
use Rattle.w_vplain.specs.Prefixes.{Prefix, open_at, ended, malformed, follow, IsDerivable}
use Rattle.w_vplain.specs.Row.{IsRow, IsRefused, labels_in}
use Rattle.w_vplain.specs.Standing.{StandsFor, Answers, AnswersRow, Refuses, context_for}
use Rattle.w_vplain.specs.declared.checker.Checker.{Checker}
use Rattle.w_vplain.proofs.Monotone.{derivable_before}
use Rattle.w_vplain.proofs.CallsAnswered.{ok_with}
use Rattle.w_vplain.proofs.RowCalls.{not_derivable}
use Rattle.w_vswitch.specs.Following.{instr_of, is_switching_instr, follow_switching}
use Rattle.w_vswitch.specs.Places.{at_end, Anywhere, AtEnds}
use Rattle.w_vswitch.specs.Rows.{RowAt, RefusedAt}

-- what holds anywhere holds where the checker stands
pub at_place : (c : Checker) (cx : rt.Context) → cx ≡ c.setting.cx.now → (P : Context → Type 0) → Anywhere cx P → AtEnds c P
at_place c cx e P h s w k g =
    let Q : rt.Context → Type 0 = λ x. Anywhere x P in
    subst Q e h k.classes c.locals.types (row_of c.setting.results.types.now) (labels_in (context_for c) w)

-- ## Rows at the end of a sequence

row_there : (c : Context) (s : List Bool) (w : Prefix) (o : SwitchingOp) (ins outs : Row ValType) (raise : Option ℕ) →
    RowAt o ins outs raise (at_end c w) → IsRow c s w (op.Switching o) ins outs raise
row_there c s (open_at l ls) o ins outs raise r = record { condition = r.condition; row = r.row; keeps = refl; adds = r.adds }
row_there c s (ended k) o ins outs raise r = tt
row_there c s malformed o ins outs raise r = tt

refused_there : (c : Context) (s : List Bool) (w : Prefix) (o : SwitchingOp) → RefusedAt o (at_end c w) → IsRefused c s w (op.Switching o)
refused_there c s (open_at l ls) o r = r
refused_there c s (ended k) o r = tt
refused_there c s malformed o r = tt

-- what is refused where the sequence is derived is not derived
underivable : (c : Checker) (o : SwitchingOp) → AtEnds c (RefusedAt o) → (s : List Bool) (w : Prefix) → StandsFor c s w → IsDerivable (context_for c) s (follow (instr_of o) w) → ⊥
underivable c o r s w k g =
    not_derivable (context_for c) k.classes.keeps s (op.Switching o) w (refused_there (context_for c) s w o (r s w k (derivable_before (context_for c) k.classes.keeps s (instr_of o) w g))) g

-- ## The answers

module _ {E : Type 0} (result : Result Bool E) (old new : Checker) (o : SwitchingOp) where
  -- a call by the row
  pub by_row : (ins outs : Row ValType) (raise : Option ℕ) → IfOk result (λ applies. AnswersRow old new ins outs raise applies) →
      AtEnds old (RowAt o ins outs raise) → IfOk result (λ applies. Answers old new (follow (instr_of o)) applies)
  by_row ins outs raise answers r =
      ok_with result _ _ answers (λ applies h s w k. h s w (op.Switching o) k (λ g. row_there (context_for old) s w o ins outs raise (r s w k g)))

  -- a call that is refused
  pub without_row : IfOk result (λ applies. Refuses old new applies) → AtEnds old (RefusedAt o) → IfOk result (λ applies. Answers old new (follow (instr_of o)) applies)
  without_row refuses r =
      ok_with result _ _ refuses (λ applies h s w k.
      let none = underivable old o r s w k in
      (h.stands s w (follow (instr_of o) w) k none, (λ t. absurd (false≢true (sym h.is_false ∙ t)), λ g. absurd (none g))))

-- ## Other instructions

-- another instruction begins no body
pub others_malformed : (i : Instr) (w : Prefix) → is_switching_instr i ≡ false → follow_switching i w ≡ malformed
others_malformed i w other = ap (λ (b : Bool). if b then follow i w else malformed) other
