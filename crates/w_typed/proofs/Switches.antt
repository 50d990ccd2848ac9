-- The instructions that switch stacks are safe.
use Rattle.std.proofs.Common.{◌≡◌, ◌≤◌, ◌+◌, false, None}
use Rattle.lists.specs.Rows.{Row, size}
use Rattle.w_syntax.specs.Code.{Code}
use Rattle.w_syntax.specs.declared.instructions.Op.TheVariants as op
use Rattle.w_syntax.specs.declared.instructions.SwitchingOp.{SwitchingOp}
use Rattle.w_syntax.specs.declared.instructions.SwitchingOp.TheVariants as switching
use Rattle.w_canon.specs.Supertypes.{KeepsKinds}
use Rattle.w_rules.specs.Conditions.{SwitchingCondition}
use Rattle.w_rules.specs.InstructionTypes.{switching_op_type}
use Rattle.w_rules.specs.Operands.{Operand}
use Rattle.w_rules.specs.Peak.{extra}
use Rattle.w_rules.specs.Sound.{Sound}
use Rattle.w_rules.specs.Typing.{HasInstrType}
use Rattle.w_reduce.specs.Values.{Val}
use Rattle.w_reduce.specs.Store.{Store}
use Rattle.w_reduce.specs.Terms.{Context}
use Rattle.w_reduce.specs.Program.{Program}
use Rattle.w_reduce.specs.Switching.{switching_op}
use Rattle.w_typed.specs.Values.{Arrows, ValuesTyped}
use Rattle.w_reduce.specs.Room.{most_operands}
use Rattle.w_typed.specs.Contexts.{in_scope}
use Rattle.w_typed.specs.Configurations.{IsSafe}
use Rattle.w_typed.proofs.Control.{Here}
use Rattle.w_typed.proofs.ContNew.{cont_new_safe}
use Rattle.w_typed.proofs.Resume.{resume_safe, cont_bind_safe}
use Rattle.w_typed.proofs.Suspend.{suspend_safe}
use Rattle.w_typed.proofs.SwitchingStacks.{switch_safe}

module _ (p : Program) (keeps : KeepsKinds p.source.types) (K : Arrows) (us : Row Operand) (valid : Sound p.source) {s : Store} {e : Context} {vs : Row Val} where
  -- by the instruction
  pub switching_safe : {k : Code} {ts ws : Row Operand} (o : SwitchingOp) (h : Here p K us s e k ws) → h.leaving ≡ false
      → ((h.scope.results ≡ None → ⊥) → extra (in_scope p.source h.scope) (op.Switching o) (h.scope.base + size ts) ≤ most_operands p.source h.scope.function)
      → SwitchingCondition (in_scope p.source h.scope) o
      → HasInstrType p.source.types (switching_op_type (in_scope p.source h.scope) o) ts ws → ValuesTyped p.source K vs ts
      → IsSafe p.source K us (switching_op p s e vs o k)
  switching_safe (switching.ContNew x) h n tops c t v = cont_new_safe p keeps K us x h n valid t v
  switching_safe (switching.ContBind x y) h n tops c t v = cont_bind_safe p keeps K us x y h n valid c t v
  switching_safe (switching.Suspend x) h n tops c t v = suspend_safe p keeps K us x h n t v
  switching_safe (switching.Resume x hs) h n tops c t v = resume_safe p keeps K us x hs h n tops valid c t v
  switching_safe (switching.Switch x y) h n tops c t v = switch_safe p keeps K us x y h n valid c t v
