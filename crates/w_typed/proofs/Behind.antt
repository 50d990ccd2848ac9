-- The code behind an instruction that is reached.
use Rattle.std.proofs.Common.{◌≡◌, Bool, false, List, [], None}
use Rattle.lists.specs.Rows.{Row, size}
use Rattle.w_syntax.specs.Code.{Code, Plain}
use Rattle.w_syntax.specs.declared.instructions.Op.{Op}
use Rattle.w_syntax.specs.declared.module.Module.{Module}
use Rattle.w_rules.specs.InstructionTypes.{instr_type, sets}
use Rattle.w_rules.specs.Operands.{Operand}
use Rattle.w_rules.specs.Typing.{HasInstrType, Derives}
use Rattle.w_typed.specs.Ranges.{ConstantsFit, NumbersFit}
use Rattle.w_typed.specs.Contexts.{Scope, in_scope, IsLow, CodeTyped, RestTyped, code_alone}
use Rattle.w_typed.proofs.OperandCounts.{leaves, counted}
use Rattle.w_typed.proofs.Low.{low_next}

-- it is typed for what the instruction gives
pub code_behind : (m : Module) {c : Scope} {set : List Bool} {out : Row Operand} (ts ws : Row Operand) (k : Code) (o : Op) → leaves o ≡ false
    → (c.results ≡ None → ⊥) → HasInstrType m.types (instr_type (in_scope m c) set o) ts ws → Derives (in_scope m c) (sets o set) k ws out
    → (NumbersFit m → ConstantsFit (Plain o k)) → ((c.results ≡ None → ⊥) → IsLow m c set (Plain o k) (size ts)) → CodeTyped m c (sets o set) k ws out
code_behind m {c = c} {set = set} ts ws k o n inside t d fits low = record {
  derives = d;
  none = λ e. absurd (inside e);
  fits = λ f. (fits f).1;
  low = λ i. low_next m ts ws o (low i) t (counted m.types ts ws (in_scope m c) set o n t);
}

-- with nothing ahead, a sequence is code
pub code_here : {m : Module} {c : Scope} {set : List Bool} {k : Code} {ts out : Row Operand} → RestTyped m c set [] k ts out → CodeTyped m c set k ts out
code_here (code_alone h) = h
