-- Terms as the standard writes them: sequences of values, instructions, labels, frames and handles. Each term of `Terms` is read as
-- one, its context around its operands and the rest of its sequence, and no two are read as the same.
use Rattle.std.specs.Prelude.{◌≡◌, ℕ, List, [], ◌∷◌, Option}
use Rattle.w_syntax.specs.Code.{Code, Done, Plain, Block, If, IfElse}
use Rattle.w_syntax.specs.declared.instructions.Op.{Op}
use Rattle.w_syntax.specs.declared.instructions.BlockKind.{BlockKind}
use Rattle.w_syntax.specs.declared.instructions.BlockType.{BlockType}
use Rattle.w_syntax.specs.declared.instructions.Clause.{Clause}
use Rattle.w_reduce.specs.Program.{Program}
use Rattle.lists.specs.Rows.{Row, ε, ◌▹◌}
use Rattle.w_reduce.specs.Values.{Val}
use Rattle.w_reduce.specs.Store.{Store}
use Rattle.w_reduce.specs.Terms.{Administrative, Rest, Label, Frame, Handle, Context, Term}
use Rattle.w_reduce.specs.Reduced.{Went}
use Rattle.w_reduce.specs.Reduce.{reduce}

infixr 50 ◌∙∙◌
mutual
  pub data AdminInstr : Type 0 where
    Const : Val → AdminInstr
    Admin : Administrative → AdminInstr
    Instr : Op → AdminInstr
    InstrBlock : BlockKind → BlockType → (inside : Code) → AdminInstr
    InstrIf : BlockType → (inside : Code) → AdminInstr
    InstrIfElse : BlockType → (first second : Code) → AdminInstr
    InLabel : (arity : ℕ) (again : Code) (body : Sequence) → AdminInstr
    InFrame : (arity function : ℕ) (locals : List (Option Val)) (body : Sequence) → AdminInstr
    InHandle : (clauses : List Clause) (body : Sequence) → AdminInstr

  pub data Sequence : Type 0 where
    Nil : Sequence
    ◌∙∙◌ : AdminInstr → Sequence → Sequence

-- values in front of a sequence
abbrev pub values_then : Row Val → Sequence → Sequence
values_then ε x = x
values_then (vs ▹ v) x = values_then vs (Const v ∙∙ x)

abbrev pub instructions_of : Code → Sequence
instructions_of Done = Nil
instructions_of (Plain o c) = Instr o ∙∙ instructions_of c
instructions_of (Block kind b x c) = InstrBlock kind b x ∙∙ instructions_of c
instructions_of (If b x c) = InstrIf b x ∙∙ instructions_of c
instructions_of (IfElse b x y c) = InstrIfElse b x y ∙∙ instructions_of c

abbrev pub admin_then : List Administrative → Sequence → Sequence
admin_then [] x = x
admin_then (a ∷ bs) x = Admin a ∙∙ admin_then bs x

abbrev pub sequence_of : Rest → Sequence
sequence_of r = admin_then r.ahead (instructions_of r.code)

-- E[x], a sequence put at the hole of a context
abbrev pub plugged : Context → Sequence → Sequence
plugged [] x = x
plugged (Label below n again rest ∷ e) x = plugged e (values_then below (InLabel n again x ∙∙ instructions_of rest))
plugged (Frame below n f locals rest ∷ e) x = plugged e (values_then below (InFrame n f locals x ∙∙ sequence_of rest))
plugged (Handle below hs rest ∷ e) x = plugged e (values_then below (InHandle hs x ∙∙ instructions_of rest))

abbrev pub tree : Term → Sequence
tree t = plugged t.around (values_then t.operands (sequence_of t.rest))

-- one reduction, on terms as the standard writes them: T = E[r], T' = E[r'], and r goes to r', printing these bytes
pub record Reduces (p : Program) (s : Store) (T : Sequence) (printed : List ℕ) (s' : Store) (T' : Sequence) : Type 0 where
  pub before : Term
  pub after : Term
  pub from : T ≡ tree before
  pub to : T' ≡ tree after
  pub rule : reduce p s before ≡ Went printed s' after

-- a term is E[r] in one way only
abbrev pub Decomposes : Type 0
Decomposes = (t t' : Term) → tree t ≡ tree t' → t ≡ t'

-- so at most one rule applies, with one result
abbrev pub Deterministic : Type 0
Deterministic = (p : Program) (s s' s'' : Store) (T T' T'' : Sequence) (out out' : List ℕ) → Reduces p s T out s' T' → Reduces p s T out' s'' T'' → (out ≡ out') × (s' ≡ s'') × (T' ≡ T'')
