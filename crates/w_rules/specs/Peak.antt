-- The greatest number of operands at a counted place of a sequence, and the greatest number of blocks around a place. A place is not
-- counted behind an instruction that is typed to any, in its own block or in one around it.
use Rattle.std.specs.Prelude.{ℕ, ◌+◌, ◌-◌, max, Bool, List, [], ◌∷◌, length, slice_get, Option, Some, None}
use Rattle.w_types.specs.declared.types.FuncType.{FuncType}
use Rattle.w_types.specs.declared.types.ValType.{ValType}
use Rattle.lists.specs.Rows.{Row, size}
use Rattle.w_syntax.specs.Code.{Code, Done, Plain, Block, If, IfElse}
use Rattle.w_syntax.specs.declared.instructions.Clause.{Clause}
use Rattle.w_syntax.specs.declared.instructions.Clause.TheVariants as clause
use Rattle.w_syntax.specs.declared.instructions.SwitchingOp.{SwitchingOp}
use Rattle.w_syntax.specs.declared.instructions.SwitchingOp.TheVariants as switching
use Rattle.w_syntax.specs.declared.instructions.Op.{Op}
use Rattle.w_syntax.specs.declared.instructions.Op.TheVariants as op
use Rattle.w_rules.specs.Context.{Context, Arrow, arrow_of, label_of, labelled, cont_of}
use Rattle.w_rules.specs.InstructionTypes.{InstrType, fixed, polymorphic, table_polymorphic, drops, selects, tests_null, as_non_null, on_null, untyped, instr_type, sets}

-- how many operands an instruction type takes and gives; none where it is typed to any
abbrev pub net : InstrType → Option (ℕ × ℕ)
net (fixed ins outs) = Some (size ins, size outs)
net (polymorphic ins) = None
net (table_polymorphic one others) = None
net drops = Some (1, 0)
net selects = Some (3, 1)
net tests_null = Some (1, 1)
net as_non_null = Some (1, 1)
net (on_null us) = Some (size us + 1, size us + 1)
net untyped = None

abbrev pub or_none : Option ℕ → (ℕ → ℕ) → ℕ
or_none None f = 0
or_none (Some h) f = f h

abbrev pub in_arrow : Option Arrow → (Arrow → ℕ) → ℕ
in_arrow None f = 0
in_arrow (Some a) f = f a

-- the number of operands after so many are taken and given
abbrev pub moved : ℕ → ℕ × ℕ → ℕ
moved h n = h - n.0 + n.1

abbrev pub past_net : Option (ℕ × ℕ) → ℕ → (ℕ → ℕ) → ℕ
past_net None h f = 0
past_net (Some n) h f = f (moved h n)

abbrev pub past_arrow : Arrow → ℕ → ℕ
past_arrow a h = h - size a.from + size a.to

-- ## What a resume adds: the operands beneath it, and on them what the labels of its clauses take, the greatest of these

abbrev pub label_top : ℕ → Option (Row ValType) → ℕ
label_top h (Some us) = h + size us
label_top h None = 0

abbrev pub clause_tops : List (Row ValType) → ℕ → List Clause → ℕ
clause_tops labels h [] = 0
clause_tops labels h (clause.Label e l ∷ hs) = max (label_top h (slice_get labels l)) (clause_tops labels h hs)
clause_tops labels h (clause.Switch e ∷ hs) = clause_tops labels h hs

abbrev pub resume_tops : List (Row ValType) → ℕ → List Clause → Option FuncType → ℕ
resume_tops labels h hs (Some t) = clause_tops labels (h - (length t.params + 1)) hs
resume_tops labels h hs None = 0

abbrev pub switching_extra : Context → SwitchingOp → ℕ → ℕ
switching_extra c (switching.Resume x hs) h = resume_tops c.labels h hs (cont_of c x)
switching_extra c (switching.ContNew x) h = 0
switching_extra c (switching.ContBind x y) h = 0
switching_extra c (switching.Suspend e) h = 0
switching_extra c (switching.Switch x e) h = 0

abbrev pub extra : Context → Op → ℕ → ℕ
extra c (op.Switching o) h = switching_extra c o h
extra c (op.Control o) h = 0
extra c (op.Parametric o) h = 0
extra c (op.Variable o) h = 0
extra c (op.Table o) h = 0
extra c (op.Memory o) h = 0
extra c (op.Numeric o) h = 0
extra c (op.Reference o) h = 0

-- ## Peak

-- of a sequence that begins at h operands, those of the blocks around it among them
abbrev pub peak : Context → List Bool → Code → ℕ → ℕ
peak c s Done h = h
peak c s (Plain o k) h = max (max h (extra c o h)) (past_net (net (instr_type c s o)) h (peak c (sets o s) k))
peak c s (Block kind x b k) h = max h (in_arrow (arrow_of c x) (λ (a : Arrow).
    max (peak (labelled c (label_of kind a)) s b h) (peak c s k (past_arrow a h))))
peak c s (If x b k) h = max h (in_arrow (arrow_of c x) (λ (a : Arrow).
    max (peak (labelled c a.to) s b (h - 1)) (peak c s k (past_arrow a (h - 1)))))
peak c s (IfElse x b d k) h = max h (in_arrow (arrow_of c x) (λ (a : Arrow).
    max (max (peak (labelled c a.to) s b (h - 1)) (peak (labelled c a.to) s d (h - 1))) (peak c s k (past_arrow a (h - 1)))))

-- ## Depth

-- one plus the greatest number of blocks around a place
abbrev pub depth : Code → ℕ
depth Done = 1
depth (Plain o k) = depth k
depth (Block kind x b k) = max (depth b + 1) (depth k)
depth (If x b k) = max (depth b + 1) (depth k)
depth (IfElse x b d k) = max (max (depth b + 1) (depth d + 1)) (depth k)
