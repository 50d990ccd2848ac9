-- One call of the checker: an instruction, or the row that a caller found for one, [ins] to [outs].
use Rattle.std.specs.Prelude.{◌≡◌, ◌⊎◌, ℕ, ◌+◌, ◌-◌, max, Bool, List, [], ◌∷◌, Option, Some, None}
use Rattle.w_types.specs.declared.types.ValType.{ValType}
use Rattle.lists.specs.Rows.{Row, row_of, size}
use Rattle.w_syntax.specs.declared.instructions.Op.{Op}
use Rattle.w_syntax.specs.Packed.{unpacked}
use Rattle.w_canon.specs.declared.entry.Entry.{Entry}
use Rattle.w_rules.specs.Conditions.{Condition}
use Rattle.w_rules.specs.Context.{Context}
use Rattle.w_rules.specs.InstructionTypes.{fixed, untyped, instr_type, sets}
use Rattle.w_rules.specs.Peak.{or_none, extra}
use Rattle.w_rows.specs.TypeRows.{IsReady}
use Rattle.w_flow.specs.Flow.{◌>>=◌, step}
use Rattle.w_steps.specs.Labels.{within, labels_of}
use Rattle.w_vplain.specs.Prefixes.{OpenBlock, Prefix, open_at, ended, malformed, kinds_of, set_at}
use Rattle.w_vplain.specs.Frames.{Frame, next}
use Rattle.w_vplain.specs.Measures.{total, peak_of}
use Rattle.w_vplain.specs.View.{row_with}
use Rattle.w_vplain.specs.declared.moves.Move.{Move}
use Rattle.w_vplain.specs.declared.moves.Move.TheVariants as move

-- what a branch to each label takes at the end of the sequence, the innermost label first
abbrev pub labels_in : Context → Prefix → List (Row ValType)
labels_in c (open_at l ls) = labels_of c (kinds_of (l ∷ ls))
labels_in c (ended k) = []
labels_in c malformed = []

-- what a resume adds that takes so many operands, where the longest label of its clauses takes so many
abbrev pub above : ℕ → Option ℕ → ℕ → ℕ
above popped (Some m) h = (h - popped) + m
above popped None h = 0

-- the instruction's row at the end of an open block
pub record HasRow (c : Context) (s : List Bool) (l : OpenBlock) (ls : List OpenBlock) (o : Op) (ins outs : Row ValType) (raise : Option ℕ) : Type 0 where
  pub condition : Condition (within c (kinds_of (l ∷ ls))) o
  pub row : instr_type (within c (kinds_of (l ∷ ls))) (set_at s (l ∷ ls)) o ≡ fixed ins outs
  pub keeps : sets o (set_at s (l ∷ ls)) ≡ set_at s (l ∷ ls)
  pub adds : (h : ℕ) → extra (within c (kinds_of (l ∷ ls))) o h ≡ above (size ins) raise h

-- the instruction's row at the end of the sequence
abbrev pub IsRow : Context → List Bool → Prefix → Op → Row ValType → Row ValType → Option ℕ → Type 0
IsRow c s (open_at l ls) o ins outs raise = HasRow c s l ls o ins outs raise
IsRow c s (ended k) o ins outs raise = Unit {0}
IsRow c s malformed o ins outs raise = Unit {0}

-- at the end of the sequence the instruction has no rule, or what its rule asks does not hold
abbrev pub IsRefused : Context → List Bool → Prefix → Op → Type 0
IsRefused c s (open_at l ls) o =
    (Condition (within c (kinds_of (l ∷ ls))) o → ⊥) ⊎ (instr_type (within c (kinds_of (l ∷ ls))) (set_at s (l ∷ ls)) o ≡ untyped)
IsRefused c s (ended k) o = Unit {0}
IsRefused c s malformed o = Unit {0}

-- the frames after an instruction of this row
abbrev pub row_next : List Entry → Row ValType → Row ValType → List Frame → Option (List Frame)
row_next es ins outs [] = None
row_next es ins outs (f ∷ fs) =
    step es (fixed ins outs) f.any f.operands >>= λ w. Some (record f { any = w.any; operands = w.operands } ∷ fs)

-- the greatest of a peak so far, of what a resume adds, and of the place that the frames reach
abbrev pub raised_to : ℕ → ℕ → List Frame → ℕ
raised_to now added gs = max (max now added) (or_none (total gs) (λ (h : ℕ). h))

-- the row raises the peak so
abbrev pub RaisedBy : Context → List Bool → ℕ → Option ℕ → List Frame → List Frame → Prefix → Prefix → Type 0
RaisedBy c s popped raise fs gs old new = peak_of c s new ≡ raised_to (peak_of c s old) (or_none (total fs) (above popped raise)) gs

-- ## A call

-- the frames after it
abbrev pub move_next : List Entry → Context → Move → List Frame → Option (List Frame)
move_next es c (move.Packed p) fs = next es c (unpacked p.now) fs
move_next es c (move.Row r) fs = row_next es (row_with (row_of r.now.ins.types.now) r.now.top) (row_of r.now.outs.types.now) fs

-- what it adds to the operands of its place: of a resume, what the longest label of its clauses takes
abbrev pub added_by : Move → List Frame → ℕ
added_by (move.Packed p) fs = 0
added_by (move.Row r) fs = or_none (total fs) (above (size (row_with (row_of r.now.ins.types.now) r.now.top)) r.now.raise)

-- what stands ready for its rows is that of their types
abbrev pub IsReadyMove : List Entry → Move → Type 0
IsReadyMove es (move.Packed p) = Unit {0}
IsReadyMove es (move.Row r) = IsReady es r.now.ins × IsReady es r.now.outs
