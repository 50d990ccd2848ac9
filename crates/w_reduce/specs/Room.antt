-- The room that a frame needs, as validation counts it, and what of it is taken.
use Rattle.std.specs.Prelude.{◌≡◌, ◌≤◌, ℕ, suc, ◌+◌, Bool, true, false, List, [], ◌∷◌, if◌then◌else◌, Option, Some, None, slice_get}
use Rattle.lists.specs.Rows.{size}
use Rattle.w_types.specs.declared.types.FuncType.{FuncType}
use Rattle.w_syntax.specs.Code.{Code, Plain, Block, If, IfElse}
use Rattle.w_syntax.specs.Functions.{type_of_function, code_of_function}
use Rattle.w_syntax.specs.declared.instructions.Op.{Op}
use Rattle.w_syntax.specs.declared.instructions.Op.TheVariants as op
use Rattle.w_syntax.specs.declared.instructions.ReferenceOp.TheVariants as reference
use Rattle.w_syntax.specs.declared.instructions.SwitchingOp.TheVariants as switching
use Rattle.w_syntax.specs.declared.instructions.TableOp.TheVariants as table
use Rattle.w_syntax.specs.declared.instructions.VariableOp.TheVariants as variable
use Rattle.w_syntax.specs.declared.memory_instructions.MemoryOp.TheVariants as memory
use Rattle.w_syntax.specs.declared.module.Func.{Func}
use Rattle.w_syntax.specs.declared.module.Module.{Module}
use Rattle.w_syntax.specs.declared.numeric.NumericOp.TheVariants as numeric
use Rattle.w_rules.specs.Facts.{height_of}
use Rattle.w_rules.specs.Peak.{depth}
use Rattle.w_reduce.specs.Entering.{is_call}
use Rattle.w_reduce.specs.Reduced.{Reduced, Went}
use Rattle.w_reduce.specs.Store.{Store}
use Rattle.w_reduce.specs.Terms.{Administrative, Invoke, Branch, Label, Frame, Handle, Context, Term, Continuation}

-- ## What a function needs

-- a number that a type and a code tell, and 0 where one of them isn't there
abbrev pub of_function : Option FuncType → Option Func → (FuncType → Func → ℕ) → ℕ
of_function (Some t) (Some f) go = go t f
of_function (Some t) None go = 0
of_function None o go = 0

-- the greatest number of operands at a counted place of a function of the module's own, by its index
abbrev pub most_operands : Module → ℕ → ℕ
most_operands m i = of_function (type_of_function m i) (code_of_function m i) (height_of m)

-- and the greatest number of labels around a place
abbrev pub most_labels : Module → ℕ → ℕ
most_labels m i = of_function (type_of_function m i) (code_of_function m i) (λ (t : FuncType) (f : Func). depth f.body)

-- ## What stands in the innermost frame

-- the function that it is of, where no handle stands inside it
abbrev pub function_in : Context → Option ℕ
function_in [] = None
function_in (Label below n again rest ∷ e) = function_in e
function_in (Frame below n f locals rest ∷ e) = Some f
function_in (Handle below hs rest ∷ e) = None

-- its operands below those at the hole
abbrev pub held_in : Context → ℕ
held_in [] = 0
held_in (Label below n again rest ∷ e) = size below + held_in e
held_in (Frame below n f locals rest ∷ e) = 0
held_in (Handle below hs rest ∷ e) = 0

-- its labels
abbrev pub labels_in : Context → ℕ
labels_in [] = 0
labels_in (Label below n again rest ∷ e) = suc (labels_in e)
labels_in (Frame below n f locals rest ∷ e) = 0
labels_in (Handle below hs rest ∷ e) = 0

-- ## What holds no more than it needs

-- with n operands at the hole, and k labels more, the innermost frame has no more operands and labels than its function f has anywhere
pub record FrameHolds (m : Module) (f : ℕ) (e : Context) (n k : ℕ) : Type 0 where
  pub operands : held_in e + n ≤ most_operands m f
  pub labels : labels_in e + k ≤ most_labels m f

-- a function is invoked next
abbrev pub invokes_next : List Administrative → Bool
invokes_next (Invoke a ∷ ahead) = true
invokes_next (Branch l ∷ ahead) = false
invokes_next [] = false

-- The innermost frame of a term, and of each continuation once it has what it takes, holds no more, where no function is invoked next.
pub record Holding (m : Module) (s : Store) (t : Term) : Type 0 where
  pub running : (f : ℕ) → function_in t.around ≡ Some f → invokes_next t.rest.ahead ≡ false → FrameHolds m f t.around (size t.operands) 0
  pub stored : (a : ℕ) (k : Continuation) → slice_get s.conts a ≡ Some (Some k) → (f : ℕ) → function_in k.term.around ≡ Some f → invokes_next k.term.rest.ahead ≡ false
      → FrameHolds m f k.term.around (size k.term.operands + k.takes) 0

-- where a reduction goes on, the result is such
abbrev pub HoldsAfter : Module → Reduced → Type 0
HoldsAfter m d = (out : List ℕ) (s : Store) (t : Term) → d ≡ Went out s t → Holding m s t

-- ## What comes next

-- whether an instruction takes no operand and gives one
abbrev pub gives_one : Op → Bool
gives_one (op.Numeric (numeric.I32Const n)) = true
gives_one (op.Numeric (numeric.I64Const n)) = true
gives_one (op.Variable (variable.LocalGet x)) = true
gives_one (op.Variable (variable.GlobalGet x)) = true
gives_one (op.Reference (reference.Null h)) = true
gives_one (op.Reference (reference.Func x)) = true
gives_one (op.Memory (memory.Size x)) = true
gives_one (op.Table (table.Size x)) = true
gives_one o = false

-- how many operands more it has room for
abbrev pub more_operands : Code → ℕ
more_operands (Plain o k) = if gives_one o then 1 else 0
more_operands k = 0

-- and labels: a block, a loop or an if enters one
abbrev pub more_labels : Code → ℕ
more_labels (Block kind b x k) = 1
more_labels (If b x k) = 1
more_labels (IfElse b x y k) = 1
more_labels k = 0

-- ## What takes memory

-- whether an instruction may: one that calls, makes a continuation, or grows a memory or a table
abbrev pub takes_memory : Op → Bool
takes_memory (op.Control o) = is_call (op.Control o)
takes_memory (op.Memory (memory.Grow x)) = true
takes_memory (op.Table (table.Grow x)) = true
takes_memory (op.Switching (switching.ContNew x)) = true
takes_memory o = false

-- whether what comes next may: also where a function is invoked
abbrev pub may_take_memory : List Administrative → Code → Bool
may_take_memory (Invoke a ∷ ahead) k = true
may_take_memory (Branch l ∷ ahead) k = false
may_take_memory [] (Plain o k) = takes_memory o
may_take_memory [] k = false
