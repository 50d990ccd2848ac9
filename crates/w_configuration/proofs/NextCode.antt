-- What comes next in code that is kept in one list is seen from the instruction at the place.
use Rattle.std.proofs.Common.{◌≡◌, ℕ, List, [], Option, Some, None, slice_get, refl, sym, ap, ◌∙◌}
use Rattle.w_syntax.specs.Code.{Code, Done, Plain, Block, If, IfElse}
use Rattle.w_syntax.specs.declared.instructions.BlockKind.{BlockKind}
use Rattle.w_syntax.specs.declared.instructions.BlockType.{BlockType}
use Rattle.w_syntax.specs.declared.instructions.Instr.{Instr}
use Rattle.w_syntax.specs.declared.instructions.Instr.TheVariants as flat
use Rattle.w_syntax.specs.declared.instructions.Op.{Op}
use Rattle.w_reduce.specs.Apart.{switches}
use Rattle.w_reduce.specs.Entering.{calls}
use Rattle.w_reduce.specs.Room.{more_operands, more_labels, may_take_memory}
use Rattle.w_stands.specs.Code.{IsMark, Reads, stop, plain, block, choice, choices}
use Rattle.w_stands.specs.Room.{operands_of, labels_of}
use Rattle.w_plain.specs.Plainness.{switches_at, takes_at, calls_at}

-- what g says of code, f says of the instruction that it begins with; a mark is to f as if none were there
pub record IsSeenBy {A : Type 0} (g : Code → A) (f : Option Instr → A) : Type 0 where
  pub done : g Done ≡ f None
  pub at_end : f (Some flat.End) ≡ f None
  pub at_else : f (Some flat.Else) ≡ f None
  pub at_plain : (o : Op) (k : Code) → g (Plain o k) ≡ f (Some (flat.Plain o))
  pub at_block : (kind : BlockKind) (b : BlockType) (z : ℕ) (x k : Code) → g (Block kind b x k) ≡ f (Some (flat.Block kind b z))
  pub at_if : (b : BlockType) (z : ℕ) (x k : Code) → g (If b x k) ≡ f (Some (flat.If b None z))
  pub at_if_else : (b : BlockType) (y z : ℕ) (x w k : Code) → g (IfElse b x w k) ≡ f (Some (flat.If b (Some y) z))

-- at a mark f says what it says where there is no instruction
mark_seen : {A : Type 0} {g : Code → A} {f : Option Instr → A} → IsSeenBy g f → (i : Option Instr) → IsMark i → f i ≡ f None
mark_seen seen None h = refl
mark_seen seen (Some flat.End) h = seen.at_end
mark_seen seen (Some flat.Else) h = seen.at_else
mark_seen seen (Some (flat.Plain o)) h = absurd h
mark_seen seen (Some (flat.Block k b z)) h = absurd h
mark_seen seen (Some (flat.If b y z)) h = absurd h

-- of code that is read from a place on, f at the place says what g says
pub read_seen : {A : Type 0} {g : Code → A} {f : Option Instr → A} {is : List Instr} {p q : ℕ} {c : Code} → IsSeenBy g f → Reads is p c q → g c ≡ f (slice_get is p)
read_seen {is = is} {p = p} seen (stop h) = seen.done ∙ sym (mark_seen seen (slice_get is p) h)
read_seen {f = f} seen (plain {o = o} {c = c} at k) = seen.at_plain o c ∙ ap f (sym at)
read_seen {f = f} seen (block {z = z} {k = kind} {b = b} {x = x} {c = c} at h j k) = seen.at_block kind b z x c ∙ ap f (sym at)
read_seen {f = f} seen (choice {z = z} {b = b} {x = x} {c = c} at h j k) = seen.at_if b z x c ∙ ap f (sym at)
read_seen {f = f} seen (choices {y = y} {z = z} {b = b} {x = x} {w = w} {c = c} at h j k l n) = seen.at_if_else b y z x w c ∙ ap f (sym at)

-- ## What is seen there

-- whether code switches stacks next is seen from the instruction at its place
pub read_switches : {is : List Instr} {p q : ℕ} {c : Code} → Reads is p c q → switches [] c ≡ switches_at (slice_get is p)
read_switches r =
    read_seen {g = switches []} {f = switches_at}
    (record { done = refl; at_end = refl; at_else = refl; at_plain = λ o k. refl; at_block = λ kind b z x k. refl; at_if = λ b z x k. refl; at_if_else = λ b y z x w k. refl }) r

-- and so is whether it calls a function
pub read_calls : {is : List Instr} {p q : ℕ} {c : Code} → Reads is p c q → calls [] c ≡ calls_at (slice_get is p)
read_calls r =
    read_seen {g = calls []} {f = calls_at}
    (record { done = refl; at_end = refl; at_else = refl; at_plain = λ o k. refl; at_block = λ kind b z x k. refl; at_if = λ b z x k. refl; at_if_else = λ b y z x w k. refl }) r

-- and whether it may take memory
pub read_takes : {is : List Instr} {p q : ℕ} {c : Code} → Reads is p c q → may_take_memory [] c ≡ takes_at (slice_get is p)
read_takes r =
    read_seen {g = may_take_memory []} {f = takes_at}
    (record { done = refl; at_end = refl; at_else = refl; at_plain = λ o k. refl; at_block = λ kind b z x k. refl; at_if = λ b z x k. refl; at_if_else = λ b y z x w k. refl }) r

-- how many operands more the instruction at a place leaves; none where there is none
operands_at : Option Instr → ℕ
operands_at (Some i) = operands_of i
operands_at None = 0

-- code leaves as many operands more as the instruction at its place
pub read_operands : {is : List Instr} {p q : ℕ} {c : Code} → Reads is p c q → (i : Instr) → slice_get is p ≡ Some i → more_operands c ≡ operands_of i
unfolding operands_at
read_operands r i at =
    read_seen {g = more_operands} {f = operands_at}
    (record { done = refl; at_end = refl; at_else = refl; at_plain = λ o k. refl; at_block = λ kind b z x k. refl; at_if = λ b z x k. refl; at_if_else = λ b y z x w k. refl }) r
    ∙ ap operands_at at

-- how many labels the instruction at a place enters; none where there is none
labels_at : Option Instr → ℕ
labels_at (Some i) = labels_of i
labels_at None = 0

-- and enters as many labels
pub read_labels : {is : List Instr} {p q : ℕ} {c : Code} → Reads is p c q → (i : Instr) → slice_get is p ≡ Some i → more_labels c ≡ labels_of i
unfolding labels_at
read_labels r i at =
    read_seen {g = more_labels} {f = labels_at}
    (record { done = refl; at_end = refl; at_else = refl; at_plain = λ o k. refl; at_block = λ kind b z x k. refl; at_if = λ b z x k. refl; at_if_else = λ b y z x w k. refl }) r
    ∙ ap labels_at at
