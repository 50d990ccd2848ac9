-- Blocks, branches and returns (Core, execution, control instructions and blocks).
use Rattle.std.specs.Prelude.{ℕ, zero, suc, [], ◌∷◌}
use Rattle.lists.specs.Rows.{Row, ◌⧺◌}
use Rattle.w_syntax.specs.Code.{Code, Done, Block, after}
use Rattle.w_syntax.specs.declared.instructions.BlockKind.{BlockKind}
use Rattle.w_syntax.specs.declared.instructions.BlockKind.TheVariants as kind
use Rattle.w_syntax.specs.declared.instructions.BlockType.{BlockType}
use Rattle.w_reduce.specs.Values.{Val}
use Rattle.w_reduce.specs.Store.{Store}
use Rattle.w_reduce.specs.Terms.{rest_of, Label, Frame, Handle, Context}
use Rattle.w_reduce.specs.Program.{Program, Arity, arity_of}
use Rattle.w_reduce.specs.Reduced.{Reduced, Stuck, steps_to, ◌>>=◌, or_stuck, take_values, take_i32}

-- ## Entering

-- [Step_read/block, loop]
-- v^m (block bt x)  ↪  label_n{} v^m x end,   v^m (loop bt x)  ↪  label_m{loop bt x} v^m x end
-- where bt has m parameters and n results
abbrev pub label_of : BlockKind → BlockType → Arity → Code → Row Val → Code → Context → Context
label_of kind.Block b a x below c e = Label below a.results Done c ∷ e
label_of kind.Loop b a x below c e = Label below a.params (Block kind.Loop b x Done) c ∷ e

abbrev pub block : Program → Store → Context → Row Val → BlockKind → BlockType → Code → Code → Reduced
block p s e vs k b x c = do
  a ← or_stuck (arity_of p.source b)
  (below, us) ← take_values a.params vs
  steps_to s (label_of k b a x below c e) us (rest_of x)

-- the first where the number isn't 0, and else the second
abbrev pub chosen : ℕ → Code → Code → Code
chosen zero x y = y
chosen (suc n) x y = x

-- [Step_pure/if-true, if-false]
-- (i32.const n) (if bt x else y)  ↪  (block bt x) where n isn't 0, and else (block bt y), and that is reduced at once
abbrev pub choice : Program → Store → Context → Row Val → BlockType → Code → Code → Code → Reduced
choice p s e vs b x y c = do
  (vs, n) ← take_i32 vs
  block p s e vs kind.Block b (chosen n x y) c

-- ## Leaving

-- [Step_pure/br-label-zero, br-label-succ]
-- label_n{again} B^l[vs v^n (br l)] end  ↪  v^n again
abbrev pub branch : Store → ℕ → Context → Row Val → Reduced
branch s l [] vs = Stuck
branch s zero (Label below n again rest ∷ e) vs = do
  (_, us) ← take_values n vs
  steps_to s e (below ⧺ us) (rest_of (after again rest))
branch s (suc l) (Label below n again rest ∷ e) vs = branch s l e vs
branch s l (Frame below n f locals rest ∷ e) vs = Stuck
branch s l (Handle below hs rest ∷ e) vs = Stuck

-- [Step_pure/return-frame, return-label]
-- frame_n{F} B*[vs v^n return] end  ↪  v^n
abbrev pub returns : Store → Context → Row Val → Reduced
returns s [] vs = Stuck
returns s (Label below n again rest ∷ e) vs = returns s e vs
returns s (Frame below n f locals rest ∷ e) vs = do
  (_, us) ← take_values n vs
  steps_to s e (below ⧺ us) rest
returns s (Handle below hs rest ∷ e) vs = Stuck
