-- A segment's stack over code that is kept in lists, read as a part of a term.
use Rattle.std.specs.Prelude.{◌≡◌, ℕ, List, [], ◌∷◌, Option, None, slice_get}
use Rattle.w_types.specs.declared.value.Value.{Value}
use Rattle.w_syntax.specs.Code.{Code, after}
use Rattle.w_syntax.specs.declared.module.Module.{Module}
use Rattle.w_segment.specs.declared.entry.Stage.TheVariants.{Fresh, Body, Values, Branch as AtBranch}
use Rattle.w_segment.specs.Shape.{Shape, Level, Label, Frame}
use Rattle.w_reduce.specs.Terms.{Invoke, Branch, Rest, rest_of, Label as InLabel, Frame as InFrame, Context}
use Rattle.w_stands.specs.Values.{stack, local_vals}
use Rattle.w_stands.specs.Code.{instrs, Reads, Behind}

-- In a function whose innermost sequence ends at q, the levels are the context e. `outer` stands around the segment, and `behind` comes
-- next behind its outermost frame.
pub data LevelsAre (m : Module) (outer : Context) (behind : Rest) : (f q : ℕ) → List Level → Context → Type 0 where
  label : {f q z q' n target : ℕ} {below : List Value} {again rest : Code} {ls : List Level} {e : Context} →
      Behind (instrs m f) q target z → Reads (instrs m f) z rest q' → Reads (instrs m f) target (after again rest) q' → LevelsAre m outer behind f q' ls e →
      LevelsAre m outer behind f q (Label below n target ∷ ls) (InLabel (stack below) n again rest ∷ e)
  frame : {f q q' n caller back : ℕ} {below : List Value} {locals : List (Option Value)} {rest : Code} {ls : List Level} {e : Context} →
      slice_get (instrs m f) q ≡ None → Reads (instrs m caller) back rest q' → LevelsAre m outer behind caller q' ls e →
      LevelsAre m outer behind f q (Frame below n locals caller back ∷ ls) (InFrame (stack below) n f (local_vals locals) (rest_of rest) ∷ e)
  -- the frame of the function that a fresh continuation, or the run, invoked
  outermost : {f q n caller back : ℕ} {below : List Value} {locals : List (Option Value)} →
      slice_get (instrs m f) q ≡ None →
      LevelsAre m outer behind f q (Frame below n locals caller back ∷ []) (InFrame (stack below) n f (local_vals locals) behind ∷ outer)

-- the segment's stack is the context, and what comes next
pub data StackIs (m : Module) (outer : Context) (behind : Rest) (s : Shape) : Context → Rest → Type 0 where
  body : {q : ℕ} {c : Code} {e : Context} → s.stage ≡ Body → Reads (instrs m s.func) s.place c q → LevelsAre m outer behind s.func q s.levels e →
      StackIs m outer behind s e (rest_of c)
  -- a caught suspend left a branch in front of the code behind its resume
  left : {l q : ℕ} {c : Code} {e : Context} → s.stage ≡ AtBranch l → Reads (instrs m s.func) s.place c q → LevelsAre m outer behind s.func q s.levels e →
      StackIs m outer behind s e (record { ahead = Branch l ∷ []; code = c })
  -- a fresh one tells of its function by the address
  fresh : s.stage ≡ Fresh → s.levels ≡ [] → StackIs m outer behind s outer (record { ahead = Invoke s.func ∷ behind.ahead; code = behind.code })
  values : s.stage ≡ Values → s.levels ≡ [] → StackIs m outer behind s outer behind
