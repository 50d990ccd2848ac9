-- Which continuations the reductions of a run consume (stack-switching explainer, execution: a continuation is one-shot).
use Rattle.std.specs.Prelude.{◌≡◌, ◌≢◌, ℕ, zero, suc, ⊤, Bool, true, false, List, [], ◌∷◌, ◌++◌, length, Option, Some, None, slice_get}
use Rattle.lists.specs.Rows.{Row, ◌▹◌}
use Rattle.w_syntax.specs.Code.{Code, Plain}
use Rattle.w_syntax.specs.declared.instructions.Op.TheVariants as op
use Rattle.w_syntax.specs.declared.instructions.SwitchingOp.{SwitchingOp}
use Rattle.w_syntax.specs.declared.instructions.SwitchingOp.TheVariants as switching
use Rattle.w_rules.specs.Sound.{Sound}
use Rattle.w_reduce.specs.declared.trap.Trap.TheVariants.{ConsumedContinuation}
use Rattle.w_reduce.specs.Values.{Val, Cont}
use Rattle.w_reduce.specs.Store.{Store, consumed}
use Rattle.w_reduce.specs.Terms.{Context, Term, Continuation, rest_of}
use Rattle.w_reduce.specs.Program.{Program, IsProgram}
use Rattle.w_reduce.specs.Reduced.{Trapped}
use Rattle.w_reduce.specs.Reduce.{reduce}
use Rattle.w_reduce.specs.Run.{Run}
use Rattle.w_reduce.specs.Start.{Start, Ready}

-- of the addresses from a on, those whose continuation was there before and is consumed now
abbrev pub emptied_from : ℕ → List (Option Continuation) → List (Option Continuation) → List ℕ
emptied_from a [] now = []
emptied_from a (o ∷ before) [] = []
emptied_from a (None ∷ before) (o ∷ now) = emptied_from (suc a) before now
emptied_from a (Some k ∷ before) (Some l ∷ now) = emptied_from (suc a) before now
emptied_from a (Some k ∷ before) (None ∷ now) = a ∷ emptied_from (suc a) before now

-- those that a reduction empties which leads from the one store to the other
abbrev pub emptied : Store → Store → List ℕ
emptied before now = emptied_from 0 before.conts now.conts

-- those that the first n reductions of a run empty, in order
abbrev pub Consumptions : Program → Store → Term → ℕ → List ℕ
Consumptions p s t zero = []
Consumptions p s t (suc n) = Consumptions p s t n ++ emptied (Run p s t n).store (Run p s t (suc n)).store

-- each of these addresses is such
abbrev pub Each : (ℕ → Type 0) → List ℕ → Type 0
Each P [] = ⊤
Each P (a ∷ xs) = P a × Each P xs

-- no address stands twice
abbrev pub Once : List ℕ → Type 0
Once [] = ⊤
Once (a ∷ xs) = Each (λ b. a ≢ b) xs × Once xs

-- the continuation at this address was consumed
abbrev pub IsConsumed : List (Option Continuation) → ℕ → Type 0
IsConsumed conts a = slice_get conts a ≡ Some None

-- ## Laws

pub record AreConsumedOnce (xs : List ℕ) (s : Store) : Type 0 where
  pub once : Once xs
  pub are_consumed : Each (IsConsumed s.conts) xs
  pub count : length xs ≡ consumed s

-- each continuation that a run of a sound module consumes it consumes once, and it stays consumed
abbrev pub IsConsumedOnce : Type 0
IsConsumedOnce = (p : Program) (s : Store) (t : Term) → IsProgram p → Sound p.source → Start p ≡ Ready s t
    → (n : ℕ) → AreConsumedOnce (Consumptions p s t n) (Run p s t n).store

-- whether an instruction uses the continuation that its topmost operand refers to
abbrev pub uses_continuation : SwitchingOp → Bool
uses_continuation (switching.ContNew x) = false
uses_continuation (switching.ContBind x y) = true
uses_continuation (switching.Suspend e) = false
uses_continuation (switching.Resume x hs) = true
uses_continuation (switching.Switch x e) = true

-- each use of a consumed one traps
abbrev pub ConsumedTraps : Type 0
ConsumedTraps = (p : Program) (s : Store) (e : Context) (vs : Row Val) (a : ℕ) (o : SwitchingOp) (c : Code) → uses_continuation o ≡ true → IsConsumed s.conts a
    → reduce p s (record { around = e; operands = vs ▹ Cont a; rest = rest_of (Plain (op.Switching o) c) }) ≡ Trapped ConsumedContinuation
